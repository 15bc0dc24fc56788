-- What stands on a cell and where a move leads, case by case.
use Prim.Native.Nat.{ℕ, zero, suc, ◌+◌, ◌-◌, ◌≤◌, ◌<◌, min}
use native.Mathlib.Omega.{arith}
use mathlib.Core.Path.{◌≡◌, refl, sym, ap, ◌∙◌}
use mathlib.Core.List.{List}
use lib.ListN.{length, get_or}
use borrow.Author.Tests.{lt-ltb, le-ltb, eq-eqb, ne_eqb}
use Rattle.table.specs.Form.{to_left, no_move, to_right}
use Rattle.cells.specs.declared.Symbol as Code
use Rattle.cells.specs.declared.Symbol.TheVariants as Variants
use Rattle.cells.specs.Code.{symbol_is}
use Rattle.cells.specs.Cell.{Symbol, left_mark, letter, right_mark, last, symbol_on, moved}

-- cell 0 holds the left mark
pub on_left : (w : List ℕ) (cell : ℕ) → ¬ (1 ≤ cell) → symbol_on w cell ≡ left_mark
unfolding symbol_on
on_left w zero first = refl
on_left w (suc i) first = absurd (first (omega arith))

-- letter i is on the next cell
pub on_letter_lem : (w : List ℕ) (cell i : ℕ) → 1 ≤ cell → i ≡ cell - 1 → i < length w → symbol_on w cell ≡ letter (get_or w i 0)
unfolding symbol_on
on_letter_lem w zero i one e low = absurd (omega (arith, one))
on_letter_lem w (suc k) i one e low =
    let same : k ≡ i = omega arith in
    rw (same, lt-ltb i (length w) low) refl

-- every other cell is taken as the right mark's
pub on_right : (w : List ℕ) (cell i : ℕ) → 1 ≤ cell → i ≡ cell - 1 → length w ≤ i → symbol_on w cell ≡ right_mark
unfolding symbol_on
on_right w zero i one e high = absurd (omega (arith, one))
on_right w (suc k) i one e high =
    let same : k ≡ i = omega arith in
    rw (same, le-ltb i (length w) high) refl

-- a move to the left mark
pub moves_left : (w : List ℕ) (code cell : ℕ) → code ≡ to_left → moved w code cell ≡ 0
unfolding moved
moves_left w code cell left = rw (eq-eqb code to_left left) refl

-- a move to the right mark
pub moves_right : (w : List ℕ) (code cell : ℕ) → code ≡ to_right → moved w code cell ≡ last w
unfolding moved
moves_right w code cell right = rw right refl

-- a move by what the code is above or below `no_move`, from the cell or, past it, from the right mark
pub moves_by
    : (w : List ℕ) (code cell from by : ℕ) → ¬ (code ≡ to_left) → ¬ (code ≡ to_right) → from ≡ min cell (last w) → by ≡ code
    → moved w code cell ≡ min (from + by - no_move) (last w)
unfolding moved
moves_by w code cell from by left right start way = rw (ne_eqb code to_left left, ne_eqb code to_right right, start, way) refl

-- such a move by as many cells to the left as there are, or more, ends on the left mark
pub moves_back
    : (w : List ℕ) (code cell from by : ℕ) → ¬ (code ≡ to_left) → ¬ (code ≡ to_right) → from ≡ min cell (last w) → by ≡ code → from + by ≤ no_move
    → moved w code cell ≡ 0
moves_back w code cell from by left right start way low = omega (arith, moves_by w code cell from by left right start way)

-- a symbol of the definitions is one symbol of the code
code_of : Symbol → Code.Symbol
code_of left_mark = Variants.LeftMark
code_of (letter b) = Variants.Letter b
code_of right_mark = Variants.RightMark

code_of_lem : (a : Code.Symbol) → code_of (symbol_is a) ≡ a
unfolding code_of symbol_is
code_of_lem Variants.LeftMark = refl
code_of_lem (Variants.Letter b) = refl
code_of_lem Variants.RightMark = refl

-- so a promise of `symbol_is r` leaves no second r
pub symbol_once : (a b : Code.Symbol) → symbol_is a ≡ symbol_is b → a ≡ b
symbol_once a b e = sym (code_of_lem a) ∙ ap code_of e ∙ code_of_lem b

-- and looking at a cell has one answer
pub looked_once : {a b : Code.Symbol} (w : List ℕ) (cell : ℕ) → symbol_is a ≡ symbol_on w cell → symbol_is b ≡ symbol_on w cell → a ≡ b
looked_once {a} {b} w cell x y = symbol_once a b (x ∙ sym y)
