-- What a row does is what it stands for: a plain statement's row moves and changes as the statement, a testing row does neither.
use Prim.Native.Nat.{ℕ, ◌+◌, ◌-◌, ◌≤◌, ◌<◌, min}
use native.Mathlib.Omega.{arith}
use native.Mathlib.Nat.{add-zero}
use native.Mathlib.Decide.{dec_le}
use mathlib.Core.Path.{◌≡◌, refl, ap, ◌∙◌}
use mathlib.Core.Bool.{Bool, true, false}
use mathlib.Core.Option.{some}
use mathlib.Core.List.{List, [], ◌∷◌}
use borrow.Author.Tests.{ne_eqb, le-leb, lt-leb}
use Rattle.table.specs.Table.{Row}
use Rattle.cells.specs.Cell.{last, moved}
use Rattle.machine.specs.Step.{changed}
use Rattle.rule.specs.Tree.{
  Atom,
  read_is,
  read_is_not,
  counter_is,
  counter_is_not,
  Condition,
  Plain,
  move_by,
  move_back,
  goto_lend,
  goto_rend,
  increment,
  decrement,
  add,
  subtract,
}
use Rattle.rule.specs.Limits.{value}
use Rattle.rule.specs.Meaning.{cell_after, lowered, counter_after}
use Rattle.rule.specs.Inside.Within.{PlainWithin, ConditionWithin}
use Rattle.table.specs.Form.{any_symbol, no_move, no_change, to_left, to_right}
use Rattle.construction.specs.Construction.{
  test_row,
  move_code,
  change_code,
  symbol_rows,
  atom_rows,
  walk,
}
use Rattle.construction.proofs.Every.{Every, every-nil, every-cons}
use Rattle.construction.proofs.Codes.{walk-every}

module _ (word : List ℕ) where
  -- a move by what the code is above or below `no_move`
  moved_by :
      (code cell : ℕ) → to_left < code → code < to_right → moved word code cell ≡ min (min cell (last word) + code - no_move) (last word)
  unfolding moved
  moved_by code cell h k = rw (ne_eqb code to_left (omega arith), ne_eqb code to_right (omega arith))

  -- a row that does not move
  pub stays : (cell : ℕ) → cell ≤ last word → moved word no_move cell ≡ cell
  stays cell inside = moved_by no_move cell (omega arith) (omega arith) ∙ omega arith

  -- a plain statement's row moves as the statement
  pub plain_moves :
      (e : Plain) (cell : ℕ) → PlainWithin e → cell ≤ last word → moved word (move_code e) cell ≡ cell_after word e cell
  unfolding moved move_code cell_after PlainWithin
  plain_moves (move_by n) cell within inside = moved_by (no_move + value n) cell (omega arith) (omega arith) ∙ omega arith
  plain_moves (move_back n) cell within inside = moved_by (no_move - value n) cell (omega arith) (omega arith) ∙ omega arith
  plain_moves goto_lend cell within inside = refl
  plain_moves goto_rend cell within inside = refl
  plain_moves increment cell within inside = stays cell inside
  plain_moves decrement cell within inside = stays cell inside
  plain_moves (add n) cell within inside = stays cell inside
  plain_moves (subtract n) cell within inside = stays cell inside

  -- and stays on the word's cells
  pub plain_inside : (e : Plain) (cell : ℕ) → cell ≤ last word → cell_after word e cell ≤ last word
  unfolding cell_after
  plain_inside (move_by n) cell inside = omega arith
  plain_inside (move_back n) cell inside = omega arith
  plain_inside goto_lend cell inside = omega arith
  plain_inside goto_rend cell inside = omega arith
  plain_inside increment cell inside = inside
  plain_inside decrement cell inside = inside
  plain_inside (add n) cell inside = inside
  plain_inside (subtract n) cell inside = inside

module _ (decr_on_zero : Bool) where
  -- a change by what the code is above or below `no_change`
  raises : (n counter : ℕ) → changed decr_on_zero (no_change + n) counter ≡ some (counter + n)
  unfolding changed
  raises n counter =
      let sum : counter + (no_change + n) - no_change ≡ counter + n = omega arith in
      rw (le-leb no_change (counter + (no_change + n)) (omega arith), sum)

  lowers : (n counter : ℕ) → n ≤ no_change → changed decr_on_zero (no_change - n) counter ≡ lowered decr_on_zero n counter
  unfolding changed lowered
  lowers n counter h = by_cases (dec_le n counter)
    where
      by_cases : Dec (n ≤ counter) → changed decr_on_zero (no_change - n) counter ≡ lowered decr_on_zero n counter
      by_cases (yes k) =
          let difference : counter + (no_change - n) - no_change ≡ counter - n = omega arith in
          rw (le-leb no_change (counter + (no_change - n)) (omega arith), le-leb n counter k, difference)
      by_cases (no k) = rw (lt-leb no_change (counter + (no_change - n)) (omega arith), lt-leb n counter (omega arith))

  -- a row that does not change the counter
  pub keeps : (counter : ℕ) → changed decr_on_zero no_change counter ≡ some counter
  keeps counter = raises 0 counter ∙ ap (λ (n : ℕ). some n) (add-zero counter)

  -- a plain statement's row changes the counter as the statement
  pub plain_changes :
      (e : Plain) (counter : ℕ) → PlainWithin e → changed decr_on_zero (change_code e) counter ≡ counter_after decr_on_zero e counter
  unfolding change_code counter_after PlainWithin
  plain_changes (move_by n) counter within = keeps counter
  plain_changes (move_back n) counter within = keeps counter
  plain_changes goto_lend counter within = keeps counter
  plain_changes goto_rend counter within = keeps counter
  plain_changes increment counter within = raises 1 counter
  plain_changes decrement counter within = lowers 1 counter (omega arith)
  plain_changes (add n) counter within = raises (value n) counter
  plain_changes (subtract n) counter within = lowers (value n) counter within

-- a row that neither moves nor changes the counter
pub record Still (r : Row) : Type 0 where
  pub move : r.move ≡ no_move
  pub change : r.change ≡ no_change

symbols_still : (xs : List ℕ) (p q : ℕ) → Every Still (symbol_rows xs p q)
unfolding symbol_rows
symbols_still [] p q = every-nil
symbols_still (x ∷ xs) p q = every-cons (record { move = refl; change = refl }) (symbols_still xs p q)

counter_still : {n p q : ℕ} → Every Still (test_row any_symbol n p q ∷ [])
counter_still = every-cons (record { move = refl; change = refl }) every-nil

atom_still : (alphabet : List ℕ) (sign : Bool) (a : Atom) (p q : ℕ) → Every Still (atom_rows alphabet sign a p q)
unfolding atom_rows
atom_still alphabet true (read_is x) p q = symbols_still _ p q
atom_still alphabet false (read_is x) p q = symbols_still _ p q
atom_still alphabet true (read_is_not x) p q = symbols_still _ p q
atom_still alphabet false (read_is_not x) p q = symbols_still _ p q
atom_still alphabet true (counter_is n) p q = counter_still
atom_still alphabet false (counter_is n) p q = counter_still
atom_still alphabet true (counter_is_not n) p q = counter_still
atom_still alphabet false (counter_is_not n) p q = counter_still

-- a condition's rows only test
pub walk_still :
    (alphabet : List ℕ) (c : Condition) (sign : Bool) (p q next : ℕ)
    → ConditionWithin alphabet c
    → Every Still (walk alphabet c sign p q next).rows
walk_still alphabet = walk-every alphabet Still (λ a sign p q within. atom_still alphabet sign a p q)
