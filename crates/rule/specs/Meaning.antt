-- What a program means: the steps and runs of what is left of it, on a cell and with a counter.
use Rattle.std.specs.Prelude.{ℕ, ◌+◌, ◌-◌, ◌≤◌, min, ◌≡◌, Bool, true, false, cond, not, ◌&&◌, ◌||◌, List, leb, eqb}
use Rattle.std.proofs.Math.Option.{Option, none, some}
use Rattle.cells.specs.Cell as Cell
use Rattle.cells.specs.Cell.{Symbol, left_mark, right_mark, symbol_on, last}
use Rattle.rule.specs.Tree.{SymbolName, letter, lend, rend, Atom, read_is, read_is_not, counter_is, counter_is_not, Condition, atom, parens, negation, both, either, Plain, move_by, move_back, goto_lend, goto_rend, increment, decrement, add, subtract, Statement, plain, accept, if, while, choose, branch, Rest, nothing, else, Statements, done, ◌then◌, Arms, last_arm, more_arms, Program}
use Rattle.rule.specs.Limits.{value}

-- `read == x`: a mark differs from every letter, and from the other mark
unfoldable pub reads : SymbolName → Symbol → Bool
reads (letter l) left_mark = false
reads (letter l) (Cell.letter b) = eqb l.byte b
reads (letter l) right_mark = false
reads lend left_mark = true
reads lend (Cell.letter b) = false
reads lend right_mark = false
reads rend left_mark = false
reads rend (Cell.letter b) = false
reads rend right_mark = true

unfoldable pub atom_holds : Symbol → ℕ → Atom → Bool
atom_holds symbol counter (read_is x) = reads x symbol
atom_holds symbol counter (read_is_not x) = not (reads x symbol)
atom_holds symbol counter (counter_is n) = eqb counter (value n)
atom_holds symbol counter (counter_is_not n) = not (eqb counter (value n))

unfoldable pub holds : Symbol → ℕ → Condition → Bool
holds symbol counter (atom p a) = atom_holds symbol counter a
holds symbol counter (parens p c) = holds symbol counter c
holds symbol counter (negation p c) = not (holds symbol counter c)
holds symbol counter (both c d) = holds symbol counter c && holds symbol counter d
holds symbol counter (either c d) = holds symbol counter c || holds symbol counter d

-- the cell after a plain statement: `move` stops at 0 and n + 1, `goto` goes to a mark
unfoldable pub cell_after : List ℕ → Plain → ℕ → ℕ
cell_after word (move_by n) cell = min (cell + value n) (last word)
cell_after word (move_back n) cell = cell - value n
cell_after word goto_lend cell = 0
cell_after word goto_rend cell = last word
cell_after word increment cell = cell
cell_after word decrement cell = cell
cell_after word (add n) cell = cell
cell_after word (subtract n) cell = cell

-- lowering the counter below zero leaves it at zero when decr_on_zero is true, and else the run ends
unfoldable pub lowered : Bool → ℕ → ℕ → Option ℕ
lowered decr_on_zero by counter = cond (leb by counter) (some (counter - by)) (cond decr_on_zero (some 0) none)

unfoldable pub counter_after : Bool → Plain → ℕ → Option ℕ
counter_after decr_on_zero (move_by n) counter = some counter
counter_after decr_on_zero (move_back n) counter = some counter
counter_after decr_on_zero goto_lend counter = some counter
counter_after decr_on_zero goto_rend counter = some counter
counter_after decr_on_zero increment counter = some (counter + 1)
counter_after decr_on_zero decrement counter = lowered decr_on_zero 1 counter
counter_after decr_on_zero (add n) counter = some (counter + value n)
counter_after decr_on_zero (subtract n) counter = lowered decr_on_zero (value n) counter

-- one block's statements, then those after it
infixr 25 ◌before◌
unfoldable pub ◌before◌ : Statements → Statements → Statements
done before rest = rest
(a then b) before rest = a then (b before rest)

-- what an `if` whose condition fails goes on with
unfoldable pub otherwise : Rest → Statements
otherwise nothing = done
otherwise (else o b) = b

-- a block is one of the arms
pub data Arm : Statements → Arms → Type 0 where
  last_one : {p o : ℕ} {b : Statements} → Arm b (last_arm p o b)
  this_one : {p o : ℕ} {b : Statements} {a : Arms} → Arm b (more_arms p o b a)
  another : {p o : ℕ} {b c : Statements} {a : Arms} → Arm c a → Arm c (more_arms p o b a)

-- what is left to run, the cell and the counter
pub record ProgramSituation : Type 0 where
  pub left : Statements
  pub cell : ℕ
  pub counter : ℕ

-- the statement in front, with what comes after it, may go on as these statements, with the cell and the counter as they were
pub data Continues (symbol : Symbol) (counter : ℕ) : Statement → Statements → Statements → Type 0 where
  if_holds : {p o : ℕ} {c : Condition} {b rest : Statements} {e : Rest}
      → holds symbol counter c ≡ true
      → Continues symbol counter (if p c o b e) rest (b before rest)
  if_fails : {p o : ℕ} {c : Condition} {b rest : Statements} {e : Rest}
      → holds symbol counter c ≡ false
      → Continues symbol counter (if p c o b e) rest (otherwise e before rest)
  while_holds : {p o : ℕ} {c : Condition} {b rest : Statements}
      → holds symbol counter c ≡ true
      → Continues symbol counter (while p c o b) rest (b before (while p c o b then rest))
  while_fails : {p o : ℕ} {c : Condition} {b rest : Statements}
      → holds symbol counter c ≡ false
      → Continues symbol counter (while p c o b) rest rest
  goes_round : {p o : ℕ} {b rest : Statements} → Continues symbol counter (choose p o b) rest (b before (choose p o b then rest))
  leaves_loop : {p o : ℕ} {b rest : Statements} → Continues symbol counter (choose p o b) rest rest
  first_arm : {p o : ℕ} {b rest : Statements} {a : Arms} → Continues symbol counter (branch p o b a) rest (b before rest)
  other_arm : {p o : ℕ} {b c rest : Statements} {a : Arms} → Arm c a → Continues symbol counter (branch p o b a) rest (c before rest)

-- one step of a run; none starts from `accept`, from `reject` and from the end of the program
pub data ProgramStep (word : List ℕ) (decr_on_zero : Bool) : ProgramSituation → ProgramSituation → Type 0 where
  does : {e : Plain} {rest : Statements} {p cell counter counter' : ℕ}
      → counter_after decr_on_zero e counter ≡ some counter'
      → ProgramStep word decr_on_zero
      (record { left = plain p e then rest; cell = cell; counter = counter })
      (record { left = rest; cell = cell_after word e cell; counter = counter' })
  continues : {a : Statement} {rest next : Statements} {cell counter : ℕ}
      → Continues (symbol_on word cell) counter a rest next
      → ProgramStep word decr_on_zero
      (record { left = a then rest; cell = cell; counter = counter })
      (record { left = next; cell = cell; counter = counter })

-- reached by a run of the program that starts at the left end, cell 0, with counter 0, and whose counter is never above the limit
pub data ProgramReach (p : Program) (word : List ℕ) (limit : ℕ) : ProgramSituation → Type 0 where
  begins : ProgramReach p word limit (record { left = p.body; cell = 0; counter = 0 })
  goes : {s t : ProgramSituation} → ProgramReach p word limit s → ProgramStep word p.decr_on_zero s t → t.counter ≤ limit → ProgramReach p word limit t

-- some run of the program within the limit comes to `accept`
pub record ProgramAccepts (p : Program) (word : List ℕ) (limit : ℕ) : Type 0 where
  pub place : ℕ
  pub rest : Statements
  pub cell : ℕ
  pub counter : ℕ
  pub comes : ProgramReach p word limit (record { left = accept place then rest; cell = cell; counter = counter })
