-- What both directions go by: a program and its table, a word of the table's letters, and a limit.
-- A run of the program stays on the word's cells and within the limit.
use Prim.Native.Nat.{ℕ, zero, suc, ◌≤◌, ◌<◌, zero-le}
use mathlib.Core.Path.{◌≡◌, refl, ap}
use mathlib.Core.Bool.{Bool, true, false, cond}
use mathlib.Core.List.{List, [], Memᴰ, Nodup}
use lib.ListN.{length, get_or}
use lib.Dec.{ltb}
use borrow.Author.Tests.{ltb-true}
use Rattle.table.specs.Table.{Table}
use Rattle.cells.specs.Cell.{letter, right_mark, symbol_on, last}
use Rattle.rule.specs.Tree.{Statements, done, ◌then◌, Program}
use Rattle.rule.specs.Limits.{faults}
use Rattle.rule.specs.Meaning.{◌before◌, ProgramSituation, does, continues, ProgramReach, begins, goes}
use Rattle.rule.proofs.Within.{program_within}
use Rattle.construction.specs.Construction.{construct}
use Rattle.construction.proofs.Symbols.{Known}
use Rattle.construction.proofs.Effects.{plain_inside}

-- a program is tried against its table
pub record Trial : Type 0 where
  pub table : Table
  pub program : Program
  pub word : List ℕ
  pub limit : ℕ
  pub few : length table.alphabet ≤ 16
  pub different : Nodup table.alphabet
  pub known : (cell : ℕ) → Known table.alphabet (symbol_on word cell)
  pub same : program.decr_on_zero ≡ table.decr_on_zero

-- what stands on a cell of a word of these letters is a mark or one of them
pub known_symbol :
    (alphabet word : List ℕ)
    → ((i : ℕ) → i < length word → Memᴰ (get_or word i 0) alphabet)
    → (cell : ℕ)
    → Known alphabet (symbol_on word cell)
unfolding symbol_on
known_symbol alphabet word letters zero = tt
known_symbol alphabet word letters (suc i) = by_cases (ltb i (length word)) refl
  where
    by_cases : (b : Bool) → ltb i (length word) ≡ b → Known alphabet (cond b (letter (get_or word i 0)) right_mark)
    by_cases true e = letters i (ltb-true i (length word) e)
    by_cases false e = tt

-- a program without faults, with its own table
unfoldable pub trial :
    (p : Program)
    → faults p ≡ []
    → (word : List ℕ)
    → ℕ
    → ((i : ℕ) → i < length word → Memᴰ (get_or word i 0) (construct p).alphabet)
    → Trial
unfolding construct
trial p none word limit letters =
    record {
      table = construct p;
      program = p;
      word = word;
      limit = limit;
      few = (program_within p none).few;
      different = (program_within p none).different;
      known = known_symbol (construct p).alphabet word letters;
      same = refl;
    }

-- a block with nothing after it
pub before_done : (b : Statements) → b before done ≡ b
unfolding ◌before◌
before_done done = refl
before_done (a then b) = ap (λ (c : Statements). a then c) (before_done b)

module _ {p : Program} {word : List ℕ} {limit : ℕ} where
  -- a run of the program stays on the word's cells
  pub comes_inside : {s : ProgramSituation} → ProgramReach p word limit s → s.cell ≤ last word
  comes_inside begins = zero-le
  comes_inside (goes came (does {e = e} {cell = cell} h) low) = plain_inside word e cell (comes_inside came)
  comes_inside (goes came (continues h) low) = comes_inside came

  -- and within the limit
  pub comes_low : {s : ProgramSituation} → ProgramReach p word limit s → s.counter ≤ limit
  comes_low begins = zero-le
  comes_low (goes came step low) = low

  -- a run begins with the whole body, and nothing after it
  pub begins_whole : ProgramReach p word limit (record { left = p.body before done; cell = 0; counter = 0 })
  begins_whole = rw before_done begins
