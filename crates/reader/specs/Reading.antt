-- What reading a text promises, for every text.
use Rattle.std.specs.Prelude.{ℕ, ◌≤◌, ◌<◌, ◌≡◌, List, [], ◌∷◌, length, Result, Ok, Err}
use Rattle.table.specs.Refusal.{Reason, because, at_zero, First, number_of}
use Rattle.table.specs.declared.reason.Refusal.{Refusal}
use Rattle.rule.specs.Tree.{Program}
use Rattle.rule.specs.Counts.{program_states, program_rows}
use Rattle.rule.specs.Faults.{FirstFault, Reads, TooMany}
use Rattle.reader.specs.declared.answers.Counts.{Counts}

-- the reasons to refuse, in order: 1, then whichever of 3 to 9 comes first in the text, then 10, then 11
abbrev pub reasons : List ℕ → List {1} Reason
reasons text =
    at_zero 1 (4096 < length text)
    ∷ FirstFault text
    ∷ because 10 (TooMany text program_states 128)
    ∷ because 11 (TooMany text program_rows 1024)
    ∷ []

-- the text is a program within every limit, with so many states and rows
pub record Whole (text : List ℕ) (states rows : ℕ) : Type 0 where
  pub program : Program
  pub short : length text ≤ 4096
  pub reads : Reads text program
  pub states_are : states ≡ program_states program
  pub rows_are : rows ≡ program_rows program
  pub few_states : states ≤ 128
  pub few_rows : rows ≤ 1024

-- the counts, or the number and place of the refusal
abbrev pub ReadingRight : List ℕ → Result Counts Refusal → Type 0
ReadingRight text (Ok counts) = Whole text counts.states counts.rows
ReadingRight text (Err r) = First (reasons text) (number_of r.reason) r.place

pub record ReadsTo (text : List ℕ) (r : Result Counts Refusal) : Type 0 where
  pub right : ReadingRight text r
