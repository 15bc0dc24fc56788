-- What checking an image promises: 1 exactly for a well-formed image, else refusal 21 at place 0.
use Rattle.std.specs.Prelude.{ℕ, ◌≡◌, List, Result, Ok, Err, ⊤}
use Rattle.table.specs.WellFormed.{WellFormed}
use Rattle.table.specs.Refusal.{refusal}
use Rattle.table.specs.declared.reason.Reason.TheVariants.{Malformed}
use Rattle.table.specs.declared.reason.Refusal.{Refusal}

pub data Checked : Type 0 where
  well_formed : Checked
  malformed : Checked

unfoldable pub checked_number : Checked → ℕ
checked_number well_formed = 1
checked_number malformed = refusal 21 0

abbrev pub CheckedRight : List ℕ → Checked → Type 0
CheckedRight image well_formed = WellFormed image
CheckedRight image malformed = ¬ WellFormed image

pub record Checks (image : List ℕ) (result : ℕ) : Type 0 where
  pub answer : Checked
  pub right : CheckedRight image answer
  pub number : result ≡ checked_number answer

-- the same of the answer that it gives in code: nothing to say of a well-formed image, or refusal 21 at place 0
unfoldable pub answer_of : Checked → Result ⊤ Refusal
answer_of well_formed = Ok tt
answer_of malformed = Err (record { reason = Malformed; place = 0 })

pub record Answers (image : List ℕ) (result : Result ⊤ Refusal) : Type 0 where
  pub answer : Checked
  pub right : CheckedRight image answer
  pub is : result ≡ answer_of answer
