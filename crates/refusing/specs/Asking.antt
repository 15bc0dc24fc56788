-- What asking comes to: admitted, with the table that the image's fields say, or refused by the first reason at its place.
use Rattle.std.specs.Prelude.{ℕ, List, Result, Ok, Err, ⊤}
use Rattle.table.specs.Refusal.{First, number_of}
use Rattle.table.specs.Fields.{table_of}
use Rattle.table.specs.declared.reason.Refusal.{Refusal}
use Rattle.judgement.specs.Reasons.{input_reasons, Admitted}

abbrev pub AskedRight : List ℕ → List ℕ → ℕ → Result ⊤ Refusal → Type 0
AskedRight image word limit (Ok admitted) = Admitted (table_of image) image word limit
AskedRight image word limit (Err refusal) = First (input_reasons image word limit) (number_of refusal.reason) refusal.place

pub record Asks (image word : List ℕ) (limit : ℕ) (r : Result ⊤ Refusal) : Type 0 where
  pub right : AskedRight image word limit r
