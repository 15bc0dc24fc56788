-- Here, or at the end, where a row is all 0 as one past it is. Assumes nothing.
use Rattle.std.proofs.Common.{ℕ, ◌≡◌, ◌≤◌, List, length, min, arith, ap, sym, ◌∙◌}
use native.Mathlib.Decide.{dec_le}
use Rattle.table.specs.Fields.{row_from}
use Rattle.table.proofs.Reading.{here_past}
use Rattle.rows.proofs.place_of.Goals as goal

here_or_end : (rows : List ℕ) (at place : ℕ) → place ≡ min at (length rows) → (place ≤ length rows) × (row_from rows place ≡ row_from rows at)
here_or_end rows at place is = (
  omega arith,
  elim (dec_le at (length rows)) [
    | yes inside ↦ let here : place ≡ at = omega arith in ap (row_from rows) here
    | no past ↦ here_past rows place (omega arith) ∙ sym (here_past rows at (omega arith))
  ],
)

pub returns : goal.returns
returns c = here_or_end _ _ _ c.min.ensures
