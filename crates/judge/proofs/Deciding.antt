-- The judge's answer from its parts: a refusal with the marks as they were, or a verdict with its count and marks.
use Prim.Native.Nat.{ℕ}
use mathlib.Core.Path.{◌≡◌, refl}
use mathlib.Core.Logic.{inl}
use mathlib.Core.List.{List}
use lib.ListN.{length}
use Rattle.std.specs.Prelude.{◌≢◌, Ok, Err}
use Rattle.table.specs.Fields.{table_of}
use Rattle.table.specs.Refusal.{First, number_of}
use Rattle.table.specs.declared.reason.Reason.TheVariants.{MarkBytes}
use Rattle.table.specs.declared.reason.Refusal.{Refusal}
use Rattle.table.specs.declared.source.Source.TheVariants.{Image}
use Rattle.table.proofs.Refusal.{first_front, first_behind}
use Rattle.table.proofs.Showing.{image_sources}
use Rattle.judgement.specs.Marks.{mark_bytes}
use Rattle.judgement.specs.Reasons.{input_reasons}
use Rattle.judgement.specs.Judge.{marks_reason, Answers}
use Rattle.judgement.proofs.Reasons.{input_none}
use Rattle.refusing.specs.Asking.{Asks}
use Rattle.judge.specs.Inside.Inner.{Undecided}

module _ {image word : List ℕ} {limit : ℕ} {before after : List ℕ} where
  -- what is refused for its image, word or limit
  pub refused_input
      : {refusal : Refusal} → Asks image word limit (Err refusal) → after ≡ before → Answers image word limit before after (Err refusal)
  refused_input {refusal} asks same =
      let first = first_front (number_of refusal.reason) refusal.place (input_reasons image word limit) (marks_reason before) asks.right in
      record { right = record { first = first; unchanged = same } }

  -- what is admitted is refused for its marks
  pub refused_marks
      : Asks image word limit (Ok tt) → length before ≢ mark_bytes → after ≡ before
      → Answers image word limit before after (Err (record { reason = MarkBytes; place = 0 }))
  unfolding First
  refused_marks asks room same =
      let first =
      first_behind 25 0 (input_reasons image word limit) (marks_reason before) (input_none image word limit asks.right) (inl (refl, (refl, room))) in
      record { right = record { first = first; unchanged = same } }

-- what is judged is what is searched
pub admitted_undecided : {image word : List ℕ} {limit : ℕ} → Asks image word limit (Ok tt) → Undecided (table_of image) image Image word limit
admitted_undecided asks =
    let a = asks.right in
    record { ready = record { range = a.is_image.in_range; short = a.short; low = a.low }; sources = image_sources a.is_image }
