-- Answers that carry the letters.
use Prim.Native.Nat.{ℕ}
use mathlib.Core.Path.{◌≡◌, subst}
use mathlib.Core.List.{List, [], ◌++◌}
use Rattle.std.specs.Prelude.{Result, Ok, Err}
use Rattle.rule.specs.Inside.Machine.{Stack, Totals}
use Rattle.table.specs.declared.reason.Refusal.{Refusal}
use Rattle.reader.specs.Inside.Answers.{Spot, spot, before, Stops, Arrives, Answers, alphabet_of, AnswersWith}
use Rattle.reader.specs.declared.answers.Reader.{Reader}
use Rattle.reader.specs.declared.letters.Letters.{Letters}
use Rattle.reader.proofs.Moves.{under, under_stops, arrives_on, stops_on}

module _ {text : List ℕ} {s : Spot} {x : Stack} where
  -- what was read, and its letters
  pub with_went : {u : Result (Reader × Letters) Refusal} {p : Reader × Letters} → AnswersWith text s x u → u ≡ Ok p → Arrives text s x (alphabet_of p.1) p.0
  with_went h e = (subst (AnswersWith text s x) e h).right

  -- or the refusal
  pub with_stop : {u : Result (Reader × Letters) Refusal} {f : Refusal} → AnswersWith text s x u → u ≡ Err f → Stops text s f
  with_stop h e = (subst (AnswersWith text s x) e h).right

  pub with_refused : {f : Refusal} → Answers text s [] [] (Err f) → AnswersWith text s x (Err f)
  with_refused h = record { right = h.right }

  pub with_refused_on : {r : Reader} {y : Stack} {a : List ℕ} {f : Refusal} → Arrives text s y a r → Answers r.text.now (before r y a) [] [] (Err f) → AnswersWith text s x (Err f)
  with_refused_on g h = record { right = stops_on g h.right }

  pub with_onward : {r : Reader} {y : Stack} {a : List ℕ} {u : Result (Reader × Letters) Refusal} → Arrives text s y a r → AnswersWith r.text.now (before r y a) x u → AnswersWith text s x u
  with_onward {u = Ok p} g h = record { right = arrives_on g h.right }
  with_onward {u = Err f} g h = record { right = stops_on g h.right }

-- more is expected behind
module _ {text : List ℕ} {from : ℕ} {x z : Stack} {t : Totals} (w : Stack) where
  pub with_over : {u : Result (Reader × Letters) Refusal} → AnswersWith text (spot from x t) z u → AnswersWith text (spot from (x ++ w) t) (z ++ w) u
  with_over {u = Ok p} h = record { right = record { comes = under w h.right.comes; same = h.right.same } }
  with_over {u = Err f} h = record { right = under_stops w h.right }

  pub with_gone : {u : Result (Reader × Letters) Refusal} {p : Reader × Letters}
      → AnswersWith text (spot from x t) z u
      → u ≡ Ok p
      → Arrives text (spot from (x ++ w) t) (z ++ w) (alphabet_of p.1) p.0
  with_gone h e = with_went (with_over h) e

  pub with_stopped : {y : Stack} {u : Result (Reader × Letters) Refusal} {f : Refusal}
      → AnswersWith text (spot from x t) z u
      → u ≡ Err f
      → AnswersWith text (spot from (x ++ w) t) y (Err f)
  with_stopped h e = record { right = with_stop (with_over h) e }
