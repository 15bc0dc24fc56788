-- The number that the judge answers tells its answer, so the line of the number is the line of the answer.
use Prim.Native.Nat.{ℕ, ◌+◌, ◌*◌, ◌<◌}
use native.Mathlib.Omega.{arith}
use mathlib.Core.Path.{◌≡◌, refl, ◌∙◌, ap, ap₂}
use mathlib.Core.List.{List}
use lib.Arith.{digits_div, digits_mod}
use Rattle.judgement.specs.Verdict.{verdict_number}
use Rattle.judgement.specs.Judge.{Answer, judged, refused, answer_number, AnswerRight, Judges}
use Rattle.judgement.proofs.Judges.{count_small, refused_bounds}
use Rattle.line.specs.VerdictLine.{verdict_line, answer_with, answer_of}
use Rattle.line.proofs.Lines.{answer_judged, answer_refused}

-- a number and six digits behind it
answer_of_lem : (number value : ℕ) → value < 1000000 → answer_of (number * 1000000 + value) ≡ answer_with number value
answer_of_lem number value small = ap₂ answer_with (digits_div number small) (digits_mod number small)

-- a right answer's number stands for that answer
answer_told
    : (image word : List ℕ) (limit : ℕ) (before after : List ℕ) (a : Answer) → AnswerRight image word limit before after a
    → answer_of (answer_number a) ≡ a
unfolding answer_number
answer_told image word limit before after (judged v count) a =
    answer_of_lem (verdict_number v) count (count_small a) ∙ answer_judged v (verdict_number v) count refl
answer_told image word limit before after (refused n p) a =
    let bounds = refused_bounds a in
    answer_of_lem n p bounds.1 ∙ answer_refused n p (λ e. omega arith) (λ e. omega arith) (λ e. omega arith)

-- so the line of the judge's number is the line of its answer
pub judged_line
    : {image word : List ℕ} {limit : ℕ} {before after : List ℕ} {r : ℕ} (j : Judges image word limit before after r)
    → verdict_line (answer_of r) ≡ verdict_line j.answer
judged_line {image} {word} {limit} {before} {after} j =
    ap (λ (n : ℕ). verdict_line (answer_of n)) j.number
    ∙ ap verdict_line (answer_told image word limit before after j.answer j.right)
