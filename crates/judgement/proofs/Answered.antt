-- The answer that a judge gives tells the number that it gives, and no second answer is right.
use Prim.Native.Nat.{ℕ, ◌+◌, ◌*◌, ◌<◌}
use mathlib.Core.Path.{◌≡◌, refl, sym, ap, ◌∙◌}
use mathlib.Core.List.{List}
use Rattle.std.specs.Prelude.{Result, Ok, Err}
use Rattle.table.proofs.Reasons.{named, named_number}
use Rattle.table.specs.Refusal.{number_of, refusal}
use Rattle.table.specs.declared.reason.Reason.{Reason}
use Rattle.table.specs.declared.reason.Refusal.{Refusal}
use Rattle.judgement.specs.declared.answer.Judged.{Judged as Given}
use Rattle.judgement.specs.Verdict.{verdict_number}
use Rattle.judgement.specs.Judge.{Answer, judged, refused, answer_number, answer_of, Answers, Judges}
use Rattle.judgement.proofs.Judges.{answer_once, count_small, refused_bounds}

-- the number of a right answer is what judging promises
pub answers_number
    : {image word : List ℕ} {limit : ℕ} {before after : List ℕ} {result : Result Given Refusal}
    → Answers image word limit before after result → Judges image word limit before after (answer_number (answer_of result))
answers_number {result = result} a = record { answer = answer_of result; right = a.right; number = refl }

-- that of a verdict is its number and then the count, which is below a million
pub answers_judged
    : {image word : List ℕ} {limit : ℕ} {before after : List ℕ} {answer : Given} → Answers image word limit before after (Ok answer)
    → (answer.count < 1000000) × Judges image word limit before after (verdict_number answer.verdict * 1000000 + answer.count)
unfolding answer_number
answers_judged a = (count_small a.right, answers_number a)

-- that of a refusal is its number and then the place, which is below a million
pub answers_refused
    : {image word : List ℕ} {limit : ℕ} {before after : List ℕ} {refused : Refusal} → Answers image word limit before after (Err refused)
    → (refused.place < 1000000) × Judges image word limit before after (refusal (number_of refused.reason) refused.place)
unfolding answer_number
answers_refused a = ((refused_bounds a.right).1, answers_number a)

-- the result of code that is an answer
result_with : Answer → Result Given Refusal
result_with (judged v c) = Ok (record { verdict = v; count = c })
result_with (refused n p) = Err (record { reason = named n; place = p })

result_back : (r : Result Given Refusal) → result_with (answer_of r) ≡ r
unfolding result_with
result_back (Ok a) = refl
result_back (Err e) = ap (λ (r : Reason). Err (record { reason = r; place = e.place })) (named_number e.reason)

-- two right answers are equal, and so are the marks that they leave
pub answers_once
    : {image word : List ℕ} {limit : ℕ} {before after after' : List ℕ} {a b : Result Given Refusal}
    → Answers image word limit before after a → Answers image word limit before after' b → (a ≡ b) × (after ≡ after')
answers_once {image} {word} {limit} {before} {a = a} {b = b} x y =
    let same = answer_once image word limit before (answer_of a) (answer_of b) x.right y.right in
    (sym (result_back a) ∙ ap result_with same.0 ∙ result_back b, same.1)
