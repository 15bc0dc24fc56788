-- The lines, part by part.
use Prim.Native.Nat.{ℕ, ◌+◌, ◌≤◌}
use native.Mathlib.Omega.{arith}
use mathlib.Core.Path.{◌≡◌, refl, ap}
use mathlib.Core.Logic.{◌≢◌}
use mathlib.Core.List.{List, [], ◌∷◌, ◌++◌, append_assoc}
use lib.ListN.{length-append}
use borrow.Author.Tests.{ne_eqb}
use Rattle.bits.specs.Byte.{spelling}
use Rattle.judgement.specs.declared.answer.Verdict.{Verdict}
use Rattle.judgement.specs.declared.answer.Verdict.TheVariants.{Yes, No, LimitMet}
use Rattle.judgement.specs.Verdict.{verdict_number}
use Rattle.judgement.specs.Judge.{judged, refused}
use Rattle.std.specs.Prelude.{Ok}
use Rattle.construction.specs.declared.Sizes.{Sizes}
use Rattle.line.specs.Inside.Adding.{Adds}
use Rattle.line.specs.Decimal.{decimal}
use Rattle.line.specs.CompileLine.{compile_line, line_of, refusal_line}
use Rattle.line.specs.VerdictLine.{meaning, verdict_word, verdict_line, answer_with}
use Rattle.line.proofs.Decimal.{decimal_short}

-- with the byte behind it a number takes 21 bytes at most
pub number_short : {before after : List ℕ} {from to : ℕ} (n behind : ℕ) → Adds before after from to (decimal n ++ (behind ∷ [])) → to ≤ from + 21
number_short n behind a = omega (arith, a.ends, length-append (decimal n) (behind ∷ []), decimal_short n)

-- the compile program's line
pub compiled_line : (s : Sizes)
    → spelling "ok " ++ ((decimal s.states ++ (32 ∷ [])) ++ ((decimal s.rows ++ (32 ∷ [])) ++ (decimal s.bytes ++ (10 ∷ []))))
    ≡ compile_line (Ok s)
unfolding compile_line line_of
compiled_line s = simp append_assoc

pub compile_refused_line : (number place : ℕ)
    → spelling "no " ++ ((decimal number ++ (32 ∷ [])) ++ (decimal place ++ (10 ∷ []))) ≡ refusal_line number place
unfolding refusal_line
compile_refused_line number place = simp append_assoc

-- the verdict program's line of a refusal
pub verdict_refused_line : (number place : ℕ)
    → spelling "refused " ++ ((decimal number ++ (32 ∷ [])) ++ ((decimal place ++ (32 ∷ [])) ++ (meaning number ++ (10 ∷ []))))
    ≡ verdict_line (refused number place)
unfolding verdict_line
verdict_refused_line number place = simp append_assoc

-- what a number means that is none of the first four
pub meaning-last : (n : ℕ) → n ≢ 21 → n ≢ 22 → n ≢ 23 → n ≢ 24 → spelling "the mark buffer has another length\n" ≡ meaning n ++ spelling "\n"
unfolding meaning
meaning-last n a b c d = rw (ne_eqb n 21 a, ne_eqb n 22 b, ne_eqb n 23 c, ne_eqb n 24 d) refl

-- the answer with a verdict's number, and that with no verdict's number
pub answer_judged : (v : Verdict) (n count : ℕ) → n ≡ verdict_number v → answer_with n count ≡ judged v count
unfolding answer_with verdict_number
answer_judged Yes n count is = ap (λ (k : ℕ). answer_with k count) is
answer_judged No n count is = ap (λ (k : ℕ). answer_with k count) is
answer_judged LimitMet n count is = ap (λ (k : ℕ). answer_with k count) is

pub answer_refused : (n p : ℕ) → n ≢ 1 → n ≢ 2 → n ≢ 3 → answer_with n p ≡ refused n p
unfolding answer_with
answer_refused n p a b c = simp (ne_eqb n 1 a, ne_eqb n 2 b, ne_eqb n 3 c)

-- the verdict program's line of a verdict
pub verdict_judged_line : (v : Verdict) (count : ℕ) {word : List ℕ} → word ≡ verdict_word v ++ spelling " "
    → word ++ (decimal count ++ (10 ∷ [])) ≡ verdict_line (judged v count)
unfolding verdict_line
verdict_judged_line v count e = rw e (simp append_assoc)
