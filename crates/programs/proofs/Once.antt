-- What the programs answer is settled by what they are given: no second answer fits.
use Prim.Native.Nat.{ℕ}
use mathlib.Core.Path.{◌≡◌, refl, sym, ap, ◌∙◌, subst}
use mathlib.Core.Logic.{◌⊎◌, inl, inr}
use mathlib.Core.List.{List}
use Rattle.std.specs.Prelude.{Option, Some, None, Result, IsSomeAnd}
use Rattle.table.specs.declared.reason.Refusal.{Refusal}
use Rattle.construction.specs.declared.Sizes.{Sizes}
use Rattle.judgement.specs.declared.answer.Judged.{Judged}
use Rattle.judgement.specs.Judge.{answer_of}
use Rattle.construction.proofs.Compiles.{compiles_once}
use Rattle.judgement.proofs.Answered.{answers_once}
use Rattle.line.specs.CompileLine.{compile_line}
use Rattle.line.specs.VerdictLine.{verdict_line}
use Rattle.line.specs.Standing.{Stands}
use Rattle.line.proofs.Standing.{stands_once}
use Rattle.programs.specs.declared.Answered.{Answered}
use Rattle.programs.specs.CompileText.{image_bytes, AnswersText}
use Rattle.programs.specs.Limit.{SaysLimit, Says}
use Rattle.programs.specs.JudgeWord.{AnswersAt, AnswersWord}
use Rattle.programs.proofs.Answering.{limit_once, limit_or_none}

pub answers_text_once : {text before after after' old line line' : List ℕ} {r r' : Answered}
    → AnswersText text before after old line r
    → AnswersText text before after' old line' r'
    → (after ≡ after') × (line ≡ line') × (r ≡ r')
answers_text_once {old = old} {line' = line'} {r = r} {r' = r'} a b =
    let same = compiles_once a.answer b.answer a.compiles b.compiles in
    let stands = stands_once a.stands (subst (λ (x : Result Sizes Refusal). Stands old line' r'.«line» (compile_line x)) (sym same.1) b.stands) in
    let image = a.image ∙ ap image_bytes same.1 ∙ sym b.image in
    (same.0, stands.1, λ i. record { image = image i; line = stands.0 i })

-- digits say one limit, or none
pub limit_said_once : (digits : List ℕ) (a b : Option ℕ) → Says digits a → Says digits b → a ≡ b
limit_said_once digits (Some m) (Some n) a b = ap Some (limit_once a b)
limit_said_once digits (Some m) None a b = absurd (b m a)
limit_said_once digits None (Some n) a b = absurd (a n b)
limit_said_once digits None None a b = refl

-- the line of what is judged at one limit
answers_at_once : {limit : ℕ} {image word before after after' old line line' : List ℕ} {r r' : ℕ}
    → AnswersAt limit image word before after old line r
    → AnswersAt limit image word before after' old line' r'
    → (after ≡ after') × (line ≡ line') × (r ≡ r')
answers_at_once {old = old} {line' = line'} {r' = r'} a b =
    let same = answers_once a.judges b.judges in
    let stands =
    stands_once a.stands (subst (λ (x : Result Judged Refusal). Stands old line' r' (verdict_line (answer_of x))) (sym same.0) b.stands)
    in
    (same.1, stands.1, stands.0)

pub answers_word_once : {image word digits before after after' old line line' : List ℕ} {r r' : Option ℕ}
    → AnswersWord image word digits before after old line r
    → AnswersWord image word digits before after' old line' r'
    → (after ≡ after') × (line ≡ line') × (r ≡ r')
answers_word_once {image} {word} {digits} {before} {after} {after'} {old} {line} {line'} {r} {r'} a b = by_cases (limit_or_none digits)
  where
    both : (limit : ℕ) (x y : Option ℕ) → IsSomeAnd x (AnswersAt limit image word before after old line)
        → IsSomeAnd y (AnswersAt limit image word before after' old line')
        → (after ≡ after') × (line ≡ line') × (x ≡ y)
    both limit (Some m) (Some n) p q =
        let same = answers_at_once p q in
        (same.0, same.1, ap Some same.2)
    both limit (Some m) None p q = absurd q
    both limit None y p q = absurd p

    by_cases : ((limit : ℕ) × SaysLimit digits limit) ⊎ ((limit : ℕ) → ¬ SaysLimit digits limit) → (after ≡ after') × (line ≡ line') × (r ≡ r')
    by_cases (inl (limit, says)) = both limit r r' (a.answered limit says) (b.answered limit says)
    by_cases (inr none) =
        let x = a.unsaid none in
        let y = b.unsaid none in
        (x.1 ∙ sym y.1, x.2 ∙ sym y.2, x.0 ∙ sym y.0)
