-- What the programs answer, put together from the answer that compiling or judging gives, the line, and the limit that was said.
use Prim.Native.Nat.{ℕ, ◌<◌}
use native.Mathlib.Omega.{arith}
use native.Mathlib.Decide.{dec_lt}
use mathlib.Core.Path.{◌≡◌, refl, sym, ap, ◌∙◌, subst}
use mathlib.Core.Logic.{◌⊎◌, inl, inr}
use mathlib.Core.Bool.{Bool, true, false, true≢false}
use mathlib.Core.List.{List}
use lib.ListN.{length, drop}
use lib.Dec.{T}
use Rattle.construction.specs.Compile.{Compiles}
use Rattle.std.specs.Prelude.{Option, Some, None, Result, Ok, Err, IfSome, is_some}
use Rattle.table.specs.declared.reason.Refusal.{Refusal}
use Rattle.construction.specs.declared.Sizes.{Sizes}
use Rattle.judgement.specs.declared.answer.Judged.{Judged}
use Rattle.construction.specs.Construction.{construct}
use Rattle.bits.specs.Byte.{is_digit}
use Rattle.text.specs.Token.{every}
use Rattle.table.specs.Image.{encode}
use Rattle.judgement.specs.Judge.{Answers, answer_of}
use Rattle.line.specs.CompileLine.{compile_line}
use Rattle.line.specs.VerdictLine.{verdict_line}
use Rattle.line.specs.Standing.{Stands}
use Rattle.line.proofs.Standing.{IsPrefixLen, front_counts, stands_counts}
use Rattle.programs.specs.declared.Answered.{Answered}
use Rattle.programs.specs.CompileText.{image_bytes, AnswersText}
use Rattle.programs.specs.Limit.{SaysLimit}
use Rattle.programs.specs.JudgeWord.{AnswersAt, AnswersWord}

-- the line of an answer that compiling allows
pub answers_text : {text before after old line : List ℕ} {end : ℕ} (answer : Result Sizes Refusal) (k : Option ℕ)
    → Compiles text before after answer
    → Stands old line end (compile_line answer)
    → k ≡ image_bytes answer
    → AnswersText text before after old line (record { image = k; line = end })
answers_text answer k compiles stands image = record { answer = answer; compiles = compiles; image = image; stands = stands }

pub answers_at : {limit : ℕ} {image word before after old line : List ℕ} {end : ℕ} {answer : Result Judged Refusal}
    → Answers image word limit before after answer
    → Stands old line end (verdict_line (answer_of answer))
    → AnswersAt limit image word before after old line end
answers_at {answer = answer} judges stands = record { answer = answer; judges = judges; stands = stands }

-- digits say one limit
pub limit_once : {digits : List ℕ} {limit limit' : ℕ} → SaysLimit digits limit → SaysLimit digits limit' → limit ≡ limit'
limit_once a b = a.value ∙ sym b.value

-- whether digits say a limit is decided
pub limit_or_none : (digits : List ℕ) → ((limit : ℕ) × SaysLimit digits limit) ⊎ ((limit : ℕ) → ¬ SaysLimit digits limit)
limit_or_none digits = by_cases (dec_lt 0 (length digits)) (dec_lt 3 (length digits)) (every is_digit digits) refl
  where
    by_cases : Dec (0 < length digits) → Dec (3 < length digits) → (t : Bool) → every is_digit digits ≡ t
        → ((limit : ℕ) × SaysLimit digits limit) ⊎ ((limit : ℕ) → ¬ SaysLimit digits limit)
    by_cases (no none) long t is = inr (λ limit s. none (omega (arith, s.some)))
    by_cases (yes some) (yes long) t is = inr (λ limit s. omega (arith, s.few))
    by_cases (yes some) (no short) false is = inr (λ limit s. subst T is s.each)
    by_cases (yes some) (no short) true is =
        inl (_, record { some = omega arith; few = omega arith; each = subst T (sym is) tt; value = refl })

pub answers_said : {image word digits before after old line : List ℕ} {end : ℕ} (limit : ℕ)
    → SaysLimit digits limit
    → AnswersAt limit image word before after old line end
    → AnswersWord image word digits before after old line (Some end)
answers_said {image} {word} {digits} {before} {after} {old} {line} {end} limit this answers =
    record {
      answered = λ other says_other.
          subst (λ (l : ℕ). AnswersAt l image word before after old line end) (limit_once this says_other) answers;
      unsaid = λ none. absurd (none limit this);
    }

-- so many bytes are a number of the image buffer's and of the line's
image_counts : {text before after : List ℕ} (answer : Result Sizes Refusal) → Compiles text before after answer
    → IfSome (image_bytes answer) (λ n. IsPrefixLen n after)
unfolding image_bytes
image_counts {before = before} (Ok sizes) c =
    front_counts (encode (construct c.right.program)) (drop sizes.bytes before) c.right.image c.right.bytes_are
image_counts (Err refusal) c = tt

pub text_counts : {text before after old line : List ℕ} {r : Answered}
    → AnswersText text before after old line r
    → IfSome r.«image» (λ n. IsPrefixLen n after) × IsPrefixLen r.«line» line
text_counts {after = after} a =
    (subst (λ (n : Option ℕ). IfSome n (λ k. IsPrefixLen k after)) (sym a.image) (image_counts a.answer a.compiles), stands_counts a.stands)

pub word_counts : {image word digits before after old line : List ℕ} {r : Option ℕ} → AnswersWord image word digits before after old line r
    → IfSome r (λ n. IsPrefixLen n line)
word_counts {digits = digits} {line = line} {r = Some n} a = by_cases (limit_or_none digits)
  where
    by_cases : ((limit : ℕ) × SaysLimit digits limit) ⊎ ((limit : ℕ) → ¬ SaysLimit digits limit) → IsPrefixLen n line
    by_cases (inl (limit, says)) = stands_counts (a.answered limit says).stands
    by_cases (inr none) = absurd (true≢false (ap is_some (a.unsaid none).0))
word_counts {r = None} a = tt

pub image_counted : {text before after old line : List ℕ} {r : Answered} {n : ℕ} → AnswersText text before after old line r → r.«image» ≡ Some n
    → IsPrefixLen n after
image_counted {after = after} a some = subst (λ (o : Option ℕ). IfSome o (λ k. IsPrefixLen k after)) some (text_counts a).0
