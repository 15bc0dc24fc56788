-- What the verdict program answers to an image, a word and the digits of a limit.
use Rattle.std.specs.Prelude.{ℕ, ◌≡◌, List, Option, None, Result, IsSomeAnd}
use Rattle.table.specs.declared.reason.Refusal.{Refusal}
use Rattle.judgement.specs.declared.answer.Judged.{Judged}
use Rattle.judgement.specs.Judge.{Answers, answer_of}
use Rattle.line.specs.VerdictLine.{verdict_line}
use Rattle.line.specs.Standing.{Stands}
use Rattle.programs.specs.Limit.{SaysLimit}

-- the line of what judging at a limit answers
pub record AnswersAt (limit : ℕ) (image word before after old line : List ℕ) (r : ℕ) : Type 0 where
  pub answer : Result Judged Refusal
  pub judges : Answers image word limit before after answer
  pub stands : Stands old line r (verdict_line (answer_of answer))

-- at the limit that the digits say; and where they say none, no line, and no byte of a buffer changed
pub record AnswersWord (image word digits before after old line : List ℕ) (r : Option ℕ) : Type 0 where
  pub answered : (limit : ℕ) → SaysLimit digits limit → IsSomeAnd r (AnswersAt limit image word before after old line)
  pub unsaid : ((limit : ℕ) → ¬ SaysLimit digits limit) → (r ≡ None) × (after ≡ before) × (line ≡ old)
