-- What judging promises, for every image, word, limit and mark buffer.
use Rattle.std.specs.Prelude.{ℕ, ◌+◌, ◌*◌, ◌≡◌, ◌≢◌, List, [], ◌∷◌, ◌++◌, length, Result, Ok, Err}
use Rattle.bits.specs.Size.{Size}
use Rattle.table.specs.Table.{Table}
use Rattle.table.specs.Refusal.{Reason, at_zero, First, refusal, number_of}
use Rattle.table.specs.declared.reason.Refusal.{Refusal}
use Rattle.judgement.specs.declared.answer.Judged.{Judged as Given}
use Rattle.machine.specs.Run.{Reach}
use Rattle.judgement.specs.declared.answer.Verdict.{Verdict}
use Rattle.judgement.specs.Verdict.{verdict_number, IsVerdict}
use Rattle.judgement.specs.Marks.{mark_bytes, Marks}
use Rattle.judgement.specs.Reasons.{input_reasons, Admitted}

-- 25
abbrev pub marks_reason : List ℕ → List {1} Reason
marks_reason marks = at_zero 25 (length marks ≢ mark_bytes) ∷ []

-- the reasons to refuse, in number order
abbrev pub reasons : List ℕ → List ℕ → ℕ → List ℕ → List {1} Reason
reasons image word limit marks = input_reasons image word limit ++ marks_reason marks

-- what is judged: a well-formed table, a word of up to 62 of its letters, a limit 0 to 31 and 65,536 mark bytes
pub record Judgeable (t : Table) (image word : List ℕ) (limit : ℕ) (marks : List ℕ) : Type 0 where
  pub admitted : Admitted t image word limit
  pub room : length marks ≡ mark_bytes

pub data Answer : Type 0 where
  -- a verdict and its count
  judged : Verdict → ℕ → Answer
  -- a number and its place
  refused : ℕ → ℕ → Answer

unfoldable pub answer_number : Answer → ℕ
answer_number (judged verdict count) = verdict_number verdict * 1000000 + count
answer_number (refused number place) = refusal number place

pub record Judged (image word : List ℕ) (limit : ℕ) (before after : List ℕ) (v : Verdict) (c : ℕ) : Type 0 where
  pub table : Table
  pub judgeable : Judgeable table image word limit before
  pub verdict : IsVerdict table word limit v
  pub count : Size (Reach table word limit) c
  pub marks : Marks table word limit after

pub record Refused (image word : List ℕ) (limit : ℕ) (before after : List ℕ) (number place : ℕ) : Type 0 where
  pub first : First (reasons image word limit before) number place
  pub unchanged : after ≡ before

abbrev pub AnswerRight : List ℕ → List ℕ → ℕ → List ℕ → List ℕ → Answer → Type 0
AnswerRight image word limit before after (judged verdict count) = Judged image word limit before after verdict count
AnswerRight image word limit before after (refused number place) = Refused image word limit before after number place

pub record Judges (image word : List ℕ) (limit : ℕ) (before after : List ℕ) (result : ℕ) : Type 0 where
  pub answer : Answer
  pub right : AnswerRight image word limit before after answer
  pub number : result ≡ answer_number answer

-- the answer that a judge gives: a verdict and its count, or a refusal
abbrev pub answer_of : Result Given Refusal → Answer
answer_of (Ok answer) = judged answer.verdict answer.count
answer_of (Err refusal) = refused (number_of refusal.reason) refusal.place

-- it is right, with these marks before and after
pub record Answers (image word : List ℕ) (limit : ℕ) (before after : List ℕ) (result : Result Given Refusal) : Type 0 where
  pub right : AnswerRight image word limit before after (answer_of result)
