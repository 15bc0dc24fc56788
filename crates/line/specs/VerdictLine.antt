-- The verdict program's line: `yes`, `no` or `limit met`, and the count; or `refused`, number, place, and what the number means.
use Rattle.std.specs.Prelude.{ℕ, ◌/◌, ◌%◌, cond, List, ◌++◌, eqb}
use Rattle.bits.specs.Byte.{spelling}
use Rattle.judgement.specs.declared.answer.Verdict.{Verdict}
use Rattle.judgement.specs.declared.answer.Verdict.TheVariants.{Yes, No, LimitMet}
use Rattle.judgement.specs.Judge.{Answer, judged, refused}
use Rattle.line.specs.Decimal.{decimal}

unfoldable pub verdict_word : Verdict → List ℕ
verdict_word Yes = spelling "yes"
verdict_word No = spelling "no"
verdict_word LimitMet = spelling "limit met"

-- what a refusal's number means. The last is for 25, and for a number that no refusal has.
unfoldable pub meaning : ℕ → List ℕ
meaning number =
    cond (eqb number 21) (spelling "the file is not the image of a table")
    (cond (eqb number 22) (spelling "the word has more than 62 letters")
    (cond (eqb number 23) (spelling "the word's letter at this place is not in the alphabet")
    (cond (eqb number 24) (spelling "the limit is above 31")
    (spelling "the mark buffer has another length"))))

unfoldable pub verdict_line : Answer → List ℕ
verdict_line (judged verdict count) = verdict_word verdict ++ (spelling " " ++ (decimal count ++ spelling "\n"))
verdict_line (refused number place) =
    spelling "refused "
    ++ (decimal number ++ (spelling " " ++ (decimal place ++ (spelling " " ++ (meaning number ++ spelling "\n")))))

-- the answer with this number, of a verdict or a refusal, and this count or place
unfoldable pub answer_with : ℕ → ℕ → Answer
answer_with number value =
    cond (eqb number 1) (judged Yes value)
    (cond (eqb number 2) (judged No value)
    (cond (eqb number 3) (judged LimitMet value)
    (refused number value)))

-- the answer that a result of judging stands for: its last six digits are the count or the place
abbrev pub answer_of : ℕ → Answer
answer_of result = answer_with (result / 1000000) (result % 1000000)
