-- Judging has one result: the number and the marks are settled by the image, the word, the limit and the marks before.
use Prim.Native.Nat.{ℕ, ◌/◌, ◌%◌, ◌≤◌, ◌<◌}
use native.Mathlib.Nat.{le_refl, add-le-add, mul-le-mul}
use native.Mathlib.Omega.{arith}
use mathlib.Core.Path.{◌≡◌, sym, ap, ap₂, ◌∙◌, subst}
use mathlib.Core.Logic.{◌⊎◌, inl, inr}
use mathlib.Core.List.{List}
use Rattle.bits.specs.Size.{Size}
use Rattle.bits.proofs.Size.{size_once}
use Rattle.table.specs.Table.{Table}
use Rattle.table.specs.WellFormed.{IsImage}
use Rattle.table.specs.Refusal.{First}
use Rattle.table.proofs.Image.{table_once}
use Rattle.table.proofs.Refusal.{Single, Gives, Each, None, Some, NumbersRise, single_at_zero, first_once, first_has, first-none, first_least, each_append, first_split}
use Rattle.machine.specs.Run.{Reach, Accepts}
use Rattle.machine.proofs.Run.{no_everywhere}
use Rattle.judgement.specs.declared.answer.Verdict.{Verdict}
use Rattle.judgement.specs.declared.answer.Verdict.TheVariants.{Yes, No}
use Rattle.judgement.specs.Verdict.{verdict_number, IsVerdict}
use Rattle.judgement.specs.Marks.{Marks}
use Rattle.judgement.specs.Reasons.{input_reasons}
use Rattle.judgement.specs.Judge.{marks_reason, reasons, Judgeable, Answer, judged, refused, answer_number, Judged, Refused, AnswerRight, Judges}
use Rattle.judgement.proofs.Verdict.{verdict_once, verdict_never_zero, verdict_low, verdict_number_once, count_at_most}
use Rattle.judgement.proofs.Marks.{marks_once}
use Rattle.judgement.proofs.Reasons.{input_single, input_none, input_place}

module _ (image word : List ℕ) (limit : ℕ) (before : List ℕ) where
  -- each reason to refuse gives at most one number and place
  pub reasons_single : Each Single (reasons image word limit before)
  reasons_single = each_append Single (input_reasons image word limit) (marks_reason before) (input_single image word limit) (single_at_zero, tt)

  -- what is to be judged has no reason to be refused
  pub no_reason : {t : Table} → Judgeable t image word limit before → None (reasons image word limit before)
  no_reason j =
      each_append (Gives (λ n p. ⊥)) (input_reasons image word limit) (marks_reason before) (input_none image word limit j.admitted) (λ n p r. r.1.1 j.room, tt)

  -- every reason to refuse gives a number from 21 on
  pub reasons_numbered : Each (Gives (λ n p. 21 ≤ n)) (reasons image word limit before)
  reasons_numbered = omega arith

-- and the numbers rise
numbers_rise : (image word : List ℕ) (limit : ℕ) (before : List ℕ) → NumbersRise (reasons image word limit before)
numbers_rise image word limit before = (omega arith, (omega arith, (omega arith, (omega arith, (tt, tt)))))

-- judging refuses in number order: the number that is given is the least of those whose reason holds
pub refused_least
    : {image word : List ℕ} {limit : ℕ} {before after : List ℕ} {n p : ℕ} → Refused image word limit before after n p
    → (m q : ℕ) → Some (reasons image word limit before) m q → n ≤ m
refused_least {image} {word} {limit} {before} {n = n} {p = p} a m q =
    first_least n m p q (reasons image word limit before) (reasons_single image word limit before) (numbers_rise image word limit before) a.first

module _ {image word : List ℕ} {limit : ℕ} {before after after' : List ℕ} where
  -- two refusals give the same number and place and leave the same marks
  refused_once
      : {n m p q : ℕ} → Refused image word limit before after n p → Refused image word limit before after' m q
      → (refused n p ≡ refused m q) × (after ≡ after')
  refused_once a b =
      let same = first_once (reasons image word limit before) (reasons_single image word limit before) a.first b.first in
      (ap₂ refused same.0 same.1, a.unchanged ∙ sym b.unchanged)

  -- two judgements give the same verdict and count and leave the same marks
  judged_once
      : {v v' : Verdict} {c c' : ℕ} → Judged image word limit before after v c → Judged image word limit before after' v' c'
      → (judged v c ≡ judged v' c') × (after ≡ after')
  judged_once {v} {v'} {c} {c'} a b =
      (ap₂ judged (verdict_once a.table word limit v v' a.verdict other.0) (size_once a.count other.1), marks_once a.marks other.2)
    where
      other : IsVerdict a.table word limit v' × Size (Reach a.table word limit) c' × Marks a.table word limit after'
      other =
          subst (λ (t : Table). IsVerdict t word limit v' × Size (Reach t word limit) c' × Marks t word limit after')
          (table_once b.judgeable.admitted.is_image a.judgeable.admitted.is_image) (b.verdict, b.count, b.marks)

  -- what is judged is not refused
  never_both : {v : Verdict} {c n p : ℕ} → Judged image word limit before after v c → ¬ Refused image word limit before after' n p
  never_both a b = first-none _ _ (reasons image word limit before) (no_reason image word limit before a.judgeable) b.first

-- two right answers are equal, and the marks after them too
pub answer_once
    : (image word : List ℕ) (limit : ℕ) (before : List ℕ) {after after' : List ℕ} (a b : Answer)
    → AnswerRight image word limit before after a → AnswerRight image word limit before after' b
    → (a ≡ b) × (after ≡ after')
answer_once image word limit before (judged v c) (judged v' c') a b = judged_once a b
answer_once image word limit before (judged v c) (refused n p) a b = absurd (never_both a b)
answer_once image word limit before (refused n p) (judged v c) a b = absurd (never_both b a)
answer_once image word limit before (refused n p) (refused m q) a b = refused_once a b

-- two results of judging are equal, and so are the marks that they leave
pub judges_once
    : {image word : List ℕ} {limit : ℕ} {before after after' : List ℕ} {r r' : ℕ}
    → Judges image word limit before after r → Judges image word limit before after' r' → (r ≡ r') × (after ≡ after')
judges_once {image} {word} {limit} {before} a b =
    let same = answer_once image word limit before a.answer b.answer a.right b.right in
    (a.number ∙ ap answer_number same.0 ∙ sym b.number, same.1)

-- no right answer has the number 0
answer_never_zero
    : (image word : List ℕ) (limit : ℕ) (before after : List ℕ) (a : Answer) → AnswerRight image word limit before after a → 1 ≤ answer_number a
unfolding answer_number
answer_never_zero image word limit before after (judged v c) a = omega (arith, verdict_never_zero v)
answer_never_zero image word limit before after (refused n p) a =
    omega (arith, first_has (λ n p. 21 ≤ n) (reasons image word limit before) (reasons_numbered image word limit before) a.first)

-- judging never gives 0
pub judges_never_zero
    : {image word : List ℕ} {limit : ℕ} {before after : List ℕ} {r : ℕ} → Judges image word limit before after r → 1 ≤ r
judges_never_zero {image} {word} {limit} {before} {after} a =
    rw a.number (answer_never_zero image word limit before after a.answer a.right)

-- a no is a no at every height of the counter
pub no_at_every_height
    : {image word : List ℕ} {limit : ℕ} {before after : List ℕ} {count : ℕ} → Judged image word limit before after No count
    → {t : Table} → IsImage t image → (M : ℕ) → ¬ Accepts t word M
no_at_every_height {word = word} a is M =
    subst (λ (t : Table). ¬ Accepts t word M) (table_once a.judgeable.admitted.is_image is) (no_everywhere a.verdict.0 a.verdict.1 M)

-- the count of what is judged is below a million
pub count_small
    : {image word : List ℕ} {limit : ℕ} {before after : List ℕ} {v : Verdict} {count : ℕ} → Judged image word limit before after v count → count < 1000000
count_small a =
    let j = a.judgeable in
    omega (
      arith,
      count_at_most j.admitted.is_image.in_range a.count,
      mul-le-mul (mul-le-mul j.admitted.is_image.in_range.few_states (add-le-add j.admitted.short (le_refl 2))) (add-le-add j.admitted.low (le_refl 1)),
    )

-- so the last six digits of the answer's number are the count, and the verdict stands before them
pub number_tells
    : {image word : List ℕ} {limit : ℕ} {before after : List ℕ} {v : Verdict} {count : ℕ} → Judged image word limit before after v count
    → (answer_number (judged v count) / 1000000 ≡ verdict_number v) × (answer_number (judged v count) % 1000000 ≡ count)
unfolding answer_number
number_tells a = let small = count_small a in (omega arith, omega arith)

-- the answer whose number begins with a verdict's is that verdict
answer_says
    : (image word : List ℕ) (limit : ℕ) (before after : List ℕ) (v : Verdict) (a : Answer)
    → AnswerRight image word limit before after a → answer_number a / 1000000 ≡ verdict_number v
    → (count : ℕ) × Judged image word limit before after v count
unfolding answer_number
answer_says image word limit before after v (judged w count) a same =
    let is = verdict_number_once (sym (number_tells a).0 ∙ same) in
    (count, subst (λ (x : Verdict). Judged image word limit before after x count) is a)
answer_says image word limit before after v (refused n p) a same =
    absurd (omega (
      arith,
      verdict_low v,
      first_has (λ n p. 21 ≤ n) (reasons image word limit before) (reasons_numbered image word limit before) a.first,
    ))

module _ {image word : List ℕ} {limit : ℕ} {before after : List ℕ} {r : ℕ} (j : Judges image word limit before after r) where
  -- so where the judge says yes, some run within the limit accepts
  pub says_yes : r / 1000000 ≡ verdict_number Yes → {t : Table} → IsImage t image → Accepts t word limit
  says_yes said is =
      let a = (answer_says image word limit before after Yes j.answer j.right (rw (← j.number) said)).1 in
      subst (λ (t : Table). Accepts t word limit) (table_once a.judgeable.admitted.is_image is) a.verdict

  -- and where it says no, none accepts, however high the counter may go
  pub says_no : r / 1000000 ≡ verdict_number No → {t : Table} → IsImage t image → (M : ℕ) → ¬ Accepts t word M
  says_no said = no_at_every_height (answer_says image word limit before after No j.answer j.right (rw (← j.number) said)).1

-- a place is below a million
first_place_lem : (image word : List ℕ) (limit : ℕ) (before : List ℕ) (n p : ℕ) → First (reasons image word limit before) n p → p < 1000000
first_place_lem image word limit before n p first = by_cases (first_split n p (input_reasons image word limit) (marks_reason before) first)
  where
    by_cases : First (input_reasons image word limit) n p ⊎ (None (input_reasons image word limit) × First (marks_reason before) n p)
        → p < 1000000
    by_cases (inl front) = omega (arith, input_place image word limit n p front)
    by_cases (inr (_, last)) = first_has (λ n p. p < 1000000) (marks_reason before) (λ n p r. omega (arith, r.1.0), tt) last

-- so the number of a refusal tells its own number and its place
pub refused_bounds
    : {image word : List ℕ} {limit : ℕ} {before after : List ℕ} {n p : ℕ} → Refused image word limit before after n p
    → (21 ≤ n) × (p < 1000000)
refused_bounds {image} {word} {limit} {before} a = (
  first_has (λ n p. 21 ≤ n) (reasons image word limit before) (reasons_numbered image word limit before) a.first,
  first_place_lem image word limit before _ _ a.first,
)
