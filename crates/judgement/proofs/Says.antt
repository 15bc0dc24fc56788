-- What the judge's number says of what is judged: each verdict exactly where its definition holds, and whatever the marks held before.
use Prim.Native.Nat.{ℕ, ◌/◌, ◌%◌, ◌<◌}
use native.Mathlib.Omega.{arith}
use mathlib.Core.Path.{◌≡◌, refl, sym, ap, ◌∙◌, subst}
use mathlib.Core.Logic.{◌↔◌, inl, inr}
use mathlib.Core.List.{List}
use lib.ListN.{length}
use Rattle.table.specs.Table.{Table}
use Rattle.table.specs.Refusal.{First}
use Rattle.table.proofs.Image.{table_once}
use Rattle.table.proofs.Refusal.{first_has}
use Rattle.machine.specs.Run.{Accepts, Passes}
use Rattle.judgement.specs.declared.answer.Verdict.{Verdict}
use Rattle.judgement.specs.declared.answer.Verdict.TheVariants.{Yes, No, LimitMet}
use Rattle.judgement.specs.Verdict.{verdict_number, IsVerdict}
use Rattle.judgement.specs.Judge.{reasons, Judgeable, Answer, judged, refused, answer_number, Judged, AnswerRight, Judges}
use Rattle.judgement.proofs.Verdict.{verdict_once, verdict_number_once, verdict_low}
use Rattle.judgement.proofs.Judges.{no_reason, refused_bounds, number_tells, judges_once}

-- an answer that is a verdict, and its number
pub record Given (image word : List ℕ) (limit : ℕ) (before after : List ℕ) (r : ℕ) : Type 0 where
  pub verdict : Verdict
  pub count : ℕ
  pub judged : Judged image word limit before after verdict count
  pub shown : r / 1000000 ≡ verdict_number verdict
  pub counts : r % 1000000 ≡ count

given_of
    : {image word : List ℕ} {limit : ℕ} {before after : List ℕ} {r : ℕ} (v : Verdict) (count : ℕ) → Judged image word limit before after v count
    → r ≡ answer_number (judged v count) → Given image word limit before after r
given_of v count right number = record {
  verdict = v;
  count = count;
  judged = right;
  shown = ap (λ (n : ℕ). n / 1000000) number ∙ (number_tells right).0;
  counts = ap (λ (n : ℕ). n % 1000000) number ∙ (number_tells right).1;
}

module _ (image word : List ℕ) (limit : ℕ) (before after : List ℕ) {r : ℕ} where
  -- what is judged is given a verdict
  judged_given
      : {t : Table} (a : Answer) → Judgeable t image word limit before → AnswerRight image word limit before after a → r ≡ answer_number a
      → Given image word limit before after r
  judged_given (judged v c) fit right number = given_of v c right number
  judged_given (refused n p) fit right number =
      absurd (first_has (λ n p. ⊥) (reasons image word limit before) (no_reason image word limit before fit) right.first)

  -- and so is whatever has a verdict's number
  low_given : (a : Answer) → AnswerRight image word limit before after a → r ≡ answer_number a → r < 4000000 → Given image word limit before after r
  unfolding answer_number
  low_given (judged v c) right number low = given_of v c right number
  low_given (refused n p) right number low = absurd (omega (arith, refused_bounds right))

module _ {image word : List ℕ} {limit : ℕ} {before after : List ℕ} {r : ℕ} (j : Judges image word limit before after r) where
  -- a number below 4,000,000 is a verdict's
  pub below_refusals : r < 4000000 → Given image word limit before after r
  below_refusals = low_given image word limit before after j.answer j.right j.number

  module _ {t : Table} (fit : Judgeable t image word limit before) where
    given : Given image word limit before after r
    given = judged_given image word limit before after j.answer fit j.right j.number

    -- so what is judged is given one
    pub judged_below : r < 4000000
    judged_below = omega (arith, given.shown, verdict_low given.verdict)

    is_given : IsVerdict t word limit given.verdict
    is_given =
        subst (λ (u : Table). IsVerdict u word limit given.verdict) (table_once given.judged.judgeable.admitted.is_image fit.admitted.is_image)
        given.judged.verdict

    -- the judge's number begins with a verdict's exactly where that is the verdict
    pub says_exactly : (v : Verdict) → (r / 1000000 ≡ verdict_number v) ↔ IsVerdict t word limit v
    says_exactly v = (
      λ said. subst (IsVerdict t word limit) (verdict_number_once (sym given.shown ∙ said)) is_given,
      λ is. given.shown ∙ ap verdict_number (verdict_once t word limit given.verdict v is_given is),
    )

    -- 1, yes: some run within the limit accepts
    pub yes_exactly : (r / 1000000 ≡ 1) ↔ Accepts t word limit
    unfolding verdict_number
    yes_exactly = says_exactly Yes

    -- 2, no: none does, and none comes to a step that would pass it
    pub no_exactly : (r / 1000000 ≡ 2) ↔ ((¬ Accepts t word limit) × (¬ Passes t word limit))
    unfolding verdict_number
    no_exactly = says_exactly No

    -- 3, limit met: none does, but some comes to a step that would pass it
    pub limit_met_exactly : (r / 1000000 ≡ 3) ↔ ((¬ Accepts t word limit) × Passes t word limit)
    unfolding verdict_number
    limit_met_exactly = says_exactly LimitMet

-- of the marks before, a refusal looks only at how many bytes they are
same_first
    : (image word : List ℕ) (limit : ℕ) (before before' : List ℕ) (n p : ℕ) → length before ≡ length before'
    → First (reasons image word limit before) n p → First (reasons image word limit before') n p
unfolding First
same_first image word limit before before' n p same (inl r) = inl r
same_first image word limit before before' n p same (inr (a, inl r)) = inr (a, inl r)
same_first image word limit before before' n p same (inr (a, inr (b, inl r))) = inr (a, inr (b, inl r))
same_first image word limit before before' n p same (inr (a, inr (b, inr (c, inl r)))) = inr (a, inr (b, inr (c, inl r)))
same_first image word limit before before' n p same (inr (a, inr (b, inr (c, inr (d, inl r))))) =
    inr (a, inr (b, inr (c, inr (d, inl (r.0, (r.1.0, λ room. r.1.1 (same ∙ room)))))))
same_first image word limit before before' n p same (inr (a, inr (b, inr (c, inr (d, inr (e, none)))))) = absurd none

-- what is judged with one mark buffer, judged with another of its length: the same number, and where it is a verdict's the same bytes
record Relent (image word : List ℕ) (limit : ℕ) (before after : List ℕ) (r : ℕ) : Type 0 where
  pub left : List ℕ
  pub judges : Judges image word limit before left r
  pub same : r < 4000000 → left ≡ after

relent
    : (image word : List ℕ) (limit : ℕ) (before before' after : List ℕ) {r : ℕ} → length before ≡ length before'
    → (a : Answer) → AnswerRight image word limit before after a → r ≡ answer_number a → Relent image word limit before' after r
unfolding answer_number
relent image word limit before before' after same (judged v c) right number =
    let fit = right.judgeable in
    record {
      left = after;
      judges = record {
        answer = judged v c;
        right = record {
          table = right.table;
          judgeable = record { admitted = fit.admitted; room = sym same ∙ fit.room };
          verdict = right.verdict;
          count = right.count;
          marks = right.marks;
        };
        number = number;
      };
      same = λ low. refl;
    }
relent image word limit before before' after same (refused n p) right number = record {
  left = before';
  judges = record {
    answer = refused n p;
    right = record { first = same_first image word limit before before' n p same right.first; unchanged = refl };
    number = number;
  };
  same = λ low. absurd (omega (arith, refused_bounds right));
}

-- the marks' old contents don't matter: with buffers of one length the number is the same, and where it is a verdict's every byte at exit
pub old_marks
    : {image word : List ℕ} {limit : ℕ} {before before' after after' : List ℕ} {r r' : ℕ} → length before ≡ length before'
    → Judges image word limit before after r → Judges image word limit before' after' r'
    → (r ≡ r') × (r < 4000000 → after ≡ after')
old_marks {image} {word} {limit} {before} {before'} {after} same a b =
    let other = relent image word limit before before' after same a.answer a.right a.number in
    let once = judges_once other.judges b in
    (once.0, λ low. sym (other.same low) ∙ once.1)
