-- A program reads one byte more than a text or an image may have, and no further: the answer to those bytes is the answer to all.
use Prim.Native.Nat.{ℕ, ◌≤◌, ◌<◌}
use native.Mathlib.Omega.{arith}
use native.Mathlib.Decide.{dec_lt}
use mathlib.Core.Path.{refl, sym, subst}
use mathlib.Core.Logic.{inl, inr}
use mathlib.Core.List.{List}
use lib.ListN.{length, take}
use lib.Seq.{take_all, length-take-le}
use Rattle.table.specs.WellFormed.{WellFormed}
use Rattle.table.specs.Refusal.{First}
use Rattle.table.proofs.Image.{length-encode}
use Rattle.construction.specs.Compile as Compile
use Rattle.construction.specs.Compile.{Compiles}
use Rattle.std.specs.Prelude.{Result, Ok, Err}
use Rattle.table.specs.Refusal.{number_of}
use Rattle.table.specs.declared.reason.Refusal.{Refusal}
use Rattle.construction.specs.declared.Sizes.{Sizes}
use Rattle.judgement.specs.declared.answer.Judged.{Judged}
use Rattle.judgement.specs.Judge as Judge
use Rattle.judgement.specs.Judge.{Judges}

-- two texts that are both too long are refused alike
first_long : (short long before : List ℕ) → 4096 < length short → 4096 < length long → (n p : ℕ)
    → First (Compile.reasons short before) n p
    → First (Compile.reasons long before) n p
unfolding First
first_long short long before s l n p (inl (number, (place, _))) = inl (number, (place, l))
first_long short long before s l n p (inr (none, _)) = absurd (none 1 0 (refl, (refl, s)))

long_alike : {short long before after : List ℕ} (answer : Result Sizes Refusal) → 4096 < length short → 4096 < length long
    → Compiles short before after answer
    → Compiles long before after answer
long_alike (Ok sizes) s l c = absurd (omega (arith, c.right.compilable.short))
long_alike {short} {long} {before} (Err r) s l c =
    record { right = record { first = first_long short long before s l (number_of r.reason) r.place c.right.first; unchanged = c.right.unchanged } }

-- the first 4,097 bytes of an input
pub enough_of_a_text : (input : List ℕ) {before after : List ℕ} {answer : Result Sizes Refusal}
    → Compiles (take 4097 input) before after answer
    → Compiles input before after answer
enough_of_a_text input {before} {after} {answer} c = by_cases (dec_lt 4097 (length input))
  where
    by_cases : Dec (4097 < length input) → Compiles input before after answer
    by_cases (yes long) = long_alike answer (omega (arith, length-take-le 4097 input (omega arith))) (omega arith) c
    by_cases (no short) = subst (λ (t : List ℕ). Compiles t before after answer) (take_all 4097 input (omega arith)) c

-- an image has at most 8,246 bytes
image_short : {image : List ℕ} → WellFormed image → length image ≤ 8246
image_short (t, is) =
    subst (λ (i : List ℕ). length i ≤ 8246) (sym is.encoded)
    (omega (arith, length-encode t, is.in_range.sixteen, is.in_range.few_letters, is.in_range.few_rows))

-- two files that are both too long are refused alike
first_longer : (short long word before : List ℕ) (limit : ℕ) → 8246 < length short → 8246 < length long → (n p : ℕ)
    → First (Judge.reasons short word limit before) n p
    → First (Judge.reasons long word limit before) n p
unfolding First
first_longer short long word before limit s l n p (inl (number, (place, _))) =
    inl (number, (place, λ well. omega (arith, image_short well)))
first_longer short long word before limit s l n p (inr (none, _)) =
    absurd (none 21 0 (refl, (refl, λ well. omega (arith, image_short well))))

longer_alike : (short long word before after : List ℕ) (limit : ℕ) (answer : Judge.Answer) → 8246 < length short → 8246 < length long
    → Judge.AnswerRight short word limit before after answer
    → Judge.AnswerRight long word limit before after answer
longer_alike short long word before after limit (Judge.judged v count) s l j =
    absurd (omega (arith, image_short (j.table, j.judgeable.admitted.is_image)))
longer_alike short long word before after limit (Judge.refused n p) s l j =
    record { first = first_longer short long word before limit s l n p j.first; unchanged = j.unchanged }

-- the first 8,247 bytes of a file
pub enough_of_an_image : (file word : List ℕ) {limit : ℕ} {before after : List ℕ} {result : ℕ}
    → Judges (take 8247 file) word limit before after result
    → Judges file word limit before after result
enough_of_an_image file word {limit} {before} {after} {result} j = by_cases (dec_lt 8247 (length file))
  where
    by_cases : Dec (8247 < length file) → Judges file word limit before after result
    by_cases (yes long) =
        record {
          answer = j.answer;
          right =
              longer_alike (take 8247 file) file word before after limit j.answer
              (omega (arith, length-take-le 8247 file (omega arith))) (omega arith) j.right;
          number = j.number;
        }
    by_cases (no short) = subst (λ (i : List ℕ). Judges i word limit before after result) (take_all 8247 file (omega arith)) j

-- and so it is of the judge's answer in code
pub enough_for_an_answer : (file word : List ℕ) {limit : ℕ} {before after : List ℕ} {answer : Result Judged Refusal}
    → Judge.Answers (take 8247 file) word limit before after answer
    → Judge.Answers file word limit before after answer
enough_for_an_answer file word {limit} {before} {after} {answer} j = by_cases (dec_lt 8247 (length file))
  where
    by_cases : Dec (8247 < length file) → Judge.Answers file word limit before after answer
    by_cases (yes long) =
        record {
          right =
              longer_alike (take 8247 file) file word before after limit (Judge.answer_of answer)
              (omega (arith, length-take-le 8247 file (omega arith))) (omega arith) j.right;
        }
    by_cases (no short) = subst (λ (i : List ℕ). Judge.Answers i word limit before after answer) (take_all 8247 file (omega arith)) j
