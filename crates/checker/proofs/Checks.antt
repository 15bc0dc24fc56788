-- A check's number is settled by the image, is never 0, and tells whether the image is well formed.
use Prim.Native.Nat.{ℕ, ◌+◌, ◌*◌, ◌≤◌}
use native.Mathlib.Omega.{arith}
use mathlib.Core.Path.{◌≡◌, refl, sym, ap, ◌∙◌}
use mathlib.Core.List.{List}
use Rattle.std.specs.Prelude.{Result, Ok, Err, ⊤}
use Rattle.table.specs.Refusal.{number_of}
use Rattle.table.specs.declared.reason.Reason.TheVariants.{Malformed}
use Rattle.table.specs.declared.reason.Refusal.{Refusal}
use Rattle.checker.specs.Check.{Checked, well_formed, malformed, checked_number, CheckedRight, Checks, answer_of, Answers}

-- an image has one right answer
answer_once : (image : List ℕ) (a b : Checked) → CheckedRight image a → CheckedRight image b → a ≡ b
answer_once image well_formed well_formed is is' = refl
answer_once image well_formed malformed is not = absurd (not is)
answer_once image malformed well_formed not is = absurd (not is)
answer_once image malformed malformed not not' = refl

-- two checks of an image give the same number
pub checks_once : {image : List ℕ} {r r' : ℕ} → Checks image r → Checks image r' → r ≡ r'
checks_once {image} a b = a.number ∙ ap checked_number (answer_once image a.answer b.answer a.right b.right) ∙ sym b.number

-- no answer has the number 0
some_number : (a : Checked) → 1 ≤ checked_number a
unfolding checked_number
some_number well_formed = omega arith
some_number malformed = omega arith

-- a check never gives 0
pub checks_never_zero : {image : List ℕ} {r : ℕ} → Checks image r → 1 ≤ r
checks_never_zero a = rw a.number (some_number a.answer)

-- the number of a right answer is what checking promises
pub answers_well : {image : List ℕ} → Answers image (Ok tt) → Checks image 1
unfolding answer_of checked_number
answers_well {image} a = well_number a.answer a.right a.is
  where
    well_number : (c : Checked) → CheckedRight image c → Ok tt ≡ answer_of c → Checks image 1
    well_number well_formed right is = record { answer = well_formed; right = right; number = refl }
    well_number malformed right is = cc

pub answers_refused
    : {image : List ℕ} {refusal : Refusal} → Answers image (Err refusal)
    → (refusal.place ≡ 0) × Checks image (number_of refusal.reason * 1000000 + refusal.place)
unfolding answer_of checked_number
answers_refused {image} {refusal} a = refused_number a.answer a.right a.is
  where
    refused_number : (c : Checked) → CheckedRight image c → Err refusal ≡ answer_of c
        → (refusal.place ≡ 0) × Checks image (number_of refusal.reason * 1000000 + refusal.place)
    refused_number well_formed right is = cc
    refused_number malformed right is =
        let same : refusal ≡ record { reason = Malformed; place = 0 } = cc in
        rw same (refl, record { answer = malformed; right = right; number = refl })

-- two right answers are equal
pub answers_once : {image : List ℕ} {a b : Result ⊤ Refusal} → Answers image a → Answers image b → a ≡ b
answers_once {image} x y = x.is ∙ ap answer_of (answer_once image x.answer y.answer x.right y.right) ∙ sym y.is
