-- A reason is known by its number, and a refusal by its number and place.
use Prim.Native.Nat.{ℕ}
use mathlib.Core.Path.{◌≡◌, refl, sym, ap, ◌∙◌}
use mathlib.Core.Bool.{cond}
use lib.Dec.{eqb}
use Rattle.table.specs.Refusal.{number_of}
use Rattle.table.specs.declared.reason.Reason.{Reason}
use Rattle.table.specs.declared.reason.Reason.TheVariants as Named
use Rattle.table.specs.declared.reason.Refusal.{Refusal}

-- the reason with a number
abbrev pub named : ℕ → Reason
named n =
    cond (eqb n 1) Named.LongText
    (cond (eqb n 2) Named.ShortImage
    (cond (eqb n 3) Named.NoToken
    (cond (eqb n 4) Named.Misplaced
    (cond (eqb n 5) Named.Alphabet
    (cond (eqb n 6) Named.OutsideAlphabet
    (cond (eqb n 7) Named.Number
    (cond (eqb n 8) Named.Depth
    (cond (eqb n 9) Named.Arms
    (cond (eqb n 10) Named.States
    (cond (eqb n 11) Named.Rows
    (cond (eqb n 21) Named.Malformed
    (cond (eqb n 22) Named.LongWord
    (cond (eqb n 23) Named.OtherLetter
    (cond (eqb n 24) Named.HighLimit Named.MarkBytes))))))))))))))

pub named_number : (r : Reason) → named (number_of r) ≡ r
named_number Named.LongText = refl
named_number Named.ShortImage = refl
named_number Named.NoToken = refl
named_number Named.Misplaced = refl
named_number Named.Alphabet = refl
named_number Named.OutsideAlphabet = refl
named_number Named.Number = refl
named_number Named.Depth = refl
named_number Named.Arms = refl
named_number Named.States = refl
named_number Named.Rows = refl
named_number Named.Malformed = refl
named_number Named.LongWord = refl
named_number Named.OtherLetter = refl
named_number Named.HighLimit = refl
named_number Named.MarkBytes = refl

-- reasons with one number are equal
pub number_of_once : {a b : Reason} → number_of a ≡ number_of b → a ≡ b
number_of_once {a} {b} same = sym (named_number a) ∙ ap named same ∙ named_number b

-- and refusals with one number and place
pub refusal_once : {a b : Refusal} → number_of a.reason ≡ number_of b.reason → a.place ≡ b.place → a ≡ b
refusal_once {a} {b} number place =
    let same = number_of_once number in
    λ i. record { reason = same i; place = place i }
