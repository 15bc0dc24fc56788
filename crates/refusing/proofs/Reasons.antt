-- Each reason where none before it holds, and what is admitted where none does.
use Prim.Native.Nat.{ℕ, ◌≤◌, ◌<◌}
use native.Mathlib.Omega.{arith}
use mathlib.Core.Path.{◌≡◌, refl, sym, ap, subst}
use mathlib.Core.Logic.{inl, inr}
use mathlib.Core.List.{List, Memᴰ}
use lib.ListN.{length, get_or}
use Rattle.table.specs.Table.{Table}
use Rattle.table.specs.WellFormed.{IsImage, WellFormed}
use Rattle.std.specs.Prelude.{Result, Ok, Err, ⊤}
use Rattle.table.specs.Refusal.{because, at_zero, First, number_of}
use Rattle.table.specs.declared.reason.Reason.TheVariants.{Malformed, LongWord, OtherLetter, HighLimit}
use Rattle.table.specs.declared.reason.Refusal.{Refusal}
use Rattle.table.specs.Fields.{table_of}
use Rattle.table.proofs.Encoded.{image_table}
use Rattle.table.proofs.Refusal.{first_once, first_has, first-none}
use Rattle.checker.specs.Check.{Checked, well_formed, malformed, answer_of, CheckedRight, Answers}
use Rattle.judgement.specs.Reasons.{FirstOutside, input_reasons}
use Rattle.table.proofs.Reasons.{refusal_once}
use Rattle.judgement.proofs.Reasons.{same_letters, input_single, input_none, input_numbered, input_place}
use Rattle.refusing.specs.Asking.{Asks}
use Rattle.refusing.specs.Inside.Letters.{OtherAt}

-- a check that has nothing to say found the image of a table, which is what its fields say
checked_as : (image : List ℕ) (a : Checked) → CheckedRight image a → Ok tt ≡ answer_of a → IsImage (table_of image) image
unfolding answer_of
checked_as image well_formed is same = subst (λ (t : Table). IsImage t image) (sym (image_table is.1)) is.1
checked_as image malformed not same = cc

pub checked_yes : {image : List ℕ} → Answers image (Ok tt) → IsImage (table_of image) image
checked_yes {image} c = checked_as image c.answer c.right c.is

-- any other did not, and says so
checked_not : (image : List ℕ) {refusal : Refusal} (a : Checked) → CheckedRight image a → Err refusal ≡ answer_of a
    → (¬ WellFormed image) × (refusal ≡ record { reason = Malformed; place = 0 })
unfolding answer_of
checked_not image well_formed is same = cc
checked_not image malformed not same = (not, cc)

pub checked_no : {image : List ℕ} {refusal : Refusal} → Answers image (Err refusal)
    → (¬ WellFormed image) × (refusal ≡ record { reason = Malformed; place = 0 })
checked_no {image} c = checked_not image c.answer c.right c.is

module _ (image w : List ℕ) (limit : ℕ) where
  pub refused_image : {refusal : Refusal} → Answers image (Err refusal) → Asks image w limit (Err refusal)
  unfolding First
  refused_image c = let no = checked_no c in rw no.1 (record { right = inl (refl, (refl, no.0)) })

  module _ (is : IsImage (table_of image) image) where
    not_image : (n p : ℕ) → ¬ at_zero 21 (¬ WellFormed image) n p
    not_image n p r = r.1.1 (table_of image, is)

    pub refused_word : 62 < length w → Asks image w limit (Err (record { reason = LongWord; place = 0 }))
    unfolding First
    refused_word long = record { right = inr (not_image, inl (refl, (refl, long))) }

    module _ (short : length w ≤ 62) where
      not_word : (n p : ℕ) → ¬ at_zero 22 (62 < length w) n p
      not_word n p r = omega arith

      pub refused_letter : {at : ℕ} → OtherAt image w at → Asks image w limit (Err (record { reason = OtherLetter; place = at }))
      unfolding First
      refused_letter {at} first =
          let here : FirstOutside image w at =
          record { table = table_of image; is_image = is; inside = first.inside; outside = first.outside; before = first.before } in
          record { right = inr (not_image, inr (not_word, inl (refl, here))) }

      module _ (letters : (i : ℕ) → i < length w → Memᴰ (get_or w i 0) (table_of image).alphabet) where
        not_letter : (n p : ℕ) → ¬ because 23 (FirstOutside image w) n p
        not_letter n p r = r.1.outside (same_letters is r.1.is_image (letters p r.1.inside))

        pub refused_limit : 31 < limit → Asks image w limit (Err (record { reason = HighLimit; place = 0 }))
        unfolding First
        refused_limit high = record { right = inr (not_image, inr (not_word, inr (not_letter, inl (refl, (refl, high))))) }

        -- none of these
        pub admitted : limit ≤ 31 → Asks image w limit (Ok tt)
        admitted low =
            record { right = record { is_image = is; short = short; letters = letters; low = low } }

-- asking has one answer
pub asks_once : {image w : List ℕ} {limit : ℕ} (a b : Result ⊤ Refusal) → Asks image w limit a → Asks image w limit b → a ≡ b
asks_once (Ok a) (Ok b) x y = refl
asks_once {image} {w} {limit} (Ok a) (Err e) x y =
    absurd (first-none (number_of e.reason) e.place (input_reasons image w limit) (input_none image w limit x.right) y.right)
asks_once {image} {w} {limit} (Err e) (Ok b) x y =
    absurd (first-none (number_of e.reason) e.place (input_reasons image w limit) (input_none image w limit y.right) x.right)
asks_once {image} {w} {limit} (Err e) (Err f) x y =
    let same = first_once (input_reasons image w limit) (input_single image w limit) x.right y.right in
    ap (λ (r : Refusal). Err r) (refusal_once same.0 same.1)

-- a refusal's number is 21 to 24, and its place is below 62
pub asks_small
    : {image w : List ℕ} {limit : ℕ} {refusal : Refusal} → Asks image w limit (Err refusal)
    → (21 ≤ number_of refusal.reason) × (number_of refusal.reason ≤ 24) × (refusal.place ≤ 61)
asks_small {image} {w} {limit} {refusal} asks =
    let numbered = first_has (λ n p. (21 ≤ n) × (n ≤ 24)) (input_reasons image w limit) (input_numbered image w limit) asks.right in
    (numbered.0, numbered.1, omega (arith, input_place image w limit (number_of refusal.reason) refusal.place asks.right))
