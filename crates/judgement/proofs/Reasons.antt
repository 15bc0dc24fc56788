-- The reasons 21 to 24: each gives one number and place, and none holds of what is admitted. An entry that has more reasons lists
-- them behind these, and proves nothing of these again.
use Prim.Native.Nat.{ℕ, ◌≤◌, ◌<◌}
use native.Mathlib.Omega.{arith}
use mathlib.Core.Path.{◌≡◌, refl, subst}
use mathlib.Core.Logic.{inl, inr}
use mathlib.Core.List.{List, Memᴰ}
use Rattle.table.specs.Table.{Table}
use Rattle.table.specs.WellFormed.{IsImage}
use Rattle.table.specs.Refusal.{First}
use Rattle.table.proofs.Image.{table_once}
use Rattle.table.proofs.Refusal.{Single, Gives, Each, None, single_because, single_at_zero}
use Rattle.judgement.specs.Reasons.{FirstOutside, input_reasons, Admitted}

-- a letter of the one table of an image is a letter of the other
pub same_letters
    : {image : List ℕ} {t u : Table} {x : ℕ} → IsImage t image → IsImage u image → Memᴰ x t.alphabet → Memᴰ x u.alphabet
same_letters {x = x} a b = subst (λ (t : Table). Memᴰ x t.alphabet) (table_once a b)

-- the first byte that is no letter does not stand before another first one
not-before : {image word : List ℕ} {p q : ℕ} → FirstOutside image word p → FirstOutside image word q → ¬ (p < q)
not-before {p = p} a b before = a.outside (same_letters b.is_image a.is_image (b.before p before))

-- the first byte that is no letter stands at one index
first_outside_once : {image word : List ℕ} {p q : ℕ} → FirstOutside image word p → FirstOutside image word q → p ≡ q
first_outside_once a b = omega (arith, not-before a b, not-before b a)

-- where every byte of a word is a letter, none is the first that is not
all_letters : {t : Table} {image word : List ℕ} {limit p : ℕ} → Admitted t image word limit → ¬ FirstOutside image word p
all_letters {p = p} a f = f.outside (same_letters a.is_image f.is_image (a.letters p f.inside))

module _ (image word : List ℕ) (limit : ℕ) where
  -- each reason gives at most one number and place
  pub input_single : Each Single (input_reasons image word limit)
  input_single = (single_at_zero, (single_at_zero, (single_because (λ p q. first_outside_once), (single_at_zero, tt))))

  -- what is admitted has no reason to be refused
  pub input_none : {t : Table} → Admitted t image word limit → None (input_reasons image word limit)
  input_none {t} a =
      (λ n p r. r.1.1 (t, a.is_image), (λ n p r. omega arith, (λ n p r. all_letters a r.1, (λ n p r. omega arith, tt))))

  -- the numbers are 21 to 24
  pub input_numbered : Each (Gives (λ n p. (21 ≤ n) × (n ≤ 24))) (input_reasons image word limit)
  input_numbered = (
    λ n p r. (omega (arith, r.0), omega (arith, r.0)),
    (
      λ n p r. (omega (arith, r.0), omega (arith, r.0)),
      (λ n p r. (omega (arith, r.0), omega (arith, r.0)), (λ n p r. (omega (arith, r.0), omega (arith, r.0)), tt)),
    ),
  )

  -- and a place is 0, or in a word that is not too long
  pub input_place : (n p : ℕ) → First (input_reasons image word limit) n p → p < 62
  unfolding First
  input_place n p (inl r) = omega (arith, r.1.0)
  input_place n p (inr (_, inl r)) = omega (arith, r.1.0)
  input_place n p (inr (_, inr (short, inl r))) =
      let most : ¬ (62 < _) = λ long. short 22 0 (refl, (refl, long)) in
      omega (arith, r.1.inside)
  input_place n p (inr (_, inr (_, inr (_, inl r)))) = omega (arith, r.1.0)
  input_place n p (inr (_, inr (_, inr (_, inr (_, none))))) = absurd none
