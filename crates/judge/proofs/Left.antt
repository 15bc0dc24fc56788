-- How many situations are not followed yet: the search ends because this falls.
use Prim.Native.Nat.{ℕ, ◌+◌, ◌-◌, ◌≤◌, ◌<◌}
use native.Mathlib.Decide.{ℕ_discrete}
use native.Mathlib.Omega.{arith}
use mathlib.Core.Path.{◌≡◌}
use mathlib.Core.List.{List}
use Rattle.bits.specs.Bit.{bit}
use Rattle.bits.specs.Inside.Sum.{sum_below}
use Rattle.bits.proofs.Bits.{bit-zero_or_one}
use Rattle.bits.proofs.Sum.{sum_at_most, sum_rises}
use Rattle.judge.specs.Inside.Search.{situations, Followed, Keeps}

-- 1 if situation i is followed, else 0
following : List ℕ → ℕ → ℕ
following m i = bit m i - bit m (i + situations)

pub left : List ℕ → ℕ
left m = situations - sum_below (following m) situations

module _ (m : List ℕ) (i : ℕ) where
  following_one : Followed m i → following m i ≡ 1
  unfolding following
  following_one f = omega (arith, f.reached, f.not_pending)

  following_small : following m i ≤ 1
  unfolding following
  following_small = omega (arith, bit-zero_or_one m i)

  following_zero : ¬ Followed m i → following m i ≡ 0
  unfolding following
  following_zero other = by_cases (ℕ_discrete (bit m i) 1) (ℕ_discrete (bit m (i + situations)) 0)
    where
      by_cases : Dec (bit m i ≡ 1) → Dec (bit m (i + situations) ≡ 0) → bit m i - bit m (i + situations) ≡ 0
      by_cases (yes one) (yes none) = absurd (other (record { reached = one; not_pending = none }))
      by_cases (yes one) (no k) = omega (arith, bit-zero_or_one m i)
      by_cases (no k) z = omega (arith, bit-zero_or_one m i)

  followed_or_not : Dec (Followed m i)
  followed_or_not = by_cases (ℕ_discrete (bit m i) 1) (ℕ_discrete (bit m (i + situations)) 0)
    where
      by_cases : Dec (bit m i ≡ 1) → Dec (bit m (i + situations) ≡ 0) → Dec (Followed m i)
      by_cases (yes one) (yes none) = yes (record { reached = one; not_pending = none })
      by_cases (yes one) (no k) = no (λ f. k f.not_pending)
      by_cases (no k) z = no (λ f. k f.reached)

-- where what is followed stays followed and one more situation is, fewer are left
pub left_falls : (m m' : List ℕ) → Keeps m m' → (i : ℕ) → i < situations → ¬ Followed m i → Followed m' i → left m' < left m
unfolding left
left_falls m m' keeps i low before after =
    omega (
      arith,
      sum_rises (following m) (following m') situations more i low (omega (arith, following_zero m i before, following_one m' i after)),
      sum_at_most (following m') (following_small m') situations,
    )
  where
    more : (j : ℕ) → j < situations → following m j ≤ following m' j
    more j lowj = elim (followed_or_not m j) [
      | yes f ↦ omega (arith, following_small m j, following_one m' j (keeps j lowj f))
      | no k ↦ omega (arith, following_zero m j k)
    ]
