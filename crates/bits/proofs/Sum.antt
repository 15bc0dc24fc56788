-- Laws of a sum over the numbers below n.
use Prim.Native.Nat.{ℕ, zero, suc, ◌+◌, ◌≤◌, ◌<◌, zero-le}
use native.Mathlib.Nat.{le_refl, add-zero, add-suc, eq-or-lt_of_le, le_of_suc-le-suc}
use native.Mathlib.Omega.{arith}
use mathlib.Core.Path.{◌≡◌, refl, ap₂, subst}
use mathlib.Core.Logic.{⊎_elim}
use Rattle.bits.specs.Inside.Sum.{sum_below}

-- it is at most n, where the function is at most 1
pub sum_at_most : (f : ℕ → ℕ) → ((j : ℕ) → f j ≤ 1) → (n : ℕ) → sum_below f n ≤ n
unfolding sum_below
sum_at_most f one zero = zero-le
sum_at_most f one (suc n) = omega (arith, one n, sum_at_most f one n)

-- a sum from below, and a sum from there on
pub sum_more : (f : ℕ → ℕ) (n k : ℕ) → sum_below f (n + k) ≡ sum_below (λ (j : ℕ). f (n + j)) k + sum_below f n
unfolding sum_below
sum_more f n zero = rw add-zero (omega arith)
sum_more f n (suc k) = rw add-suc (omega (arith, sum_more f n k))

-- the first term, and the others
pub sum_first : (f : ℕ → ℕ) (n : ℕ) → sum_below f (suc n) ≡ f 0 + sum_below (λ (j : ℕ). f (suc j)) n
unfolding sum_below
sum_first f zero = refl
sum_first f (suc n) = omega (arith, sum_first f n)

-- equal terms, equal sums
pub sum_same : (f g : ℕ → ℕ) (n : ℕ) → ((j : ℕ) → j < n → f j ≡ g j) → sum_below f n ≡ sum_below g n
unfolding sum_below
sum_same f g zero same = refl
sum_same f g (suc n) same =
    ap₂ (λ (x y : ℕ). x + y) (same n (le_refl (suc n))) (sum_same f g n (λ j l. same j (omega arith)))

-- it does not fall with the function
sum_grows : (f g : ℕ → ℕ) (n : ℕ) → ((j : ℕ) → j < n → f j ≤ g j) → sum_below f n ≤ sum_below g n
unfolding sum_below
sum_grows f g zero more = zero-le
sum_grows f g (suc n) more = omega (arith, more n (le_refl (suc n)), sum_grows f g n (λ j l. more j (omega arith)))

-- and rises where the function rises somewhere
pub sum_rises : (f g : ℕ → ℕ) (n : ℕ) → ((j : ℕ) → j < n → f j ≤ g j) → (i : ℕ) → i < n → f i < g i → sum_below f n < sum_below g n
unfolding sum_below
sum_rises f g zero more i low rise = absurd (omega arith)
sum_rises f g (suc n) more i low rise =
    ⊎_elim
    (λ (e : i ≡ n). omega (arith, subst (λ (k : ℕ). f k < g k) e rise, sum_grows f g n (λ j l. more j (omega arith))))
    (λ (l : i < n). omega (arith, more n (le_refl (suc n)), sum_rises f g n (λ j l'. more j (omega arith)) i l rise))
    (eq-or-lt_of_le (le_of_suc-le-suc low))
