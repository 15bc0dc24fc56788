-- A number with one of its digits set or cleared, to the base 2.
use Prim.Native.Nat.{ℕ, zero, suc, ◌+◌, ◌-◌, ◌*◌, ◌/◌, ◌%◌, ◌^◌, ◌≤◌, ◌<◌}
use native.Mathlib.Nat.{pow-suc, add-div_right, le-div_iff_mul-le}
use native.Mathlib.Numerals.{one-add}
use native.Mathlib.Decide.{ℕ_discrete}
use native.Mathlib.Omega.{arith}
use mathlib.Core.Path.{◌≡◌, refl, sym, ap, ◌∙◌}
use mathlib.Core.Logic.{◌⊎◌, inl, inr, ⊎_elim}
use lib.Pow.{pow_pos, pow-lt, shl_exact}
use lib.Bits.{bit_and, bit_or, and_high, or_add_and, or_lt}
use Rattle.bits.proofs.Bits.{half_bits}

-- a number with digit k set, and with it cleared
abbrev pub number_with : ℕ → ℕ → ℕ
number_with a k = a + (1 - a / 2 ^ k % 2) * 2 ^ k

abbrev pub number_without : ℕ → ℕ → ℕ
number_without a k = a - a / 2 ^ k % 2 * 2 ^ k

-- a digit is 0 or 1
pub digit_cases : (a k : ℕ) → (a / 2 ^ k % 2 ≡ 0) ⊎ (a / 2 ^ k % 2 ≡ 1)
digit_cases a k = elim (ℕ_discrete (a / 2 ^ k % 2) 0) [ yes e ↦ inl e | no n ↦ inr (omega arith) ]

-- where digit k is 0, adding 2 ^ k makes it 1
added : (a k : ℕ) → a / 2 ^ k % 2 ≡ 0 → (a + 2 ^ k) / 2 ^ k % 2 ≡ 1
added a k clear = omega (arith, add-div_right a (pow_pos k))

-- and changes no other
added_other : (k j a : ℕ) → a / 2 ^ k % 2 ≡ 0 → ¬ (j ≡ k) → (a + 2 ^ k) / 2 ^ j % 2 ≡ a / 2 ^ j % 2
added_other zero zero a clear other = absurd (other refl)
added_other zero (suc j) a clear other =
    let same : (a + 1) / 2 ≡ a / 2 = omega arith in
    ap (λ (x : ℕ). x % 2) (sym (half_bits (a + 1) j) ∙ ap (λ (x : ℕ). x / 2 ^ j) same ∙ half_bits a j)
added_other (suc k) zero a clear other = omega (arith, pow-suc 2 k)
added_other (suc k) (suc j) a clear other =
    let half : (a + 2 ^ suc k) / 2 ≡ a / 2 + 2 ^ k = omega (arith, pow-suc 2 k) in
    let rest = added_other k j (a / 2) (ap (λ (x : ℕ). x % 2) (half_bits a k) ∙ clear) (λ (e : j ≡ k). other (ap suc e)) in
    ap (λ (x : ℕ). x % 2) (sym (half_bits (a + 2 ^ suc k) j) ∙ ap (λ (x : ℕ). x / 2 ^ j) half)
    ∙ rest ∙ ap (λ (x : ℕ). x % 2) (half_bits a j)

-- a number with digit k set
pub set_clear : (a k : ℕ) → a / 2 ^ k % 2 ≡ 0 → number_with a k ≡ a + 2 ^ k
set_clear a k clear = rw clear (omega arith)

pub set_full : (a k : ℕ) → a / 2 ^ k % 2 ≡ 1 → number_with a k ≡ a
set_full a k full = rw full (omega arith)

pub number_set : (a k : ℕ) → number_with a k / 2 ^ k % 2 ≡ 1
number_set a k =
    ⊎_elim
    (λ (e : a / 2 ^ k % 2 ≡ 0). rw (set_clear a k e) (added a k e))
    (λ (e : a / 2 ^ k % 2 ≡ 1). rw (set_full a k e) e)
    (digit_cases a k)

pub number_set_other : (a k j : ℕ) → ¬ (j ≡ k) → number_with a k / 2 ^ j % 2 ≡ a / 2 ^ j % 2
number_set_other a k j other =
    ⊎_elim
    (λ (e : a / 2 ^ k % 2 ≡ 0). rw (set_clear a k e) (added_other k j a e other))
    (λ (e : a / 2 ^ k % 2 ≡ 1). rw (set_full a k e) refl)
    (digit_cases a k)

-- it is what the machine's `or` with 2 ^ k gives
pub or_number : (a k : ℕ) → bit_or a (2 ^ k) ≡ number_with a k
or_number a k =
    let mask : 2 ^ (1 + k) - 2 ^ k ≡ 2 ^ k = rw one-add (omega (arith, pow-suc 2 k)) in
    let both : bit_and a (2 ^ k) ≡ a / 2 ^ k % 2 * 2 ^ k = rw (mask) at (and_high a 1 k) in
    ⊎_elim
    (λ (e : a / 2 ^ k % 2 ≡ 0). rw (set_clear a k e) (omega (arith, or_add_and a (2 ^ k), (rw e at both))))
    (λ (e : a / 2 ^ k % 2 ≡ 1). rw (set_full a k e) (omega (arith, or_add_and a (2 ^ k), (rw e at both))))
    (digit_cases a k)

-- the machine's 1 shifted by at most 7 loses nothing
pub one_shifted : (i : ℕ) → 1 * 2 ^ (i % 8) % 256 ≡ 2 ^ (i % 8)
one_shifted i = shl_exact 1 (i % 8) 8 (omega arith) (omega arith) ∙ omega arith

-- 2 ^ k of a digit that is 1 can be taken away, and then the digit is 0
pub digit_at_most : (a k : ℕ) → a / 2 ^ k % 2 ≡ 1 → 2 ^ k ≤ a
digit_at_most a k full =
    let some : 1 ≤ a / 2 ^ k = omega arith in
    omega (arith, (le-div_iff_mul-le (pow_pos k)).0 some)

taken_clear : (a k : ℕ) → a / 2 ^ k % 2 ≡ 1 → (a - 2 ^ k) / 2 ^ k % 2 ≡ 0
taken_clear a k full =
    let back : a - 2 ^ k + 2 ^ k ≡ a = omega (arith, digit_at_most a k full) in
    omega (arith, (rw back at (add-div_right (a - 2 ^ k) (pow_pos k))))

pub cleared_full : (a k : ℕ) → a / 2 ^ k % 2 ≡ 1 → number_without a k ≡ a - 2 ^ k
cleared_full a k full = rw full (omega arith)

pub cleared_clear : (a k : ℕ) → a / 2 ^ k % 2 ≡ 0 → number_without a k ≡ a
cleared_clear a k clear = rw clear (omega arith)

pub number_cleared : (a k : ℕ) → number_without a k / 2 ^ k % 2 ≡ 0
number_cleared a k =
    ⊎_elim
    (λ (e : a / 2 ^ k % 2 ≡ 0). rw (cleared_clear a k e) e)
    (λ (e : a / 2 ^ k % 2 ≡ 1). rw (cleared_full a k e) (taken_clear a k e))
    (digit_cases a k)

pub number_cleared_other : (a k j : ℕ) → ¬ (j ≡ k) → number_without a k / 2 ^ j % 2 ≡ a / 2 ^ j % 2
number_cleared_other a k j other =
    ⊎_elim
    (λ (e : a / 2 ^ k % 2 ≡ 0). rw (cleared_clear a k e) refl)
    (λ (e : a / 2 ^ k % 2 ≡ 1).
    let back : a - 2 ^ k + 2 ^ k ≡ a = omega (arith, digit_at_most a k e) in
    rw (cleared_full a k e) (sym (rw back at (added_other k j (a - 2 ^ k) (taken_clear a k e) other))))
    (digit_cases a k)

-- a byte stays a byte
pub byte_set : (a k : ℕ) → a < 256 → k < 8 → number_with a k < 256
byte_set a k byte low = rw (← or_number) (or_lt 8 a (2 ^ k) byte (pow-lt low))
