-- A number's digits as a line has them: how they are found from the last one on, and that they are at most 20.
use Prim.Native.Nat.{ℕ, zero, suc, ◌+◌, ◌-◌, ◌/◌, ◌%◌, ◌^◌, ◌≤◌, ◌<◌}
use native.Mathlib.Omega.{arith}
use mathlib.Core.Path.{◌≡◌, refl, sym, ◌∙◌, ap, subst}
use mathlib.Core.Bool.{Bool, true, false}
use mathlib.Core.List.{List, [], ◌∷◌}
use lib.ListN.{length, drop, set}
use lib.Dec.{ltb}
use borrow.Author.Tests.{lt-ltb, le-ltb}
use Rattle.std.proofs.Common.{add-one}
use Rattle.std.proofs.lemmas.Grind.{drop-set_at}
use Rattle.line.specs.Decimal.{digits, decimal}

-- the digits of a number: the last one, or one behind those of a tenth
pub digits_last : (most n : ℕ) (rest : List ℕ) → n < 10 → digits (suc most) n rest ≡ (n + 48) ∷ rest
unfolding digits
digits_last most n rest low =
    ap (λ (t : Bool). elim t [ true ↦ (n + 48) ∷ rest | false ↦ digits most (n / 10) ((n % 10 + 48) ∷ rest) ]) (lt-ltb n 10 low)

pub digits_more : (most n : ℕ) (rest : List ℕ) → 10 ≤ n → digits (suc most) n rest ≡ digits most (n / 10) ((n % 10 + 48) ∷ rest)
unfolding digits
digits_more most n rest high =
    ap (λ (t : Bool). elim t [ true ↦ (n + 48) ∷ rest | false ↦ digits most (n / 10) ((n % 10 + 48) ∷ rest) ]) (le-ltb n 10 high)

-- a tenth of a number of two digits and more has a digit fewer
pub less_tenth : (k n : ℕ) → 10 ≤ n → n < 10 ^ k → (1 < k) × (n / 10 < 10 ^ (k - 1))
less_tenth zero n high low = absurd (omega arith)
less_tenth (suc zero) n high low = absurd (omega arith)
less_tenth (suc (suc k)) n high low =
    let one : suc (suc k) - 1 ≡ suc k = omega arith in
    (omega arith, subst (λ (m : ℕ). n / 10 < 10 ^ m) (sym one) (omega arith))

-- digits that are written from the end of a buffer on: one more, and the first
pub digits_step : (start k n : ℕ) (buffer : List ℕ) → start ≡ suc k → k < length buffer → 10 ≤ n
    → digits k (n / 10) (drop k (set buffer k (n % 10 + 48))) ≡ digits start n (drop start buffer)
digits_step start k n buffer is within high =
    ap (digits k (n / 10)) (drop-set_at buffer k k (n % 10 + 48) refl within ∙ ap (λ (m : ℕ). (n % 10 + 48) ∷ drop m buffer) (add-one k))
    ∙ sym (digits_more k n (drop (suc k) buffer) high)
    ∙ ap (λ (m : ℕ). digits m n (drop m buffer)) (sym is)

pub digits_first : (start k n : ℕ) (buffer : List ℕ) → start ≡ suc k → k < length buffer → n < 10
    → drop k (set buffer k (n + 48)) ≡ digits start n (drop start buffer)
digits_first start k n buffer is within low =
    drop-set_at buffer k k (n + 48) refl within
    ∙ ap (λ (m : ℕ). (n + 48) ∷ drop m buffer) (add-one k)
    ∙ sym (digits_last k n (drop (suc k) buffer) low)
    ∙ ap (λ (m : ℕ). digits m n (drop m buffer)) (sym is)

-- they are at most 20
digits_short : (most n : ℕ) (rest : List ℕ) → length (digits most n rest) ≤ most + length rest
unfolding digits
digits_short zero n rest = omega arith
digits_short (suc most) n rest = by_cases (ltb n 10) (digits_short most (n / 10) ((n % 10 + 48) ∷ rest))
  where
    by_cases : (t : Bool)
        → length (digits most (n / 10) ((n % 10 + 48) ∷ rest)) ≤ most + length ((n % 10 + 48) ∷ rest)
        → length {A = ℕ} (elim t [ true ↦ (n + 48) ∷ rest | false ↦ digits most (n / 10) ((n % 10 + 48) ∷ rest) ]) ≤ suc most + length rest
    by_cases true h = omega arith
    by_cases false h = omega arith

pub decimal_short : (n : ℕ) → length (decimal n) ≤ 20
decimal_short n = digits_short 20 n []
