-- When digits are 0.
use Prim.Native.Nat.{ℕ, ◌+◌, ◌*◌, ◌-◌}
use native.Mathlib.Omega.{arith}
use native.Mathlib.Decide.{ℕ_discrete}
use mathlib.Core.Path.{◌≡◌, refl, sym, ap, ap₂, ◌∙◌}
use mathlib.Core.Bool.{Bool, false, not, ◌&&◌}
use mathlib.Core.List.{List, [], ◌∷◌}
use lib.ListN.{length, get_or}
use lib.Dec.{T, leb, eqb}
use borrow.Author.Tests.{le-leb, lt-leb, eq-eqb, ne_eqb}
use Rattle.bits.specs.Byte.{is_digit}
use Rattle.text.specs.Token.{every}
use Rattle.rule.specs.Limits.{in_form, value_from}
use Rattle.rule.proofs.Machine.Digits.{digit_bounds, digit_at}

-- one digit is 0 or is not
pub one_zero : (l : List ℕ) → T (every is_digit l) → length l ≡ 1 → eqb (get_or l 0 0) 48 ≡ (in_form l && leb (value_from 0 l) 0)
unfolding in_form value_from
one_zero [] t e = absurd (omega arith)
one_zero (d ∷ []) t e = by_cases (ℕ_discrete d 48)
  where
    by_cases : Dec (d ≡ 48) → eqb d 48 ≡ leb (10 * 0 + (d - 48)) 0
    by_cases (yes zero) = eq-eqb d 48 zero ∙ sym (le-leb (10 * 0 + (d - 48)) 0 (omega arith))
    by_cases (no more) =
        let low = (digit_bounds d (digit_at (d ∷ []) 0 t (omega arith))).0 in
        ne_eqb d 48 more ∙ sym (lt-leb (10 * 0 + (d - 48)) 0 (omega arith))
one_zero (d ∷ f ∷ l) t e = absurd (omega arith)

-- more than one are not, since the first of two is none
pub more_not_zero : (l : List ℕ) → T (every is_digit l) → ¬ (length l ≡ 1) → false ≡ (in_form l && leb (value_from 0 l) 0)
unfolding in_form value_from
more_not_zero [] t e = refl
more_not_zero (d ∷ []) t e = absurd (e refl)
more_not_zero (d ∷ f ∷ []) t e = by_cases (ℕ_discrete d 48)
  where
    by_cases : Dec (d ≡ 48) → false ≡ (not (eqb d 48) && leb (10 * (10 * 0 + (d - 48)) + (f - 48)) 0)
    by_cases (yes zero) = sym (ap (λ (b : Bool). not b && leb (10 * (10 * 0 + (d - 48)) + (f - 48)) 0) (eq-eqb d 48 zero))
    by_cases (no more) =
        let low = (digit_bounds d (digit_at (d ∷ f ∷ []) 0 t (omega arith))).0 in
        sym (ap₂ (λ (a b : Bool). not a && b) (ne_eqb d 48 more) (lt-leb (10 * (10 * 0 + (d - 48)) + (f - 48)) 0 (omega arith)))
more_not_zero (d ∷ f ∷ k ∷ l) t e = refl
