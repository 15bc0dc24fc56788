-- A number's form and value, by how many digits there are.
use Prim.Native.Nat.{ℕ, zero, suc, ◌+◌, ◌*◌, ◌-◌, ◌≤◌, ◌<◌}
use native.Mathlib.Omega.{arith}
use native.Mathlib.Nat.{zero-add}
use native.Mathlib.Decide.{dec_lt}
use mathlib.Core.Path.{◌≡◌, refl, sym, ap, ap₂, ◌∙◌}
use mathlib.Core.Bool.{Bool, true, not, ◌&&◌}
use mathlib.Core.List.{List, [], ◌∷◌}
use lib.ListN.{length, get_or}
use lib.Dec.{T, leb, ltb, leb→le}
use borrow.Author.Tests.{lt-ltb, le-ltb, le-leb, lt-leb, eq-eqb, ne_eqb}
use Rattle.bits.specs.Byte.{is_digit}
use Rattle.bits.proofs.Tests.{and_left, and_right, and_of}
use Rattle.text.specs.Token.{every, number, Spells, a_number}
use Rattle.rule.specs.Limits.{in_form, value_from}
use Rattle.rule.specs.Inside.Machine.{outside}

-- a digit is from 48 to 57
pub digit_bounds : (b : ℕ) → T (is_digit b) → (48 ≤ b) × (b ≤ 57)
digit_bounds b t = (leb→le 48 b (and_left (leb 48 b) (leb b 57) t), leb→le b 57 (and_right (leb 48 b) (leb b 57) t))

pub digit_at : (l : List ℕ) (i : ℕ) → T (every is_digit l) → i < length l → T (is_digit (get_or l i 0))
digit_at [] i t h = absurd (omega arith)
digit_at (d ∷ l) zero t h = and_left (is_digit d) (every is_digit l) t
digit_at (d ∷ l) (suc i) t h = digit_at l i (and_right (is_digit d) (every is_digit l) t) (omega arith)

not-leb : (a b : ℕ) → ltb b a ≡ not (leb a b)
not-leb a b = by_cases (dec_lt b a)
  where
    by_cases : Dec (b < a) → ltb b a ≡ not (leb a b)
    by_cases (yes h) = lt-ltb b a h ∙ sym (ap not (lt-leb a b h))
    by_cases (no h) = le-ltb b a (omega arith) ∙ sym (ap not (le-leb a b (omega arith)))

module _ (g : ℕ) where
  -- one digit
  pub one_digit : (l : List ℕ) → length l ≡ 1 → (v : ℕ) → v ≡ get_or l 0 0 - 48 → ltb g v ≡ outside g l
  unfolding in_form value_from
  one_digit [] e v h = absurd (omega arith)
  one_digit (d ∷ []) e v h = not-leb v g ∙ ap (λ (n : ℕ). not (leb n g)) (h ∙ sym (zero-add (d - 48)))
  one_digit (d ∷ f ∷ l) e v h = absurd (omega arith)

  pub many_digits : (l : List ℕ) → ¬ (length l ≡ 1) → ¬ (length l ≡ 2) → true ≡ outside g l
  unfolding in_form
  many_digits [] h i = refl
  many_digits (d ∷ []) h i = absurd (h refl)
  many_digits (d ∷ f ∷ []) h i = absurd (i refl)
  many_digits (d ∷ f ∷ k ∷ l) h i = refl

  pub leading_zero : (l : List ℕ) → length l ≡ 2 → get_or l 0 0 ≡ 48 → true ≡ outside g l
  unfolding in_form value_from
  leading_zero [] e h = absurd (omega arith)
  leading_zero (d ∷ []) e h = absurd (omega arith)
  leading_zero (d ∷ f ∷ []) e h = sym (ap (λ (t : Bool). not (not t && leb (value_from 0 (d ∷ f ∷ [])) g)) (eq-eqb d 48 h))
  leading_zero (d ∷ f ∷ k ∷ l) e h = refl

  pub two_digits : (l : List ℕ)
      → length l ≡ 2
      → ¬ (get_or l 0 0 ≡ 48)
      → (v w : ℕ)
      → v ≡ get_or l 0 0 - 48
      → w ≡ get_or l 1 0 - 48
      → ltb g (10 * v + w) ≡ outside g l
  unfolding in_form value_from
  two_digits [] e n v w h i = absurd (omega arith)
  two_digits (d ∷ []) e n v w h i = absurd (omega arith)
  two_digits (d ∷ f ∷ []) e n v w h i =
      not-leb (10 * v + w) g
      ∙ ap₂ (λ (t : Bool) (m : ℕ). not (not t && leb m g)) (sym (ne_eqb d 48 n)) (ap₂ (λ (a b : ℕ). 10 * a + b) (h ∙ sym (zero-add (d - 48))) i)
  two_digits (d ∷ f ∷ k ∷ l) e n v w h i = absurd (omega arith)

spells_digits : {l n : List ℕ} → Spells l (number n) → T (every is_digit l)
spells_digits (a_number {b = b} {bs = bs} t u) = and_of (is_digit b) (every is_digit bs) t u
