-- Looking for a letter, and adding one.
use Prim.Native.Nat.{ℕ}
use native.Mathlib.Decide.{ℕ_discrete}
use native.Mathlib.Omega.{arith}
use mathlib.Core.Path.{◌≡◌, refl, sym, ap, ap₂, ◌∙◌}
use mathlib.Core.Bool.{Bool, true, false, ◌||◌}
use mathlib.Core.List.{List, [], ◌∷◌, ◌++◌}
use lib.ListN.{length}
use lib.Seq.{length-take-le}
use lib.Dec.{leb, eqb}
use borrow.Author.Tests.{eq-eqb, ne_eqb, le-leb, lt-leb}
use Rattle.std.specs.List.{list_any}
use Rattle.rule.specs.Limits.{is_in}
use Rattle.rule.specs.Inside.Machine.{with_letter, excess}
use Rattle.reader.specs.Inside.Answers.{totals, alphabet_of}
use Rattle.reader.specs.declared.answers.Counts.{Counts}
use Rattle.reader.specs.declared.letters.Letters.{Letters}

eqb_turned : (a b : ℕ) → eqb a b ≡ eqb b a
eqb_turned a b = by_cases (ℕ_discrete a b)
  where
    by_cases : Dec (a ≡ b) → eqb a b ≡ eqb b a
    by_cases (yes e) = eq-eqb a b e ∙ sym (eq-eqb b a (sym e))
    by_cases (no h) = ne_eqb a b h ∙ sym (ne_eqb b a (λ e. h (sym e)))

-- whether a letter is among some
pub any_is_in : (b : ℕ) (l : List ℕ) → list_any (λ y. eqb y b) l ≡ is_in b l
unfolding is_in
any_is_in b [] = refl
any_is_in b (x ∷ l) = ap₂ (λ (s t : Bool). s || t) (eqb_turned x b) (any_is_in b l)

-- the alphabet has as many letters as are counted
pub alphabet_length : (l : Letters) → length (alphabet_of l) ≡ l.count
alphabet_length l = length-take-le l.count l.bytes (omega (arith, l.few, l.room))

module _ (b : ℕ) (l : Letters) where
  pub repeated : is_in b (alphabet_of l) ≡ true → excess b (alphabet_of l) ≡ true
  repeated e = ap (λ (t : Bool). t || leb 16 (length (alphabet_of l))) e

  pub seventeenth : is_in b (alphabet_of l) ≡ false → l.count ≡ 16 → excess b (alphabet_of l) ≡ true
  seventeenth e full =
      ap (λ (t : Bool). t || leb 16 (length (alphabet_of l))) e
      ∙ le-leb 16 (length (alphabet_of l)) (omega (arith, alphabet_length l))

  pub another : is_in b (alphabet_of l) ≡ false → ¬ (l.count ≡ 16) → excess b (alphabet_of l) ≡ false
  another e room =
      ap (λ (t : Bool). t || leb 16 (length (alphabet_of l))) e
      ∙ lt-leb 16 (length (alphabet_of l)) (omega (arith, alphabet_length l, l.few))

pub with_letter_lem : (b : ℕ) (l m : Letters) (c : Counts) → alphabet_of m ≡ alphabet_of l ++ (b ∷ []) → with_letter b (totals (alphabet_of l) c) ≡ totals (alphabet_of m) c
with_letter_lem b l m c e = ap (λ (a : List ℕ). totals a c) (sym e)
