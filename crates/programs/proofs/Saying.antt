-- Digits are read from the left: a value so far and the digits behind it say what all of them say.
use Prim.Native.Nat.{ℕ, suc, ◌+◌, ◌*◌, ◌-◌, ◌^◌, ◌≤◌, ◌<◌}
use native.Mathlib.Omega.{arith}
use native.Mathlib.Numerals.{add-one}
use native.Mathlib.Nat.{pow-suc}
use mathlib.Core.Path.{◌≡◌, sym, ap, ◌∙◌, subst}
use mathlib.Core.Bool.{Bool, true, ◌&&◌}
use mathlib.Core.List.{List, []}
use lib.ListN.{length, drop, get_or, drop_of_length-le}
use lib.Seq.{drop-cons}
use lib.Dec.{T}
use borrow.Author.Tests.{le-leb}
use Rattle.bits.specs.Byte.{is_digit}
use Rattle.text.specs.Token.{every}
use Rattle.rule.specs.Limits.{value_from}
use Rattle.programs.specs.Limit.{SaysLimit}

-- after the first i digits: all were digits, the value so far is below the power of ten, and with the rest it gives the whole
pub record Halfway (digits : List ℕ) (value i : ℕ) : Type 0 where
  pub inside : i ≤ length digits
  pub low : value < 10 ^ i
  pub rest : value_from value (drop i digits) ≡ value_from 0 digits
  pub each : every is_digit (drop i digits) ≡ every is_digit digits

-- the next byte is a digit exactly if it is from 48 to 57
digit_true : (b : ℕ) → 48 ≤ b → b ≤ 57 → is_digit b ≡ true
digit_true b low high = simp (le-leb 48 b low, le-leb b 57 high)

module _ (digits : List ℕ) (value i : ℕ) (half : Halfway digits value i) (more : i < length digits) where
  next_each : every is_digit digits ≡ (is_digit (get_or digits i 0) && every is_digit (drop (suc i) digits))
  next_each = sym half.each ∙ ap (every is_digit) (drop-cons digits i 0 more)

  pub halfway_next : (next : ℕ) → 48 ≤ get_or digits i 0 → get_or digits i 0 ≤ 57
      → next ≡ 10 * value + (get_or digits i 0 - 48)
      → Halfway digits next (i + 1)
  unfolding value_from
  halfway_next next low high is =
      let b = get_or digits i 0 in
      let whole : value_from 0 digits ≡ value_from (10 * value + (b - 48)) (drop (suc i) digits) =
      sym half.rest ∙ ap (value_from value) (drop-cons digits i 0 more) in
      let digit = ap (λ (t : Bool). t && every is_digit (drop (suc i) digits)) (digit_true b low high) in
      record {
        inside = omega arith;
        low = rw (add-one i) (rw (pow-suc 10 i) (omega (arith, half.low)));
        rest = rw (add-one i) (ap (λ (n : ℕ). value_from n (drop (suc i) digits)) is ∙ sym whole);
        each = rw (add-one i) (sym (next_each ∙ digit));
      }

-- all of them are read
pub halfway_done : {digits : List ℕ} {value i : ℕ}
    → Halfway digits value i
    → length digits ≤ i
    → 1 ≤ length digits
    → length digits ≤ 3
    → SaysLimit digits value
unfolding value_from
halfway_done {digits} {value} {i} half all some few =
    let none : drop i digits ≡ [] = drop_of_length-le digits all in
    record {
      some = some;
      few = few;
      each = subst T (ap (every is_digit) (sym none) ∙ half.each) tt;
      value = ap (value_from value) (sym none) ∙ half.rest;
    }
