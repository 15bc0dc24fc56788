-- What a bit is after a bit was set or cleared, past the end, in the first bytes, and in bytes that are all 0.
use Prim.Native.Nat.{ℕ, ◌-◌, ◌*◌, ◌/◌, ◌%◌, ◌^◌, ◌≤◌, ◌<◌}
use native.Mathlib.Nat.{zero-div}
use native.Mathlib.Decide.{ℕ_discrete, dec_lt}
use native.Mathlib.Omega.{arith}
use mathlib.Core.Path.{◌≡◌, refl, sym, ap, ◌∙◌}
use mathlib.Core.Logic.{⊎_elim}
use mathlib.Core.List.{List}
use lib.ListN.{length, get_or, set, take, replicate, length-set, length-take, get_or-replicate, length-replicate, get_or-eq_default}
use lib.Seq.{get_or-set_same, get_or-set_other, get_or-take, set_out, set-get_or}
use Rattle.bits.specs.Bit.{bit, with_bit, without_bit, Bytes}
use lib.Bits.{bit_or}
use Rattle.bits.proofs.Digits.{one_shifted, or_number, digit_at_most, digit_cases, cleared_clear, cleared_full}
use Rattle.bits.proofs.Digits.{number_with, number_without, number_set, number_set_other, number_cleared, number_cleared_other, byte_set}

-- byte p of bytes whose byte q was changed has the same digit j, if the change kept it
digit_kept
    : (m : List ℕ) (p q v j : ℕ) → (p ≡ q → v / 2 ^ j % 2 ≡ get_or m q 0 / 2 ^ j % 2)
    → get_or (set m q v) p 0 / 2 ^ j % 2 ≡ get_or m p 0 / 2 ^ j % 2
digit_kept m p q v j kept = by_cases (ℕ_discrete p q) (dec_lt q (length m))
  where
    by_cases : Dec (p ≡ q) → Dec (q < length m) → get_or (set m q v) p 0 / 2 ^ j % 2 ≡ get_or m p 0 / 2 ^ j % 2
    by_cases (yes e) (yes l) = rw (e, get_or-set_same m q v 0 l) (kept e)
    by_cases (yes e) (no n) = rw (set_out m q v (omega arith)) refl
    by_cases (no n) d = rw (get_or-set_other m q p v 0 n) refl

-- the bytes of a changed list, if the change is a byte
bytes_kept : (m : List ℕ) (q v : ℕ) → Bytes m → v < 256 → Bytes (set m q v)
bytes_kept m q v bytes small i = by_cases (ℕ_discrete i q) (dec_lt q (length m))
  where
    by_cases : Dec (i ≡ q) → Dec (q < length m) → get_or (set m q v) i 0 < 256
    by_cases (yes e) (yes l) = rw (e, get_or-set_same m q v 0 l) small
    by_cases (yes e) (no n) = rw (set_out m q v (omega arith)) (bytes i)
    by_cases (no n) d = rw (get_or-set_other m q i v 0 n) (bytes i)

-- a byte past the end is 0, so each of its bits is
pub bit_past : (m : List ℕ) (i : ℕ) → length m ≤ i / 8 → bit m i ≡ 0
unfolding bit
bit_past m i past = rw (get_or-eq_default m 0 past, zero-div) refl

-- a bit that is set is inside
pub bit_inside : (m : List ℕ) (i : ℕ) → bit m i ≡ 1 → i / 8 < length m
bit_inside m i one = elim (dec_lt (i / 8) (length m)) [ yes l ↦ l | no n ↦ absurd (omega (arith, bit_past m i (omega arith))) ]

-- the first bytes have the same bits
pub bit-take : (m : List ℕ) (many i : ℕ) → i < many * 8 → bit (take many m) i ≡ bit m i
unfolding bit
bit-take m many i low = ap (λ (b : ℕ). b / 2 ^ (i % 8) % 2) (get_or-take many m (i / 8) 0 (omega arith))

-- and no others are set
pub bit-take_low : (m : List ℕ) (many i : ℕ) → bit (take many m) i ≡ 1 → i < many * 8
bit-take_low m many i one = omega (arith, bit_inside (take many m) i one, length-take many m)

-- what a bit is in bytes that are all 0
get_or-zeros : (n i : ℕ) → ◌≡◌ {A = ℕ} (get_or (replicate n 0) i 0) 0
get_or-zeros n i =
    elim (dec_lt i n) [
      | yes l ↦ get_or-replicate n i 0 0 l
      | no k ↦ get_or-eq_default (replicate n 0) 0 (omega (arith, length-replicate {A = ℕ} n 0))
    ]

pub bit_zeros : (n i : ℕ) → bit (replicate n 0) i ≡ 0
unfolding bit
bit_zeros n i = rw (get_or-zeros, zero-div) refl

pub bytes_zeros : (n : ℕ) → Bytes (replicate n 0)
bytes_zeros n i = omega (arith, get_or-zeros n i)

module _ (m : List ℕ) where
  -- bit i is set afterwards, if it is inside
  pub bit-set : (i : ℕ) → i / 8 < length m → bit (with_bit m i) i ≡ 1
  unfolding bit with_bit
  bit-set i inside =
      rw (get_or-set_same m (i / 8) (number_with (get_or m (i / 8) 0) (i % 8)) 0 inside) (number_set (get_or m (i / 8) 0) (i % 8))

  -- no other bit changes
  pub bit-set_other : (i j : ℕ) → ¬ (j ≡ i) → bit (with_bit m i) j ≡ bit m j
  unfolding bit with_bit
  bit-set_other i j other =
      digit_kept
      m
      (j / 8)
      (i / 8)
      (number_with (get_or m (i / 8) 0) (i % 8))
      (j % 8)
      (λ (e : j / 8 ≡ i / 8). number_set_other (get_or m (i / 8) 0) (i % 8) (j % 8) (λ (f : j % 8 ≡ i % 8). other (omega arith)))

  -- so a bit that is set stays set
  pub bit-set_kept : (i j : ℕ) → bit m j ≡ 1 → bit (with_bit m i) j ≡ 1
  bit-set_kept i j one = elim (ℕ_discrete j i) [ yes e ↦ rw e (bit-set i (rw e at (bit_inside m j one))) | no n ↦ bit-set_other i j n ∙ one ]

  -- past the end nothing changes
  pub set_past : (i : ℕ) → length m ≤ i / 8 → with_bit m i ≡ m
  unfolding with_bit
  set_past i past = set_out m (i / 8) _ past

  -- the machine's way to set it
  pub set_by_or : (i : ℕ) → set m (i / 8) (bit_or (get_or m (i / 8) 0) (1 * 2 ^ (i % 8) % 256)) ≡ with_bit m i
  unfolding bit with_bit
  set_by_or i = rw (one_shifted, or_number) refl

  pub length-with_bit : (i : ℕ) → length (with_bit m i) ≡ length m
  unfolding with_bit
  length-with_bit i = simp length-set

  pub bytes_with_bit : (i : ℕ) → Bytes m → Bytes (with_bit m i)
  unfolding bit with_bit
  bytes_with_bit i bytes =
      bytes_kept m (i / 8) (number_with (get_or m (i / 8) 0) (i % 8)) bytes (byte_set (get_or m (i / 8) 0) (i % 8) (bytes (i / 8)) (omega arith))

  -- past the end nothing changes
  pub cleared_past : (i : ℕ) → length m ≤ i / 8 → without_bit m i ≡ m
  unfolding without_bit
  cleared_past i past = set_out m (i / 8) _ past

  -- bit i is 0 afterwards
  pub bit_cleared : (i : ℕ) → bit (without_bit m i) i ≡ 0
  bit_cleared i = elim (dec_lt (i / 8) (length m)) [ yes l ↦ inside l | no n ↦ rw (cleared_past i (omega arith)) (bit_past m i (omega arith)) ]
    where
      inside : i / 8 < length m → bit (without_bit m i) i ≡ 0
      inside l = unfold bit without_bit in
          (ap (λ (b : ℕ). b / 2 ^ (i % 8) % 2) (get_or-set_same m (i / 8) (number_without (get_or m (i / 8) 0) (i % 8)) 0 l)
          ∙ number_cleared (get_or m (i / 8) 0) (i % 8))

  -- no other bit changes
  pub bit_cleared_other : (i j : ℕ) → ¬ (j ≡ i) → bit (without_bit m i) j ≡ bit m j
  unfolding bit without_bit
  bit_cleared_other i j other =
      digit_kept
      m
      (j / 8)
      (i / 8)
      (number_without (get_or m (i / 8) 0) (i % 8))
      (j % 8)
      (λ (e : j / 8 ≡ i / 8). number_cleared_other (get_or m (i / 8) 0) (i % 8) (j % 8) (λ (f : j % 8 ≡ i % 8). other (omega arith)))

  -- the machine's way to clear it: 2 ^ k is taken away from a byte that has it, and a byte that has not stays
  pub cleared_enough : (i : ℕ) → bit m i ≡ 1 → 1 * 2 ^ (i % 8) % 256 ≤ get_or m (i / 8) 0
  unfolding bit
  cleared_enough i one = rw one_shifted (digit_at_most (get_or m (i / 8) 0) (i % 8) one)

  pub cleared_by_sub : (i : ℕ) → bit m i ≡ 1 → set m (i / 8) (get_or m (i / 8) 0 - 1 * 2 ^ (i % 8) % 256) ≡ without_bit m i
  unfolding bit without_bit
  cleared_by_sub i one = rw (one_shifted, cleared_full (get_or m (i / 8) 0) (i % 8) one) refl

  pub cleared_already : (i : ℕ) → ¬ (bit m i ≡ 1) → m ≡ without_bit m i
  unfolding bit without_bit
  cleared_already i other =
      ⊎_elim
      (λ (e : get_or m (i / 8) 0 / 2 ^ (i % 8) % 2 ≡ 0). rw (cleared_clear (get_or m (i / 8) 0) (i % 8) e) (sym (set-get_or m (i / 8) 0)))
      (λ (e : get_or m (i / 8) 0 / 2 ^ (i % 8) % 2 ≡ 1). absurd (other e))
      (digit_cases (get_or m (i / 8) 0) (i % 8))

  pub length-without_bit : (i : ℕ) → length (without_bit m i) ≡ length m
  unfolding without_bit
  length-without_bit i = simp length-set
