-- A bit is 0 or 1, and bytes are told by their bits.
use Prim.Native.Nat.{ℕ, zero, suc, ◌+◌, ◌*◌, ◌/◌, ◌%◌, ◌^◌, ◌<◌, suc-le-suc}
use native.Mathlib.Nat.{pow-suc, zero-lt-suc}
use native.Mathlib.Numerals.{one-add}
use native.Mathlib.Omega.{arith}
use mathlib.Core.Path.{◌≡◌, sym, ◌∙◌}
use mathlib.Core.List.{List}
use lib.ListN.{length, get_or}
use lib.Seq.{ext_get_or}
use lib.Pow.{shr-shr}
use lib.Arith.{digits_div, digits_mod}
use Rattle.bits.specs.Bit.{bit, Bytes}

-- a bit is 0 or 1
pub bit-zero_or_one : (m : List ℕ) (i : ℕ) → bit m i < 2
unfolding bit
bit-zero_or_one m i = omega arith

-- half a number has the bits after the first
pub half_bits : (a j : ℕ) → a / 2 / 2 ^ j ≡ a / 2 ^ suc j
half_bits a j = shr-shr a 1 j ∙ rw one-add

-- two numbers below 2 ^ k with the same bits below k are equal
pub same_number
    : (k : ℕ) {a b : ℕ} → a < 2 ^ k → b < 2 ^ k → ((j : ℕ) → j < k → a / 2 ^ j % 2 ≡ b / 2 ^ j % 2) → a ≡ b
same_number zero la lb same = omega arith
same_number (suc k) {a} {b} la lb same =
    let low : a % 2 ≡ b % 2 = omega (arith, same 0 (zero-lt-suc k)) in
    let rest : (j : ℕ) → j < k → a / 2 / 2 ^ j % 2 ≡ b / 2 / 2 ^ j % 2 = λ j l. simp half_bits (same (suc j) (suc-le-suc l)) in
    let high : a / 2 ≡ b / 2 = same_number k (omega (arith, pow-suc 2 k)) (omega (arith, pow-suc 2 k)) rest in
    omega arith

-- the bits of one byte
pub bit_of_byte : (m : List ℕ) (i j : ℕ) → j < 8 → bit m (i * 8 + j) ≡ get_or m i 0 / 2 ^ j % 2
unfolding bit
bit_of_byte m i j l = rw (digits_div, digits_mod)

-- bytes that are as many and have the same bits are equal
pub same_bits : {m n : List ℕ} → Bytes m → Bytes n → length m ≡ length n → ((i : ℕ) → bit m i ≡ bit n i) → m ≡ n
same_bits {m} {n} bm bn long same =
    ext_get_or 0 m n long (λ i l. same_number 8 (bm i) (bn i) (λ j s. sym (bit_of_byte m i j s) ∙ same (i * 8 + j) ∙ bit_of_byte n i j s))
