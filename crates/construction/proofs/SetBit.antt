-- With the bits of a list of states set, the bits of those states are 1 and every other is as it was, and bytes stay bytes.
use Prim.Native.Nat.{ℕ, ◌/◌, ◌<◌}
use native.Mathlib.Omega.{arith}
use mathlib.Core.Path.{◌≡◌, refl, sym, ◌∙◌}
use mathlib.Core.Logic.{◌⊎◌, inl, inr}
use mathlib.Core.Bool.{Bool, true, false, true≢false}
use mathlib.Core.List.Memᴰ
use mathlib.Core.List.{List, [], ◌∷◌, Memᴰ}
use lib.ListN.{length, replicate, length-replicate}
use Rattle.table.specs.Form.{accepting_bytes}
use Rattle.bits.specs.Bit.{bit, with_bit, Bytes}
use Rattle.bits.proofs.Change.{bit_zeros, bit-set, bit-set_other, bit-set_kept, length-with_bit, bytes_with_bit}
use Rattle.rule.specs.Limits.{is_in}
use Rattle.rule.proofs.Within.{is_in-mem, mem-is_in}
use Rattle.construction.specs.Construction.{with_bits}

all_still_set : (ss m : List ℕ) (j : ℕ) → bit m j ≡ 1 → bit (with_bits m ss) j ≡ 1
unfolding with_bits
all_still_set [] m j one = one
all_still_set (s ∷ ss) m j one = all_still_set ss (with_bit m s) j (bit-set_kept m s j one)

-- with the bits of a list of states set, the bit of each of them is 1
pub bits_in : (ss m : List ℕ) (s : ℕ) → s / 8 < length m → Memᴰ s ss → bit (with_bits m ss) s ≡ 1
unfolding with_bits
bits_in [] m s h mem = absurd (Memᴰ.not-nil mem)
bits_in (x ∷ xs) m s h mem = by_cases (Memᴰ.cases_cons mem) (bits_in xs (with_bit m x) s (rw length-with_bit h))
  where
    by_cases : (s ≡ x) ⊎ Memᴰ s xs → (Memᴰ s xs → bit (with_bits (with_bit m x) xs) s ≡ 1) → bit (with_bits (with_bit m x) xs) s ≡ 1
    by_cases (inl e) rest = all_still_set xs (with_bit m x) s (rw e (bit-set m x (rw e at h)))
    by_cases (inr d) rest = rest d

-- and every other bit is as it was
pub bits_out : (ss m : List ℕ) (s : ℕ) → ¬ Memᴰ s ss → bit (with_bits m ss) s ≡ bit m s
unfolding with_bits
bits_out [] m s absent = refl
bits_out (x ∷ xs) m s absent =
    bits_out xs (with_bit m x) s (λ mem. absent (Memᴰ.tail mem)) ∙ bit-set_other m x s (λ e. absent (Memᴰ.head e))

-- as many bytes as before
pub length-with_bits : (ss m : List ℕ) → length (with_bits m ss) ≡ length m
unfolding with_bits
length-with_bits [] m = refl
length-with_bits (x ∷ xs) m = length-with_bits xs (with_bit m x) ∙ length-with_bit m x

-- and bytes still
pub bytes_with_bits : (ss m : List ℕ) → Bytes m → Bytes (with_bits m ss)
unfolding with_bits
bytes_with_bits [] m h = h
bytes_with_bits (x ∷ xs) m h = bytes_with_bits xs (with_bit m x) (bytes_with_bit m x h)

-- with zeros to begin with, the bit of every other state is 0
pub bits_zero : (ss : List ℕ) (n s : ℕ) → ¬ Memᴰ s ss → bit (with_bits (replicate n 0) ss) s ≡ 0
bits_zero ss n s absent = bits_out ss (replicate n 0) s absent ∙ bit_zeros n s

-- so a bit that is 1 is that of a state of the list
pub bits_only : (ss : List ℕ) (n s : ℕ) → bit (with_bits (replicate n 0) ss) s ≡ 1 → Memᴰ s ss
bits_only ss n s one = by_cases (is_in s ss) refl
  where
    by_cases : (t : Bool) → is_in s ss ≡ t → Memᴰ s ss
    by_cases true found = is_in-mem s ss found
    by_cases false found =
        let none : bit (with_bits (replicate n 0) ss) s ≡ 0 = bits_zero ss n s (λ m. true≢false (sym (mem-is_in s ss m) ∙ found)) in
        absurd (omega arith)

-- the sixteen accept bytes are sixteen, whichever bits are set
pub length_accept : (accepting : List ℕ) → length (with_bits (replicate accepting_bytes 0) accepting) ≡ accepting_bytes
length_accept accepting = length-with_bits accepting (replicate {A = ℕ} accepting_bytes 0) ∙ length-replicate {A = ℕ} accepting_bytes 0
