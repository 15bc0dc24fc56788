-- The lowest bit of a byte that is not 0, and the first in bytes.
use Prim.Native.Nat.{ℕ, zero, suc, ◌+◌, ◌*◌, ◌/◌, ◌%◌, ◌^◌, ◌≤◌, ◌<◌, suc-le-suc}
use native.Mathlib.Nat.{pow-suc, zero-lt-suc}
use native.Mathlib.Omega.{arith}
use native.Mathlib.Numerals.{one-add}
use mathlib.Core.Path.{◌≡◌, refl, ◌∙◌}
use mathlib.Core.List.{List}
use lib.ListN.{get_or}
use lib.Count.{count_trailing_zeros, under}
use lib.Pow.{shr-shr}
use Rattle.bits.proofs.Bits.{bit_of_byte}
use Rattle.judge.specs.Inside.Inner.{SetIn}

-- half a number has the digits after the first
half_digits : (n j : ℕ) → n / 2 / 2 ^ j ≡ n / 2 ^ suc j
half_digits n j = shr-shr n 1 j ∙ rw one-add

-- the lowest digit of a number that is set
pub record Lowest (k n place : ℕ) : Type 0 where
  pub low : place < k
  pub set : n / 2 ^ place % 2 ≡ 1

lowest_from : (d k n t : ℕ) → n % 2 ≡ d → n < 2 ^ suc k → 0 < n → (0 < n / 2 → Lowest k (n / 2) t) → Lowest (suc k) n (under d t)
lowest_from zero k n t even low some rest =
    let half = rest (omega arith) in
    record { low = suc-le-suc half.low; set = rw (← half_digits n t) half.set }
lowest_from (suc d) k n t odd low some rest = record { low = zero-lt-suc k; set = omega arith }

pub lowest_set : (k n : ℕ) → n < 2 ^ k → 0 < n → Lowest k n (count_trailing_zeros k n)
unfolding count_trailing_zeros
lowest_set zero n low some = absurd (omega arith)
lowest_set (suc k) n low some =
    lowest_from (n % 2) k n (count_trailing_zeros k (n / 2)) refl low some (λ more. lowest_set k (n / 2) (omega (arith, pow-suc 2 k)) more)

-- a bit that is set stands in a byte that is not 0
pub set_here
    : (m : List ℕ) (from at to place : ℕ) → from ≤ at → at < to → place < 8 → get_or m at 0 / 2 ^ place % 2 ≡ 1 → SetIn m from to (at * 8 + place)
set_here m from at to place ahead inside low set =
    record { low = omega arith; high = omega arith; set = bit_of_byte m at place low ∙ set }
