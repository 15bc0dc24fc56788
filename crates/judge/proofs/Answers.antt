-- The questions asked of the finished marks.
use Prim.Native.Nat.{ℕ, ◌+◌, ◌*◌, ◌/◌, ◌≤◌, ◌<◌}
use native.Mathlib.Nat.{zero-div}
use native.Mathlib.Omega.{arith}
use mathlib.Core.Path.{◌≡◌, refl}
use mathlib.Core.List.{List}
use Rattle.std.specs.Prelude.{Option, Some, None, is_some}
use Rattle.bits.specs.Bit.{bit}
use Rattle.bits.proofs.Telling.{tells_yes, tells_no}
use Rattle.table.specs.Table.{Table, Accepting}
use Rattle.bits.specs.Tells.{Tells}
use Rattle.judge.specs.Inside.Search.{situation_of, MarkedAccepts}
use Rattle.ones.specs.Blank.{Blank}
use Rattle.judge.specs.Inside.Inner.{FirstSet, AcceptsIn}

-- a bit in a byte that is 0 is not set
blank_bit : (m : List ℕ) (from to i : ℕ) → Blank m from to → from * 8 ≤ i → i < to * 8 → ¬ (bit m i ≡ 1)
unfolding bit
blank_bit m from to i quiet low high one = omega (arith, rw (quiet.zero (i / 8) (omega arith) (omega arith), zero-div) at one)

-- a state accepts in the marks if it accepts and one of its bits is set
pub accepts_told
    : {t : Table} {m : List ℕ} {state : ℕ} (first : Option ℕ) → state < 128 → Accepting t state → FirstSet m (state * 256) (state * 256 + 256) first
    → Tells (is_some first) (AcceptsIn t m state)
accepts_told (Some bit) low accepting found = tells_yes refl (record {
  mark = bit;
  low = omega (arith, found.high);
  here = omega (arith, found.low, found.high);
  set = found.set;
  accepting = accepting;
})
accepts_told {m = m} {state} None low accepting blank =
    tells_no refl (λ a. let here = a.here in blank_bit m (state * 256) (state * 256 + 256) a.mark blank (omega arith) (omega arith) a.set)

module _ {t : Table} {m : List ℕ} where
  -- and none does if none of the 128 states does
  pub accepted_nowhere : (many : ℕ) → 128 ≤ many → ((s : ℕ) → s < many → ¬ AcceptsIn t m s) → ¬ MarkedAccepts t m
  accepted_nowhere many all none a =
      none (situation_of a.mark).state (omega (arith, a.low)) (record {
        mark = a.mark;
        low = a.low;
        here = refl;
        set = a.set;
        accepting = a.accepting;
      })
