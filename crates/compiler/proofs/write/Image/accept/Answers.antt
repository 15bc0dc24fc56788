use Prim.Native.Nat.{ℕ, ◌+◌, ◌-◌}
use native.Mathlib.Omega.{arith}
use mathlib.Core.Path.{◌≡◌, refl}
use Rattle.table.specs.Form.{accepting_place, accepting_bytes}
use Rattle.compiler.proofs.Writing.{held_long, marks_bit}
use Rattle.compiler.proofs.write.Image.accept.Goals as goal

sixteen : (n : ℕ) → accepting_place n + accepting_bytes - accepting_place n ≡ accepting_bytes
sixteen n = omega arith

pub returns : goal.returns
returns c =
    record {
      marks = marks_bit _ _ _ _ _ _ _ c.letters-from.ensures refl (sixteen c.letters-from.result) c.set_bit.ensures refl;
      row = refl;
      out = refl;
    }

pub slice_bounds-set_bit-end : goal.slice_bounds-set_bit-end
slice_bounds-set_bit-end c =
    let held = c.requires in
    omega (arith, c.letters-from.ensures.counts held.holds, held.holds.few, held_long held.holds)
