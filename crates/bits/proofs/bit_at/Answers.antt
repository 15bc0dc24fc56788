-- The bit of the byte that was read. Assumes nothing.
use Prim.Native.Nat.{ℕ, ◌/◌, ◌%◌, ◌^◌}
use mathlib.Core.Path.{ap}
use Rattle.bits.specs.Bit.{bit}
use Rattle.bits.proofs.bit_at.Goals as goal

pub returns : goal.returns
unfolding bit
returns c = ap (λ (x : ℕ). x / 2 ^ (c.args.i % 8) % 2) c.byte_at.ensures
