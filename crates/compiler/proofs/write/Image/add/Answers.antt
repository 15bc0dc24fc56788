use native.Mathlib.Omega.{arith}
use mathlib.Core.Path.{refl}
use Rattle.compiler.proofs.Writing.{high_byte, low_byte, row_bytes_lem, room_one, writes_row}
use Rattle.compiler.proofs.write.Image.add.Goals as goal

pub put-requires : goal.put-requires
put-requires c = omega (arith, room_one c.requires.0)

pub returns : goal.returns
returns c =
    let from = c.two_bytes.ensures in
    let to = c.two_bytes-2.ensures in
    record { writes = writes_row _ _ (row_bytes_lem _ _ _ _ _ _ _ _ _ _ (high_byte _ from) (low_byte _ from) (high_byte _ to) (low_byte _ to)) c.put.ensures refl; out = refl }
