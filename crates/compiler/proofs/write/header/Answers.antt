use mathlib.Core.Path.{◌∙◌}
use Rattle.compiler.proofs.Writing.{high_byte, low_byte, flag_is, heads}
use Rattle.compiler.proofs.write.header.Goals as goal

pub returns : goal.returns
returns c =
    let count = c.two_bytes.ensures in
    let states = c.two_bytes-2.ensures in
    let size = c.two_bytes-3.ensures in
    heads _ _ _ _ _ _ _ _ _ _ c.requires (low_byte _ count) (c.from-flag.ensures ∙ flag_is c.args.decr_on_zero)
    (high_byte _ states) (low_byte _ states) (high_byte _ size) (low_byte _ size)
    c.put.ensures c.put-2.ensures c.put-3.ensures c.put-4.ensures
