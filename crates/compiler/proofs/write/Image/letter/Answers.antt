-- The letters stand behind the header's first bytes, as many as its count says.
use native.Mathlib.Omega.{arith}
use Rattle.compiler.proofs.Writing.{held_long, held_index}
use Rattle.compiler.proofs.write.Image.letter.Goals as goal

pub slice_bounds-find-end : goal.slice_bounds-find-end
slice_bounds-find-end c =
    let held = c.requires in
    omega (arith, c.letters-end.ensures.counts held.holds, held.holds.few, held_long held.holds)

pub returns : goal.returns
returns c =
    record {
      finds = λ holds. held_index holds c.args.byte c.find.result c.letters-end.result c.find.ensures.index (c.letters-end.ensures.counts holds);
    }
