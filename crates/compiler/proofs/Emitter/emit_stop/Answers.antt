use mathlib.Core.Path.{refl}
use Rattle.compiler.proofs.Emitter.emit_stop.Goals as goal

pub returns : goal.returns
returns c =
    record { passes = c.skip.ensures.passes; state = refl; takes = refl; text = c.skip.ensures.text; image = refl }
