use mathlib.Core.Path.{◌∙◌}
use Rattle.compiler.proofs.Writing.{two_bytes_are}
use Rattle.compiler.proofs.write.two_bytes.Goals as goal

pub returns : goal.returns
returns c = c.to_be_bytes.ensures ∙ two_bytes_are c.args.n c.requires
