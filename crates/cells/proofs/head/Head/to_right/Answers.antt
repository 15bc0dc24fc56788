-- Its move code leads to the right mark.
use mathlib.Core.Path.{refl, ◌∙◌}
use Rattle.table.specs.Form.{to_right}
use Rattle.cells.proofs.Cells.{moves_right}
use Rattle.cells.proofs.head.Head.to_right.Goals as goal

pub returns : goal.returns
returns c = (c.by.ensures.0, c.by.ensures.1 ∙ moves_right c.args.self.word.now to_right c.args.self.cell refl)
