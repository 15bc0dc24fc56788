-- Its move code leads to cell 0.
use mathlib.Core.Path.{refl, ◌∙◌}
use Rattle.table.specs.Form.{to_left}
use Rattle.cells.proofs.Cells.{moves_left}
use Rattle.cells.proofs.head.Head.to_left.Goals as goal

pub returns : goal.returns
returns c = (c.by.ensures.0, c.by.ensures.1 ∙ moves_left c.args.self.word.now to_left c.args.self.cell refl)
