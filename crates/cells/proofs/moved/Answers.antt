-- `cells::moved` meets its contract: each answer is where its case of a move leads.
use Rattle.cells.proofs.Cells.{moves_left, moves_right, moves_by}
use native.Mathlib.Omega.{arith}
use mathlib.Core.Path.{◌≡◌, sym}
use Rattle.std.proofs.Common.{rules}
use Rattle.table.specs.Form.{to_left, to_right}
use Rattle.cells.proofs.moved.Goals as goal

pub returns-in-0 : goal.returns-in-0
returns-in-0 c = sym (moves_left _ _ _ c.in-0.is)

pub returns-in-128 : goal.returns-in-128
returns-in-128 c = sym (moves_right _ _ _ c.in-128.is)

pub returns-in_default : goal.returns-in_default
returns-in_default c =
    let left : ¬ (c.args.code ≡ to_left) = search rules in
    let right : ¬ (c.args.code ≡ to_right) = search rules in
    omega (arith, c.min.ensures, c.from.ensures, moves_by c.args.word.now c.args.code c.args.cell c.min.result c.from.result left right c.min.ensures c.from.ensures)
