-- `cells::looked` meets its contract: each answer is the symbol of its case.
use Prim.Native.Nat.{◌≤◌}
use native.Mathlib.Omega.{arith}
use mathlib.Core.Path.{sym, ap, ◌∙◌}
use lib.ListN.{length}
use Rattle.std.proofs.lemmas.Grind.{common_steps}
use Rattle.cells.specs.Cell.{letter}
use Rattle.cells.specs.Code.{symbol_is}
use Rattle.cells.proofs.Cells.{on_left, on_letter_lem, on_right}
use Rattle.cells.proofs.looked.Goals as goal

pub returns-in-None : goal.returns-in-None
unfolding symbol_is
returns-in-None c = sym (on_left _ _ c.in-None.ensures)

pub returns-in-Some-get : goal.returns-in-Some-get
unfolding symbol_is
returns-in-Some-get c =
    let found = c.in-Some-get.ensures.lookup.3 in
    ap letter (found.1 0) ∙ sym (on_letter_lem _ _ c.in-Some.i c.in-Some.ensures.0 c.in-Some.ensures.1 found.0)

pub returns-in-None-get : goal.returns-in-None-get
unfolding symbol_is
returns-in-None-get c =
    let past : length c.args.word.now ≤ c.in-Some.i = grind (arith, common_steps, c.in-None-get.ensures.lookup) in
    sym (on_right _ _ c.in-Some.i c.in-Some.ensures.0 c.in-Some.ensures.1 past)
