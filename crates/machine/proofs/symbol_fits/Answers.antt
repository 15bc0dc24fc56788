-- `machine::symbol_fits` meets its contract: any symbol fits, and each other is compared with what stands there.
use mathlib.Core.Path.{sym, ◌∙◌}
use Rattle.cells.specs.Code.{symbol_is}
use Rattle.machine.proofs.Fits.{symbol_any, symbol_left, symbol_letter, symbol_right}
use Rattle.machine.proofs.symbol_fits.Goals as goal

pub returns-then-any : goal.returns-then-any
returns-then-any c = sym (symbol_any _ _ _ c.if-any.true)

pub returns-in-LeftMark : goal.returns-in-LeftMark
unfolding symbol_is
returns-in-LeftMark c = rw c.in-LeftMark.is (sym (symbol_left _ _ c.if-any.false))

pub returns-in-Letter : goal.returns-in-Letter
unfolding symbol_is
returns-in-Letter c = rw c.in-Letter.is (c.letter_fits.ensures ∙ sym (symbol_letter _ _ c.if-any.false _))

pub returns-in-RightMark : goal.returns-in-RightMark
unfolding symbol_is
returns-in-RightMark c = rw c.in-RightMark.is (sym (symbol_right _ _ c.if-any.false))
