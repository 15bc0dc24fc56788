-- The loop's invariant: the value so far and the digits that are left give the whole value.
use native.Mathlib.Omega.{arith}
use Rattle.compiler.proofs.Seeing.{digit_bounds, count_more, count_all}
use Rattle.compiler.proofs.see.value.Goals as goal

pub overflow_mul-value : goal.overflow_mul-value
overflow_mul-value c = omega (arith, digit_bounds _ _ _ c.requires c.loop-digit.invariant c.loop-digit-test.true)

pub overflow_add-value : goal.overflow_add-value
overflow_add-value c = omega (arith, digit_bounds _ _ _ c.requires c.loop-digit.invariant c.loop-digit-test.true)

pub loop-digit-preserved : goal.loop-digit-preserved
loop-digit-preserved c = count_more _ _ _ c.requires c.loop-digit.invariant c.loop-digit-test.true

pub returns : goal.returns
returns c = count_all _ _ _ c.requires c.loop-digit.invariant c.loop-digit-test.false
