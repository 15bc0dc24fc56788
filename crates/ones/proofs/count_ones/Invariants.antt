-- The sum and the ones of what is left are the ones of all. Assumes nothing.
use Rattle.std.proofs.Common.{◌≡◌, ◌+◌, take}
use Rattle.std.specs.Prelude.{sum_by, count_ones}
use Rattle.ones.proofs.count_ones.Given as goal

abbrev pub invariant-loop-part : goal.invariant-loop-part
invariant-loop-part l = record {
  size : l.part-iterator.size ≡ 256;
  sum : l.sum + sum_by count_ones l.part-iterator.rest.now ≡ sum_by count_ones (take 65536 l.m);
}
