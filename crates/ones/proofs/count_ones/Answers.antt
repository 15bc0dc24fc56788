-- The sum and the ones of what is left are the ones of all, which are not too many to count. Assumes nothing.
use Rattle.std.proofs.Common.{◌∙◌, ap, arith, take}
use Rattle.std.proofs.lemmas.List.{length-take}
use Rattle.std.proofs.lemmas.List.Sums.{sum_by-append}
use Rattle.std.specs.Prelude.{count_ones}
use Rattle.ones.proofs.Counting.{first_end, first_bytes, ones_none, ones_at_most, ones_all}
use Rattle.ones.proofs.count_ones.Goals as goal

pub loop-part-init : goal.loop-part-init
loop-part-init c = record {
  size = ap (λ p. p.size) c.into_iter-part-iterator.ensures.into_iter_gives ∙ c.chunks-part-items.ensures.size;
  sum = rw (c.into_iter-part-iterator.ensures.into_iter_gives, c.chunks-part-items.ensures.rest, first_end 65536 c.args.m.now c.min.ensures) (omega arith);
}

pub overflow_add-sum : goal.overflow_add-sum
overflow_add-sum c =
    let first = take 65536 c.args.m.now in
    let parts = rw c.in-Some.ensures.steps.1.0 at c.loop-part.invariant.sum in
    omega (
      arith,
      sum_by-append count_ones c.in-Some.part.now c.next.new.self.rest.now,
      parts,
      c.ones_in.ensures,
      ones_at_most first (first_bytes _ (λ i. (c.type_inv.m i).fits) 65536),
      length-take 65536 c.args.m.now,
    )

pub returns : goal.returns
returns c =
    ones_all _ (first_bytes _ (λ i. (c.type_inv.m i).fits) 65536)
    (omega (arith, ones_none _ c.in-None.ensures.steps.1.0, c.loop-part.invariant.sum))
