-- The digits that are written are the last ones, and the room holds those that are left.
use Rattle.std.proofs.Common.{◌≡◌, ◌≤◌, ◌<◌, ◌^◌, drop}
use Rattle.line.specs.Decimal.{digits, decimal}
use Rattle.line.proofs.parts.digits_at_end.Given as goal

abbrev pub invariant-loop-left : goal.invariant-loop-left
invariant-loop-left l = record {
  some : 0 < l.start;
  within : l.start ≤ 20;
  room : l.left < 10 ^ l.start;
  same : digits l.start l.left (drop l.start l.digits) ≡ decimal l.n;
}

abbrev pub decreases-loop-left : goal.decreases-loop-left
decreases-loop-left l = l.start
