-- The digits below have been tried; only the name's last byte is another.
use Rattle.std.proofs.Common.{◌+◌, ◌≡◌, length, set, ℕ}
use Rattle.saving.proofs.create.Given as goal

abbrev pub invariant-loop-digit : goal.invariant-loop-digit
invariant-loop-digit g l = record {
  place : length l.name ≡ l.last + 1;
  only_last : (d : ℕ) → set l.name l.last d ≡ set l.fn.name l.last d;
}
