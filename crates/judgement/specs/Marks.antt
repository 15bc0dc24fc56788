-- The mark bytes after a verdict: in the first half one bit for each situation, set if reached; the other half zero.
use Rattle.std.specs.Prelude.{ℕ, ◌+◌, ◌*◌, ◌≤◌, ◌<◌, ◌≡◌, ◌↔◌, List, length, get_or}
use Rattle.bits.specs.Bit.{bit, Bytes}
use Rattle.table.specs.Table.{Table}
use Rattle.machine.specs.Step.{Situation}
use Rattle.machine.specs.Run.{Reach}

-- the bytes lent, and how many of them hold the situations' bits
abbrev pub mark_bytes : ℕ
mark_bytes = 65536

abbrev pub first_half : ℕ
first_half = 32768

-- the situations that have a bit
pub record HasMark (s : Situation) : Type 0 where
  pub state : s.state < 128
  pub cell : s.cell < 64
  pub counter : s.counter < 32

unfoldable pub mark_of : Situation → ℕ
mark_of s = (s.state * 64 + s.cell) * 32 + s.counter

pub record Marks (t : Table) (word : List ℕ) (limit : ℕ) (marks : List ℕ) : Type 0 where
  pub size : length marks ≡ mark_bytes
  pub bytes : Bytes marks
  pub reached : (s : Situation) → HasMark s → (bit marks (mark_of s) ≡ 1) ↔ Reach t word limit s
  pub rest : (i : ℕ) → first_half ≤ i → get_or marks i 0 ≡ 0
