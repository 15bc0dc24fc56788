-- What the functions of this crate promise one another: bytes that come behind what stands in a buffer.
use Rattle.std.specs.Prelude.{ℕ, ◌+◌, ◌≡◌, List, ◌++◌, length}
use Rattle.line.specs.Standing.{Stands}

-- these come behind whatever stands there up to a place. No caller relies on it.
pub record Adds (before after : List ℕ) (from to : ℕ) (bytes : List ℕ) : Type 0 where
  pub adds : (old standing : List ℕ) → Stands old before from standing → Stands old after to (standing ++ bytes)
  pub ends : to ≡ from + length bytes
