-- Bytes that are all 0.
use Rattle.std.specs.Prelude.{ℕ, ◌≤◌, ◌<◌, ◌≡◌, List, get_or}

-- the bytes from one place up to another are all 0; one past the end counts as 0
pub record Blank (m : List ℕ) (from to : ℕ) : Type 0 where
  pub zero : (k : ℕ) → from ≤ k → k < to → get_or m k 0 ≡ 0
