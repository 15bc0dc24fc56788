-- Bytes that stand at the beginning of a buffer, and bytes that are added behind them.
use Rattle.std.specs.Prelude.{ℕ, ◌≡◌, List, ◌++◌, length, drop}

-- these bytes stand there, up to this place, and then the old ones
pub record Stands (old out : List ℕ) (end : ℕ) (bytes : List ℕ) : Type 0 where
  pub is : out ≡ bytes ++ drop end old
  pub ends : end ≡ length bytes
