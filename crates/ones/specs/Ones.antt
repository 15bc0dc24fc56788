-- How many bits of a list of bytes are set.
use Rattle.std.specs.Prelude.{ℕ, ◌≡◌, List}
use Rattle.bits.specs.Bit.{bit}
use Rattle.bits.specs.Size.{Size}

pub record Ones (m : List ℕ) (n : ℕ) : Type 0 where
  pub size : Size (λ (i : ℕ). bit m i ≡ 1) n
