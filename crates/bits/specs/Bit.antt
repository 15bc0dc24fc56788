-- The bits of a list of bytes: bit i is bit i mod 8, the least being 0, of byte i / 8.
use Rattle.std.specs.Prelude.{ℕ, ◌+◌, ◌-◌, ◌*◌, ◌/◌, ◌%◌, ◌^◌, ◌<◌, List, get_or, set}

unfoldable pub bit : List ℕ → ℕ → ℕ
bit m i = get_or m (i / 8) 0 / 2 ^ (i % 8) % 2

-- the same bytes with bit i set
unfoldable pub with_bit : List ℕ → ℕ → List ℕ
with_bit m i = set m (i / 8) (get_or m (i / 8) 0 + (1 - bit m i) * 2 ^ (i % 8))

-- the same bytes with bit i cleared
unfoldable pub without_bit : List ℕ → ℕ → List ℕ
without_bit m i = set m (i / 8) (get_or m (i / 8) 0 - bit m i * 2 ^ (i % 8))

-- every element is a byte
abbrev pub Bytes : List ℕ → Type 0
Bytes m = (i : ℕ) → get_or m i 0 < 256
