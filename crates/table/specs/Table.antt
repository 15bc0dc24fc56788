-- A table: what the compiler makes of a rule and the judge goes by. Its numbers are the codes of the image.
use Rattle.std.specs.Prelude.{ℕ, ◌≡◌, Bool, List}
use Rattle.bits.specs.Bit.{bit}

-- symbol: 0 to k-1 a letter, 16 the left mark, 17 the right mark, 18 any. test: 0 zero, 1 above zero, 2 either.
-- move: 0 to the left mark, 128 to the right mark, 1 to 127 a move by value - 64. change: value - 31. (Their names: `Form.antt`.)
pub record Row : Type 0 where
  pub from : ℕ
  pub symbol : ℕ
  pub test : ℕ
  pub move : ℕ
  pub change : ℕ
  pub to : ℕ

pub record Table : Type 0 where
  -- the letters as listed
  pub alphabet : List ℕ
  -- whether a lowering of the counter below zero stops at zero (decr_on_zero)
  pub decr_on_zero : Bool
  pub states : ℕ
  -- 16 bytes: state s accepts if bit s is set
  pub accepting : List ℕ
  pub rows : List Row

abbrev pub Accepting : Table → ℕ → Type 0
Accepting T s = bit T.accepting s ≡ 1
