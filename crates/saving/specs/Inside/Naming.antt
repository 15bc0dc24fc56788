-- What the functions of this crate promise one another: the name of the new file in which an image is written first.
use Rattle.std.specs.Prelude.{ℕ, suc, ◌+◌, ◌≤◌, ◌≡◌, List, ◌++◌, length, take, set, slice_index_or}

-- a buffer of 4,096 bytes begins with a name and these bytes behind it
pub record Named (buffer name more : List ℕ) : Type 0 where
  pub begins : take (length name + length more) buffer ≡ name ++ more
  pub size : 4096 ≡ length buffer

-- the last of a buffer's 4,096 bytes is 0
abbrev pub Ended : List ℕ → Type 0
Ended buffer = slice_index_or buffer 4095 1 ≡ 0

-- of a name that was tried, only the last byte is another: some digit
pub record Tried (before after : List ℕ) : Type 0 where
  pub last : ℕ
  pub place : length before ≡ suc last
  pub digit : ℕ
  pub low : 48 ≤ digit
  pub high : digit ≤ 57
  pub is : after ≡ set before last digit
