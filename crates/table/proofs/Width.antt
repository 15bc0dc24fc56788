-- Laws of a row's width, by its cases.
use Prim.Native.Nat.{ℕ, suc, ◌+◌, ◌*◌, ◌≤◌, ◌<◌}
use native.Mathlib.Omega.{arith}
use mathlib.Core.Path.{◌≡◌}
use Rattle.table.specs.Form.{Width, eight, wide, bytes_of, rows_in}

-- no rows, and one more
pub none_bytes : (w : Width) → bytes_of w 0 ≡ 0
unfolding bytes_of
none_bytes eight = omega arith

pub more_bytes : (w : Width) (n : ℕ) → bytes_of w (suc n) ≡ bytes_of w n + wide w
unfolding bytes_of wide
more_bytes eight n = omega arith

-- a row takes at least eight bytes, and not more than sixteen
pub bytes_of_low : (w : Width) (n : ℕ) → n * 8 ≤ bytes_of w n
unfolding bytes_of
bytes_of_low eight n = omega arith

pub bytes_of_high : (w : Width) (n : ℕ) → bytes_of w n ≤ n * 16
unfolding bytes_of
bytes_of_high eight n = omega arith

-- a row before the last ends before the end
pub row_inside : (w : Width) {i n : ℕ} → i < n → bytes_of w i + wide w ≤ bytes_of w n
unfolding bytes_of wide
row_inside eight low = omega arith

-- the bytes of so many rows hold so many
pub rows_in_bytes : (w : Width) (n : ℕ) → rows_in w (bytes_of w n) ≡ n
unfolding rows_in bytes_of
rows_in_bytes eight n = omega arith
