-- Members of a list of numbers and the places where they stand.
use Prim.Native.Nat.{ℕ, zero, suc, ◌<◌, suc-le-suc}
use native.Mathlib.Nat.{le_of_suc-le-suc, zero-lt-suc, not-suc-le-zero}
use mathlib.Core.Path.{◌≡◌, refl, sym}
use mathlib.Core.List.{List, [], ◌∷◌, Memᴰ}
use lib.ListN.{length, get_or}

-- a member stands at a place
pub place_of : {b : ℕ} {l : List ℕ} → Memᴰ b l → (c : ℕ) × (c < length l) × (get_or l c 0 ≡ b)
place_of (Memᴰ.head {xs = xs} e) = (0, zero-lt-suc (length xs), sym e)
place_of (Memᴰ.tail m) = let found = place_of m in (suc found.0, suc-le-suc found.1, found.2)

-- what stands at a place is a member
pub member_at : (l : List ℕ) (c : ℕ) → c < length l → Memᴰ (get_or l c 0) l
member_at [] c low = absurd (not-suc-le-zero low)
member_at (x ∷ l) zero low = Memᴰ.head refl
member_at (x ∷ l) (suc c) low = Memᴰ.tail (member_at l c (le_of_suc-le-suc low))
