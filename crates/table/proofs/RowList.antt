-- The rows of an image: each by its number, and by its bytes.
use Prim.Native.Nat.{ℕ, zero, suc, ◌+◌, ◌*◌, ◌≤◌, ◌<◌}
use native.Mathlib.Nat.{add-zero, add_assoc}
use native.Mathlib.Decide.{ℕ_discrete}
use native.Mathlib.Omega.{arith}
use mathlib.Core.Path.{◌≡◌, refl, sym, ap, ◌∙◌}
use mathlib.Core.List.{List, [], ◌∷◌, ◌++◌, append_assoc, Memᴰ}
use lib.ListN.{length, get_or, drop}
use lib.Seq.{drop-drop}
use Rattle.table.specs.Form.{rows_place, Width, eight, wide}
use Rattle.table.specs.Table.{Row}
use Rattle.table.specs.Image.{two_bytes, row_bytes, rows_bytes}
use Rattle.table.specs.Fields.{byte_at, two_at, letters_of, width_of, row_place, row_from, row_of, rows_from, row_count, table_of}
use Rattle.table.proofs.Width.{none_bytes, more_bytes, bytes_of_low, row_inside}
use Rattle.table.proofs.Standing.{byte_from}

-- where rows stand
module _ (image : List ℕ) where
  pub place_first : row_place image 0 ≡ rows_place (letters_of image)
  unfolding row_place
  place_first = omega (arith, none_bytes (width_of image))

  pub place_next : (i : ℕ) → row_place image (suc i) ≡ row_place image i + wide (width_of image)
  unfolding row_place
  place_next i = omega (arith, more_bytes (width_of image) i)

  pub place_low : (i : ℕ) → rows_place (letters_of image) + i * 8 ≤ row_place image i
  unfolding row_place
  place_low i = omega (arith, bytes_of_low (width_of image) i)

  -- a row before the last ends before the end
  pub place_inside : {i n : ℕ} → i < n → row_place image i + wide (width_of image) ≤ row_place image n
  unfolding row_place
  place_inside {i} {n} low = omega (arith, row_inside (width_of image) low)

-- the row whose bytes stand here
pub row_of_bytes : (image : List ℕ) (at : ℕ) (r : Row) (rest : List ℕ) → drop at image ≡ row_bytes r ++ rest → row_from image at ≡ r
unfolding row_from row_bytes two_bytes
row_of_bytes image at r rest e =
    let here : (i : ℕ) → byte_at image (at + i) ≡ get_or (row_bytes r ++ rest) i 0 = λ i. byte_from image at i ∙ ap (λ (l : List ℕ). get_or l i 0) e in
    let from : two_at image at ≡ r.from = omega (arith, (rw add-zero at (here 0)), here 1) in
    let to : two_at image (at + 6) ≡ r.to = rw (add_assoc at 6 1) (omega (arith, here 6, here 7)) in
    λ i. record { from = from i; symbol = here 2 i; test = here 3 i; move = here 4 i; change = here 5 i; to = to i }

-- the bytes after a row's
after_row : (w : Width) (r : Row) (rest : List ℕ) → drop (wide w) (row_bytes r ++ rest) ≡ rest
unfolding row_bytes two_bytes wide
after_row eight r rest = refl

-- numbering of rows
pub length-rows_from : (image : List ℕ) (i n : ℕ) → length (rows_from image i n) ≡ n
unfolding rows_from
length-rows_from image i zero = refl
length-rows_from image i (suc n) = ap suc (length-rows_from image (suc i) n)

row_in : (image : List ℕ) (i n j : ℕ) → i ≤ j → j < i + n → Memᴰ (row_of image j) (rows_from image i n)
unfolding rows_from
row_in image i zero j low high = absurd (omega arith)
row_in image i (suc n) j low high =
    elim (ℕ_discrete j i) [
      | yes e ↦ Memᴰ.head (ap (row_of image) e)
      | no other ↦ Memᴰ.tail (row_in image (suc i) n j (omega arith) (omega arith))
    ]

row_number : {r : Row} (image : List ℕ) (i n : ℕ) → Memᴰ r (rows_from image i n) → (j : ℕ) × (j < i + n) × (r ≡ row_of image j)
unfolding rows_from
row_number {r = r} image i zero x' = elim x' [ ]
row_number image i (suc n) (Memᴰ.head e) = (i, omega arith, e)
row_number image i (suc n) (Memᴰ.tail m) = let found = row_number image (suc i) n m in (found.0, omega (arith, found.1), found.2)

-- where the bytes of these rows stand, these are the rows
pub rows_of_bytes
    : (image : List ℕ) (i : ℕ) (rs : List Row) (rest : List ℕ) → drop (row_place image i) image ≡ rows_bytes rs ++ rest
    → rows_from image i (length rs) ≡ rs
unfolding rows_from rows_bytes
rows_of_bytes image i [] rest e = refl
rows_of_bytes image i (r ∷ rs) rest e =
    let at = row_place image i in
    let both : drop at image ≡ row_bytes r ++ (rows_bytes rs ++ rest) = e ∙ append_assoc (row_bytes r) (rows_bytes rs) rest in
    let others : drop (row_place image (suc i)) image ≡ rows_bytes rs ++ rest =
    ap (λ (n : ℕ). drop n image) (place_next image i)
    ∙ sym (drop-drop (wide (width_of image)) at image)
    ∙ ap (drop (wide (width_of image))) both
    ∙ after_row (width_of image) r (rows_bytes rs ++ rest) in
    λ j. row_of_bytes image at r (rows_bytes rs ++ rest) both j ∷ rows_of_bytes image (suc i) rs rest others j

module _ (image : List ℕ) where
  -- an image has as many rows as it says
  pub rows_length_lem : length (table_of image).rows ≡ row_count image
  unfolding table_of
  rows_length_lem = length-rows_from image 0 (row_count image)

  pub rows_in_lem : (i : ℕ) → i < row_count image → Memᴰ (row_of image i) (table_of image).rows
  unfolding table_of
  rows_in_lem i low = row_in image 0 (row_count image) i (omega arith) (omega arith)

  -- each of the rows has a number
  pub rows_number : {r : Row} → Memᴰ r (table_of image).rows → (i : ℕ) × (i < row_count image) × (r ≡ row_of image i)
  unfolding table_of
  rows_number m = let found = row_number image 0 (row_count image) m in (found.0, omega (arith, found.1), found.2)
