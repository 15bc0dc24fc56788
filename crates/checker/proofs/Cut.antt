-- An image cut at a place: its bytes from there on, a field that stands there, and rows.
use Prim.Native.Nat.{ℕ, zero, suc, ◌+◌, ◌*◌, ◌/◌, ◌%◌, ◌≤◌}
use native.Mathlib.Nat.{add-zero, add_assoc, le_trans}
use native.Mathlib.Omega.{arith}
use mathlib.Core.Path.{◌≡◌, refl, sym, ap, ap₂, ◌∙◌}
use mathlib.Core.List.{List, [], ◌∷◌, ◌++◌, append_assoc}
use lib.ListN.{length, take, drop, length-drop, take-append-drop}
use lib.Seq.{drop-cons, drop-drop, take_at, length-take-le}
use Rattle.bits.specs.Bit.{Bytes}
use Rattle.table.specs.Form.{Width, eight, wide}
use Rattle.table.specs.Image.{two_bytes, field, row_bytes, rows_bytes}
use Rattle.table.specs.Fields.{byte_at, two_at, width_of, row_place, row_from, row_of, rows_from}
use Rattle.table.specs.Inside.Right.{FieldAt}
use Rattle.table.proofs.RowList.{place_next, place_inside}

-- m bytes, from the jth after a place on
abbrev pub bytes_from : List ℕ → ℕ → ℕ → ℕ → List ℕ
bytes_from image at j zero = []
bytes_from image at j (suc m) = byte_at image (at + j) ∷ bytes_from image at (suc j) m

length_bytes_from : (image : List ℕ) (at j m : ℕ) → length (bytes_from image at j m) ≡ m
length_bytes_from image at j zero = refl
length_bytes_from image at j (suc m) = ap suc (length_bytes_from image at (suc j) m)

-- the bytes from a place on are the first m of them and the others
pub split_bytes
    : (image : List ℕ) (at j m : ℕ) → at + j + m ≤ length image → drop (at + j) image ≡ bytes_from image at j m ++ drop (at + j + m) image
split_bytes image at j zero long = rw add-zero refl
split_bytes image at j (suc m) long =
    let next : suc (at + j) ≡ at + suc j = omega arith in
    let end : at + suc j + m ≡ at + j + suc m = omega arith in
    drop-cons image (at + j) 0 (omega arith)
    ∙ ap (λ (l : List ℕ). byte_at image (at + j) ∷ l) (rw (next, split_bytes image at (suc j) m (omega arith), end) refl)

pub split_here : (image : List ℕ) (at m : ℕ) → at + m ≤ length image → drop at image ≡ bytes_from image at 0 m ++ drop (at + m) image
split_here image at m long = rw add-zero at (split_bytes image at 0 m (rw add-zero long))

-- bytes taken from an image
pub take_bytes : (image : List ℕ) (at m : ℕ) → at + m ≤ length image → take m (drop at image) ≡ bytes_from image at 0 m
take_bytes image at m long = rw (split_here image at m long) (take_at (bytes_from image at 0 m) (drop (at + m) image) m (length_bytes_from image at 0 m))

-- a field whose tag and length are there stands there, with this value and before these bytes, if the image is long enough
pub Stands_of
    : (image : List ℕ) (at tag n start next : ℕ) {value rest : List ℕ} → Bytes image → start ≡ at + 3 → next ≡ start + n
    → next ≤ length image → FieldAt image at tag n → take n (drop start image) ≡ value → drop next image ≡ rest
    → drop at image ≡ field tag value ++ rest
unfolding field two_bytes
Stands_of image at tag n start next {value} {rest} bytes third place long f is then =
    let many : length value ≡ n = ap length (sym is) ∙ length-take-le n (drop start image) (omega (arith, length-drop start image)) in
    let said : byte_at image (at + 1) * 256 + byte_at image (at + 2) ≡ n = rw (add_assoc at 1 1) at f.many in
    let first : byte_at image (at + 0) ≡ tag = ap (byte_at image) (add-zero at) ∙ f.tag in
    let high : byte_at image (at + 1) ≡ length value / 256 = omega (arith, said, many, bytes (at + 2)) in
    let low : byte_at image (at + 2) ≡ length value % 256 = omega (arith, said, many, bytes (at + 2)) in
    let cut : drop start image ≡ take n (drop start image) ++ drop next image =
    rw (place, ← (drop-drop n start image)) (sym (take-append-drop n (drop start image))) in
    let after : drop (at + 3) image ≡ value ++ rest = rw (← third) (cut ∙ ap₂ (λ (a b : List ℕ). a ++ b) is then) in
    split_here image at 3 (omega arith) ∙ (λ i. first i ∷ high i ∷ low i ∷ after i)

-- the bytes of the row that stands here, in its width
bytes_of_row
    : (w : Width) (image : List ℕ) (at : ℕ) → Bytes image → at + wide w ≤ length image
    → drop at image ≡ row_bytes (row_from image at) ++ drop (at + wide w) image
unfolding row_from row_bytes two_bytes wide
bytes_of_row eight image at bytes long =
    let first : byte_at image (at + 0) ≡ two_at image at / 256 = rw add-zero (omega (arith, bytes (at + 1))) in
    let second : byte_at image (at + 1) ≡ two_at image at % 256 = omega (arith, bytes (at + 1)) in
    let seventh : byte_at image (at + 6) ≡ two_at image (at + 6) / 256 = omega (arith, bytes (at + 6 + 1)) in
    let eighth : byte_at image (at + 7) ≡ two_at image (at + 6) % 256 =
    ap (byte_at image) (sym (add_assoc at 6 1)) ∙ omega (arith, bytes (at + 6 + 1)) in
    split_here image at 8 long
    ∙ (λ i.
    first i
    ∷ second i
    ∷ byte_at image (at + 2)
    ∷ byte_at image (at + 3)
    ∷ byte_at image (at + 4)
    ∷ byte_at image (at + 5)
    ∷ seventh i
    ∷ eighth i
    ∷ drop (at + 8) image)

-- the bytes of the rows that stand here
pub bytes_of_rows
    : (image : List ℕ) (i n : ℕ) → Bytes image → row_place image (i + n) ≤ length image
    → drop (row_place image i) image ≡ rows_bytes (rows_from image i n) ++ drop (row_place image (i + n)) image
unfolding rows_from rows_bytes
bytes_of_rows image i zero bytes long = rw add-zero refl
bytes_of_rows image i (suc n) bytes long =
    let at = row_place image i in
    let end : suc i + n ≡ i + suc n = omega arith in
    let others = bytes_of_rows image (suc i) n bytes (rw end long) in
    let last = drop (row_place image (i + suc n)) image in
    bytes_of_row (width_of image) image at bytes (le_trans (place_inside image {i = i} {n = i + suc n} (omega arith)) long)
    ∙ ap (λ (l : List ℕ). row_bytes (row_of image i) ++ l)
    (ap (λ (m : ℕ). drop m image) (sym (place_next image i))
    ∙ others
    ∙ ap (λ (m : ℕ). rows_bytes (rows_from image (suc i) n) ++ drop (row_place image m) image) end)
    ∙ sym (append_assoc (row_bytes (row_of image i)) (rows_bytes (rows_from image (suc i) n)) last)
