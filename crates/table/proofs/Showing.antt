-- Laws of a source: the place of each row that it shows, and that an image shows its rows.
use Prim.Native.Nat.{ℕ, zero, suc, ◌+◌, ◌≤◌}
use native.Mathlib.Nat.{le_of_eq}
use native.Mathlib.Omega.{arith}
use mathlib.Core.Path.{◌≡◌, refl, sym, ap, ◌∙◌, subst}
use mathlib.Core.List.{List, Memᴰ}
use lib.ListN.{length}
use Rattle.table.specs.Form.{rows_place, wide}
use Rattle.table.specs.Table.{Row, Table}
use Rattle.table.specs.WellFormed.{IsImage}
use Rattle.table.specs.Fields.{letters_of, width_of, row_place, row_from, row_of, row_count, table_of}
use Rattle.table.specs.Source.{range_of}
use Rattle.table.specs.Inside.Showing.{place_in, row_in, Shows, Sources}
use Rattle.table.specs.declared.source.Range.{Range}
use Rattle.table.specs.declared.source.Source.{Source}
use Rattle.table.specs.declared.source.Source.TheVariants.{Image}
use Rattle.table.proofs.Encoded.{image_tail}
use Rattle.table.proofs.RowList.{place_first, place_next, place_inside, rows_in_lem, rows_number}

-- the first place, and each next one
pub range_first : (range : Range) → place_in range 0 ≡ range.first
unfolding place_in
range_first range = refl

pub range_next : (range : Range) (j : ℕ) → place_in range (suc j) ≡ place_in range j + range.apart
unfolding place_in
range_next range j = refl

module _ (image : List ℕ) (state : ℕ) where
  image_place : (j : ℕ) → place_in (range_of Image image state) j ≡ row_place image j
  unfolding range_of place_in
  image_place zero = sym (place_first image)
  image_place (suc j) = ap (λ (n : ℕ). n + wide (width_of image)) (image_place j) ∙ sym (place_next image j)

  image_row : (j : ℕ) → row_in image (range_of Image image state) j ≡ row_of image j
  image_row j = ap (row_from image) (image_place j)

  image_many : (range_of Image image state).many ≡ row_count image
  unfolding range_of
  image_many = refl

  image_apart : (range_of Image image state).apart ≡ wide (width_of image)
  unfolding range_of
  image_apart = refl

  -- an image whose rows all stand in it shows them
  image_shows : row_place image (row_count image) ≤ length image → Shows (table_of image) image state (range_of Image image state)
  image_shows long = record {
    every = λ r m here.
        let found = rows_number image m in
        (found.0, rw image_many found.1, found.2 ∙ sym (image_row found.0));
    only = λ j low here. subst (λ (r : Row). Memᴰ r (table_of image).rows) (sym (image_row j)) (rows_in_lem image j (rw image_many at low));
    inside = λ j low. omega (arith, image_place j, image_apart, image_many, place_inside image {i = j} {n = row_count image} (rw image_many at low), long);
  }

-- a well-formed image is a source of its table's rows
pub image_sources : {t : Table} {image : List ℕ} → IsImage t image → Sources (table_of image) Image image
image_sources {image = image} is = record { shows = λ state low. image_shows image state (le_of_eq (sym (image_tail is).end)) }

-- the range that a source shows, by its parts
pub shown_range
    : (source : Source) (rows : List ℕ) (state : ℕ) {first many apart : ℕ} → first ≡ rows_place (letters_of rows) → many ≡ row_count rows → apart ≡ wide (width_of rows)
    → ◌≡◌ {A = Range} (record { first = first; many = many; apart = apart }) (range_of source rows state)
unfolding range_of
shown_range Image rows state is is' is'' = λ i. record { first = is i; many = is' i; apart = is'' i }
