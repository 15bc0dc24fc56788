-- What the fields of an image say, read byte by byte where they stand, whatever the bytes are; a byte past the end counts as 0.
-- Of a well-formed image this is its table.
use Rattle.std.specs.Prelude.{ℕ, zero, suc, ◌+◌, ◌*◌, List, [], ◌∷◌, get_or, take, drop, eqb}
use Rattle.table.specs.Form.{edition_place, count_place, letters_place, decr_on_zero_place, states_place, accepting_place, accepting_bytes, rows_length, rows_place, Width, bytes_of, rows_in, width_for}
use Rattle.table.specs.Table.{Row, Table}

abbrev pub byte_at : List ℕ → ℕ → ℕ
byte_at image i = get_or image i 0

-- a two-byte number, high byte first
abbrev pub two_at : List ℕ → ℕ → ℕ
two_at image i = byte_at image i * 256 + byte_at image (i + 1)

-- how many letters the alphabet has: the low byte of tag 2's length
abbrev pub letters_of : List ℕ → ℕ
letters_of image = byte_at image count_place

-- the row whose eight bytes start here
unfoldable pub row_from : List ℕ → ℕ → Row
row_from image at =
    record {
      from = two_at image at;
      symbol = byte_at image (at + 2);
      test = byte_at image (at + 3);
      move = byte_at image (at + 4);
      change = byte_at image (at + 5);
      to = two_at image (at + 6);
    }

-- how many bytes a row of an image takes, by the edition that it names
abbrev pub width_of : List ℕ → Width
width_of image = width_for (byte_at image edition_place)

-- where row i stands
unfoldable pub row_place : List ℕ → ℕ → ℕ
row_place image i = rows_place (letters_of image) + bytes_of (width_of image) i

abbrev pub row_of : List ℕ → ℕ → Row
row_of image i = row_from image (row_place image i)

unfoldable pub rows_from : List ℕ → ℕ → ℕ → List Row
rows_from image i zero = []
rows_from image i (suc many) = row_of image i ∷ rows_from image (suc i) many

abbrev pub row_count : List ℕ → ℕ
row_count image = rows_in (width_of image) (two_at image (rows_length (letters_of image)))

unfoldable pub table_of : List ℕ → Table
table_of image =
    record {
      alphabet = take (letters_of image) (drop letters_place image);
      decr_on_zero = eqb (byte_at image (decr_on_zero_place (letters_of image))) 1;
      states = two_at image (states_place (letters_of image));
      accepting = take accepting_bytes (drop (accepting_place (letters_of image)) image);
      rows = rows_from image 0 (row_count image);
    }

-- letter c of the alphabet
abbrev pub letter_of : List ℕ → ℕ → ℕ
letter_of image c = get_or (table_of image).alphabet c 0
