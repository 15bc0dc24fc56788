-- What the emitter's functions promise each other of the image while it is written. No caller relies on any of it.
use Rattle.std.specs.Prelude.{ℕ, ◌+◌, ◌*◌, ◌≤◌, ◌≡◌, Bool, List, [], ◌∷◌, ◌++◌, length, drop, replicate}
use Rattle.bits.specs.Inside.Over.{over}
use Rattle.table.specs.Form.{first_edition, letters_place, accepting_bytes, rows_place, row_width}
use Rattle.table.specs.Table.{Row}
use Rattle.table.specs.Image.{two_bytes, field, rows_bytes, flag}
use Rattle.construction.specs.Construction.{with_bits, index_in}
use Rattle.construction.specs.Compile.{image_room}
use Rattle.compiler.specs.declared.write.Image.{Image}

-- what is settled before the first row is written: the buffer as it was, what the header says, and how many rows there will be
pub record Sheet : Type 0 where
  pub old : List ℕ
  pub alphabet : List ℕ
  pub decr_on_zero : Bool
  pub states : ℕ
  pub count : ℕ

-- the fields before the accept bytes, with the tag and the length of those
unfoldable pub front : Sheet → List ℕ
front h =
    field 1 (first_edition ∷ [])
    ++ (field 2 h.alphabet
    ++ (field 3 (flag h.decr_on_zero ∷ [])
    ++ (field 4 (two_bytes h.states) ++ (5 ∷ two_bytes accepting_bytes))))

-- the accept bytes as they are so far
abbrev pub accept_bytes : List ℕ → List ℕ
accept_bytes accepting = with_bits (replicate accepting_bytes 0) accepting

-- the image so far. The length of the rows' field is the final one from the start.
unfoldable pub written : Sheet → List ℕ → List Row → List ℕ
written h accepting rows =
    front h ++ (accept_bytes accepting ++ (6 ∷ (two_bytes (row_width * h.count) ++ rows_bytes rows)))

-- where the next row is written
abbrev pub row_place : Sheet → List Row → ℕ
row_place h rows = rows_place (length h.alphabet) + row_width * length rows

-- the buffer holds the image so far, and then its old bytes; there is room for all that is to come
pub record Holds (h : Sheet) (accepting : List ℕ) (rows : List Row) (out : List ℕ) : Type 0 where
  pub bytes : out ≡ written h accepting rows ++ drop (row_place h rows) h.old
  pub few : length h.alphabet ≤ 16
  pub room : image_room ≤ length h.old
  pub most : h.count ≤ 1024

-- the buffer holds some image
pub record Held (out : List ℕ) : Type 0 where
  pub sheet : Sheet
  pub accepting : List ℕ
  pub rows : List Row
  pub holds : Holds sheet accepting rows out

-- it holds so much, and the next row is to be written here
pub record Filled (h : Sheet) (accepting : List ℕ) (rows : List Row) (out : List ℕ) (place : ℕ) : Type 0 where
  pub holds : Holds h accepting rows out
  pub here : place ≡ row_place h rows

-- there is room for these rows, which may go by the alphabet
pub record Room (before : List ℕ) (place : ℕ) (rows : List ℕ → List Row) : Type 0 where
  pub sheet : Sheet
  pub accepting : List ℕ
  pub earlier : List Row
  pub filled : Filled sheet accepting earlier before place
  pub fits : length earlier + length (rows sheet.alphabet) ≤ sheet.count

-- they are written behind whatever rows stand there
pub record Writes (before after : List ℕ) (place end : ℕ) (rows : List ℕ → List Row) : Type 0 where
  pub writes : {h : Sheet} {accepting : List ℕ} {earlier : List Row}
      → Filled h accepting earlier before place
      → length earlier + length (rows h.alphabet) ≤ h.count
      → Filled h accepting (earlier ++ rows h.alphabet) after end

-- in the same buffer
pub record Adds (i r : Image) (rows : List ℕ → List Row) : Type 0 where
  pub writes : Writes i.out.now r.out.now i.row r.row rows
  pub out : r.out.ghost_name ≡ i.out.ghost_name

-- a state's accept bit is set
pub record Sets (before after : List ℕ) (state : ℕ) : Type 0 where
  pub sets : {h : Sheet} {accepting : List ℕ} {rows : List Row} → Holds h accepting rows before → Holds h (accepting ++ (state ∷ [])) rows after

pub record Marks (i r : Image) (state : ℕ) : Type 0 where
  pub marks : Sets i.out.now r.out.now state
  pub row : r.row ≡ i.row
  pub out : r.out.ghost_name ≡ i.out.ghost_name

-- the header is written around the letters, which stand already
pub record Heads (before after : List ℕ) (count : ℕ) (decr_on_zero : Bool) (states rows : ℕ) : Type 0 where
  pub heads : (old alphabet : List ℕ)
      → before ≡ over old letters_place alphabet
      → count ≡ length alphabet
      → Holds (record { old = old; alphabet = alphabet; decr_on_zero = decr_on_zero; states = states; count = rows }) [] [] after

-- a letter's index in the alphabet of the image, and how many letters that has
pub record Indexes (out : List ℕ) (byte index : ℕ) : Type 0 where
  pub finds : {h : Sheet} {accepting : List ℕ} {rows : List Row} → Holds h accepting rows out → index ≡ index_in h.alphabet byte

pub record HasLetters (out : List ℕ) (many : ℕ) : Type 0 where
  pub counts : {h : Sheet} {accepting : List ℕ} {rows : List Row} → Holds h accepting rows out → many ≡ length h.alphabet
