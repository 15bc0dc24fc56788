-- Bytes are a well-formed image exactly if each part of them is right.
use Prim.Native.Nat.{ℕ, ◌+◌, ◌≤◌, ◌<◌}
use native.Mathlib.Decide.{dec_lt}
use native.Mathlib.Omega.{arith}
use mathlib.Core.Path.{◌≡◌, sym, subst}
use mathlib.Core.Bool.{Bool}
use mathlib.Core.List.{List, Memᴰ}
use lib.ListN.{length, drop, length-drop}
use lib.Seq.{length-take-le}
use lib.Dec.{T}
use Rattle.bits.specs.Bit.{bit, Bytes}
use Rattle.bits.specs.Byte.{is_letter}
use Rattle.table.specs.Form.{letters_place, either_counter, to_right, most_change, accepting_place, accepting_bytes, rows_tag, rows_place}
use Rattle.table.specs.Table.{Row, Table, Accepting}
use Rattle.table.specs.WellFormed.{SymbolCode, RowInRange, InRange, IsImage, WellFormed}
use Rattle.table.specs.Fields.{letters_of, letter_of, row_of, row_count, table_of}
use Rattle.bits.specs.Tells.{Tells}
use Rattle.table.specs.Inside.Right.{HeadRight, MiddleRight, TailRight, LetterRight}
use Rattle.table.specs.RowCode.{row_is}
use Rattle.table.specs.declared.Row as Code
use Rattle.bits.proofs.Bits.{bit-zero_or_one}
use Rattle.bits.proofs.Telling.{tells_as}
use Rattle.table.proofs.Reading.{alphabet_length, part_bytes, accept_past}
use Rattle.checker.proofs.Framing.{framed_image}
use Rattle.table.proofs.Encoded.{image_table, image_head, image_middle, image_tail}
use Rattle.table.proofs.RowList.{rows_length_lem, rows_in_lem, rows_number, place_low}
use Rattle.table.proofs.Places.{place_of, member_at}
use Rattle.checker.proofs.Different.{nodup_of, of_nodup}

-- every letter is right, no state that does not exist accepts, every row is in range
abbrev pub LettersRight : List ℕ → Type 0
LettersRight image = (c : ℕ) → c < letters_of image → LetterRight image c

abbrev pub OtherBits : List ℕ → Type 0
OtherBits image = (s : ℕ) → (table_of image).states ≤ s → bit (table_of image).accepting s ≡ 0

abbrev pub RowsRight : List ℕ → Type 0
RowsRight image = (i : ℕ) → i < row_count image → RowInRange (table_of image) (row_of image i)

-- a row is in range if its states and its codes are
abbrev pub StatesRight : Table → ℕ → ℕ → Type 0
StatesRight t from to = (from < t.states) × (¬ Accepting t from) × (to < t.states)

abbrev pub CodesRight : ℕ → Code.Row → Type 0
CodesRight k r = SymbolCode k r.symbol × (r.test ≤ either_counter) × (r.motion ≤ to_right) × (r.change ≤ most_change)

module _ (image : List ℕ) (long : letters_of image + letters_place ≤ length image) {row : Code.Row} {r : Row} (is : row_is row ≡ r) where
  row_parts
      : StatesRight (table_of image) row.from row.to → CodesRight (letters_of image) row → RowInRange (table_of image) r
  row_parts states codes =
      subst
      (RowInRange (table_of image))
      is
      (record {
        from = states.0;
        not_accepting = states.1;
        symbol = rw (alphabet_length image long) codes.0;
        test = codes.1;
        move = codes.2;
        change = codes.3;
        to = states.2;
      })

  back : RowInRange (table_of image) r → RowInRange (table_of image) (row_is row)
  back right = subst (RowInRange (table_of image)) (sym is) right

  row_codes : RowInRange (table_of image) r → CodesRight (letters_of image) row
  row_codes right = (
    rw (alphabet_length image long) at (back right).symbol,
    (back right).test,
    (back right).move,
    (back right).change,
  )

  -- where the states are right, the codes tell
  pub codes_tell
      : {told : Bool} {k : ℕ} → k ≡ letters_of image → StatesRight (table_of image) row.from row.to → Tells told (CodesRight k row)
      → Tells told (RowInRange (table_of image) r)
  codes_tell {told} letters states codes =
      tells_as (subst (λ (n : ℕ). Tells told (CodesRight n row)) letters codes) (row_parts states) row_codes

-- a state past the sixteen bytes does not accept
pub others_all
    : (image : List ℕ) {first : ℕ} → first ≡ (table_of image).states
    → ((s : ℕ) → s < 128 → first ≤ s → ¬ Accepting (table_of image) s) → OtherBits image
others_all image states passed s past =
    elim (dec_lt s 128) [
      | yes low ↦ omega (arith, passed s low (rw states past), bit-zero_or_one (table_of image).accepting s)
      | no high ↦ accept_past image s (omega arith)
    ]

-- the ranges of states, and the accept bytes
module _ (image : List ℕ) where
  -- the rows stand behind the letters
  pub rows_behind : TailRight image → rows_place (letters_of image) ≤ length image
  rows_behind tail = omega (arith, tail.end, place_low image (row_count image))

  states_low : MiddleRight image → 1 ≤ (table_of image).states
  unfolding table_of
  states_low middle = middle.some_state

  states_high : MiddleRight image → (table_of image).states ≤ 128
  unfolding table_of
  states_high middle = middle.few_states

  sixteen : rows_tag (letters_of image) ≤ length image → length (table_of image).accepting ≡ accepting_bytes
  unfolding table_of
  sixteen long =
      length-take-le accepting_bytes (drop (accepting_place (letters_of image)) image) (omega (arith, length-drop (accepting_place (letters_of image)) image))

  accepting_bytes_lem : Bytes image → Bytes (table_of image).accepting
  unfolding table_of
  accepting_bytes_lem bytes = part_bytes image accepting_bytes (accepting_place (letters_of image)) bytes

  -- if all parts are right, the bytes are the image of what they say
  pub parts_image
      : Bytes image → HeadRight image → MiddleRight image → TailRight image → LettersRight image → OtherBits image → RowsRight image
      → IsImage (table_of image) image
  parts_image bytes head middle tail letters others rows = record {
    in_range = parts_range;
    encoded = framed_image image bytes head middle tail;
  }
    where
      many : length (table_of image).alphabet ≡ letters_of image
      many = alphabet_length image (omega (arith, rows_behind tail))

      letter : (b : ℕ) → Memᴰ b (table_of image).alphabet → T (is_letter b)
      letter b m =
          let found = place_of m in
          subst (λ (x : ℕ). T (is_letter x)) found.2 (letters found.0 (omega (arith, found.1, many))).letter

      row : (r : Row) → Memᴰ r (table_of image).rows → RowInRange (table_of image) r
      row r m = let found = rows_number image m in subst (RowInRange (table_of image)) (sym found.2) (rows found.0 found.1)

      parts_range : InRange (table_of image)
      parts_range = record {
        some_letter = rw many head.some_letter;
        few_letters = rw many head.few_letters;
        letters = letter;
        different = nodup_of (table_of image).alphabet (λ c low d before. (letters c (omega (arith, many))).fresh d before);
        some_state = states_low middle;
        few_states = states_high middle;
        sixteen = sixteen (omega (arith, rows_behind tail));
        bytes = accepting_bytes_lem bytes;
        no_other_bit = others;
        few_rows = rw (rows_length_lem image) tail.few_rows;
        rows = row;
      }

  module _ {t : Table} (is : IsImage t image) where
    -- a well-formed image is the image of what it says
    pub image_says : IsImage (table_of image) image
    image_says = subst (λ (u : Table). IsImage u image) (sym (image_table is)) is

    pub image_letters : LettersRight image
    image_letters c low =
        let many = alphabet_length image (omega (arith, rows_behind (image_tail is))) in
        let inside : c < length (table_of image).alphabet = omega arith in
        record {
          letter = image_says.in_range.letters (letter_of image c) (member_at (table_of image).alphabet c inside);
          fresh = of_nodup (table_of image).alphabet image_says.in_range.different c inside;
        }

    pub image_others : OtherBits image
    image_others = image_says.in_range.no_other_bit

    pub image_rows : RowsRight image
    image_rows i low = image_says.in_range.rows (row_of image i) (rows_in_lem image i low)

-- all parts are right
pub record PartsRight (image : List ℕ) : Type 0 where
  pub head : HeadRight image
  pub middle : MiddleRight image
  pub tail : TailRight image
  pub letters : LettersRight image
  pub others : OtherBits image
  pub rows : RowsRight image

-- and that is what it is to be well formed
pub parts_told : {told : Bool} (image : List ℕ) → Bytes image → Tells told (PartsRight image) → Tells told (WellFormed image)
parts_told image bytes tells =
    tells_as tells
    (λ p. (table_of image, parts_image image bytes p.head p.middle p.tail p.letters p.others p.rows))
    (λ w. record {
      head = image_head w.1;
      middle = image_middle w.1;
      tail = image_tail w.1;
      letters = image_letters image w.1;
      others = image_others image w.1;
      rows = image_rows image w.1;
    })
