-- Which parts of any bytes are right, as the checker says it. No public promise reaches it.
use Rattle.std.specs.Prelude.{ℕ, ◌+◌, ◌≤◌, ◌<◌, ◌≡◌, List, length, T}
use Rattle.bits.specs.Byte.{is_letter}
use Rattle.table.specs.Form.{edition_place, alphabet_tag, decr_on_zero_tag, decr_on_zero_place, states_tag, states_place, accepting_tag, accepting_bytes, rows_tag, bytes_of}
use Rattle.table.specs.Image.{edition}
use Rattle.table.specs.Fields.{byte_at, two_at, letters_of, letter_of, width_of, row_place, row_count, table_of}

-- a field with this tag and this length starts here
pub record FieldAt (image : List ℕ) (at t n : ℕ) : Type 0 where
  pub tag : byte_at image at ≡ t
  pub many : two_at image (at + 1) ≡ n

-- tags 1 and 2 are right but for the letters themselves; the edition is that of what the fields say
pub record HeadRight (image : List ℕ) : Type 0 where
  pub first : FieldAt image 0 1 1
  pub named : byte_at image edition_place ≡ edition (table_of image)
  pub second : FieldAt image alphabet_tag 2 (letters_of image)
  pub some_letter : 1 ≤ letters_of image
  pub few_letters : letters_of image ≤ 16

-- tags 3 and 4 are right
pub record MiddleRight (image : List ℕ) : Type 0 where
  pub third : FieldAt image (decr_on_zero_tag (letters_of image)) 3 1
  pub flag : byte_at image (decr_on_zero_place (letters_of image)) ≤ 1
  pub fourth : FieldAt image (states_tag (letters_of image)) 4 2
  pub some_state : 1 ≤ two_at image (states_place (letters_of image))
  pub few_states : two_at image (states_place (letters_of image)) ≤ 128

-- tags 5 and 6 are as long as they should be, and nothing follows
pub record TailRight (image : List ℕ) : Type 0 where
  pub fifth : FieldAt image (accepting_tag (letters_of image)) 5 accepting_bytes
  pub sixth : FieldAt image (rows_tag (letters_of image)) 6 (bytes_of (width_of image) (row_count image))
  pub few_rows : row_count image ≤ 1024
  pub end : length image ≡ row_place image (row_count image)

-- letter c is a letter, and differs from each before it
pub record LetterRight (image : List ℕ) (c : ℕ) : Type 0 where
  pub letter : T (is_letter (letter_of image c))
  pub fresh : (d : ℕ) → d < c → ¬ (letter_of image d ≡ letter_of image c)
