-- The form of an image, said once: the codes in a row, where the fields stand, and how many bytes a row takes. Whatever reads, writes or
-- speaks of an image uses these names, and the code's constants are the same (`src/form.rt`).
use Rattle.std.specs.Prelude.{ℕ, ◌+◌, ◌*◌, ◌/◌}

-- A row's symbol, past the letters
abbrev pub left_mark : ℕ
left_mark = 16

abbrev pub right_mark : ℕ
right_mark = 17

abbrev pub any_symbol : ℕ
any_symbol = 18

-- Its test of the counter
abbrev pub zero_counter : ℕ
zero_counter = 0

abbrev pub above_zero : ℕ
above_zero = 1

abbrev pub either_counter : ℕ
either_counter = 2

-- Its move: to a mark, or by what it is above or below `no_move`
abbrev pub to_left : ℕ
to_left = 0

abbrev pub no_move : ℕ
no_move = 64

abbrev pub to_right : ℕ
to_right = 128

-- Its change, by what it is above or below `no_change`, up to the highest
abbrev pub no_change : ℕ
no_change = 31

abbrev pub most_change : ℕ
most_change = 62

-- Where the fields stand, each with its tag and its length in three bytes before its value; behind the alphabet that depends on how
-- many letters there are.
abbrev pub edition_place : ℕ
edition_place = 3

abbrev pub alphabet_tag : ℕ
alphabet_tag = 4

-- the low byte of the alphabet's length
abbrev pub count_place : ℕ
count_place = 6

abbrev pub letters_place : ℕ
letters_place = 7

abbrev pub decr_on_zero_tag : ℕ → ℕ
decr_on_zero_tag letters = letters + 7

abbrev pub decr_on_zero_place : ℕ → ℕ
decr_on_zero_place letters = letters + 10

abbrev pub states_tag : ℕ → ℕ
states_tag letters = letters + 11

abbrev pub states_place : ℕ → ℕ
states_place letters = letters + 14

abbrev pub accepting_tag : ℕ → ℕ
accepting_tag letters = letters + 16

abbrev pub accepting_place : ℕ → ℕ
accepting_place letters = letters + 19

-- one bit for each of 128 states
abbrev pub accepting_bytes : ℕ
accepting_bytes = 16

abbrev pub rows_tag : ℕ → ℕ
rows_tag letters = letters + 35

-- the length of the rows' field
abbrev pub rows_length : ℕ → ℕ
rows_length letters = letters + 36

abbrev pub rows_place : ℕ → ℕ
rows_place letters = letters + 38

-- The editions that tag 1 may name
abbrev pub first_edition : ℕ
first_edition = 1

-- The bytes of a row's own numbers
abbrev pub row_width : ℕ
row_width = 8

-- How many bytes a row takes. It is shut: what stands outside knows the laws of `proofs/Width.antt`, each proved once for every width, so
-- that no product of two unknown numbers shows.
pub data Width : Type 0 where
  eight : Width

-- the bytes of a row
unfoldable pub wide : Width → ℕ
wide eight = row_width

-- the bytes of so many rows
unfoldable pub bytes_of : Width → ℕ → ℕ
bytes_of eight n = n * row_width

-- how many whole rows so many bytes hold
unfoldable pub rows_in : Width → ℕ → ℕ
rows_in eight n = n / row_width

-- the width in an image of this edition
unfoldable pub width_for : ℕ → Width
width_for edition = eight
