-- The fields of a table's image say what the table is, and stand where they should.
use Prim.Native.Nat.{ℕ, ◌+◌, ◌≤◌}
use native.Mathlib.Nat.{add_assoc}
use native.Mathlib.Omega.{arith}
use mathlib.Core.Path.{◌≡◌, refl, sym, ap, ◌∙◌}
use mathlib.Core.Bool.{Bool, true, false}
use mathlib.Core.List.{List, [], ◌∷◌, ◌++◌, append-nil}
use lib.ListN.{length, take, drop}
use lib.Dec.{eqb}
use Rattle.table.specs.Form.{edition_place, alphabet_tag, letters_place, decr_on_zero_tag, decr_on_zero_place, states_tag, states_place, accepting_tag, accepting_place, accepting_bytes, rows_tag, rows_length, bytes_of}
use Rattle.table.specs.Table.{Table}
use Rattle.table.specs.Image.{two_bytes, field, rows_bytes, flag, edition, encode}
use Rattle.table.specs.WellFormed.{IsImage}
use Rattle.table.specs.Fields.{byte_at, two_at, letters_of, width_of, row_place, row_count, rows_from, table_of}
use Rattle.table.specs.Inside.Right.{HeadRight, MiddleRight, TailRight}
use Rattle.table.proofs.Width.{rows_in_bytes}
use Rattle.table.proofs.Image.{length-rows, rows_wide, length-encode}
use Rattle.table.proofs.Standing.{Stands, stands_field, stands_byte, stands_value, stands_after, stands_next}
use Rattle.table.proofs.RowList.{rows_of_bytes, place_first}

-- the byte of a flag tells it
of_flag : (b : Bool) → eqb (flag b) 1 ≡ b
unfolding flag
of_flag true = refl
of_flag false = refl

flag_low : (b : Bool) → flag b ≤ 1
unfolding flag
flag_low true = omega arith
flag_low false = omega arith

-- the fields from tag 2, 3, 4, 5 and 6 on
abbrev from6 : Table → List ℕ
from6 t = field 6 (rows_bytes t.rows) ++ []

abbrev from5 : Table → List ℕ
from5 t = field 5 t.accepting ++ from6 t

abbrev from4 : Table → List ℕ
from4 t = field 4 (two_bytes t.states) ++ from5 t

abbrev from3 : Table → List ℕ
from3 t = field 3 (flag t.decr_on_zero ∷ []) ++ from4 t

abbrev from2 : Table → List ℕ
from2 t = field 2 t.alphabet ++ from3 t

encode_fields : (t : Table) → encode t ≡ field 1 (edition t ∷ []) ++ from2 t
unfolding encode
encode_fields t = rw (append-nil (field 6 (rows_bytes t.rows))) refl

module _ {t : Table} {image : List ℕ} (is : IsImage t image) where
  first : Stands image 0 1 (edition t ∷ []) (from2 t)
  first = record { bytes = is.encoded ∙ encode_fields t }

  second : Stands image alphabet_tag 2 t.alphabet (from3 t)
  second = stands_next first alphabet_tag refl

  letters : letters_of image ≡ length t.alphabet
  letters = omega (arith, (stands_field second).many, is.in_range.few_letters)

  third : Stands image (decr_on_zero_tag (letters_of image)) 3 (flag t.decr_on_zero ∷ []) (from4 t)
  third = stands_next second (decr_on_zero_tag (letters_of image)) (omega (arith, letters))

  fourth : Stands image (states_tag (letters_of image)) 4 (two_bytes t.states) (from5 t)
  unfolding two_bytes
  fourth = stands_next third (states_tag (letters_of image)) (omega arith)

  fifth : Stands image (accepting_tag (letters_of image)) 5 t.accepting (from6 t)
  unfolding two_bytes
  fifth = stands_next fourth (accepting_tag (letters_of image)) (omega arith)

  sixth : Stands image (rows_tag (letters_of image)) 6 (rows_bytes t.rows) []
  sixth = stands_next fifth (rows_tag (letters_of image)) (omega (arith, is.in_range.sixteen))

  flag_byte : byte_at image (decr_on_zero_place (letters_of image)) ≡ flag t.decr_on_zero
  flag_byte = stands_byte third (decr_on_zero_place (letters_of image)) 0 (omega arith) (omega arith)

  states_two : two_at image (states_place (letters_of image)) ≡ t.states
  unfolding two_bytes
  states_two = omega (arith, stands_byte fourth (states_place (letters_of image)) 0 (omega arith) (omega arith), stands_byte fourth (states_place (letters_of image) + 1) 1 (omega arith) (omega arith))

  part_length : length (rows_bytes t.rows) ≡ bytes_of (width_of image) (length t.rows)
  part_length = rows_wide (width_of image) t.rows

  rows_two : two_at image (rows_length (letters_of image)) ≡ bytes_of (width_of image) (length t.rows)
  rows_two = ap (two_at image) (sym (add_assoc (letters_of image) 35 1)) ∙ (stands_field sixth).many ∙ part_length

  rows_many : row_count image ≡ length t.rows
  rows_many = rw rows_two (rows_in_bytes (width_of image) (length t.rows))

  rows_same : rows_from image 0 (row_count image) ≡ t.rows
  rows_same = rw rows_many (rows_of_bytes image 0 t.rows [] (stands_after sixth (row_place image 0) (omega (arith, place_first image))))

  -- the fields of a table's image say the table
  pub image_table : table_of image ≡ t
  unfolding table_of
  image_table = λ i. record {
    alphabet = alphabet i;
    decr_on_zero = (ap (λ (b : ℕ). eqb b 1) flag_byte ∙ of_flag t.decr_on_zero) i;
    states = states_two i;
    accepting = accepting i;
    rows = rows_same i;
  }
    where
      alphabet : take (letters_of image) (drop letters_place image) ≡ t.alphabet
      alphabet = rw letters (stands_value second letters_place refl)

      accepting : take accepting_bytes (drop (accepting_place (letters_of image)) image) ≡ t.accepting
      accepting = rw is.in_range.sixteen at (stands_value fifth (accepting_place (letters_of image)) (omega arith))

  -- and stand where they should
  pub image_head : HeadRight image
  image_head = record {
    first = stands_field first;
    named = stands_byte first edition_place 0 refl (omega arith);
    second = rw letters (stands_field second);
    some_letter = rw letters is.in_range.some_letter;
    few_letters = rw letters is.in_range.few_letters;
  }

  pub image_middle : MiddleRight image
  unfolding two_bytes
  image_middle = record {
    third = stands_field third;
    flag = rw flag_byte (flag_low t.decr_on_zero);
    fourth = stands_field fourth;
    some_state = rw states_two is.in_range.some_state;
    few_states = rw states_two is.in_range.few_states;
  }

  pub image_tail : TailRight image
  unfolding row_place
  image_tail = record {
    fifth = rw is.in_range.sixteen at (stands_field fifth);
    sixth = record { tag = (stands_field sixth).tag; many = (stands_field sixth).many ∙ part_length ∙ ap (bytes_of (width_of image)) (sym rows_many) };
    few_rows = rw rows_many is.in_range.few_rows;
    end = ap length is.encoded ∙ length-encode t ∙ rw rows_many (omega (arith, letters, is.in_range.sixteen, length-rows t.rows, part_length));
  }
