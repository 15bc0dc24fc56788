-- What the readers of an image read: the fields, a byte past the end, and a row.
use Prim.Native.Nat.{ℕ, ◌+◌, ◌*◌, ◌/◌, ◌%◌, ◌^◌, ◌≤◌, ◌<◌}
use native.Mathlib.Nat.{add_comm, add_assoc}
use native.Mathlib.Decide.{dec_lt}
use native.Mathlib.Omega.{arith}
use mathlib.Core.Path.{◌≡◌, refl, sym, ap, ◌∙◌}
use mathlib.Core.List.{List}
use lib.ListN.{length, get_or, take, drop, length-take, length-drop, get_or-eq_default}
use lib.Dec.{eqb}
use lib.Seq.{length-take-le, get_or-take, get_or-drop}
use Rattle.bits.specs.Bit.{bit, Bytes}
use Rattle.bits.proofs.Change.{bit_past}
use Rattle.table.specs.Form.{letters_place, decr_on_zero_place, states_place, accepting_place, accepting_bytes, rows_place, rows_length, wide, bytes_of, rows_in, width_for}
use Rattle.table.specs.Fields.{byte_at, two_at, letters_of, letter_of, width_of, row_place, row_from, row_of, row_count, table_of}
use Rattle.table.specs.RowCode.{row_is}
use Rattle.table.specs.declared.Row as Code
use Rattle.table.proofs.RowList.{place_low}

-- a byte of a part
part_inside : (l : List ℕ) (n m i : ℕ) → i < n → get_or (take n (drop m l)) i 0 ≡ get_or l (m + i) 0
part_inside l n m i low = get_or-take n (drop m l) i 0 low ∙ get_or-drop m l i 0

-- and past its end
part_past : (l : List ℕ) (n m i : ℕ) → n ≤ i → get_or (take n (drop m l)) i 0 ≡ 0
part_past l n m i high = get_or-eq_default (take n (drop m l)) 0 (omega (arith, length-take n (drop m l)))

-- a part of bytes is bytes
pub part_bytes : (l : List ℕ) (n m : ℕ) → Bytes l → Bytes (take n (drop m l))
part_bytes l n m bytes i =
    elim (dec_lt i n) [
      | yes low ↦ rw (part_inside l n m i low) (bytes (m + i))
      | no high ↦ omega (arith, part_past l n m i (omega arith))
    ]

module _ (image : List ℕ) where
  -- the alphabet is as long as it says, if the image is long enough
  pub alphabet_length : letters_of image + 7 ≤ length image → length (table_of image).alphabet ≡ letters_of image
  unfolding table_of
  alphabet_length long = length-take-le (letters_of image) (drop letters_place image) (omega (arith, length-drop letters_place image))

  -- letter c
  pub letter_inside : (c : ℕ) → c < letters_of image → byte_at image (c + letters_place) ≡ letter_of image c
  unfolding table_of
  letter_inside c low = ap (byte_at image) (add_comm c letters_place) ∙ sym (part_inside image (letters_of image) letters_place c low)

  pub letter_past : (c : ℕ) → letters_of image ≤ c → letter_of image c ≡ 0
  unfolding table_of
  letter_past c high = part_past image (letters_of image) letters_place c high

  -- the bit of state s
  pub accept_inside
      : (s : ℕ) → s < 128 → byte_at image (accepting_place (letters_of image) + s / 8) / 2 ^ (s % 8) % 2 ≡ bit (table_of image).accepting s
  unfolding bit table_of
  accept_inside s low =
      ap (λ (b : ℕ). b / 2 ^ (s % 8) % 2) (sym (part_inside image accepting_bytes (accepting_place (letters_of image)) (s / 8) (omega arith)))

  pub accept_past : (s : ℕ) → 128 ≤ s → bit (table_of image).accepting s ≡ 0
  unfolding table_of
  accept_past s high =
      bit_past (take accepting_bytes (drop (accepting_place (letters_of image)) image)) s (omega (arith, length-take accepting_bytes (drop (accepting_place (letters_of image)) image)))

  -- a byte past the end is 0, and so is a row that starts there
  pub byte_past : (at : ℕ) → length image ≤ at → byte_at image at ≡ 0
  byte_past at past = get_or-eq_default image 0 past

  pub here_past : (at : ℕ) → length image ≤ at → row_from image at ≡ record { from = 0; symbol = 0; test = 0; move = 0; change = 0; to = 0 }
  unfolding row_from
  here_past at past =
      let zero : (j : ℕ) → byte_at image (at + j) ≡ 0 = λ j. byte_past (at + j) (omega arith) in
      let from : two_at image at ≡ 0 = omega (arith, byte_past at past, zero 1) in
      let to : two_at image (at + 6) ≡ 0 = omega (arith, zero 6, byte_past (at + 6 + 1) (omega arith)) in
      λ j. record { from = from j; symbol = zero 2 j; test = zero 3 j; move = zero 4 j; change = zero 5 j; to = to j }

  -- the state that a row leaves
  pub from_here : (at : ℕ) → two_at image at ≡ (row_from image at).from
  unfolding row_from
  from_here at = refl

  -- where row i is read: where it stands, and past the end at the end
  pub place_inside : (first i : ℕ) → first ≡ rows_place (letters_of image) → first + i * 8 ≡ row_place image i
  unfolding row_place bytes_of width_for
  place_inside first i e = ap (λ (n : ℕ). n + i * 8) e

  pub place-past : (i : ℕ) → length image / 8 ≤ i → row_from image (length image) ≡ row_of image i
  place-past i past =
      here_past (length image) (omega arith) ∙ sym (here_past (row_place image i) (omega (arith, place_low image i)))

  -- how wide rows are, and how many there are
  pub wide_is : 8 ≡ wide (width_of image)
  unfolding wide width_for
  wide_is = refl

  pub count_is : (n : ℕ) → n ≡ two_at image (rows_length (letters_of image)) → n / 8 ≡ row_count image
  unfolding rows_in width_for
  count_is n e = ap (λ (m : ℕ). m / 8) e

  pub bytes_is : (n : ℕ) → n ≡ row_count image → n * 8 ≡ bytes_of (width_of image) (row_count image)
  unfolding bytes_of width_for
  bytes_is n e = ap (λ (m : ℕ). m * 8) e

  -- two bytes tell how many rows there are
  pub count_low : Bytes image → row_count image < 8192
  unfolding rows_in width_for
  count_low bytes = omega (arith, bytes (rows_length (letters_of image)), bytes (rows_length (letters_of image) + 1))

  pub states_inside : (k : ℕ) → k ≡ letters_of image → two_at image (states_place k) ≡ (table_of image).states
  unfolding table_of
  states_inside k e = ap (λ (n : ℕ). two_at image (states_place n)) e

  pub flag_inside : {b : ℕ} → b ≡ byte_at image (decr_on_zero_place (letters_of image)) → eqb b 1 ≡ (table_of image).decr_on_zero
  unfolding table_of
  flag_inside e = ap (λ (b : ℕ). eqb b 1) e

  -- the last two bytes of a row
  pub last_two : (at n : ℕ) → n ≡ byte_at image (at + 6) * 256 + byte_at image (at + 7) → n ≡ two_at image (at + 6)
  last_two at n e = e ∙ ap (λ (k : ℕ). byte_at image (at + 6) * 256 + byte_at image k) (sym (add_assoc at 6 1))

  -- a row of the code whose numbers stand here
  pub row_is_lem
      : (at : ℕ) (r : Code.Row) → r.from ≡ two_at image at → r.symbol ≡ byte_at image (at + 2) → r.test ≡ byte_at image (at + 3)
      → r.motion ≡ byte_at image (at + 4) → r.change ≡ byte_at image (at + 5) → r.to ≡ two_at image (at + 6) → row_is r ≡ row_from image at
  unfolding row_from
  row_is_lem at r from symbol test motion change to =
      λ j. record { from = from j; symbol = symbol j; test = test j; move = motion j; change = change j; to = to j }
