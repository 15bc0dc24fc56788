-- Bytes whose fields stand where they should are the image of what the fields say.
use Prim.Native.Nat.{ℕ, zero, suc, ◌+◌, ◌/◌, ◌%◌, ◌≤◌}
use native.Mathlib.Nat.{add-zero, zero-add, le_of_eq}
use native.Mathlib.Omega.{arith}
use mathlib.Core.Path.{◌≡◌, refl, sym, ap, ◌∙◌}
use mathlib.Core.List.{List, [], ◌∷◌, append-nil}
use lib.ListN.{length, take, drop, drop_of_length-le}
use lib.Seq.{take_at}
use lib.Dec.{eqb}
use Rattle.bits.specs.Bit.{Bytes}
use Rattle.table.specs.Form.{
  edition_place,
  alphabet_tag,
  letters_place,
  decr_on_zero_tag,
  decr_on_zero_place,
  states_tag,
  states_place,
  accepting_tag,
  accepting_place,
  accepting_bytes,
  rows_tag,
  rows_place,
  bytes_of,
}
use Rattle.table.specs.Image.{two_bytes, rows_bytes, flag, edition, encode}
use Rattle.table.specs.Fields.{byte_at, two_at, letters_of, width_of, row_place, row_count, rows_from, table_of}
use Rattle.table.specs.Inside.Right.{HeadRight, MiddleRight, TailRight}
use Rattle.table.proofs.Width.{bytes_of_high}
use Rattle.table.proofs.Image.{rows_wide}
use Rattle.table.proofs.RowList.{length-rows_from, place_first}
use Rattle.checker.proofs.Cut.{take_bytes, Stands_of, bytes_of_rows}

-- a flag is told by its byte
flag_of : (b : ℕ) → b ≤ 1 → flag (eqb b 1) ≡ b
unfolding flag
flag_of zero low = refl
flag_of (suc zero) low = refl
flag_of (suc (suc b)) low = absurd (omega arith)

-- the end of an image, as it is reckoned
module _ (image : List ℕ) {k many : ℕ} (letters : k ≡ letters_of image) (rows : many ≡ bytes_of (width_of image) (row_count image)) where
  pub tail_end : TailRight image → length image ≡ rows_place k + many
  unfolding row_place
  tail_end tail = omega (arith, letters, rows, tail.end)

  pub end_low : row_count image ≤ 1024 → many ≤ 16384
  end_low few = omega (arith, rows, bytes_of_high (width_of image) (row_count image))

  pub end_tail : length image ≡ rows_place k + many → length image ≡ row_place image (row_count image)
  unfolding row_place
  end_tail end = omega (arith, letters, rows, end)

module _ (image : List ℕ) (bytes : Bytes image) (head : HeadRight image) (middle : MiddleRight image) (tail : TailRight image) where
  end : length image ≡ rows_place (letters_of image) + bytes_of (width_of image) (row_count image)
  end = tail_end image refl refl tail

  -- the values of tags 1, 3, 4 and 6
  edition-value : take 1 (drop edition_place image) ≡ edition (table_of image) ∷ []
  edition-value = take_bytes image edition_place 1 (omega (arith, end)) ∙ ap (λ (b : ℕ). b ∷ []) head.named

  flag-value : take 1 (drop (decr_on_zero_place (letters_of image)) image) ≡ flag (eqb (byte_at image (decr_on_zero_place (letters_of image))) 1) ∷ []
  flag-value =
      take_bytes image (decr_on_zero_place (letters_of image)) 1 (omega (arith, end))
      ∙ ap (λ (b : ℕ). b ∷ []) (ap (byte_at image) (add-zero (decr_on_zero_place (letters_of image))) ∙ sym (flag_of _ middle.flag))

  states_value : take 2 (drop (states_place (letters_of image)) image) ≡ two_bytes (two_at image (states_place (letters_of image)))
  unfolding two_bytes
  states_value =
      let at = states_place (letters_of image) in
      let high : byte_at image (at + 0) ≡ two_at image at / 256 = rw add-zero (omega (arith, bytes (at + 1))) in
      let low : byte_at image (at + 1) ≡ two_at image at % 256 = omega (arith, bytes (at + 1)) in
      take_bytes image at 2 (omega (arith, end)) ∙ (λ i. high i ∷ low i ∷ [])

  rows_value : take (bytes_of (width_of image) (row_count image)) (drop (rows_place (letters_of image)) image) ≡ rows_bytes (rows_from image 0 (row_count image))
  rows_value =
      let rows = rows_from image 0 (row_count image) in
      let many : 0 + row_count image ≡ row_count image = zero-add (row_count image) in
      let all = rw (place_first image) at (bytes_of_rows image 0 (row_count image) bytes (rw many (le_of_eq (sym tail.end)))) in
      rw all (take_at (rows_bytes rows) _ (bytes_of (width_of image) (row_count image))
      (rows_wide (width_of image) rows ∙ ap (bytes_of (width_of image)) (length-rows_from image 0 (row_count image))))

  -- a framed image is the image of what its fields say
  pub framed_image : image ≡ encode (table_of image)
  unfolding encode table_of
  framed_image =
      let k = letters_of image in
      let many = bytes_of (width_of image) (row_count image) in
      Stands_of image 0 1 1 edition_place alphabet_tag bytes refl refl (omega (arith, end)) head.first edition-value
      (Stands_of image alphabet_tag 2 k letters_place (decr_on_zero_tag k) bytes refl (omega arith) (omega (arith, end)) head.second refl
      (Stands_of image (decr_on_zero_tag k) 3 1 (decr_on_zero_place k) (states_tag k) bytes (omega arith) (omega arith) (omega (arith, end)) middle.third flag-value
      (Stands_of image (states_tag k) 4 2 (states_place k) (accepting_tag k) bytes (omega arith) (omega arith) (omega (arith, end)) middle.fourth states_value
      (Stands_of image (accepting_tag k) 5 accepting_bytes (accepting_place k) (rows_tag k) bytes (omega arith) (omega arith) (omega (arith, end)) tail.fifth refl
      (Stands_of
      image
      (rows_tag k)
      6
      many
      (rows_place k)
      (rows_place k + many)
      bytes
      (omega arith)
      refl
      (omega (arith, end))
      tail.sixth
      rows_value
      (drop_of_length-le image {i = rows_place k + many} (omega (arith, end)))
      ∙ append-nil _)))))
