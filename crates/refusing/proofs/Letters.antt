-- A byte is a letter of the alphabet if it stands among its letters.
use Prim.Native.Nat.{ℕ, ◌≤◌, ◌<◌}
use native.Mathlib.Omega.{arith}
use mathlib.Core.Path.{◌≡◌, sym, ◌∙◌, subst}
use mathlib.Core.List.{List, Memᴰ}
use lib.ListN.{length, length-take, length-drop, drop}
use Rattle.table.specs.Table.{Table}
use Rattle.table.specs.WellFormed.{IsImage}
use Rattle.table.specs.Form.{letters_place}
use Rattle.table.specs.Fields.{letters_of, letter_of, row_count, table_of}
use Rattle.table.proofs.RowList.{place_low}
use Rattle.table.proofs.Places.{place_of, member_at}
use Rattle.table.proofs.Encoded.{image_tail}

-- a well-formed image has all its letters
pub letters_whole : {t : Table} {image : List ℕ} → IsImage t image → length (table_of image).alphabet ≡ letters_of image
unfolding table_of
letters_whole {image = image} is =
    length-take (letters_of image) (drop letters_place image) ∙ omega (arith, length-drop letters_place image, (image_tail is).end, place_low image (row_count image))

module _ (image : List ℕ) (b : ℕ) (whole : length (table_of image).alphabet ≡ letters_of image) where
  -- a byte is a letter if it stands among the letters
  pub letter_found : (c found : ℕ) → c < letters_of image → found ≡ letter_of image c → found ≡ b → Memᴰ b (table_of image).alphabet
  letter_found c found low is same =
      subst (λ (x : ℕ). Memᴰ x (table_of image).alphabet) (sym is ∙ same) (member_at (table_of image).alphabet c (omega arith))

  pub letter_nowhere : (many : ℕ) → letters_of image ≤ many → ((c : ℕ) → c < many → ¬ (letter_of image c ≡ b)) → ¬ Memᴰ b (table_of image).alphabet
  letter_nowhere many all none m = let place = place_of m in none place.0 (omega (arith, place.1)) place.2
