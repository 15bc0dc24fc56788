-- A field that stands at a place of an image: what its bytes are and what follows it.
use Prim.Native.Nat.{ℕ, ◌+◌, ◌<◌}
use native.Mathlib.Nat.{add-zero, add_assoc}
use native.Mathlib.Omega.{arith}
use mathlib.Core.Path.{◌≡◌, refl, sym, ap, ◌∙◌}
use mathlib.Core.List.{List, ◌++◌}
use lib.ListN.{length, get_or, take, drop, get_or-append}
use lib.Seq.{drop-drop, drop_at, take_at, get_or-drop}
use Rattle.table.specs.Image.{two_bytes, field}
use Rattle.table.specs.Fields.{byte_at}
use Rattle.table.specs.Inside.Right.{FieldAt}

-- at this place the image goes on with this field, and then with these bytes
pub record Stands (image : List ℕ) (at tag : ℕ) (value rest : List ℕ) : Type 0 where
  pub bytes : drop at image ≡ field tag value ++ rest

-- a byte from a place on
pub byte_from : (image : List ℕ) (at i : ℕ) → byte_at image (at + i) ≡ get_or (drop at image) i 0
byte_from image at i = sym (get_or-drop at image i 0)

module _ {image : List ℕ} {at tag : ℕ} {value rest : List ℕ} (s : Stands image at tag value rest) where
  -- its tag and its length are there
  pub stands_field : FieldAt image at tag (length value)
  unfolding field two_bytes
  stands_field =
      let here : (i : ℕ) → byte_at image (at + i) ≡ get_or (field tag value ++ rest) i 0 = λ i. byte_from image at i ∙ ap (λ (l : List ℕ). get_or l i 0) s.bytes in
      record {
        tag = rw add-zero at (here 0);
        many = rw (add_assoc at 1 1) (omega (arith, here 1, here 2));
      }

  -- its value and what follows it
  after_tag : drop (at + 3) image ≡ value ++ rest
  unfolding field two_bytes
  after_tag = sym (drop-drop 3 at image) ∙ ap (drop 3) s.bytes

  pub stands_after : (next : ℕ) → next ≡ at + 3 → drop next image ≡ value ++ rest
  stands_after next place = rw place after_tag

  pub stands_byte : (next i : ℕ) → next ≡ at + 3 + i → i < length value → byte_at image next ≡ get_or value i 0
  stands_byte next i place low =
      ap (byte_at image) place ∙ byte_from image (at + 3) i ∙ ap (λ (l : List ℕ). get_or l i 0) after_tag ∙ get_or-append value rest 0 i low

  pub stands_value : (next : ℕ) → next ≡ at + 3 → take (length value) (drop next image) ≡ value
  stands_value next place = rw (place, after_tag) (take_at value rest (length value) refl)

  pub stands_rest : (next : ℕ) → next ≡ at + 3 + length value → drop next image ≡ rest
  stands_rest next place =
      rw place (sym (drop-drop (length value) (at + 3) image) ∙ rw after_tag (drop_at value rest (length value) refl))

-- the next field
pub stands_next
    : {image : List ℕ} {at tag tag' : ℕ} {value value' rest : List ℕ} → Stands image at tag value (field tag' value' ++ rest)
    → (next : ℕ) → next ≡ at + 3 + length value → Stands image next tag' value' rest
stands_next s next place = record { bytes = stands_rest s next place }
