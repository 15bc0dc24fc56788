-- When a row's symbol and its test fit, and what its change comes to, case by case.
use Prim.Native.Nat.{ℕ, ◌+◌, ◌-◌, ◌≤◌, ◌<◌, min}
use native.Mathlib.Omega.{arith}
use mathlib.Core.Path.{◌≡◌, refl, ap, ◌∙◌}
use mathlib.Core.Bool.{Bool, true, false, cond, ◌&&◌, ◌||◌}
use mathlib.Core.Option.{none, some}
use mathlib.Core.List.{List}
use lib.ListN.{length, get_or, drop, length-take, length-drop}
use lib.Dec.{ltb, eqb, leb-zero}
use borrow.Author.Tests.{lt-ltb, le-ltb, le-leb, lt-leb, eq-eqb, ne_eqb}
use Rattle.table.specs.Form as Form
use Rattle.table.specs.Fields.{letters_of, letter_of, table_of}
use Rattle.cells.specs.Cell.{Symbol, left_mark, letter, right_mark}
use Rattle.machine.specs.Step.{symbol_fits, counter_fits, changed}
use Rattle.machine.specs.declared.Outcome.TheVariants.{Goes, Blocked, OverLimit}
use Rattle.machine.specs.Inside.Change.{outcome_of}

or-true : (a : Bool) {b : Bool} → b ≡ true → (a || b) ≡ true
or-true true e = refl
or-true false e = e

or-false : (a : Bool) {b : Bool} → b ≡ false → (a || b) ≡ a
or-false true e = refl
or-false false e = e

-- a test of either counter
pub counter_either : (test counter : ℕ) → test ≡ Form.either_counter → counter_fits test counter ≡ true
unfolding counter_fits
counter_either test counter either = or-true (eqb test (min counter 1)) (eq-eqb test Form.either_counter either)

-- any other test, with the counter at zero and above it
pub counter_zero : (test counter : ℕ) → ¬ (test ≡ Form.either_counter) → counter ≡ 0 → counter_fits test counter ≡ eqb test Form.zero_counter
unfolding counter_fits
counter_zero test counter other zero = or-false (eqb test (min counter 1)) (ne_eqb test Form.either_counter other) ∙ ap (eqb test) (omega arith)

pub counter_above : (test counter : ℕ) → ¬ (test ≡ Form.either_counter) → ¬ (counter ≡ 0) → counter_fits test counter ≡ eqb test Form.above_zero
unfolding counter_fits
counter_above test counter other above = or-false (eqb test (min counter 1)) (ne_eqb test Form.either_counter other) ∙ ap (eqb test) (omega arith)

-- any symbol
pub symbol_any : (alphabet : List ℕ) (code : ℕ) (seen : Symbol) → code ≡ Form.any_symbol → symbol_fits alphabet code seen ≡ true
unfolding symbol_fits
symbol_any alphabet code left_mark any = or-true (eqb code Form.left_mark) (eq-eqb code Form.any_symbol any)
symbol_any alphabet code (letter b) any = or-true (ltb code (length alphabet) && eqb (get_or alphabet code 0) b) (eq-eqb code Form.any_symbol any)
symbol_any alphabet code right_mark any = or-true (eqb code Form.right_mark) (eq-eqb code Form.any_symbol any)

module _ (alphabet : List ℕ) (code : ℕ) (other : ¬ (code ≡ Form.any_symbol)) where
  -- any other symbol, on each kind of cell
  pub symbol_left : symbol_fits alphabet code left_mark ≡ eqb code Form.left_mark
  unfolding symbol_fits
  symbol_left = or-false (eqb code Form.left_mark) (ne_eqb code Form.any_symbol other)

  pub symbol_letter : (b : ℕ) → symbol_fits alphabet code (letter b) ≡ (ltb code (length alphabet) && eqb (get_or alphabet code 0) b)
  unfolding symbol_fits
  symbol_letter b = or-false (ltb code (length alphabet) && eqb (get_or alphabet code 0) b) (ne_eqb code Form.any_symbol other)

  pub symbol_right : symbol_fits alphabet code right_mark ≡ eqb code Form.right_mark
  unfolding symbol_fits
  symbol_right = or-false (eqb code Form.right_mark) (ne_eqb code Form.any_symbol other)

-- how many letters stand in an image
letters_many : (image : List ℕ) → length (table_of image).alphabet ≡ min (letters_of image) (length image - Form.letters_place)
unfolding table_of
letters_many image = length-take (letters_of image) (drop Form.letters_place image) ∙ ap (min (letters_of image)) (length-drop Form.letters_place image)

-- a code past them is no letter's
pub letter_past : (image : List ℕ) (code b : ℕ) → min (letters_of image) (length image - Form.letters_place) ≤ code
    → (ltb code (length (table_of image).alphabet) && eqb (get_or (table_of image).alphabet code 0) b) ≡ false
letter_past image code b past = rw (le-ltb code (length (table_of image).alphabet) (omega (arith, letters_many image))) refl

-- any other is compared with its letter
pub letter_compared : (image : List ℕ) (code b at found : ℕ) → code < min (letters_of image) (length image - Form.letters_place) → at ≡ code → found ≡ letter_of image at
    → eqb found b ≡ (ltb code (length (table_of image).alphabet) && eqb (letter_of image code) b)
letter_compared image code b at found inside here is =
    rw (lt-ltb code (length (table_of image).alphabet) (omega (arith, letters_many image)), is, here) refl

module _ (decr_on_zero : Bool) (code counter by : ℕ) (is : by ≡ code) where
  -- a rise
  pub changed_up : Form.no_change ≤ by → changed decr_on_zero code counter ≡ some (counter + (by - Form.no_change))
  unfolding changed
  changed_up up = rw (le-leb Form.no_change (counter + code) (omega arith)) (ap some (omega arith))

  -- a fall that does not lead below zero
  pub changed_down : by < Form.no_change → Form.no_change - by ≤ counter → changed decr_on_zero code counter ≡ some (counter - (Form.no_change - by) + 0)
  unfolding changed
  changed_down down enough = rw (le-leb Form.no_change (counter + code) (omega arith)) (ap some (omega arith))

  -- and one that does
  changed_below : counter < Form.no_change - by → changed decr_on_zero code counter ≡ cond decr_on_zero (some 0) none
  unfolding changed
  changed_below low = rw (lt-leb Form.no_change (counter + code) (omega arith)) refl

  -- where it stops at zero, and where it does not
  pub changed_stops : (limit cell : ℕ) → counter < Form.no_change - by → decr_on_zero ≡ true → outcome_of limit cell (changed decr_on_zero code counter) ≡ Goes cell 0
  unfolding outcome_of
  changed_stops limit cell low e = rw (changed_below low, e, leb-zero limit) refl

  pub changed_dies : (limit cell : ℕ) → counter < Form.no_change - by → decr_on_zero ≡ false → outcome_of limit cell (changed decr_on_zero code counter) ≡ Blocked
  unfolding outcome_of
  changed_dies limit cell low e = rw (changed_below low, e) refl

module _ (limit cell counter : ℕ) where
  -- a counter within the limit, and one above it
  pub outcome_within : counter ≤ limit → outcome_of limit cell (some counter) ≡ Goes cell counter
  unfolding outcome_of
  outcome_within low = rw (le-leb counter limit low) refl

  pub outcome_above : limit < counter → outcome_of limit cell (some counter) ≡ OverLimit
  unfolding outcome_of
  outcome_above high = rw (lt-leb counter limit high) refl
