-- The rows of an atom as they are written: one for a symbol or a test, or one for each other symbol in turn.
use Prim.Native.Nat.{ℕ, zero, suc, ◌+◌, ◌-◌, ◌≤◌, ◌<◌}
use native.Mathlib.Omega.{arith}
use native.Mathlib.Nat.{add-zero}
use native.Mathlib.Numerals.{add-one}
use mathlib.Core.Path.{◌≡◌, refl, sym, ◌∙◌, ap, subst}
use mathlib.Core.Bool.{Bool, true, false}
use mathlib.Core.List.{List, [], ◌∷◌, ◌++◌, append-nil, append_assoc}
use lib.ListN.{length, get_or, take, drop, length-append, get_or-append, take-append-drop}
use lib.Seq.{take-suc, get_or-append-add, take_all}
use lib.Dec.{eqb}
use borrow.Author.Tests.{eq-eqb, ne_eqb}
use Rattle.table.specs.Table.{Row}
use Rattle.table.specs.Form.{either_counter, left_mark, right_mark}
use Rattle.construction.specs.Construction.{test_row, count_up, all_symbols, without, symbol_rows}
use Rattle.compiler.specs.Inside.Writing.{Sheet, Holds, Filled, Room, Writes, HasLetters}
use Rattle.compiler.specs.Inside.Atoms.{read_rows}
use Rattle.construction.proofs.Symbols.{length-count_up, length_symbols}

-- the symbols by their number
count_up_at : (many n i : ℕ) → i < many → get_or (count_up n many) i 0 ≡ n + i
unfolding count_up
count_up_at zero n i h = absurd (omega arith)
count_up_at (suc many) n zero h = sym (add-zero n)
count_up_at (suc many) n (suc i) h = count_up_at many (suc n) i (omega arith) ∙ (let same : suc n + i ≡ n + suc i = omega arith in same)

pub letter_symbol : (alphabet : List ℕ) (i letters : ℕ) → letters ≡ length alphabet → i < letters → i ≡ get_or (all_symbols alphabet) i 0
letter_symbol alphabet i letters e h =
    let k = length alphabet in
    sym
    (get_or-append (count_up 0 k) (left_mark ∷ right_mark ∷ []) 0 i (omega (arith, length-count_up 0 k))
    ∙ count_up_at k 0 i (omega arith)
    ∙ omega arith)

pub mark_symbol : (alphabet : List ℕ) (i letters : ℕ) → letters ≡ length alphabet → letters ≤ i → i < letters + 2 → i - letters + left_mark ≡ get_or (all_symbols alphabet) i 0
mark_symbol alphabet i letters e h l =
    let k = length alphabet in
    let n = i - letters in
    let same : i ≡ length (count_up 0 k) + n = omega (arith, length-count_up 0 k) in
    sym
    (ap (λ (m : ℕ). get_or (all_symbols alphabet) m 0) same
    ∙ get_or-append-add (count_up 0 k) (left_mark ∷ right_mark ∷ []) n 0
    ∙ by_cases n (omega arith))
  where
    by_cases : (n : ℕ) → n < 2 → get_or (left_mark ∷ right_mark ∷ []) n 0 ≡ n + left_mark
    by_cases zero l = refl
    by_cases (suc zero) l = refl
    by_cases (suc (suc n)) l = absurd (omega arith)

-- no rows
pub writes_none : {out : List ℕ} {place : ℕ} → Writes out out place place (λ _. [])
writes_none {out} {place} = record { writes = λ filled fits. same filled }
  where
    same : {h : Sheet} {accepting : List ℕ} {earlier : List Row} → Filled h accepting earlier out place → Filled h accepting (earlier ++ []) out place
    same {h} {accepting} {earlier} filled = subst (λ (rows : List Row). Filled h accepting rows out place) (sym (append-nil earlier)) filled

-- rows that are the same over the alphabet of the image that is held
pub held_room : {out : List ℕ} {place : ℕ} (xs ys : List ℕ → List Row)
    → ((h : Sheet) (accepting : List ℕ) (rows : List Row) → Holds h accepting rows out → xs h.alphabet ≡ ys h.alphabet)
    → Room out place xs
    → Room out place ys
held_room xs ys same room =
    record {
      sheet = room.sheet;
      accepting = room.accepting;
      earlier = room.earlier;
      filled = room.filled;
      fits = subst (λ (rows : List Row). length room.earlier + length rows ≤ room.sheet.count) (same _ _ _ room.filled.holds) room.fits;
    }

pub held_writes : {out after : List ℕ} {place end : ℕ} (xs ys : List ℕ → List Row)
    → ((h : Sheet) (accepting : List ℕ) (rows : List Row) → Holds h accepting rows out → xs h.alphabet ≡ ys h.alphabet)
    → Writes out after place end xs
    → Writes out after place end ys
held_writes {out} {after} {place} {end} xs ys same w = record { writes = λ filled fits. written filled fits }
  where
    written : {h : Sheet} {accepting : List ℕ} {earlier : List Row}
        → Filled h accepting earlier out place
        → length earlier + length (ys h.alphabet) ≤ h.count
        → Filled h accepting (earlier ++ ys h.alphabet) after end
    written {h} {accepting} {earlier} filled fits =
        let e = same h accepting earlier filled.holds in
        subst (λ (rows : List Row). Filled h accepting (earlier ++ rows) after end) e
        (w.writes filled (subst (λ (rows : List Row). length earlier + length rows ≤ h.count) (sym e) fits))

-- and over any alphabet
pub same_room : {out : List ℕ} {place : ℕ} (xs ys : List ℕ → List Row) → ((alphabet : List ℕ) → xs alphabet ≡ ys alphabet) → Room out place xs → Room out place ys
same_room xs ys same room = held_room xs ys (λ h accepting rows holds. same h.alphabet) room

pub same_writes : {out after : List ℕ} {place end : ℕ} (xs ys : List ℕ → List Row)
    → ((alphabet : List ℕ) → xs alphabet ≡ ys alphabet)
    → Writes out after place end xs
    → Writes out after place end ys
same_writes xs ys same w = held_writes xs ys (λ h accepting rows holds. same h.alphabet) w

-- one symbol, unless it is left out
pub without_same : (x y p q : ℕ) → y ≡ x → symbol_rows (without x (y ∷ [])) p q ≡ []
unfolding without symbol_rows
without_same x y p q e = rw (eq-eqb y x e, symbol_rows)

pub without_other : (x y p q : ℕ) → (y ≡ x → ⊥) → symbol_rows (without x (y ∷ [])) p q ≡ test_row y either_counter p q ∷ []
unfolding without symbol_rows
without_other x y p q n = rw (ne_eqb y x n, symbol_rows)

-- one symbol after another
symbols_append : (x : ℕ) (l m : List ℕ) (p q : ℕ) → symbol_rows (without x (l ++ m)) p q ≡ symbol_rows (without x l) p q ++ symbol_rows (without x m) p q
unfolding symbol_rows without
symbols_append x [] m p q = refl
symbols_append x (y ∷ l) m p q = by_cases (eqb y x) (symbols_append x l m p q)
  where
    by_cases : (t : Bool)
        → symbol_rows (without x (l ++ m)) p q ≡ symbol_rows (without x l) p q ++ symbol_rows (without x m) p q
        → symbol_rows (elim t [ true ↦ without x (l ++ m) | false ↦ y ∷ without x (l ++ m) ]) p q
        ≡ symbol_rows (elim t [ true ↦ without x l | false ↦ y ∷ without x l ]) p q ++ symbol_rows (without x m) p q
    by_cases true e = e
    by_cases false e = ap (λ (rows : List Row). test_row y either_counter p q ∷ rows) e

module _ (x p q : ℕ) (alphabet : List ℕ) where
  -- the rows of the first symbols
  abbrev pub first_rows : ℕ → List Row
  first_rows i = symbol_rows (without x (take i (all_symbols alphabet))) p q

  next_rows : (i : ℕ) → i < length alphabet + 2 → first_rows (i + 1) ≡ first_rows i ++ symbol_rows (without x (get_or (all_symbols alphabet) i 0 ∷ [])) p q
  next_rows i h =
      let all = all_symbols alphabet in
      ap (λ (n : ℕ). symbol_rows (without x (take n all)) p q) (add-one i)
      ∙ ap (λ (l : List ℕ). symbol_rows (without x l) p q) (take-suc all i 0 (omega (arith, length_symbols alphabet)))
      ∙ symbols_append x (take i all) (get_or all i 0 ∷ []) p q

  all_rows : (i : ℕ) → symbol_rows (without x (all_symbols alphabet)) p q ≡ first_rows i ++ symbol_rows (without x (drop i (all_symbols alphabet))) p q
  all_rows i =
      let all = all_symbols alphabet in
      ap (λ (l : List ℕ). symbol_rows (without x l) p q) (sym (take-append-drop i all))
      ∙ symbols_append x (take i all) (drop i all) p q

  last_rows : (i : ℕ) → length alphabet + 2 ≤ i → first_rows i ≡ symbol_rows (without x (all_symbols alphabet)) p q
  last_rows i h = ap (λ (l : List ℕ). symbol_rows (without x l) p q) (take_all i (all_symbols alphabet) (omega (arith, length_symbols alphabet)))

-- the rows of every other symbol, over the alphabet
abbrev pub other_rows : ℕ → ℕ → ℕ → List ℕ → List Row
other_rows x p q alphabet = symbol_rows (without x (all_symbols alphabet)) p q

-- so far the first of them are written
pub record Partly (before : List ℕ) (place x p q i : ℕ) (after : List ℕ) (end : ℕ) : Type 0 where
  pub partly : {h : Sheet} {accepting : List ℕ} {earlier : List Row}
      → Filled h accepting earlier before place
      → length earlier + length (other_rows x p q h.alphabet) ≤ h.count
      → Filled h accepting (earlier ++ first_rows x p q h.alphabet i) after end

module _ (x p q : ℕ) where
  -- there is room for the next
  next_fits : (earlier : List Row) (alphabet : List ℕ) (i y most : ℕ)
      → i < length alphabet + 2
      → y ≡ get_or (all_symbols alphabet) i 0
      → length earlier + length (other_rows x p q alphabet) ≤ most
      → length (earlier ++ first_rows x p q alphabet i) + length (symbol_rows (without x (y ∷ [])) p q) ≤ most
  next_fits earlier alphabet i y most h e fits =
      let first = first_rows x p q alphabet i in
      let this = symbol_rows (without x (y ∷ [])) p q in
      let later = symbol_rows (without x (drop (i + 1) (all_symbols alphabet))) p q in
      let more : other_rows x p q alphabet ≡ (first ++ this) ++ later =
      all_rows x p q alphabet (i + 1)
      ∙ ap (λ (rows : List Row). rows ++ later) (next_rows x p q alphabet i h ∙ ap (λ (z : ℕ). first ++ symbol_rows (without x (z ∷ [])) p q) (sym e))
      in
      omega (
        arith,
        ap length more,
        length-append (first ++ this) later,
        length-append first this,
        length-append earlier first,
      )

  pub partly_none : {before : List ℕ} {place : ℕ} → Partly before place x p q 0 before place
  unfolding symbol_rows without
  partly_none = record { partly = λ filled fits. writes_none.writes filled (omega arith) }

  module _ {before : List ℕ} {place i end : ℕ} {out : List ℕ} (so_far : Partly before place x p q i out end) where
    pub partly_room : (room : Room before place (other_rows x p q)) (y letters : ℕ)
        → HasLetters before letters
        → i < letters + 2
        → ((alphabet : List ℕ) → letters ≡ length alphabet → y ≡ get_or (all_symbols alphabet) i 0)
        → Room out end (λ _. symbol_rows (without x (y ∷ [])) p q)
    partly_room room y letters count below this =
        let counted = count.counts room.filled.holds in
        record {
          sheet = room.sheet;
          accepting = room.accepting;
          earlier = room.earlier ++ first_rows x p q room.sheet.alphabet i;
          filled = so_far.partly room.filled room.fits;
          fits = next_fits room.earlier room.sheet.alphabet i y room.sheet.count (omega arith) (this room.sheet.alphabet counted) room.fits;
        }

    -- and it is written
    pub partly_more : (y letters : ℕ) (after : List ℕ) (end' : ℕ)
        → HasLetters before letters
        → i < letters + 2
        → ((alphabet : List ℕ) → letters ≡ length alphabet → y ≡ get_or (all_symbols alphabet) i 0)
        → Writes out after end end' (λ _. symbol_rows (without x (y ∷ [])) p q)
        → Partly before place x p q (i + 1) after end'
    partly_more y letters after end' count below this w = record { partly = λ filled fits. more filled fits (count.counts filled.holds) }
      where
        more : {h : Sheet} {accepting : List ℕ} {earlier : List Row}
            → Filled h accepting earlier before place
            → length earlier + length (other_rows x p q h.alphabet) ≤ h.count
            → letters ≡ length h.alphabet
            → Filled h accepting (earlier ++ first_rows x p q h.alphabet (i + 1)) after end'
        more {h} {accepting} {earlier} filled fits counted =
            let e = this h.alphabet counted in
            let low : i < length h.alphabet + 2 = omega arith in
            let first = first_rows x p q h.alphabet i in
            subst (λ (rows : List Row). Filled h accepting rows after end')
            (append_assoc earlier first (symbol_rows (without x (y ∷ [])) p q)
            ∙ ap (λ (z : ℕ). earlier ++ (first ++ symbol_rows (without x (z ∷ [])) p q)) e
            ∙ ap (λ (rows : List Row). earlier ++ rows) (sym (next_rows x p q h.alphabet i low)))
            (w.writes (so_far.partly filled fits) (next_fits earlier h.alphabet i y h.count low e fits))

    -- in the end all of them
    pub partly_all : (letters : ℕ) → HasLetters before letters → letters + 2 ≤ i → Writes before out place end (other_rows x p q)
    partly_all letters count past = record { writes = λ filled fits. all filled fits (count.counts filled.holds) }
      where
        all : {h : Sheet} {accepting : List ℕ} {earlier : List Row}
            → Filled h accepting earlier before place
            → length earlier + length (other_rows x p q h.alphabet) ≤ h.count
            → letters ≡ length h.alphabet
            → Filled h accepting (earlier ++ other_rows x p q h.alphabet) out end
        all {h} {accepting} {earlier} filled fits counted =
            subst (λ (rows : List Row). Filled h accepting (earlier ++ rows) out end) (last_rows x p q h.alphabet i (omega arith)) (so_far.partly filled fits)

-- the row of a test of what is read, walked as `==`
pub read_is_lem : {is : Bool} → is ≡ true → (alphabet : List ℕ) (code p q : ℕ) → read_rows alphabet is code p q ≡ test_row code either_counter p q ∷ []
unfolding symbol_rows
read_is_lem e alphabet code p q = ap (λ (t : Bool). read_rows alphabet t code p q) e
