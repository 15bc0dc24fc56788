-- The image while it is written: a row more at its place, an accept bit more, the header around the letters, and the whole.
use native.Mathlib.Nat.{le_refl, zero-add, zero-lt-suc, le_of_suc-le-suc}
use Prim.Native.Nat.{ℕ, zero, suc, suc-le-suc, ◌+◌, ◌-◌, ◌*◌, ◌/◌, ◌%◌, ◌≤◌, ◌<◌}
use native.Mathlib.Omega.{arith}
use mathlib.Core.Path.{◌≡◌, refl, sym, ◌∙◌, ap}
use mathlib.Core.Bool.{Bool, true, false}
use mathlib.Core.List.{List, [], ◌∷◌, ◌++◌, append_assoc, append-nil}
use lib.ListN.{length, get_or, take, drop, replicate, length-append, length-drop, length-take}
use lib.Seq.{take_at, drop_at, length-take-le, drop-cons, drop-length}
use lib.Dec.{eqb}
use borrow.Author.Tests.{eq-eqb, ne_eqb}
use mir.Val.{bool_byte}
use Rattle.std.specs.Int.{to_be_bytes, w16}
use Rattle.std.specs.List.{AllWithin, HoldsAt}
use Rattle.std.specs.Prelude.{Option, Some, None, MatchOption, unwrap_or}
use Rattle.bits.specs.Bit.{with_bit}
use Rattle.bits.proofs.Over.{over-behind}
use Rattle.table.specs.Form.{first_edition, letters_place, accepting_place, accepting_bytes, rows_place, row_width}
use Rattle.table.specs.Table.{Row}
use Rattle.table.specs.Image.{two_bytes, field, row_bytes, rows_bytes, flag, encode}
use Rattle.table.proofs.Image.{length-rows, length-field}
use Rattle.construction.specs.Construction.{with_bits, index_in}
use Rattle.construction.specs.Compile.{image_room}
use Rattle.bits.specs.Inside.Over.{over}
use Rattle.compiler.specs.Inside.Writing.{Sheet, front, accept_bytes, written, row_place, Holds, Filled, Room, Writes, Sets, Heads, HasLetters}
use Rattle.construction.proofs.SetBit.{length_accept}

regroup : (a b c d : List ℕ) → (a ++ (b ++ c)) ++ d ≡ a ++ (b ++ (c ++ d))
regroup a b c d = simp append_assoc

in_order_lem : (a b c d e r : List ℕ) → (a ++ (b ++ (c ++ (d ++ e)))) ++ r ≡ a ++ (b ++ (c ++ (d ++ (e ++ r))))
in_order_lem a b c d e r = simp append_assoc

length_front : (h : Sheet) → length (front h) ≡ accepting_place (length h.alphabet)
unfolding front two_bytes
length_front h = simp (length-append, length-field) (omega arith)

pub length-written : (h : Sheet) (accepting : List ℕ) (rows : List Row) → length (written h accepting rows) ≡ row_place h rows
unfolding written two_bytes
length-written h accepting rows = simp (length-append, length_front, length_accept, length-rows) (omega arith)

rows_more : (rows : List Row) (r : Row) → rows_bytes (rows ++ (r ∷ [])) ≡ rows_bytes rows ++ row_bytes r
unfolding rows_bytes
rows_more [] r = append-nil (row_bytes r)
rows_more (x ∷ xs) r = ap (λ (l : List ℕ). row_bytes x ++ l) (rows_more xs r) ∙ sym (append_assoc (row_bytes x) (rows_bytes xs) (row_bytes r))

written_more : (h : Sheet) (accepting : List ℕ) (rows : List Row) (r : Row) → written h accepting (rows ++ (r ∷ [])) ≡ written h accepting rows ++ row_bytes r
unfolding written
written_more h accepting rows r = simp (rows_more, append_assoc)

row_length : (r : Row) → length (row_bytes r) ≡ row_width
unfolding row_bytes two_bytes
row_length r = refl

module _ {h : Sheet} {accepting : List ℕ} {rows : List Row} {out : List ℕ} (holds : Holds h accepting rows out) where
  -- the buffer is as long as it was
  pub length_held : length rows ≤ h.count → length out ≡ length h.old
  length_held fits =
      ap length holds.bytes
      ∙ simp (length-append, length-written, length-drop)
      (omega (arith, holds.few, holds.room, holds.most))

  -- so there is room for a row that is to come
  pub row_room : length rows < h.count → row_place h rows + row_width ≤ length out
  row_room more = omega (arith, length_held (omega arith), holds.few, holds.room, holds.most)

  -- and a row more is written
  row_more : (r : Row) (after : List ℕ) → after ≡ over out (row_place h rows) (row_bytes r) → Holds h accepting (rows ++ (r ∷ [])) after
  row_more r after e =
      let further : row_place h rows + length (row_bytes r) ≡ row_place h (rows ++ (r ∷ [])) = omega (arith, row_length r, length-append rows (r ∷ [])) in
      record {
        bytes =
            e
            ∙ ap (λ (l : List ℕ). over l (row_place h rows) (row_bytes r)) holds.bytes
            ∙ over-behind (written h accepting rows) (row_bytes r) h.old (row_place h rows) (length-written h accepting rows)
            ∙ ap (λ (l : List ℕ). l ++ drop (row_place h rows + length (row_bytes r)) h.old) (sym (written_more h accepting rows r))
            ∙ ap (λ (n : ℕ). written h accepting (rows ++ (r ∷ [])) ++ drop n h.old) further;
        few = holds.few;
        room = holds.room;
        most = holds.most;
      }

-- the two bytes of a number, as the library has them
pub two_bytes_are : (n : ℕ) → n < 65536 → to_be_bytes w16 n ≡ two_bytes n
unfolding two_bytes
two_bytes_are n few = let high : n / 256 % 256 ≡ n / 256 = omega arith in ap (λ (h : ℕ). h ∷ n % 256 ∷ []) high

-- and each of them
pub high_byte : {bytes : List ℕ} (n : ℕ) → bytes ≡ two_bytes n → get_or bytes 0 0 ≡ n / 256
unfolding two_bytes
high_byte n e = ap (λ (l : List ℕ). get_or l 0 0) e

pub low_byte : {bytes : List ℕ} (n : ℕ) → bytes ≡ two_bytes n → get_or bytes 1 0 ≡ n % 256
unfolding two_bytes
low_byte n e = ap (λ (l : List ℕ). get_or l 1 0) e

-- a row's bytes
pub row_bytes_lem : (from symbol test move change to f₁ f₂ t₁ t₂ : ℕ)
    → f₁ ≡ from / 256
    → f₂ ≡ from % 256
    → t₁ ≡ to / 256
    → t₂ ≡ to % 256
    → (f₁ ∷ f₂ ∷ symbol ∷ test ∷ move ∷ change ∷ t₁ ∷ t₂ ∷ [])
    ≡ row_bytes (record { from = from; symbol = symbol; test = test; move = move; change = change; to = to })
unfolding row_bytes two_bytes
row_bytes_lem from symbol test move change to f₁ f₂ t₁ t₂ a b c d = λ i. a i ∷ b i ∷ symbol ∷ test ∷ move ∷ change ∷ c i ∷ d i ∷ []

-- there is room for a row that is the next
pub room_one : {before : List ℕ} {place : ℕ} {r : Row} → Room before place (λ _. r ∷ []) → place + row_width ≤ length before
room_one room = omega (arith, row_room room.filled.holds (omega (arith, room.fits)), room.filled.here)

-- a row is written where its bytes are put
pub writes_row : {before after : List ℕ} {place end : ℕ} (r : Row) (bytes : List ℕ)
    → bytes ≡ row_bytes r
    → after ≡ over before place bytes
    → end ≡ place + row_width
    → Writes before after place end (λ _. r ∷ [])
writes_row {before} {after} {place} {end} r bytes same put e = record { writes = λ filled fits. more filled }
  where
    more : {h : Sheet} {accepting : List ℕ} {earlier : List Row} → Filled h accepting earlier before place → Filled h accepting (earlier ++ (r ∷ [])) after end
    more {h} {accepting} {earlier} filled =
        record {
          holds = row_more filled.holds r after (put ∙ ap (λ (n : ℕ). over before n bytes) filled.here ∙ ap (over before (row_place h earlier)) same);
          here = omega (arith, e, filled.here, length-append earlier (r ∷ []));
        }

-- the image's first bytes, as far as the letters
lead : Sheet → List ℕ
lead h = field 1 (1 ∷ []) ++ field 2 h.alphabet

back : Sheet → List ℕ
back h = field 3 (flag h.decr_on_zero ∷ []) ++ (field 4 (two_bytes h.states) ++ (5 ∷ two_bytes accepting_bytes))

rest : Sheet → List ℕ → List Row → List ℕ
rest h accepting rows = back h ++ (accept_bytes accepting ++ (6 ∷ (two_bytes (row_width * h.count) ++ rows_bytes rows)))

lead_rest : (h : Sheet) (accepting : List ℕ) (rows : List Row) → written h accepting rows ≡ lead h ++ rest h accepting rows
unfolding written front lead back rest
lead_rest h accepting rows = simp append_assoc

-- the index of a byte, told from those before a place that are others
index_passed : (xs : List ℕ) (b n : ℕ) → n ≤ length xs → ((k : ℕ) → k < n → ¬ (get_or xs k 0 ≡ b)) → index_in xs b ≡ n + index_in (drop n xs) b
unfolding index_in
index_passed xs b zero low others = sym (zero-add (index_in xs b))
index_passed [] b (suc n) low others = absurd (omega arith)
index_passed (x ∷ xs) b (suc n) low others =
    let other : eqb b x ≡ false = ne_eqb b x (λ e. others 0 (zero-lt-suc n) (sym e)) in
    let rest : index_in xs b ≡ n + index_in (drop n xs) b = index_passed xs b n (le_of_suc-le-suc low) (λ k l. others (suc k) (suc-le-suc l)) in
    rw (other, index_in) (omega (arith, rest))

-- it is found where it stands
pub index_found : (xs : List ℕ) (b n : ℕ) → n < length xs → ((k : ℕ) → k < n → ¬ (get_or xs k 0 ≡ b)) → get_or xs n 0 ≡ b → n ≡ index_in xs b
unfolding index_in
index_found xs b n low others here =
    let is : eqb b (get_or xs n 0) ≡ true = eq-eqb b (get_or xs n 0) (sym here) in
    let from : index_in (drop n xs) b ≡ 0 = rw (drop-cons xs n 0 low) (rw (is, index_in) refl) in
    omega (arith, index_passed xs b n (omega arith) others, from)

-- where none is it, the index is their number
pub index_nowhere : (xs : List ℕ) (b : ℕ) → ((k : ℕ) → k < length xs → ¬ (get_or xs k 0 ≡ b)) → length xs ≡ index_in xs b
unfolding index_in
index_nowhere xs b others =
    let none : index_in (drop (length xs) xs) b ≡ 0 = rw (drop-length xs) refl in
    omega (arith, index_passed xs b (length xs) (le_refl (length xs)) others, none)

-- as the library looks for it
pub index_by : (xs : List ℕ) (b : ℕ) (r : Option ℕ)
    → MatchOption r (AllWithin (λ (x : ℕ). ¬ (x ≡ b)) xs 0 (length xs)) (λ i. (i < length xs) × HoldsAt (λ (x : ℕ). x ≡ b) xs i × AllWithin (λ (x : ℕ). ¬ (x ≡ b)) xs 0 i)
    → unwrap_or r (length xs) ≡ index_in xs b
index_by xs b None none = index_nowhere xs b (λ k low. none k 0 (omega arith) low)
index_by xs b (Some i) (inside, here, none) = index_found xs b i inside (λ k low. none k 0 (omega arith) low) (here 0)

module _ {h : Sheet} {accepting : List ℕ} {rows : List Row} {out : List ℕ} (holds : Holds h accepting rows out) where
  held_lead : out ≡ lead h ++ (rest h accepting rows ++ drop (row_place h rows) h.old)
  held_lead =
      holds.bytes
      ∙ ap (λ (l : List ℕ). l ++ drop (row_place h rows) h.old) (lead_rest h accepting rows)
      ∙ append_assoc (lead h) (rest h accepting rows) (drop (row_place h rows) h.old)

  -- the header and the accept bytes are within the buffer
  pub held_long : rows_place (length h.alphabet) ≤ length out
  held_long =
      omega (
        arith,
        ap length holds.bytes,
        length-append (written h accepting rows) (drop (row_place h rows) h.old),
        length-written h accepting rows,
      )

  -- the sixth byte says how many letters there are
  pub held_count : get_or out 6 0 ≡ length h.alphabet
  unfolding lead field two_bytes
  held_count = ap (λ (l : List ℕ). get_or l 6 0) held_lead ∙ omega (arith, holds.few)

  -- and they stand behind it
  pub held_letters : take (length h.alphabet) (drop letters_place out) ≡ h.alphabet
  unfolding lead field two_bytes
  held_letters =
      ap (λ (l : List ℕ). take (length h.alphabet) (drop letters_place l)) held_lead
      ∙ take_at h.alphabet (rest h accepting rows ++ drop (row_place h rows) h.old) (length h.alphabet) refl

  -- a letter's index among them, where it is looked for in the part of the image that they take
  pub held_index : (b r n : ℕ) → r ≡ index_in (take (n + letters_place - letters_place) (drop letters_place out)) b → n ≡ length h.alphabet → r ≡ index_in h.alphabet b
  held_index b r n found many =
      let shown : n + letters_place - letters_place ≡ length h.alphabet = omega arith in
      found ∙ ap (λ (l : List ℕ). index_in l b) (ap (λ (k : ℕ). take k (drop letters_place out)) shown ∙ held_letters)

bits_more : (accepting bytes : List ℕ) (state : ℕ) → with_bits bytes (accepting ++ (state ∷ [])) ≡ with_bit (with_bits bytes accepting) state
unfolding with_bits
bits_more [] bytes state = refl
bits_more (x ∷ xs) bytes state = bits_more xs (with_bit bytes x) state

-- an accept bit is set in its part of the buffer
pub marks_bit : (before after part : List ℕ) (letters from many state : ℕ)
    → HasLetters before letters
    → from ≡ accepting_place letters
    → many ≡ accepting_bytes
    → part ≡ with_bit (take many (drop from before)) state
    → after ≡ take from before ++ (part ++ drop many (drop from before))
    → Sets before after state
unfolding written
marks_bit before after part letters from many state count start sixteen part-is after_is =
    record { sets = λ holds. mark _ _ _ holds (start ∙ ap accepting_place (count.counts holds)) }
  where
    mark : (h : Sheet) (accepting : List ℕ) (rows : List Row)
        → Holds h accepting rows before
        → from ≡ accepting_place (length h.alphabet)
        → Holds h (accepting ++ (state ∷ [])) rows after
    mark h accepting rows holds here =
        let behind : List ℕ = (6 ∷ (two_bytes (row_width * h.count) ++ rows_bytes rows)) ++ drop (row_place h rows) h.old in
        let old : List ℕ = accept_bytes accepting in
        let whole : before ≡ front h ++ (old ++ behind) = holds.bytes ∙ regroup (front h) old (6 ∷ (two_bytes (row_width * h.count) ++ rows_bytes rows)) (drop (row_place h rows) h.old) in
        let first : take from before ≡ front h = ap (take from) whole ∙ take_at (front h) (old ++ behind) from (length_front h ∙ sym here) in
        let later : drop from before ≡ old ++ behind = ap (drop from) whole ∙ drop_at (front h) (old ++ behind) from (length_front h ∙ sym here) in
        let sixteenth : length old ≡ many = length_accept accepting ∙ sym sixteen in
        record {
          bytes =
              after_is
              ∙ (λ i. first i ++ (part-is i ++ drop many (later i)))
              ∙ (λ i. front h ++ (with_bit (take many (later i)) state ++ drop_at old behind many sixteenth i))
              ∙ (λ i. front h ++ (with_bit (take_at old behind many sixteenth i) state ++ behind))
              ∙ ap (λ (l : List ℕ). front h ++ (l ++ behind)) (sym (bits_more accepting (replicate accepting_bytes 0) state))
              ∙ sym (regroup (front h) (accept_bytes (accepting ++ (state ∷ []))) (6 ∷ (two_bytes (row_width * h.count) ++ rows_bytes rows)) (drop (row_place h rows) h.old));
          few = holds.few;
          room = holds.room;
          most = holds.most;
        }

-- the bytes of the header before and behind the letters
abbrev pub before_letters : ℕ → List ℕ
before_letters count = 1 ∷ 0 ∷ 1 ∷ 1 ∷ 2 ∷ 0 ∷ count ∷ []

abbrev pub behind_letters : ℕ → ℕ → ℕ → ℕ → ℕ → List ℕ
behind_letters decr_on_zero high_states low_states high_size low_size =
    3 ∷ 0 ∷ 1 ∷ decr_on_zero ∷ 4 ∷ 0 ∷ 2 ∷ high_states ∷ low_states ∷ 5 ∷ 0 ∷ accepting_bytes
    ∷ 0 ∷ 0 ∷ 0 ∷ 0 ∷ 0 ∷ 0 ∷ 0 ∷ 0 ∷ 0 ∷ 0 ∷ 0 ∷ 0 ∷ 0 ∷ 0 ∷ 0 ∷ 0
    ∷ 6 ∷ high_size ∷ low_size ∷ []

-- put around the letters they are a header with no accepting state and no row
header_bytes : (h : Sheet) (k f s₁ s₂ n₁ n₂ : ℕ)
    → length h.alphabet ≤ 16
    → k ≡ length h.alphabet % 256
    → f ≡ flag h.decr_on_zero
    → s₁ ≡ h.states / 256
    → s₂ ≡ h.states % 256
    → n₁ ≡ row_width * h.count / 256
    → n₂ ≡ row_width * h.count % 256
    → (before_letters k ++ h.alphabet) ++ behind_letters f s₁ s₂ n₁ n₂ ≡ written h [] []
unfolding written front field two_bytes rows_bytes with_bits
header_bytes h k f s₁ s₂ n₁ n₂ few k-is f-is s₁_is s₂_is n₁-is n₂-is =
    let none : 0 ≡ length h.alphabet / 256 = omega arith in
    (λ i. 1 ∷ 0 ∷ 1 ∷ 1 ∷ 2 ∷ none i ∷ k-is i ∷ (h.alphabet ++ behind_letters (f-is i) (s₁_is i) (s₂_is i) (n₁-is i) (n₂-is i)))
    ∙ ap (λ (l : List ℕ). 1 ∷ 0 ∷ 1 ∷ 1 ∷ 2 ∷ length h.alphabet / 256 ∷ length h.alphabet % 256 ∷ l)
    (sym
    (append_assoc h.alphabet
    (3 ∷ 0 ∷ 1 ∷ flag h.decr_on_zero ∷ 4 ∷ 0 ∷ 2 ∷ h.states / 256 ∷ h.states % 256 ∷ 5 ∷ 0 ∷ accepting_bytes ∷ [])
    (accept_bytes [] ++ (6 ∷ two_bytes (row_width * h.count)))))

-- the library's byte of a truth
pub flag_is : (d : Bool) → bool_byte d ≡ flag d
unfolding flag
flag_is true = refl
flag_is false = refl

-- bytes put behind bytes that were put
over_over : (l xs ys : List ℕ) (at n : ℕ) → at ≤ length l → n ≡ at + length xs → over (over l at xs) n ys ≡ over l at (xs ++ ys)
over_over l xs ys at n within is =
    let long : length (take at l ++ xs) ≡ n = omega (arith, length-append (take at l) xs, length-take-le at l within) in
    ap (λ (k : List ℕ). over k n ys) (sym (append_assoc (take at l) xs (drop (at + length xs) l)) ∙ ap (λ (m : ℕ). (take at l ++ xs) ++ drop m l) (sym is))
    ∙ over-behind (take at l ++ xs) ys l n long
    ∙ ap (λ (k : List ℕ). k ++ drop (n + length ys) l) (append_assoc (take at l) xs ys)
    ∙ append_assoc (take at l) (xs ++ ys) (drop (n + length ys) l)
    ∙ ap (λ (m : ℕ). take at l ++ ((xs ++ ys) ++ drop m l)) (omega (arith, is, length-append xs ys))

-- the header behind the letters, in three parts: up to the accept bytes, these, and what stands before the rows
parts_put : (middle fields accepts after : List ℕ) (count f s₁ s₂ n₁ n₂ : ℕ)
    → count + accepting_place 0 ≤ length middle
    → fields ≡ over middle (count + letters_place) (3 ∷ 0 ∷ 1 ∷ f ∷ 4 ∷ 0 ∷ 2 ∷ s₁ ∷ s₂ ∷ 5 ∷ 0 ∷ accepting_bytes ∷ [])
    → accepts ≡ over fields (count + accepting_place 0) (replicate accepting_bytes 0)
    → after ≡ over accepts (count + 35) (6 ∷ n₁ ∷ n₂ ∷ [])
    → after ≡ over middle (count + letters_place) (behind_letters f s₁ s₂ n₁ n₂)
parts_put middle fields accepts after count f s₁ s₂ n₁ n₂ within a b c =
    let first : List ℕ = 3 ∷ 0 ∷ 1 ∷ f ∷ 4 ∷ 0 ∷ 2 ∷ s₁ ∷ s₂ ∷ 5 ∷ 0 ∷ accepting_bytes ∷ [] in
    c
    ∙ ap (λ (l : List ℕ). over l (count + 35) (6 ∷ n₁ ∷ n₂ ∷ []))
    (b
    ∙ ap (λ (l : List ℕ). over l (count + accepting_place 0) (replicate accepting_bytes 0)) a
    ∙ over_over middle first (replicate accepting_bytes 0) (count + letters_place) (count + accepting_place 0) (omega arith) (omega arith))
    ∙ over_over middle (first ++ replicate accepting_bytes 0) (6 ∷ n₁ ∷ n₂ ∷ []) (count + letters_place) (count + 35) (omega arith) (omega arith)

pub heads : {before middle fields accepts after : List ℕ} (count : ℕ) (decr_on_zero : Bool) (states rows k f s₁ s₂ n₁ n₂ : ℕ)
    → (count ≤ 16) × (states ≤ 128) × (rows ≤ 1024) × (image_room ≤ length before)
    → k ≡ count % 256
    → f ≡ flag decr_on_zero
    → s₁ ≡ states / 256
    → s₂ ≡ states % 256
    → n₁ ≡ row_width * rows / 256
    → n₂ ≡ row_width * rows % 256
    → middle ≡ over before 0 (before_letters k)
    → fields ≡ over middle (count + letters_place) (3 ∷ 0 ∷ 1 ∷ f ∷ 4 ∷ 0 ∷ 2 ∷ s₁ ∷ s₂ ∷ 5 ∷ 0 ∷ accepting_bytes ∷ [])
    → accepts ≡ over fields (count + accepting_place 0) (replicate accepting_bytes 0)
    → after ≡ over accepts (count + 35) (6 ∷ n₁ ∷ n₂ ∷ [])
    → Heads before after count decr_on_zero states rows
heads {before} {middle} {fields} {accepts} {after} count decr_on_zero states rows k f s₁ s₂ n₁ n₂ bounds k-is f-is s₁_is s₂_is n₁-is n₂-is middle_is fields-is accepts-is last-is =
    record { heads = head }
  where
    long_enough : count + accepting_place 0 ≤ length middle
    long_enough = omega (arith, bounds, ap length middle_is, length-append (before_letters k) (drop 7 before), length-drop 7 before)

    after_is : after ≡ over middle (count + letters_place) (behind_letters f s₁ s₂ n₁ n₂)
    after_is = parts_put middle fields accepts after count f s₁ s₂ n₁ n₂ long_enough fields-is accepts-is last-is

    head : (old alphabet : List ℕ)
        → before ≡ over old letters_place alphabet
        → count ≡ length alphabet
        → Holds (record { old = old; alphabet = alphabet; decr_on_zero = decr_on_zero; states = states; count = rows }) [] [] after
    head old alphabet before-is count_is =
        let h : Sheet = record { old = old; alphabet = alphabet; decr_on_zero = decr_on_zero; states = states; count = rows } in
        let new : List ℕ = behind_letters f s₁ s₂ n₁ n₂ in
        let lead : List ℕ = before_letters k ++ alphabet in
        let size : length before ≡ length (take letters_place old) + (length alphabet + (length old - (letters_place + length alphabet))) =
        ap length before-is ∙ simp (length-append, length-drop)
        in
        let long : 8246 ≤ length old = omega (arith, bounds, length-take letters_place old) in
        let seven : length (take letters_place old) ≡ letters_place = length-take-le letters_place old (omega arith) in
        let first : middle ≡ lead ++ drop (count + letters_place) old =
        middle_is
        ∙ ap (λ (l : List ℕ). before_letters k ++ drop letters_place l) before-is
        ∙ ap (λ (l : List ℕ). before_letters k ++ l) (drop_at (take letters_place old) (alphabet ++ drop (letters_place + length alphabet) old) letters_place seven)
        ∙ sym (append_assoc (before_letters k) alphabet (drop (letters_place + length alphabet) old))
        ∙ ap (λ (n : ℕ). lead ++ drop n old) (places count (length alphabet) count_is)
        in
        record {
          bytes =
              after_is
              ∙ ap (λ (l : List ℕ). over l (count + letters_place) new) first
              ∙ over-behind lead new old (count + letters_place) (omega (arith, length-append (before_letters k) alphabet))
              ∙ ap (λ (l : List ℕ). l ++ drop (count + letters_place + length new) old)
              (header_bytes h k f s₁ s₂ n₁ n₂ (omega (arith, bounds)) (k-is ∙ ap (λ (n : ℕ). n % 256) count_is) f-is s₁_is s₂_is n₁-is n₂-is)
              ∙ ap (λ (n : ℕ). written h [] [] ++ drop n old) (ends count (length alphabet) count_is);
          few = omega (arith, bounds);
          room = long;
          most = bounds.2;
        }
      where
        places : (m n : ℕ) → m ≡ n → letters_place + n ≡ m + letters_place
        places m n e = omega arith

        ends : (m n : ℕ) → m ≡ n → m + letters_place + 31 ≡ rows_place n + row_width * 0
        ends m n e = omega arith

-- when all rows are there, it is the whole image
pub written_whole : (h : Sheet) (accepting : List ℕ) (rows : List Row)
    → h.count ≡ length rows
    → written h accepting rows
    ≡ encode (record {
      alphabet = h.alphabet;
      decr_on_zero = h.decr_on_zero;
      states = h.states;
      accepting = accept_bytes accepting;
      rows = rows;
    })
unfolding written front encode field
written_whole h accepting rows all =
    let n : row_width * h.count ≡ length (rows_bytes rows) = omega (arith, length-rows rows) in
    let m : accepting_bytes ≡ length (accept_bytes accepting) = sym (length_accept accepting) in
    let a = field 1 (first_edition ∷ []) in
    let b = field 2 h.alphabet in
    let c = field 3 (flag h.decr_on_zero ∷ []) in
    let d = field 4 (two_bytes h.states) in
    in_order_lem a b c d (5 ∷ two_bytes accepting_bytes) (accept_bytes accepting ++ (6 ∷ (two_bytes (row_width * h.count) ++ rows_bytes rows)))
    ∙ (λ i. a ++ (b ++ (c ++ (d ++ (5 ∷ (two_bytes (m i) ++ (accept_bytes accepting ++ (6 ∷ (two_bytes (n i) ++ rows_bytes rows)))))))))
    ∙ ap (λ (l : List ℕ). a ++ (b ++ (c ++ (d ++ (5 ∷ l)))))
    (sym (append_assoc (two_bytes (length (accept_bytes accepting))) (accept_bytes accepting) (field 6 (rows_bytes rows))))
