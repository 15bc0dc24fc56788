-- An image is the image of one table, and its length is known from the table's sizes.
use Prim.Native.Nat.{ℕ, ◌+◌, ◌*◌, ◌/◌, ◌%◌}
use native.Mathlib.Omega.{arith}
use mathlib.Core.Path.{◌≡◌, refl, sym, ap, ◌∙◌}
use mathlib.Core.Bool.{Bool, true, false}
use mathlib.Core.List.{List, [], ◌∷◌, ◌++◌}
use lib.ListN.{length, get_or, take, drop, length-append}
use lib.Seq.{take_at, drop_at}
use Rattle.table.specs.Form.{Width, eight, bytes_of}
use Rattle.table.specs.Table.{Row, Table}
use Rattle.table.specs.Image.{two_bytes, field, row_bytes, rows_bytes, flag, edition, encode}
use Rattle.table.specs.WellFormed.{IsImage}

-- where two joined lists are equal and their first parts as long, the parts are equal
pub same_parts : {A : Type 0} (a b c d : List A) → length a ≡ length b → a ++ c ≡ b ++ d → (a ≡ b) × (c ≡ d)
same_parts a b c d long e = (
  sym (take_at a c (length b) long) ∙ ap (take (length b)) e ∙ take_at b d (length b) refl,
  sym (drop_at a c (length b) long) ∙ ap (drop (length b)) e ∙ drop_at b d (length b) refl,
)

-- a number is told by its high and its low byte
number_once : {m n : ℕ} → m / 256 ≡ n / 256 → m % 256 ≡ n % 256 → m ≡ n
number_once high low = omega arith

-- two bytes tell their number
pub two_bytes_once : (m n : ℕ) → two_bytes m ≡ two_bytes n → m ≡ n
unfolding two_bytes
two_bytes_once m n e = number_once (ap (λ l. get_or l 0 0) e) (ap (λ l. get_or l 1 0) e)

-- a field before other bytes tells its value and them
field_once : (tag : ℕ) (v w r s : List ℕ) → field tag v ++ r ≡ field tag w ++ s → (v ≡ w) × (r ≡ s)
unfolding field two_bytes
field_once tag v w r s e =
    let byte : (i : ℕ) → get_or (field tag v ++ r) i 0 ≡ get_or (field tag w ++ s) i 0 = λ i. ap (λ l. get_or l i 0) e in
    same_parts v w r s (number_once (byte 1) (byte 2)) (ap (drop 3) e)

-- a flag tells its truth value
flag_once : (a b : Bool) → flag a ≡ flag b → a ≡ b
unfolding flag
flag_once true true e = refl
flag_once true false e = absurd (omega arith)
flag_once false true e = absurd (omega arith)
flag_once false false e = refl

-- a row before other bytes tells its numbers and them
row_once : (p q : Row) (r s : List ℕ) → row_bytes p ++ r ≡ row_bytes q ++ s → (p ≡ q) × (r ≡ s)
unfolding row_bytes two_bytes
row_once p q r s e =
    let byte : (i : ℕ) → get_or (row_bytes p ++ r) i 0 ≡ get_or (row_bytes q ++ s) i 0 = λ i. ap (λ l. get_or l i 0) e in
    let same : p ≡ q = λ i. record {
      from = number_once {m = p.from} {n = q.from} (byte 0) (byte 1) i;
      symbol = byte 2 i;
      test = byte 3 i;
      move = byte 4 i;
      change = byte 5 i;
      to = number_once {m = p.to} {n = q.to} (byte 6) (byte 7) i;
    } in
    (same, ap (drop 8) e)

-- the bytes of rows are eight to a row
pub length-rows : (rs : List Row) → length (rows_bytes rs) ≡ 8 * length rs
unfolding rows_bytes row_bytes two_bytes
length-rows [] = refl
length-rows (r ∷ rs) = omega (arith, length-rows rs)

-- in whichever width
pub rows_wide : (w : Width) (rs : List Row) → length (rows_bytes rs) ≡ bytes_of w (length rs)
unfolding bytes_of
rows_wide eight rs = omega (arith, length-rows rs)

-- the bytes of rows tell the rows
rows_once : (ps qs : List Row) → rows_bytes ps ≡ rows_bytes qs → ps ≡ qs
unfolding rows_bytes row_bytes two_bytes
rows_once [] [] e = refl
rows_once [] (q ∷ qs) e = absurd (omega (arith, ap length e))
rows_once (p ∷ ps) [] e = absurd (omega (arith, ap length e))
rows_once (p ∷ ps) (q ∷ qs) e =
    let both = row_once p q (rows_bytes ps) (rows_bytes qs) e in
    λ i. both.0 i ∷ rows_once ps qs both.1 i

-- an image is the image of one table
pub encode_once : (t u : Table) → encode t ≡ encode u → t ≡ u
unfolding encode
encode_once t u e =
    let first = field_once 1 (edition t ∷ []) (edition u ∷ []) _ _ e in
    let alphabet = field_once 2 t.alphabet u.alphabet _ _ first.1 in
    let decr_on_zero = field_once 3 (flag t.decr_on_zero ∷ []) (flag u.decr_on_zero ∷ []) _ _ alphabet.1 in
    let states = field_once 4 (two_bytes t.states) (two_bytes u.states) _ _ decr_on_zero.1 in
    let accepting = field_once 5 t.accepting u.accepting _ _ states.1 in
    let rows = field_once 6 (rows_bytes t.rows) (rows_bytes u.rows) [] [] (ap (λ l. l ++ []) accepting.1) in
    λ i. record {
      alphabet = alphabet.0 i;
      decr_on_zero = flag_once t.decr_on_zero u.decr_on_zero (ap (λ l. get_or l 0 0) decr_on_zero.0) i;
      states = two_bytes_once t.states u.states states.0 i;
      accepting = accepting.0 i;
      rows = rows_once t.rows u.rows rows.0 i;
    }

-- bytes are the image of at most one table
pub table_once : {image : List ℕ} {t u : Table} → IsImage t image → IsImage u image → t ≡ u
table_once {t = t} {u = u} a b = encode_once t u (sym a.encoded ∙ b.encoded)

-- a field is three bytes longer than its value
pub length-field : (tag : ℕ) (value : List ℕ) → length (field tag value) ≡ length value + 3
unfolding field two_bytes
length-field tag value = omega arith

-- the length of an image
pub length-encode
    : (t : Table) → length (encode t) ≡ 22 + length t.alphabet + length t.accepting + 8 * length t.rows
unfolding encode two_bytes
length-encode t = simp (length-append, length-field, length-rows) (omega arith)
