-- Laws of the emitter's places: room for rows that are to come, rows that are written, and places that are put together anew.
use Prim.Native.Nat.{ℕ, ◌+◌, ◌≤◌, ◌<◌}
use native.Mathlib.Omega.{arith}
use mathlib.Core.Path.{◌≡◌, sym, subst, ◌∙◌}
use mathlib.Core.List.{List, ◌∷◌, ◌++◌, append-nil}
use lib.ListN.{length, length-append}
use Rattle.text.specs.Tokens.{Placed}
use Rattle.table.specs.Table.{Row}
use Rattle.rule.specs.Grammar.{Ts}
use Rattle.construction.specs.Construction.{Part}
use Rattle.compiler.specs.Inside.Writing.{Sheet, Filled, Room, Writes}
use Rattle.compiler.specs.Inside.Seeing.{Here, Reaches, GoesPast}
use Rattle.compiler.specs.Inside.Place.{Place, place_of}
use Rattle.compiler.specs.Inside.Emission.{Same, At, Task, Doing, Ready, Emitted, Emits, rows_part}
use Rattle.compiler.specs.declared.Emitter.{Emitter}
use Rattle.compiler.specs.declared.see.Cursor.{Cursor}
use Rattle.compiler.specs.declared.write.Image.{Image}
use Rattle.std.specs.Borrow.{MutBor}

-- a task that can be done, in the text that the emitter goes over
pub ready_in : {task : Task} {e : Emitter} {text : List ℕ} {h : Sheet} {accepting : List ℕ} {rows : List Row} {p next : ℕ} {ts us : Ts} {part : Part}
    → e.cursor.text.now ≡ text
    → Doing task text e.image.now.out.now (place_of e) h accepting rows p next ts us part
    → Ready task e
ready_in {task} {e} {h = h} {accepting = accepting} {rows = rows} {p = p} {next = next} {ts = ts} {us = us} {part = part} same d =
    record {
      sheet = _;
      accepting = _;
      rows = _;
      from = _;
      next = _;
      ts = _;
      us = _;
      part = _;
      doing = subst (λ (t : List ℕ). Doing task t e.image.now.out.now (place_of e) h accepting rows p next ts us part) (sym same) d;
    }

pub ready : {task : Task} {e : Emitter} {h : Sheet} {accepting : List ℕ} {rows : List Row} {p next : ℕ} {ts us : Ts} {part : Part}
    → Doing task e.cursor.text.now e.image.now.out.now (place_of e) h accepting rows p next ts us part
    → Ready task e
ready d =
    record { sheet = _; accepting = _; rows = _; from = _; next = _; ts = _; us = _; part = _; doing = d }

-- and what is emitted for it
pub emits_in : {task : Task} {e r : Emitter} {text : List ℕ} {h : Sheet} {accepting : List ℕ} {rows : List Row} {p next : ℕ} {ts us : Ts} {part : Part}
    → Emits task e r
    → e.cursor.text.now ≡ text
    → Doing task text e.image.now.out.now (place_of e) h accepting rows p next ts us part
    → Emitted text r.image.now.out.now (place_of r) h accepting rows us part
emits_in {task} {e} {r} {text} {h} {accepting} {rows} {p} {next} {ts} {us} {part} emits same =
    subst (λ (t : List ℕ). Doing task t e.image.now.out.now (place_of e) h accepting rows p next ts us part → Emitted t r.image.now.out.now (place_of r) h accepting rows us part) same emits.emits

-- the same image throughout
pub same_then : {i j k : MutBor Image} → Same i j → Same j k → Same i k
same_then a b = record { name = b.name ∙ a.name; out = b.out ∙ a.out }

-- an emitter with an equal cursor is the same
module _ {task : Task} {k k' : Cursor} (same : k' ≡ k) {image : MutBor Image} {state next : ℕ} where
  pub ready_at : Ready task (record { cursor = k; image = image; state = state; next = next }) → Ready task (record { cursor = k'; image = image; state = state; next = next })
  ready_at r =
      subst (λ (c : Cursor). Ready task (record { cursor = c; image = image; state = state; next = next })) (sym same) r

  pub emits_at : {r : Emitter} → Emits task (record { cursor = k'; image = image; state = state; next = next }) r → Emits task (record { cursor = k; image = image; state = state; next = next }) r
  emits_at {r} e =
      subst (λ (c : Cursor). Emits task (record { cursor = c; image = image; state = state; next = next }) r) same e

  pub emits_until : {e : Emitter} → Emits task e (record { cursor = k; image = image; state = state; next = next }) → Emits task e (record { cursor = k'; image = image; state = state; next = next })
  emits_until {e} f =
      subst (λ (c : Cursor). Emits task e (record { cursor = c; image = image; state = state; next = next })) (sym same) f

module _ {text out : List ℕ} {place : Place} {h : Sheet} {accepting : List ℕ} {rows : List Row} {p next : ℕ} {ts : Ts} (stands : At text out place h accepting rows p next ts) where
  -- rows that fit have room
  pub at_room : (xs : List ℕ → List Row) → length rows + length (xs h.alphabet) ≤ h.count → Room out place.row xs
  at_room xs fits = record { sheet = h; accepting = accepting; earlier = rows; filled = stands.filled; fits = fits }

  -- and are written
  pub at_rows : {after : List ℕ} {end : ℕ} (xs : List ℕ → List Row) (ys : List Row)
      → xs h.alphabet ≡ ys
      → length rows + length ys ≤ h.count
      → Writes out after place.row end xs
      → Filled h accepting (rows ++ ys) after end
  at_rows {after} {end} xs ys same fits w =
      subst (λ (zs : List Row). Filled h accepting (rows ++ zs) after end) same
      (w.writes stands.filled (subst (λ (zs : List Row). length rows + length zs ≤ h.count) (sym same) fits))

-- of two lists that fit, the first fits, and then the second
pub fits_first : {A : Type 0} (xs ys zs : List A) {n : ℕ} → length xs + length (ys ++ zs) ≤ n → length xs + length ys ≤ n
fits_first xs ys zs fits = omega (arith, length-append ys zs)

pub fits_then : {A : Type 0} (xs ys zs : List A) {n : ℕ} → length xs + length (ys ++ zs) ≤ n → length (xs ++ ys) + length zs ≤ n
fits_then xs ys zs fits = omega (arith, length-append ys zs, length-append xs ys)

-- a task's part in other words
pub emitted_as : {text out : List ℕ} {place : Place} {h : Sheet} {accepting : List ℕ} {rows : List Row} {us : Ts} {part : Part} {is : Part}
    → part ≡ is
    → Emitted text out place h accepting rows us is
    → Emitted text out place h accepting rows us part
emitted_as {text} {out} {place} {h} {accepting} {rows} {us} e done = subst (Emitted text out place h accepting rows us) (sym e) done

-- rows alone
pub rows_emitted : {text out : List ℕ} {place : Place} {h : Sheet} {accepting : List ℕ} {rows : List Row} {us : Ts} {ys : List Row} {p next : ℕ}
    → Here text place.at us
    → Filled h accepting (rows ++ ys) out place.row
    → place.state ≡ p
    → place.next ≡ next
    → p < next
    → Emitted text out place h accepting rows us (rows_part ys p next)
rows_emitted {text} {out} {place} {h} {accepting} {rows} {us} {ys} here filled is goes taken =
    record {
      stands = record {
        here = here;
        filled = subst (λ (a : List ℕ). Filled h a (rows ++ ys) out place.row) (sym (append-nil accepting)) filled;
        state = is;
        takes = goes;
        taken = taken;
      };
    }

-- the same place, further on in the text
pub at_moved : {text out : List ℕ} {place : Place} {h : Sheet} {accepting : List ℕ} {rows : List Row} {p next : ℕ} {ts us : Ts} (further : ℕ)
    → At text out place h accepting rows p next ts
    → Here text further us
    → At text out (record { at = further; state = place.state; next = place.next; row = place.row }) h accepting rows p next us
at_moved further stands here =
    record { here = here; filled = stands.filled; state = stands.state; takes = stands.takes; taken = stands.taken }

-- behind one token more
pub emitted_past : {text out : List ℕ} {place : Place} {h : Sheet} {accepting : List ℕ} {rows : List Row} {t : Placed} {us : Ts} {part : Part} {end : ℕ}
    → Emitted text out place h accepting rows (t ∷ us) part
    → GoesPast text place.at 1 end
    → Emitted text out (record { at = end; state = place.state; next = place.next; row = place.row }) h accepting rows us part
emitted_past {end = end} e pass =
    record { stands = at_moved end e.stands (pass.behind _ e.stands.here (omega arith)).here }

pub past_onward : {text out : List ℕ} {place : Place} {h : Sheet} {accepting : List ℕ} {rows : List Row} {t : Placed} {us : Ts} {part : Part} {end : ℕ}
    → Emitted text out place h accepting rows (t ∷ us) part
    → GoesPast text place.at 1 end
    → place.at ≤ end
past_onward e pass = omega (arith, (pass.behind _ e.stands.here (omega arith)).onward)

-- past a first token
module _ {text out : List ℕ} {place : Place} {h : Sheet} {accepting : List ℕ} {rows : List Row} {p next : ℕ} {ts : Ts} {t : Placed} {us : Ts} {end : ℕ}
    (stands : At text out place h accepting rows p next ts) (is : ts ≡ t ∷ us) (pass : GoesPast text place.at 1 end) where
  reaches : Reaches text place.at 1 end us
  reaches = pass.behind (t ∷ us) (subst (Here text place.at) is stands.here) (omega arith)

  pub at_past : At text out (record { at = end; state = place.state; next = place.next; row = place.row }) h accepting rows p next us
  at_past = at_moved end stands reaches.here

  pub at_onward : place.at < end
  at_onward = omega (arith, reaches.onward)
