-- Plain statements: the tokens of each, the row that it has, and where it leaves the emitter.
use Prim.Native.Nat.{ℕ, ◌+◌, ◌-◌, ◌≤◌, ◌<◌}
use native.Mathlib.Omega.{arith}
use mathlib.Core.Path.{◌≡◌, refl, sym, ◌∙◌, ap, subst}
use mathlib.Core.List.{List, [], ◌∷◌, ◌++◌, append-nil}
use lib.ListN.{length, drop, length-drop}
use lib.Seq.{drop-drop}
use Rattle.text.specs.Token.{Token, number, w}
use Rattle.text.specs.Tokens.{Placed, ◌at◌}
use Rattle.text.specs.declared.Word.{Word}
use Rattle.text.specs.declared.Sign.{Sign}
use Rattle.table.specs.Form.{to_left, no_move, to_right, no_change}
use Rattle.table.specs.Table.{Row}
use Rattle.rule.specs.Limits.{value_from}
use Rattle.rule.specs.Tree as Tree
use Rattle.rule.specs.Tree.{Plain, Statement}
use Rattle.rule.specs.Grammar.{Ts, IsStatement}
use Rattle.rule.proofs.Invert.{PlainOf, Move, forward, back, Goto, to_lend, to_rend, Change, up, down, up_by, down_by, statement_move, statement_goto, statement_change}
use Rattle.rule.specs.Inside.Within.{PlainWithin, StatementWithin}
use Rattle.construction.specs.Construction.{move_code, change_code, Part, statement_part}
use Rattle.compiler.specs.Inside.Writing.{Sheet, Filled, Room, Writes}
use Rattle.compiler.specs.Inside.Seeing.{Here, Behind, SeesWord, SeesSign, NotWord, NotSign, GoesPast, AtNumber, ReadsNumber}
use Rattle.compiler.specs.Inside.Place.{Place, place_of}
use Rattle.compiler.specs.Inside.Emission.{Task, Doing, Ready, Emitted, Emits, Follows, a_statement, HeadedTask, headed, step_row, Steps}
use Rattle.compiler.specs.declared.Emitter.{Emitter}
use Rattle.compiler.specs.declared.see.Cursor.{Cursor}
use Rattle.compiler.proofs.Seeing.{word_behind, sign_behind, word_first_is, sign_first_is, no_sign_number}
use Rattle.compiler.proofs.Emission.{at_room, at_rows, emitted_as}

-- a plain statement's part
abbrev pub step_part : ℕ → ℕ → ℕ → ℕ → Part
step_part motion change p next =
    record { rows = step_row motion change p next ∷ []; accepting = []; exit = next; next = next + 1 }

-- the last tokens of a plain statement stand from a place on, so many, and its part is this
pub record Stepping (text : List ℕ) (start from many : ℕ) (us : Ts) (part : Part) (p next motion change : ℕ) : Type 0 where
  pub onward : start ≤ from
  pub rest : Ts
  pub here : Here text from rest
  pub enough : many ≤ length rest
  pub ends : drop many rest ≡ us
  pub is : part ≡ step_part motion change p next

-- behind the first of them, one less
stepping_past : {text : List ℕ} {start from end many : ℕ} {us : Ts} {part : Part} {p next motion change : ℕ}
    → Stepping text start from (1 + many) us part p next motion change
    → GoesPast text from 1 end
    → Stepping text start end many us part p next motion change
stepping_past {many = many} st past =
    let b = past.behind st.rest st.here (omega (arith, st.enough)) in
    record {
      onward = omega (arith, st.onward, b.onward);
      rest = drop 1 st.rest;
      here = b.here;
      enough = omega (arith, st.enough, length-drop 1 st.rest);
      ends = drop-drop many 1 st.rest ∙ st.ends;
      is = st.is;
    }

module _ {task : Task} {text out : List ℕ} {place : Place} {h : Sheet} {accepting : List ℕ} {rows : List Row} {p next : ℕ} {ts us : Ts} {part : Part}
    (d : Doing task text out place h accepting rows p next ts us part)
    {start from many motion change : ℕ} (st : Stepping text start from many us part p next motion change) where
  few : next < 128
  few =
      let most : next + 1 ≤ 128 = subst (λ (x : Part). x.next ≤ 128) st.is d.states in
      omega (arith, most)

  fits : length rows + 1 ≤ h.count
  fits = subst (λ (x : Part). length rows + length x.rows ≤ h.count) st.is d.fits

  -- its row can be written
  pub step_room : Room out place.row (λ _. step_row motion change place.state place.next ∷ []) × (place.state ≤ 128) × (place.next ≤ 128)
  step_room = (
    at_room d.stands _ fits,
    omega (arith, d.stands.state, d.stands.taken, few),
    omega (arith, d.stands.takes, few),
  )

  -- and then it is done
  step_emitted : {after : List ℕ} {r : Place}
      → GoesPast text from many r.at
      → r.state ≡ place.next
      → r.next ≡ place.next + 1
      → Writes out after place.row r.row (λ _. step_row motion change place.state place.next ∷ [])
      → Emitted text after r h accepting rows us part
  step_emitted {after} {r} passes state takes writes =
      let row : step_row motion change place.state place.next ∷ [] ≡ step_row motion change p next ∷ [] = λ i. step_row motion change (d.stands.state i) (d.stands.takes i) ∷ [] in
      emitted_as st.is
      (record {
        stands = record {
          here = subst (Here text r.at) st.ends (passes.behind st.rest st.here st.enough).here;
          filled =
              subst (λ (a : List ℕ). Filled h a (rows ++ (step_row motion change p next ∷ [])) after r.row) (sym (append-nil accepting))
              (at_rows d.stands (λ _. step_row motion change place.state place.next ∷ []) _ row fits writes);
          state = state ∙ d.stands.takes;
          takes = takes ∙ ap (λ (n : ℕ). n + 1) d.stands.takes;
          taken = omega arith;
        };
      })

-- the cursor has come so far in a statement, whatever part the statement is
pub record StepsOn (task : Task) (e : Emitter) (from many motion change : ℕ) : Type 0 where
  pub on : {h : Sheet} {accepting : List ℕ} {rows : List Row} {p next : ℕ} {ts us : Ts} {part : Part}
      → Doing task e.cursor.text.now e.image.now.out.now (place_of e) h accepting rows p next ts us part
      → Stepping e.cursor.text.now e.cursor.at from many us part p next motion change

-- so a step emits it
pub step_emits : {task : Task} {e r : Emitter} {k : Cursor} {many motion change : ℕ}
    → k.text.now ≡ e.cursor.text.now
    → Ready task e
    → StepsOn task e k.at many motion change
    → Steps (record { cursor = k; image = e.image; state = e.state; next = e.next }) r motion change many
    → Emits task e r
step_emits {e = e} {r = r} {k = k} {many = many} same needs stepping steps =
    let passes = subst (λ (t : List ℕ). GoesPast t k.at many r.cursor.at) same steps.passes in
    let st = stepping.on needs.doing in
    record {
      emits = λ d. step_emitted d (stepping.on d) passes steps.state steps.takes steps.writes;
      onward = omega (arith, st.onward, (passes.behind st.rest st.here st.enough).onward);
      text = steps.text ∙ same;
      same = steps.same;
    }

-- a statement's task by its parts
pub record HeadedOf (head : Token) (alphabet : List ℕ) (p next : ℕ) (ts us : Ts) (part : Part) : Type 0 where
  pub place : ℕ
  pub statement : Statement
  pub derived : IsStatement ((head at place) ∷ ts) statement us
  pub follows : Follows us
  pub within : StatementWithin alphabet statement
  pub is : part ≡ statement_part alphabet statement p next

pub headed_of : {head : Token} {alphabet : List ℕ} {p next : ℕ} {ts us : Ts} {part : Part} → HeadedTask head alphabet p next ts us part → HeadedOf head alphabet p next ts us part
headed_of (headed (a_statement d follows within)) =
    record { place = _; statement = _; derived = d; follows = follows; within = within; is = refl }

-- the part of a plain statement, with its bound
plain_part : (alphabet : List ℕ) (k : ℕ) (e : Plain) (p next : ℕ) → statement_part alphabet (Tree.plain k e) p next ≡ step_part (move_code e) (change_code e) p next
unfolding statement_part
plain_part alphabet k e p next = refl

plain_within : (alphabet : List ℕ) {k : ℕ} {a : Statement} (e : Plain) → a ≡ Tree.plain k e → StatementWithin alphabet a → PlainWithin e
unfolding StatementWithin
plain_within alphabet e is within = subst (StatementWithin alphabet) is within

record PlainTask (kind : Ts → Plain → Ts → Type 0) (p next : ℕ) (ts us : Ts) (part : Part) : Type 0 where
  pub effect : Plain
  pub derived : kind ts effect us
  pub within : PlainWithin effect
  pub is : part ≡ step_part (move_code effect) (change_code effect) p next

plain_task : {kind : Ts → Plain → Ts → Type 0} {head : Token} {alphabet : List ℕ} {p next : ℕ} {ts us : Ts} {part : Part}
    → (h : HeadedOf head alphabet p next ts us part)
    → PlainOf kind h.place ts h.statement us
    → PlainTask kind p next ts us part
plain_task {alphabet = alphabet} {p = p} {next = next} h o =
    record {
      effect = o.effect;
      derived = o.derived;
      within = plain_within alphabet o.effect o.is h.within;
      is = h.is ∙ ap (λ (a : Statement). statement_part alphabet a p next) o.is ∙ plain_part alphabet h.place o.effect p next;
    }

-- a plain statement whose last number stands here
pub record Counted (text : List ℕ) (start from many : ℕ) (us : Ts) (part : Part) (p next most : ℕ) (motion change : ℕ → ℕ) : Type 0 where
  pub onward : start ≤ from
  pub bytes : List ℕ
  pub place : ℕ
  pub rest : Ts
  pub here : Here text from ((number bytes at place) ∷ rest)
  pub small : value_from 0 bytes ≤ most
  pub few : most ≤ 63
  pub enough : many ≤ length rest
  pub ends : drop many rest ≡ us
  pub is : part ≡ step_part (motion (value_from 0 bytes)) (change (value_from 0 bytes)) p next

module _ {text : List ℕ} {start many : ℕ} {us : Ts} {part : Part} {p next most : ℕ} {motion change : ℕ → ℕ} (k : Cursor)
    (same : k.text.now ≡ text) (c : Counted text start k.at many us part p next most motion change) where
  number_here : Here k.text.now k.at ((number c.bytes at c.place) ∷ c.rest)
  number_here = subst (λ (t : List ℕ). Here t k.at ((number c.bytes at c.place) ∷ c.rest)) (sym same) c.here

  -- so it can be read
  pub at_number : AtNumber k
  at_number =
      record { bytes = c.bytes; place = c.place; us = c.rest; here = number_here; small = omega (arith, c.small, c.few) }

  -- and what is read stands for it
  module _ {r : Cursor} {value : ℕ} (reads : ReadsNumber k r value) where
    counted_is : value ≡ value_from 0 c.bytes
    counted_is = (reads.reads number_here).0

    counted_behind : Behind text k.at r.at c.rest
    counted_behind = subst (λ (t : List ℕ). Behind t k.at r.at c.rest) same (reads.reads number_here).1

    pub counted_small : value ≤ most
    counted_small = omega (arith, counted_is, c.small)

    pub counted_stepping : Stepping text start r.at many us part p next (motion value) (change value)
    counted_stepping =
        record {
          onward = omega (arith, c.onward, counted_behind.onward);
          rest = c.rest;
          here = counted_behind.here;
          enough = c.enough;
          ends = c.ends;
          is = subst (λ (v : ℕ). part ≡ step_part (motion v) (change v) p next) (sym counted_is) c.is;
        }

module _ {text : List ℕ} {start : ℕ} where
  -- move: with a minus it goes back
  module _ {from : ℕ} (pass : GoesPast text start 1 from) {p next : ℕ} {part : Part} where
    move_back_lem : {ts us : Ts} {e : Plain} {end : ℕ}
        → Move ts e us
        → Here text start ts
        → PlainWithin e
        → part ≡ step_part (move_code e) (change_code e) p next
        → SeesSign text from end Sign.Minus
        → Counted text start end 2 us part p next 63 (λ v. no_move - v) (λ _. no_change)
    unfolding move_code change_code PlainWithin
    move_back_lem forward here within is minus =
        let r = pass.behind _ here (omega arith) in
        absurd (no_sign_number (minus.stands _ r.here))
    move_back_lem back here within is minus =
        let r = pass.behind _ here (omega arith) in
        let b = sign_behind (minus.stands _ r.here) in
        record {
          onward = omega (arith, r.onward, b.onward);
          bytes = _;
          place = _;
          rest = _;
          here = b.here;
          small = within;
          few = omega arith;
          enough = omega arith;
          ends = refl;
          is = is;
        }

    -- else forward
    move_forward : {ts us : Ts} {e : Plain}
        → Move ts e us
        → Here text start ts
        → PlainWithin e
        → part ≡ step_part (move_code e) (change_code e) p next
        → NotSign text from Sign.Minus
        → Counted text start from 2 us part p next 63 (λ v. no_move + v) (λ _. no_change)
    unfolding move_code change_code PlainWithin
    move_forward forward here within is other =
        let r = pass.behind _ here (omega arith) in
        record {
          onward = omega (arith, r.onward);
          bytes = _;
          place = _;
          rest = _;
          here = r.here;
          small = within;
          few = omega arith;
          enough = omega arith;
          ends = refl;
          is = is;
        }
    move_forward back here within is other =
        let r = pass.behind _ here (omega arith) in
        absurd (other.other r.here refl)

    -- goto: to the left mark, or to the right
    goto_lend_lem : {ts us : Ts} {e : Plain} {end : ℕ}
        → Goto ts e us
        → Here text start ts
        → part ≡ step_part (move_code e) (change_code e) p next
        → SeesWord text from end Word.Lend
        → Stepping text start end 2 us part p next to_left no_change
    unfolding move_code change_code
    goto_lend_lem to_lend here is lend =
        let r = pass.behind _ here (omega arith) in
        let b = word_behind (lend.stands _ r.here) in
        record { onward = omega (arith, r.onward, b.onward); rest = _; here = b.here; enough = omega arith; ends = refl; is = is }
    goto_lend_lem to_rend here is lend =
        let r = pass.behind _ here (omega arith) in
        let same : Word.Lend ≡ Word.Rend = word_first_is Word.Rend (lend.stands _ r.here) refl in
        absurd cc

    goto_rend_lem : {ts us : Ts} {e : Plain}
        → Goto ts e us
        → Here text start ts
        → part ≡ step_part (move_code e) (change_code e) p next
        → NotWord text from Word.Lend
        → Stepping text start from 3 us part p next to_right no_change
    unfolding move_code change_code
    goto_rend_lem to_lend here is other =
        let r = pass.behind _ here (omega arith) in
        absurd (other.other r.here refl)
    goto_rend_lem to_rend here is other =
        let r = pass.behind _ here (omega arith) in
        record { onward = omega (arith, r.onward); rest = _; here = r.here; enough = omega arith; ends = refl; is = is }

    -- and from behind the mark
    goto_rend_past_lem : {ts us : Ts} {e : Plain} {end : ℕ}
        → Goto ts e us
        → Here text start ts
        → part ≡ step_part (move_code e) (change_code e) p next
        → NotWord text from Word.Lend
        → GoesPast text from 1 end
        → Stepping text start end 2 us part p next to_right no_change
    goto_rend_past_lem to here is other = stepping_past (goto_rend_lem to here is other)

-- the calls of a move and of a goto
module _ {text out : List ℕ} {place : Place} {from : ℕ} (pass : GoesPast text place.at 1 from)
    {h : Sheet} {accepting : List ℕ} {rows : List Row} {p next : ℕ} {ts us : Ts} {part : Part} where
  module _ (d : Doing (HeadedTask (w "move")) text out place h accepting rows p next ts us part) where
    move_task : PlainTask Move p next ts us part
    move_task = let o = headed_of d.is in plain_task o (statement_move o.derived)

    pub back_counted : {end : ℕ} → SeesSign text from end Sign.Minus → Counted text place.at end 2 us part p next 63 (λ v. no_move - v) (λ _. no_change)
    back_counted minus = move_back_lem pass move_task.derived d.stands.here move_task.within move_task.is minus

    pub forward_counted : NotSign text from Sign.Minus → Counted text place.at from 2 us part p next 63 (λ v. no_move + v) (λ _. no_change)
    forward_counted other = move_forward pass move_task.derived d.stands.here move_task.within move_task.is other

  module _ (d : Doing (HeadedTask (w "goto")) text out place h accepting rows p next ts us part) where
    goto_task : PlainTask Goto p next ts us part
    goto_task = let o = headed_of d.is in plain_task o (statement_goto o.derived)

    pub lend_stepping : {end : ℕ} → SeesWord text from end Word.Lend → Stepping text place.at end 2 us part p next to_left no_change
    lend_stepping lend = goto_lend_lem pass goto_task.derived d.stands.here goto_task.is lend

    pub rend_stepping : NotWord text from Word.Lend → Stepping text place.at from 3 us part p next to_right no_change
    rend_stepping other = goto_rend_lem pass goto_task.derived d.stands.here goto_task.is other

    pub rend_stepping_past : {end : ℕ} → NotWord text from Word.Lend → GoesPast text from 1 end → Stepping text place.at end 2 us part p next to_right no_change
    rend_stepping_past other = goto_rend_past_lem pass goto_task.derived d.stands.here goto_task.is other

-- a change of the counter, by the sign that is seen
data ChangeSeen (text : List ℕ) (start end : ℕ) (us : Ts) (part : Part) (p next : ℕ) : Sign → Type 0 where
  seen_up : Stepping text start end 1 us part p next no_move (no_change + 1) → ChangeSeen text start end us part p next Sign.Increment
  seen_down : Stepping text start end 1 us part p next no_move (no_change - 1) → ChangeSeen text start end us part p next Sign.Decrement
  seen_up_by : Counted text start end 1 us part p next 31 (λ _. no_move) (λ v. no_change + v) → ChangeSeen text start end us part p next Sign.Add
  seen_down_by : Counted text start end 1 us part p next 31 (λ _. no_move) (λ v. no_change - v) → ChangeSeen text start end us part p next Sign.Subtract

-- a number behind the sign
by_number : {text : List ℕ} {start mid q : ℕ} {bytes : List ℕ} {t : Placed} {us : Ts} {part : Part} {p next : ℕ} {motion change : ℕ → ℕ}
    → Behind text start mid ((number bytes at q) ∷ t ∷ us)
    → part ≡ step_part (motion (value_from 0 bytes)) (change (value_from 0 bytes)) p next
    → value_from 0 bytes ≤ 31
    → Counted text start mid 1 us part p next 31 motion change
by_number b is small =
    record {
      onward = omega (arith, b.onward);
      bytes = _;
      place = _;
      rest = _;
      here = b.here;
      small = small;
      few = omega arith;
      enough = omega arith;
      ends = refl;
      is = is;
    }

module _ {text : List ℕ} {start : ℕ} {part : Part} {p next : ℕ} where
  change_seen : {end : ℕ} {y : Sign} {ts us : Ts} {e : Plain}
      → SeesSign text start end y
      → Change ts e us
      → Here text start ts
      → PlainWithin e
      → part ≡ step_part (move_code e) (change_code e) p next
      → ChangeSeen text start end us part p next y
  unfolding move_code change_code PlainWithin
  change_seen {end} sees (up {us = us}) here within is =
      let b = sign_behind (sees.stands _ here) in
      subst (ChangeSeen text start end us part p next) (sym (sign_first_is Sign.Increment (sees.stands _ here) refl))
      (seen_up (record { onward = omega (arith, b.onward); rest = _; here = b.here; enough = omega arith; ends = refl; is = is }))
  change_seen {end} sees (down {us = us}) here within is =
      let b = sign_behind (sees.stands _ here) in
      subst (ChangeSeen text start end us part p next) (sym (sign_first_is Sign.Decrement (sees.stands _ here) refl))
      (seen_down (record { onward = omega (arith, b.onward); rest = _; here = b.here; enough = omega arith; ends = refl; is = is }))
  change_seen {end} sees (up_by {us = us}) here within is =
      let b = sign_behind (sees.stands _ here) in
      subst (ChangeSeen text start end us part p next) (sym (sign_first_is Sign.Add (sees.stands _ here) refl))
      (seen_up_by (by_number b is within))
  change_seen {end} sees (down_by {us = us}) here within is =
      let b = sign_behind (sees.stands _ here) in
      subst (ChangeSeen text start end us part p next) (sym (sign_first_is Sign.Subtract (sees.stands _ here) refl))
      (seen_down_by (by_number b is within))

  as_up : {end : ℕ} {us : Ts} → ChangeSeen text start end us part p next Sign.Increment → Stepping text start end 1 us part p next no_move (no_change + 1)
  as_up (seen_up c) = c

  as_down : {end : ℕ} {us : Ts} → ChangeSeen text start end us part p next Sign.Decrement → Stepping text start end 1 us part p next no_move (no_change - 1)
  as_down (seen_down c) = c

  as_up_by : {end : ℕ} {us : Ts} → ChangeSeen text start end us part p next Sign.Add → Counted text start end 1 us part p next 31 (λ _. no_move) (λ v. no_change + v)
  as_up_by (seen_up_by c) = c

  -- none of the first three is the fourth
  fourth : {from : ℕ} {ts us : Ts} {e : Plain}
      → GoesPast text start 1 from
      → NotSign text start Sign.Increment
      → NotSign text start Sign.Decrement
      → NotSign text start Sign.Add
      → Change ts e us
      → Here text start ts
      → PlainWithin e
      → part ≡ step_part (move_code e) (change_code e) p next
      → Counted text start from 1 us part p next 31 (λ _. no_move) (λ v. no_change - v)
  unfolding move_code change_code PlainWithin
  fourth pass i j k up here within is = absurd (i.other here refl)
  fourth pass i j k down here within is = absurd (j.other here refl)
  fourth pass i j k up_by here within is = absurd (k.other here refl)
  fourth pass i j k down_by here within is =
      let r = pass.behind _ here (omega arith) in
      record {
        onward = omega (arith, r.onward);
        bytes = _;
        place = _;
        rest = _;
        here = r.here;
        small = within;
        few = omega arith;
        enough = omega arith;
        ends = refl;
        is = is;
      }

-- the calls of a change
module _ {text out : List ℕ} {place : Place}
    {h : Sheet} {accepting : List ℕ} {rows : List Row} {p next : ℕ} {ts us : Ts} {part : Part}
    (d : Doing (HeadedTask (w "c")) text out place h accepting rows p next ts us part) where
  change_task : PlainTask Change p next ts us part
  change_task = let o = headed_of d.is in plain_task o (statement_change o.derived)

  change_here : {end : ℕ} {y : Sign} → SeesSign text place.at end y → ChangeSeen text place.at end us part p next y
  change_here sees = change_seen sees change_task.derived d.stands.here change_task.within change_task.is

  pub up_stepping : {end : ℕ} → SeesSign text place.at end Sign.Increment → Stepping text place.at end 1 us part p next no_move (no_change + 1)
  up_stepping sees = as_up (change_here sees)

  pub down_stepping : {end : ℕ} → SeesSign text place.at end Sign.Decrement → Stepping text place.at end 1 us part p next no_move (no_change - 1)
  down_stepping sees = as_down (change_here sees)

  pub up_counted : {end : ℕ} → SeesSign text place.at end Sign.Add → Counted text place.at end 1 us part p next 31 (λ _. no_move) (λ v. no_change + v)
  up_counted sees = as_up_by (change_here sees)

  pub down_counted : {from : ℕ}
      → GoesPast text place.at 1 from
      → NotSign text place.at Sign.Increment
      → NotSign text place.at Sign.Decrement
      → NotSign text place.at Sign.Add
      → Counted text place.at from 1 us part p next 31 (λ _. no_move) (λ v. no_change - v)
  down_counted pass i j k = fourth pass i j k change_task.derived d.stands.here change_task.within change_task.is
