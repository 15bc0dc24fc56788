-- Blocks and the statements that hold them: what each call has to emit, and what is emitted behind it.
-- The states that a task speaks of are the place's own, so that what a call is given can be named by the place.
use Prim.Native.Nat.{ℕ, ◌+◌, ◌≤◌, ◌<◌}
use native.Mathlib.Omega.{arith}
use mathlib.Core.Path.{◌≡◌, refl, sym, ◌∙◌, ap, subst, subst₂}
use mathlib.Core.List.{List, [], ◌∷◌, ◌++◌, append-nil, append_assoc}
use lib.ListN.{length, drop}
use Rattle.text.specs.Token.{Token, word, w, s}
use Rattle.text.specs.Tokens.{◌at◌}
use Rattle.text.specs.First.{IsWord}
use Rattle.text.specs.declared.Word.{Word}
use Rattle.table.specs.Table.{Row}
use Rattle.rule.specs.Tree.{Statement, Rest}
use Rattle.rule.specs.Grammar.{Ts, IsRest, nothing, else, block}
use Rattle.rule.proofs.Invert.{If, statement_if, While, statement_while}
use Rattle.rule.proofs.Invert as Invert
use Rattle.rule.specs.Inside.Within.{StatementWithin, RestWithin}
use Rattle.construction.specs.Construction.{free, Part, test, if_part, loop_part, and_then, statement_part, rest_part, statements_part}
use Rattle.compiler.specs.Inside.Writing.{Sheet, Filled, Room, Writes}
use Rattle.compiler.specs.Inside.Seeing.{Here, Behind, WordFirst, SeesWord, NotWord, GoesPast}
use Rattle.compiler.specs.Inside.Emission.{At, Task, Doing, Emitted, rows_part, TestTask, tests, EntryTask, chooses, asks, Follows, HeadedTask, RestTask, the_rest, closed_part, BodyTask, a_body, ElseTask, an_else}
use Rattle.compiler.specs.Inside.Place.{Place}
use Rattle.construction.proofs.Counts.{test_next, rest_next, statements_next}
use Rattle.compiler.proofs.Seeing.{here_some, word_at}
use Rattle.compiler.proofs.Emission.{
  at_room,
  at_rows,
  at_moved,
  at_past,
  at_onward,
  fits_first,
  fits_then,
  emitted_as,
  rows_emitted,
}
use Rattle.compiler.proofs.Stepping.{headed_of}

-- a task in the place's own states
pub settled : {task : Task} {text out : List ℕ} {place : Place} {h : Sheet} {accepting : List ℕ} {rows : List Row} {p next : ℕ} {ts us : Ts} {part : Part}
    → Doing task text out place h accepting rows p next ts us part
    → Doing task text out place h accepting rows place.state place.next ts us part
settled {task} {text} {out} {place} {h} {accepting} {rows} {p} {next} {ts} {us} {part} d =
    subst₂ (λ (q n : ℕ). Doing task text out place h accepting rows q n ts us part)
    (sym d.stands.state)
    (sym d.stands.takes)
    d

module _ {text out : List ℕ} {place : Place} {h : Sheet} {accepting : List ℕ} {rows : List Row} {p next : ℕ} {ts : Ts} (stands : At text out place h accepting rows p next ts) where
  -- the same place with other states
  pub at_anew : {state from takes up_to : ℕ} → state ≡ from → takes ≡ up_to → from < up_to
      → At text out (record { at = place.at; state = state; next = takes; row = place.row }) h accepting rows from up_to ts
  at_anew state takes taken =
      record { here = stands.here; filled = stands.filled; state = state; takes = takes; taken = taken }

  -- where nothing is emitted
  pub nothing_emitted : Emitted text out place h accepting rows ts (rows_part [] p next)
  nothing_emitted =
      rows_emitted stands.here
      (subst (λ (xs : List Row). Filled h accepting xs out place.row) (sym (append-nil rows)) stands.filled)
      stands.state
      stands.takes
      stands.taken

  -- a free row
  module _ (to : ℕ) (fits : length rows + 1 ≤ h.count) where
    pub free_room : Room out place.row (λ _. free place.state to ∷ [])
    free_room = at_room stands _ fits

    pub free_emitted : {after : List ℕ} {end : ℕ}
        → Writes out after place.row end (λ _. free place.state to ∷ [])
        → Emitted text after (record { at = place.at; state = place.state; next = place.next; row = end }) h accepting rows ts (rows_part (free p to ∷ []) p next)
    free_emitted writes =
        rows_emitted stands.here
        (at_rows stands _ _ (ap (λ (n : ℕ). free n to ∷ []) stands.state) fits writes)
        stands.state
        stands.takes
        stands.taken

-- one part and then another
pub emitted_then : {text out : List ℕ} {place : Place} {h : Sheet} {accepting : List ℕ} {rows : List Row} {us : Ts} (a b : Part)
    → Emitted text out place h (accepting ++ a.accepting) (rows ++ a.rows) us b
    → Emitted text out place h accepting rows us (and_then a b)
unfolding and_then
emitted_then {text} {out} {place} {h} {accepting} {rows} {us} a b e =
    record {
      stands = subst₂ (λ (x : List ℕ) (y : List Row). At text out place h x y b.exit b.next us)
          (append_assoc accepting a.accepting b.accepting)
          (append_assoc rows a.rows b.rows)
          e.stands;
    }

-- a part that is left by way of another state
abbrev pub leaves : Part → ℕ → Part
leaves part q = record { rows = part.rows; accepting = part.accepting; exit = q; next = part.next }

pub emitted_leaves : {text out : List ℕ} {place : Place} {h : Sheet} {accepting : List ℕ} {rows : List Row} {us : Ts} {part : Part} (q : ℕ)
    → q < part.next
    → Emitted text out place h accepting rows us part
    → Emitted text out (record { at = place.at; state = q; next = place.next; row = place.row }) h accepting rows us (leaves part q)
emitted_leaves q below e = record { stands = at_anew e.stands refl e.stands.takes below }

-- a part that is emitted, and then a free row from its exit
module _ {text out : List ℕ} {place : Place} {h : Sheet} {accepting : List ℕ} {rows : List Row} {us : Ts} {part : Part} {to : ℕ}
    (e : Emitted text out place h accepting rows us part)
    (below : to < part.next)
    (few : part.next ≤ 128)
    (fits : length rows + length (closed_part part to).rows ≤ h.count) where
  one_more : length (rows ++ part.rows) + 1 ≤ h.count
  one_more = fits_then rows part.rows (free part.exit to ∷ []) fits

  pub closing_room : Room out place.row (λ _. free place.state to ∷ []) × (place.state ≤ 128) × (to ≤ 128)
  closing_room = (
    free_room e.stands to one_more,
    omega (arith, e.stands.state, e.stands.taken),
    omega arith,
  )

  pub closing_emitted : {after : List ℕ} {end : ℕ}
      → Writes out after place.row end (λ _. free place.state to ∷ [])
      → Emitted text after (record { at = place.at; state = to; next = place.next; row = end }) h accepting rows us (closed_part part to)
  closing_emitted {after} {end} writes =
      let f = at_rows e.stands _ _ (ap (λ (n : ℕ). free n to ∷ []) e.stands.state) one_more writes in
      record {
        stands = record {
          here = e.stands.here;
          filled =
              subst (λ (xs : List Row). Filled h (accepting ++ part.accepting) xs after end)
              (append_assoc rows part.rows (free part.exit to ∷ []))
              f;
          state = refl;
          takes = e.stands.takes;
          taken = below;
        };
      }

-- a reserved word that is seen stands there
pub record HeadAt (text : List ℕ) (from end : ℕ) (head : Token) (ts : Ts) : Type 0 where
  pub place : ℕ
  pub rest : Ts
  pub is : ts ≡ (head at place) ∷ rest
  pub behind : Behind text from end rest

pub head_at : {text : List ℕ} {from e : ℕ} {ts : Ts} {x : Word} (l : List ℕ)
    → ((bytes : List ℕ) → IsWord x bytes → bytes ≡ l)
    → WordFirst text from e x ts
    → HeadAt text from e (word l) ts
head_at l spelt first =
    let a = word_at first in
    record {
      place = a.place;
      rest = a.rest;
      is = a.is ∙ ap (λ (bytes : List ℕ). (word bytes at a.place) ∷ a.rest) (spelt a.bytes a.which);
      behind = a.behind;
    }

-- a block and a free row, by its parts
pub record BodyOf (to : ℕ) (alphabet : List ℕ) (p next : ℕ) (ts us : Ts) (part : Part) : Type 0 where
  pub opens : ℕ
  pub inner : Ts
  pub block : Part
  pub starts : ts ≡ (s "{" at opens) ∷ inner
  pub inside : RestTask alphabet p next inner us block
  pub is : part ≡ closed_part block to
  pub below : to < next
  pub grows : next ≤ block.next

pub body_of : {to : ℕ} {alphabet : List ℕ} {p next : ℕ} {ts us : Ts} {part : Part} → BodyTask to alphabet p next ts us part → BodyOf to alphabet p next ts us part
body_of {alphabet = alphabet} {p = p} {next = next} (a_body {b = b} (block d) within below) =
    record {
      opens = _;
      inner = _;
      block = _;
      starts = refl;
      inside = the_rest d within;
      is = refl;
      below = below;
      grows = omega (arith, statements_next b alphabet p next);
    }

module _ {text out : List ℕ} {place : Place} {to start : ℕ} (enters : GoesPast text place.at 1 start)
    {h : Sheet} {accepting : List ℕ} {rows : List Row} {p next : ℕ} {ts us : Ts} {part : Part}
    (d : Doing (BodyTask to) text out place h accepting rows p next ts us part) where
  abbrev body_here : BodyOf to h.alphabet p next ts us part
  body_here = body_of d.is

  body_fits : length rows + length (closed_part body_here.block to).rows ≤ h.count
  body_fits = subst (λ (x : Part). length rows + length x.rows ≤ h.count) body_here.is d.fits

  body_few : body_here.block.next ≤ 128
  body_few = subst (λ (x : Part). x.next ≤ 128) body_here.is d.states

  pub inside_doing : Doing RestTask text out (record { at = start; state = place.state; next = place.next; row = place.row }) h accepting rows p next body_here.inner us body_here.block
  inside_doing =
      record {
        stands = at_past d.stands body_here.starts enters;
        is = body_here.inside;
        states = body_few;
        fits = fits_first rows body_here.block.rows _ body_fits;
      }

  pub inside_onward : place.at < start
  inside_onward = at_onward d.stands body_here.starts enters

  pub body_some : place.at < length text
  body_some = here_some (subst (Here text place.at) body_here.starts d.stands.here)

  module _ {middle : List ℕ} {last : Place} (e : Emitted text middle last h accepting rows us body_here.block) where
    body_below : to < body_here.block.next
    body_below = omega (arith, body_here.below, body_here.grows)

    pub body_room : Room middle last.row (λ _. free last.state to ∷ []) × (last.state ≤ 128) × (to ≤ 128)
    body_room = closing_room e body_below body_few body_fits

    pub body_emitted : {after : List ℕ} {end : ℕ}
        → Writes middle after last.row end (λ _. free last.state to ∷ [])
        → Emitted text after (record { at = last.at; state = to; next = last.next; row = end }) h accepting rows us part
    body_emitted writes = emitted_as body_here.is (closing_emitted e body_below body_few body_fits writes)

-- `else` and its block
else_given : {to : ℕ} {alphabet : List ℕ} {p next k : ℕ} {ts us vs : Ts} {e : Rest}
    → IsRest ts e us
    → Follows us
    → RestWithin alphabet e
    → to < next
    → ts ≡ (w "else" at k) ∷ vs
    → BodyTask to alphabet p next vs us (closed_part (rest_part alphabet e p next) to)
unfolding rest_part RestWithin
else_given nothing follows within below is = absurd (follows.no_else _ _ is)
else_given {to} {alphabet} {p} {next} {us = us} (else {b = b} d) follows within below is =
    subst
    (λ (xs : Ts). BodyTask to alphabet p next xs us (closed_part (statements_part alphabet b p next) to))
    (ap (drop 1) is)
    (a_body d within below)

else_block : {to : ℕ} {alphabet : List ℕ} {p next k : ℕ} {ts us : Ts} {part : Part} → ElseTask to alphabet p next ((w "else" at k) ∷ ts) us part → BodyTask to alphabet p next ts us part
else_block (an_else d follows within below) = else_given d follows within below refl

-- or neither
record NoElse (to p next : ℕ) (ts us : Ts) (part : Part) : Type 0 where
  pub same : ts ≡ us
  pub below : to < next
  pub is : part ≡ closed_part (rows_part [] p next) to

no_else_lem : {text : List ℕ} {from to : ℕ} {alphabet : List ℕ} {p next : ℕ} {ts us : Ts} {part : Part}
    → ElseTask to alphabet p next ts us part
    → Here text from ts
    → NotWord text from Word.Else
    → NoElse to p next ts us part
unfolding rest_part
no_else_lem (an_else nothing follows within below) here other = record { same = refl; below = below; is = refl }
no_else_lem (an_else (else b) follows within below) here other = absurd (other.other here refl)

module _ {text out : List ℕ} {place : Place} {to : ℕ}
    {h : Sheet} {accepting : List ℕ} {rows : List Row} {p next : ℕ} {ts us : Ts} {part : Part}
    (d : Doing (ElseTask to) text out place h accepting rows p next ts us part) where
  module _ {end : ℕ} (sees : SeesWord text place.at end Word.Else) where
    abbrev else_here : HeadAt text place.at end (w "else") ts
    else_here = head_at _ (λ bytes which. which) (sees.stands ts d.stands.here)

    pub else_doing : Doing (BodyTask to) text out (record { at = end; state = place.state; next = place.next; row = place.row }) h accepting rows p next else_here.rest us part
    else_doing =
        record {
          stands = at_moved end d.stands else_here.behind.here;
          is = else_block (subst (λ (xs : Ts). ElseTask to h.alphabet p next xs us part) else_here.is d.is);
          states = d.states;
          fits = d.fits;
        }

    pub else_onward : (place.at < end) × (end ≤ length text)
    else_onward = (else_here.behind.onward, else_here.behind.within)

  module _ (other : NotWord text place.at Word.Else) where
    abbrev without : NoElse to p next ts us part
    without = no_else_lem d.is d.stands.here other

    empty : Emitted text out place h accepting rows us (rows_part [] p next)
    empty = subst (λ (xs : Ts). Emitted text out place h accepting rows xs (rows_part [] p next)) without.same (nothing_emitted d.stands)

    without_fits : length rows + length (closed_part (rows_part [] p next) to).rows ≤ h.count
    without_fits = subst (λ (x : Part). length rows + length x.rows ≤ h.count) without.is d.fits

    without_few : next ≤ 128
    without_few = subst (λ (x : Part). x.next ≤ 128) without.is d.states

    pub without_room : Room out place.row (λ _. free place.state to ∷ []) × (place.state ≤ 128) × (to ≤ 128)
    without_room = closing_room empty without.below without_few without_fits

    pub without_emitted : {after : List ℕ} {end : ℕ}
        → Writes out after place.row end (λ _. free place.state to ∷ [])
        → Emitted text after (record { at = place.at; state = to; next = place.next; row = end }) h accepting rows us part
    without_emitted writes = emitted_as without.is (closing_emitted empty without.below without_few without_fits writes)

-- if, by its parts
pub record IfOf (alphabet : List ℕ) (p next : ℕ) (ts us : Ts) (part : Part) : Type 0 where
  pub behind : Ts
  pub later : Ts
  pub asked : Part
  pub holding : Part
  pub failing : Part
  pub condition : TestTask (next + 1) (next + 2) alphabet p (next + 3) ts behind asked
  pub block : BodyTask next alphabet (next + 1) asked.next behind later holding
  pub otherwise : ElseTask next alphabet (next + 2) holding.next later us failing
  pub is : part ≡ and_then asked (and_then holding failing)
  pub first : next + 3 ≤ asked.next
  pub second : asked.next ≤ holding.next
  pub third : holding.next ≤ failing.next

-- the free row behind the first block stands before the rows of the second
if_rows : (a b c : List Row) (f : Row) → a ++ (b ++ (f ∷ c)) ≡ a ++ ((b ++ (f ∷ [])) ++ c)
if_rows a b c f = ap (λ (xs : List Row). a ++ xs) (sym (append_assoc b (f ∷ []) c))

if_case : {alphabet : List ℕ} {p next k : ℕ} {ts us : Ts} {a : Statement} → If k ts a us → Follows us → StatementWithin alphabet a → IfOf alphabet p next ts us (statement_part alphabet a p next)
unfolding statement_part if_part and_then StatementWithin
if_case {alphabet} {p} {next} (If.asks {c = c} {b = b} {e = otherwise} d e f) follows (c-within, within, within') =
    let asked = test alphabet c p (next + 1) (next + 2) (next + 3) in
    let yes = statements_part alphabet b (next + 1) asked.next in
    let no = rest_part alphabet otherwise (next + 2) yes.next in
    let grown = test_next alphabet c p (next + 1) (next + 2) (next + 3) in
    let more = statements_next b alphabet (next + 1) asked.next in
    record {
      behind = _;
      later = _;
      asked = _;
      holding = _;
      failing = _;
      condition = tests d c-within (omega arith) (omega arith);
      block = a_body e within (omega (arith, grown));
      otherwise = an_else f follows within' (omega (arith, grown, more));
      is = ap (λ (xs : List Row). record { rows = xs; accepting = yes.accepting ++ no.accepting; exit = next; next = no.next })
          (if_rows asked.rows yes.rows (no.rows ++ (free no.exit next ∷ [])) (free yes.exit next));
      first = omega (arith, grown);
      second = omega (arith, more);
      third = omega (arith, rest_next otherwise alphabet (next + 2) yes.next);
    }

module _ {text out : List ℕ} {place : Place} {h : Sheet} {accepting : List ℕ} {rows : List Row} {ts us : Ts} {part : Part}
    (d : Doing (HeadedTask (w "if")) text out place h accepting rows place.state place.next ts us part) where
  pub if_of : IfOf h.alphabet place.state place.next ts us part
  if_of =
      let o = headed_of d.is in
      subst (IfOf h.alphabet place.state place.next ts us) (sym o.is)
      (if_case (statement_if o.derived) o.follows o.within)

  if_fits : length rows + length (if_of.asked.rows ++ (if_of.holding.rows ++ if_of.failing.rows)) ≤ h.count
  unfolding and_then
  if_fits = subst (λ (x : Part). length rows + length x.rows ≤ h.count) if_of.is d.fits

  if_states : if_of.failing.next ≤ 128
  unfolding and_then
  if_states = subst (λ (x : Part). x.next ≤ 128) if_of.is d.states

  -- three states can be taken
  pub if_few : place.next + 3 ≤ 128
  if_few = omega (arith, if_states, if_of.first, if_of.second, if_of.third)

  pub if_asking : Doing (TestTask (place.next + 1) (place.next + 2)) text out (record { at = place.at; state = place.state; next = place.next + 3; row = place.row }) h accepting rows place.state (place.next + 3) ts if_of.behind if_of.asked
  if_asking =
      record {
        stands = at_anew d.stands refl refl (omega (arith, d.stands.taken));
        is = if_of.condition;
        states = omega (arith, if_states, if_of.second, if_of.third);
        fits = fits_first rows if_of.asked.rows _ if_fits;
      }

  module _ {middle : List ℕ} {asked : Place} (e : Emitted text middle asked h accepting rows if_of.behind if_of.asked) where
    pub if_holding : Doing (BodyTask place.next) text middle (record { at = asked.at; state = place.next + 1; next = asked.next; row = asked.row }) h (accepting ++ if_of.asked.accepting) (rows ++ if_of.asked.rows) (place.next + 1) if_of.asked.next if_of.behind if_of.later if_of.holding
    if_holding =
        record {
          stands = at_anew e.stands refl e.stands.takes (omega (arith, if_of.first));
          is = if_of.block;
          states = omega (arith, if_states, if_of.third);
          fits = fits_first (rows ++ if_of.asked.rows) if_of.holding.rows _ (fits_then rows if_of.asked.rows _ if_fits);
        }

    module _ {second : List ℕ} {first : Place} (f : Emitted text second first h (accepting ++ if_of.asked.accepting) (rows ++ if_of.asked.rows) if_of.later if_of.holding) where
      pub if_failing : Doing (ElseTask place.next) text second (record { at = first.at; state = place.next + 2; next = first.next; row = first.row }) h ((accepting ++ if_of.asked.accepting) ++ if_of.holding.accepting) ((rows ++ if_of.asked.rows) ++ if_of.holding.rows) (place.next + 2) if_of.holding.next if_of.later us if_of.failing
      if_failing =
          record {
            stands = at_anew f.stands refl f.stands.takes (omega (arith, if_of.first, if_of.second));
            is = if_of.otherwise;
            states = if_states;
            fits = fits_then (rows ++ if_of.asked.rows) if_of.holding.rows if_of.failing.rows (fits_then rows if_of.asked.rows _ if_fits);
          }

      pub if_emitted : {after : List ℕ} {last : Place}
          → Emitted text after last h ((accepting ++ if_of.asked.accepting) ++ if_of.holding.accepting) ((rows ++ if_of.asked.rows) ++ if_of.holding.rows) us if_of.failing
          → Emitted text after last h accepting rows us part
      if_emitted g =
          emitted_as if_of.is
          (emitted_then if_of.asked (and_then if_of.holding if_of.failing)
          (emitted_then if_of.holding if_of.failing g))

-- what stands between `while` and its block
record Choice (into over p next : ℕ) (ts us : Ts) (part : Part) : Type 0 where
  pub same : ts ≡ us
  pub is : part ≡ rows_part (free p into ∷ free p over ∷ []) p next
  pub inside : into < next
  pub outside : over < next

choice : {into over : ℕ} {alphabet : List ℕ} {p next k : ℕ} {ts us : Ts} {part : Part} → EntryTask into over alphabet p next ((w "choose" at k) ∷ ts) us part → Choice into over p next ts us part
choice {into = into} {over = over} {alphabet = alphabet} {p = p} {next = next} {k = k} {ts = ts} {us = us} {part = part} (asks x4) = elim x4 [ ]
choice (chooses inside outside) = record { same = refl; is = refl; inside = inside; outside = outside }

asked_only : {text : List ℕ} {from into over : ℕ} {alphabet : List ℕ} {p next : ℕ} {ts us : Ts} {part : Part}
    → EntryTask into over alphabet p next ts us part
    → Here text from ts
    → NotWord text from Word.Choose
    → TestTask into over alphabet p next ts us part
asked_only (chooses inside outside) here other = absurd (other.other here refl)
asked_only (asks t) here other = t

module _ {text out : List ℕ} {place : Place} {into over : ℕ}
    {h : Sheet} {accepting : List ℕ} {rows : List Row} {p next : ℕ} {ts us : Ts} {part : Part}
    (d : Doing (EntryTask into over) text out place h accepting rows p next ts us part) where
  pub entry_asks : NotWord text place.at Word.Choose → Doing (TestTask into over) text out place h accepting rows p next ts us part
  entry_asks other =
      record { stands = d.stands; is = asked_only d.is d.stands.here other; states = d.states; fits = d.fits }

  module _ {end : ℕ} (sees : SeesWord text place.at end Word.Choose) where
    abbrev choose_here : HeadAt text place.at end (w "choose") ts
    choose_here = head_at _ (λ bytes which. which) (sees.stands ts d.stands.here)

    abbrev choice_here : Choice into over p next choose_here.rest us part
    choice_here = choice (subst (λ (xs : Ts). EntryTask into over h.alphabet p next xs us part) choose_here.is d.is)

    choice_fits : length rows + 2 ≤ h.count
    choice_fits = subst (λ (x : Part). length rows + length x.rows ≤ h.count) choice_here.is d.fits

    choice_few : next ≤ 128
    choice_few = subst (λ (x : Part). x.next ≤ 128) choice_here.is d.states

    pub choice_onward : place.at < end
    choice_onward = choose_here.behind.onward

    pub choice_room : Room out place.row (λ _. free place.state into ∷ []) × (place.state ≤ 128) × (into ≤ 128)
    choice_room = (
      free_room d.stands into (omega (arith, choice_fits)),
      omega (arith, d.stands.state, d.stands.taken, choice_few),
      omega (arith, choice_here.inside, choice_few),
    )

    module _ {middle : List ℕ} {row : ℕ} (first : Writes out middle place.row row (λ _. free place.state into ∷ [])) where
      entered : Emitted text middle (record { at = place.at; state = place.state; next = place.next; row = row }) h accepting rows ts (rows_part (free p into ∷ []) p next)
      entered = free_emitted d.stands into (omega (arith, choice_fits)) first

      second_fits : length (rows ++ (free p into ∷ [])) + 1 ≤ h.count
      second_fits = fits_then rows (free p into ∷ []) (free p over ∷ []) choice_fits

      pub choice_room_then : Room middle row (λ _. free place.state over ∷ []) × (place.state ≤ 128) × (over ≤ 128)
      choice_room_then = (
        free_room entered.stands over second_fits,
        omega (arith, d.stands.state, d.stands.taken, choice_few),
        omega (arith, choice_here.outside, choice_few),
      )

      pub choice_emitted : {after : List ℕ} {last : ℕ}
          → Writes middle after row last (λ _. free place.state over ∷ [])
          → Emitted text after (record { at = end; state = place.state; next = place.next; row = last }) h accepting rows us part
      unfolding and_then
      choice_emitted {after} {last} second =
          let both : Emitted text after (record { at = place.at; state = place.state; next = place.next; row = last }) h accepting rows ts (rows_part (free p into ∷ free p over ∷ []) p next) = emitted_then (rows_part (free p into ∷ []) p next) (rows_part (free p over ∷ []) p next) (free_emitted entered.stands over second_fits second) in
          emitted_as choice_here.is
          (record {
            stands = at_moved end both.stands (subst (Here text end) choice_here.same choose_here.behind.here);
          })

-- a loop, by its parts
pub record LoopOf (alphabet : List ℕ) (p next : ℕ) (ts us : Ts) (part : Part) : Type 0 where
  pub behind : Ts
  pub entered : Part
  pub body : Part
  pub entry : EntryTask (next + 1) next alphabet p (next + 2) ts behind entered
  pub block : BodyTask p alphabet (next + 1) entered.next behind us body
  pub is : part ≡ leaves (and_then entered body) next
  pub first : next + 2 ≤ entered.next
  pub second : entered.next ≤ body.next

loop_case : {alphabet : List ℕ} {p next k : ℕ} {ts us : Ts} {a : Statement} → p < next → While k ts a us → StatementWithin alphabet a → LoopOf alphabet p next ts us (statement_part alphabet a p next)
unfolding statement_part loop_part and_then StatementWithin
loop_case {alphabet} {p} {next} taken (Invert.asks {c = c} {b = b} d e) (c-within, within) =
    let asked = test alphabet c p (next + 1) next (next + 2) in
    let grown = test_next alphabet c p (next + 1) next (next + 2) in
    record {
      behind = _;
      entered = _;
      body = _;
      entry = asks (tests d c-within (omega arith) (omega arith));
      block = a_body e within (omega (arith, grown));
      is = refl;
      first = omega (arith, grown);
      second = omega (arith, statements_next b alphabet (next + 1) asked.next);
    }
loop_case {alphabet} {p} {next} taken (Invert.chooses {b = b} e) within =
    record {
      behind = _;
      entered = _;
      body = _;
      entry = chooses (omega arith) (omega arith);
      block = a_body e within (omega arith);
      is = refl;
      first = omega arith;
      second = omega (arith, statements_next b alphabet (next + 1) (next + 2));
    }

module _ {text out : List ℕ} {place : Place} {h : Sheet} {accepting : List ℕ} {rows : List Row} {ts us : Ts} {part : Part}
    (d : Doing (HeadedTask (w "while")) text out place h accepting rows place.state place.next ts us part) where
  pub loop_of : LoopOf h.alphabet place.state place.next ts us part
  loop_of =
      let o = headed_of d.is in
      subst (LoopOf h.alphabet place.state place.next ts us) (sym o.is)
      (loop_case d.stands.taken (statement_while o.derived) o.within)

  loop_fits : length rows + length (loop_of.entered.rows ++ loop_of.body.rows) ≤ h.count
  unfolding and_then
  loop_fits = subst (λ (x : Part). length rows + length x.rows ≤ h.count) loop_of.is d.fits

  loop_states : loop_of.body.next ≤ 128
  unfolding and_then
  loop_states = subst (λ (x : Part). x.next ≤ 128) loop_of.is d.states

  -- two states can be taken
  pub loop_few : place.next + 2 ≤ 128
  loop_few = omega (arith, loop_states, loop_of.first, loop_of.second)

  pub loop_entry : Doing (EntryTask (place.next + 1) place.next) text out (record { at = place.at; state = place.state; next = place.next + 2; row = place.row }) h accepting rows place.state (place.next + 2) ts loop_of.behind loop_of.entered
  loop_entry =
      record {
        stands = at_anew d.stands refl refl (omega (arith, d.stands.taken));
        is = loop_of.entry;
        states = omega (arith, loop_states, loop_of.second);
        fits = fits_first rows loop_of.entered.rows _ loop_fits;
      }

  module _ {middle : List ℕ} {entered : Place} (e : Emitted text middle entered h accepting rows loop_of.behind loop_of.entered) where
    pub loop_body : Doing (BodyTask place.state) text middle (record { at = entered.at; state = place.next + 1; next = entered.next; row = entered.row }) h (accepting ++ loop_of.entered.accepting) (rows ++ loop_of.entered.rows) (place.next + 1) loop_of.entered.next loop_of.behind us loop_of.body
    loop_body =
        record {
          stands = at_anew e.stands refl e.stands.takes (omega (arith, loop_of.first));
          is = loop_of.block;
          states = loop_states;
          fits = fits_then rows loop_of.entered.rows loop_of.body.rows loop_fits;
        }

    pub loop_emitted : {after : List ℕ} {last : Place}
        → Emitted text after last h (accepting ++ loop_of.entered.accepting) (rows ++ loop_of.entered.rows) us loop_of.body
        → Emitted text after (record { at = last.at; state = place.next; next = last.next; row = last.row }) h accepting rows us part
    unfolding and_then
    loop_emitted f =
        emitted_as loop_of.is
        (emitted_leaves place.next (omega (arith, loop_of.first, loop_of.second))
        (emitted_then loop_of.entered loop_of.body f))
