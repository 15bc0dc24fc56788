-- Which statement it is, by its first word, and what is left of a block behind it.
use Prim.Native.Nat.{ℕ, ◌+◌, ◌≤◌, ◌<◌}
use native.Mathlib.Omega.{arith}
use mathlib.Core.Path.{◌≡◌, refl, sym, ◌∙◌, ap, subst, subst₂}
use mathlib.Core.List.{List, [], ◌∷◌, ◌++◌, append-nil}
use lib.ListN.{length}
use Rattle.text.specs.Token.{Token, word, w, s}
use Rattle.text.specs.Tokens.{◌at◌}
use Rattle.text.specs.First.{IsWord}
use Rattle.text.specs.declared.Word.{Word}
use Rattle.text.specs.declared.Sign.{Sign}
use Rattle.table.specs.Table.{Row}
use Rattle.rule.specs.Tree.{Statement, Statements}
use Rattle.rule.specs.Grammar as Grammar
use Rattle.rule.specs.Grammar.{Ts, IsStatement, IsStatements}
use Rattle.rule.proofs.Invert.{Stop, stops, statement_accept, statement_reject, rest_else, rest_also, Closed, closed, rest_brace}
use Rattle.rule.specs.Inside.Within.{StatementsWithin}
use Rattle.construction.specs.Construction.{Part, and_then, statement_part, statements_part}
use Rattle.compiler.specs.Inside.Writing.{Sheet, Holds, Filled, Sets}
use Rattle.compiler.specs.Inside.Seeing.{Here, WordFirst, SeesWord, SeesSign, NotSign, GoesPast, AtWord}
use Rattle.compiler.specs.Inside.Place.{Place, place_of}
use Rattle.compiler.specs.Inside.Emission.{At, Doing, Ready, Emits, Emitted, rows_part, Follows, StatementTask, a_statement, HeadedTask, headed, Stops, RestTask, the_rest}
use Rattle.compiler.specs.declared.Emitter.{Emitter}
use Rattle.compiler.specs.declared.see.Cursor.{Cursor}
use Rattle.construction.proofs.Counts.{statements_next}
use Rattle.compiler.specs.declared.write.Image.{Image}
use Rattle.std.specs.Borrow.{MutBor}
use Rattle.compiler.proofs.Seeing.{here_some, word_first_is, SignAt, sign_at}
use Rattle.compiler.proofs.Emission.{ready_in, emits_in, at_moved, fits_first, fits_then, emitted_as}
use Rattle.compiler.proofs.Stepping.{headed_of}
use Rattle.compiler.proofs.Nesting.{nothing_emitted, emitted_then, HeadAt, head_at}

-- a state is taken, past one token
pub record Stopping (text : List ℕ) (place r : Place) : Type 0 where
  pub passes : GoesPast text place.at 1 r.at
  pub state : r.state ≡ place.next
  pub takes : r.next ≡ place.next + 1
  pub row : r.row ≡ place.row

pub stopping : {e r : Emitter} {text : List ℕ} → e.cursor.text.now ≡ text → Stops e r → Stopping text (place_of e) (place_of r)
stopping {e} {r} same st =
    record {
      passes = subst (λ (t : List ℕ). GoesPast t e.cursor.at 1 r.cursor.at) same st.passes;
      state = st.state;
      takes = st.takes;
      row = ap (λ (i : MutBor Image). i.now.row) st.image;
    }

-- the image may have got a bit before
pub stopping_from : {k : Cursor} (i : Image) {j : MutBor Image} {state next : ℕ} {r : Emitter}
    → Stops (record { cursor = k; image = j; state = state; next = next }) r
    → j.now.row ≡ i.row
    → Stopping k.text.now (record { at = k.at; state = state; next = next; row = i.row }) (place_of r)
stopping_from i st row =
    record { passes = st.passes; state = st.state; takes = st.takes; row = ap (λ (j : MutBor Image). j.now.row) st.image ∙ row }

-- accept and reject take a state
abbrev stop_part : List ℕ → ℕ → Part
stop_part accepting next = record { rows = []; accepting = accepting; exit = next; next = next + 1 }

module _ {text before : List ℕ} {place : Place} {h : Sheet} {accepting : List ℕ} {rows : List Row} {p next : ℕ} {v : ℕ} {us : Ts}
    (stands : At text before place h accepting rows p next ((s ";" at v) ∷ us)) where
  stopped : {after : List ℕ} {r : Place} (states : List ℕ)
      → Filled h (accepting ++ states) rows after place.row
      → Stopping text place r
      → Emitted text after r h accepting rows us (stop_part states next)
  stopped {after} {r} states filled st =
      record {
        stands = record {
          here = (st.passes.behind _ stands.here (omega arith)).here;
          filled = subst₂ (λ (xs : List Row) (n : ℕ). Filled h (accepting ++ states) xs after n) (sym (append-nil rows)) (sym st.row) filled;
          state = st.state ∙ stands.takes;
          takes = st.takes ∙ ap (λ (n : ℕ). n + 1) stands.takes;
          taken = omega arith;
        };
      }

  stop_on : {r : Place} → Stopping text place r → place.at ≤ r.at
  stop_on st = omega (arith, (st.passes.behind _ stands.here (omega arith)).onward)

-- `accept ;` and `reject ;` behind their word
record StopOf (states : ℕ → List ℕ) (p next : ℕ) (ts us : Ts) (part : Part) : Type 0 where
  pub place : ℕ
  pub starts : ts ≡ (s ";" at place) ∷ us
  pub is : part ≡ stop_part (states p) next

stop_case : (alphabet : List ℕ) {p next : ℕ} {ts us : Ts} {a is : Statement} {states : ℕ → List ℕ} {part : Part}
    → Stop is ts a us
    → statement_part alphabet is p next ≡ stop_part (states p) next
    → part ≡ statement_part alphabet a p next
    → StopOf states p next ts us part
stop_case alphabet stops e same = record { place = _; starts = refl; is = same ∙ e }

module _ {text out : List ℕ} {place : Place} {h : Sheet} {accepting : List ℕ} {rows : List Row} {p next : ℕ} {ts us : Ts} {part : Part} where
  module _ (d : Doing (HeadedTask (w "accept")) text out place h accepting rows p next ts us part) where
    accept_of : StopOf (λ n. n ∷ []) p next ts us part
    unfolding statement_part
    accept_of = let o = headed_of d.is in stop_case h.alphabet (statement_accept o.derived) refl o.is

    accept_stands : At text out place h accepting rows p next ((s ";" at accept_of.place) ∷ us)
    accept_stands = subst (At text out place h accepting rows p next) accept_of.starts d.stands

    pub accept_few : place.next ≤ 128
    accept_few = omega (arith, d.stands.takes, ap (λ (x : Part). x.next) accept_of.is, d.states)

    pub accept_emitted : {after : List ℕ} {r : Place} → Sets out after place.state → Stopping text place r → Emitted text after r h accepting rows us part
    accept_emitted {after} marks st =
        emitted_as accept_of.is
        (stopped accept_stands (p ∷ [])
        (record {
          holds = subst (λ (n : ℕ). Holds h (accepting ++ (n ∷ [])) rows after) d.stands.state (marks.sets d.stands.filled.holds);
          here = d.stands.filled.here;
        })
        st)

    pub accept_onward : {r : Place} → Stopping text place r → place.at ≤ r.at
    accept_onward st = stop_on accept_stands st

  module _ (d : Doing (HeadedTask (w "reject")) text out place h accepting rows p next ts us part) where
    reject_of : StopOf (λ _. []) p next ts us part
    unfolding statement_part
    reject_of = let o = headed_of d.is in stop_case h.alphabet (statement_reject o.derived) refl o.is

    reject_stands : At text out place h accepting rows p next ((s ";" at reject_of.place) ∷ us)
    reject_stands = subst (At text out place h accepting rows p next) reject_of.starts d.stands

    pub reject_few : place.next ≤ 128
    reject_few = omega (arith, d.stands.takes, ap (λ (x : Part). x.next) reject_of.is, d.states)

    pub reject_emitted : {r : Place} → Stopping text place r → Emitted text out r h accepting rows us part
    reject_emitted st =
        emitted_as reject_of.is
        (stopped reject_stands []
        (subst (λ (a : List ℕ). Filled h a rows out place.row) (sym (append-nil accepting)) d.stands.filled)
        st)

    pub reject_onward : {r : Place} → Stopping text place r → place.at ≤ r.at
    reject_onward st = stop_on reject_stands st

-- a statement by its first word
pub headed_doing : {text out : List ℕ} {place : Place} {h : Sheet} {accepting : List ℕ} {rows : List Row} {p next : ℕ} {ts us : Ts} {part : Part} {head : Token} {end : ℕ}
    → (a : HeadAt text place.at end head ts)
    → Doing StatementTask text out place h accepting rows p next ts us part
    → Doing (HeadedTask head) text out (record { at = end; state = place.state; next = place.next; row = place.row }) h accepting rows p next a.rest us part
headed_doing {h = h} {p = p} {next = next} {us = us} {part = part} {end = end} a d =
    record {
      stands = at_moved end d.stands a.behind.here;
      is = headed (subst (λ (xs : Ts). StatementTask h.alphabet p next xs us part) a.is d.is);
      states = d.states;
      fits = d.fits;
    }

-- whatever statement an emitter stands at, this is its head
pub record HeadedBy (e : Emitter) (end : ℕ) (head : Token) : Type 0 where
  pub by : {h : Sheet} {accepting : List ℕ} {rows : List Row} {p next : ℕ} {ts us : Ts} {part : Part}
      → Doing StatementTask e.cursor.text.now e.image.now.out.now (place_of e) h accepting rows p next ts us part
      → HeadAt e.cursor.text.now e.cursor.at end head ts

-- the word that is seen
pub named : {e : Emitter} {end : ℕ} {x : Word} (y : Word) (l : List ℕ)
    → ((bytes : List ℕ) → IsWord y bytes → bytes ≡ l)
    → SeesWord e.cursor.text.now e.cursor.at end x
    → x ≡ y
    → HeadedBy e end (word l)
named {e} {end} y l spelt seen is =
    let same = subst (SeesWord e.cursor.text.now e.cursor.at end) is seen in
    record { by = λ d. head_at l spelt (same.stands _ d.stands.here) }

-- or none of those that have a name
pub record Unnamed (x : Word) : Type 0 where
  pub no_move : ¬ (x ≡ Word.Move)
  pub no_goto : ¬ (x ≡ Word.Goto)
  pub no_c : ¬ (x ≡ Word.C)
  pub no_accept : ¬ (x ≡ Word.Accept)
  pub no_reject : ¬ (x ≡ Word.Reject)
  pub no_if : ¬ (x ≡ Word.If)
  pub no_while : ¬ (x ≡ Word.While)

branch_left : {text : List ℕ} {from e : ℕ} {x : Word} {ts us : Ts} {a : Statement}
    → IsStatement ts a us
    → WordFirst text from e x ts
    → Unnamed x
    → x ≡ Word.Branch
branch_left (Grammar.plain Grammar.move_by) seen other = absurd (other.no_move (word_first_is Word.Move seen refl))
branch_left (Grammar.plain Grammar.move_back) seen other = absurd (other.no_move (word_first_is Word.Move seen refl))
branch_left (Grammar.plain Grammar.goto_lend) seen other = absurd (other.no_goto (word_first_is Word.Goto seen refl))
branch_left (Grammar.plain Grammar.goto_rend) seen other = absurd (other.no_goto (word_first_is Word.Goto seen refl))
branch_left (Grammar.plain Grammar.increment) seen other = absurd (other.no_c (word_first_is Word.C seen refl))
branch_left (Grammar.plain Grammar.decrement) seen other = absurd (other.no_c (word_first_is Word.C seen refl))
branch_left (Grammar.plain Grammar.add) seen other = absurd (other.no_c (word_first_is Word.C seen refl))
branch_left (Grammar.plain Grammar.subtract) seen other = absurd (other.no_c (word_first_is Word.C seen refl))
branch_left Grammar.accept seen other = absurd (other.no_accept (word_first_is Word.Accept seen refl))
branch_left Grammar.reject seen other = absurd (other.no_reject (word_first_is Word.Reject seen refl))
branch_left (Grammar.if c b e) seen other = absurd (other.no_if (word_first_is Word.If seen refl))
branch_left (Grammar.while c b) seen other = absurd (other.no_while (word_first_is Word.While seen refl))
branch_left (Grammar.choose b) seen other = absurd (other.no_while (word_first_is Word.While seen refl))
branch_left (Grammar.branch b a) seen other = word_first_is Word.Branch seen refl

task_left : {text : List ℕ} {from e : ℕ} {x : Word} {alphabet : List ℕ} {p next : ℕ} {ts us : Ts} {part : Part}
    → StatementTask alphabet p next ts us part
    → WordFirst text from e x ts
    → Unnamed x
    → x ≡ Word.Branch
task_left (a_statement d follows within) seen other = branch_left d seen other

-- what is left is a branch
pub unnamed : {e : Emitter} {end : ℕ} {x : Word} → SeesWord e.cursor.text.now e.cursor.at end x → Unnamed x → HeadedBy e end (w "branch")
unnamed {e} {end} {x} seen other =
    record {
      by = λ {h} {accepting} {rows} {p} {next} {ts} d.
          let first = seen.stands ts d.stands.here in
          head_at _ (λ bytes which. which)
          (subst (λ (y : Word). WordFirst e.cursor.text.now e.cursor.at end y ts) (task_left d.is first other) first);
    }

-- so it is ready behind that word, and what is emitted there is the statement
module _ {e : Emitter} (k : Cursor) {head : Token} (text : k.text.now ≡ e.cursor.text.now) (needs : Ready StatementTask e) (a : HeadedBy e k.at head) where
  pub headed_ready : Ready (HeadedTask head) (record { cursor = k; image = e.image; state = e.state; next = e.next })
  headed_ready = ready_in text (headed_doing (a.by needs.doing) needs.doing)

  -- which is further on in the text
  pub headed_onward : (e.cursor.at < k.at) × (k.at ≤ length e.cursor.text.now)
  headed_onward = let first = a.by needs.doing in (first.behind.onward, first.behind.within)

  pub headed_emits : {r : Emitter} → Emits (HeadedTask head) (record { cursor = k; image = e.image; state = e.state; next = e.next }) r → Emits StatementTask e r × (e.cursor.at < r.cursor.at)
  headed_emits whole = (
    record {
      emits = λ d. emits_in whole text (headed_doing (a.by d) d);
      onward = omega (arith, headed_onward, whole.onward);
      text = whole.text ∙ text;
      same = whole.same;
    },
    omega (arith, headed_onward, whole.onward),
  )

-- and so a reject, which takes a state
module _ {e : Emitter} (k : Cursor) (text : k.text.now ≡ e.cursor.text.now) (needs : Ready StatementTask e) (a : HeadedBy e k.at (w "reject")) where
  pub rejects_few : e.next ≤ 128
  rejects_few = reject_few (headed_doing (a.by needs.doing) needs.doing)

  pub rejects_emit : {r : Emitter} → Stops (record { cursor = k; image = e.image; state = e.state; next = e.next }) r → Emits StatementTask e r × (e.cursor.at < r.cursor.at)
  rejects_emit {r} stopping_here =
      let st = stopping text stopping_here in
      let later = reject_onward (headed_doing (a.by needs.doing) needs.doing) st in
      let first = headed_onward k text needs a in (
        record {
          emits = λ {h} {accepting} {rows} {p} {next} {ts} {us} {part} d.
              subst (λ (i : MutBor Image). Emitted e.cursor.text.now i.now.out.now (place_of r) h accepting rows us part) (sym stopping_here.image)
              (reject_emitted (headed_doing (a.by d) d) st);
          onward = omega (arith, first, later);
          text = stopping_here.text ∙ text;
          same = record { name = ap (λ (i : MutBor Image). i.ghost_name) stopping_here.image; out = ap (λ (i : MutBor Image). i.now.out.ghost_name) stopping_here.image };
        },
        omega (arith, first, later),
      )

-- where a statement stands there is a word
record WordStands (text : List ℕ) (from : ℕ) : Type 0 where
  pub bytes : List ℕ
  pub place : ℕ
  pub us : Ts
  pub here : Here text from ((word bytes at place) ∷ us)

statement_word : {text : List ℕ} {from : ℕ} {ts us : Ts} {a : Statement} → IsStatement ts a us → Here text from ts → WordStands text from
statement_word (Grammar.plain Grammar.move_by) here = record { bytes = _; place = _; us = _; here = here }
statement_word (Grammar.plain Grammar.move_back) here = record { bytes = _; place = _; us = _; here = here }
statement_word (Grammar.plain Grammar.goto_lend) here = record { bytes = _; place = _; us = _; here = here }
statement_word (Grammar.plain Grammar.goto_rend) here = record { bytes = _; place = _; us = _; here = here }
statement_word (Grammar.plain Grammar.increment) here = record { bytes = _; place = _; us = _; here = here }
statement_word (Grammar.plain Grammar.decrement) here = record { bytes = _; place = _; us = _; here = here }
statement_word (Grammar.plain Grammar.add) here = record { bytes = _; place = _; us = _; here = here }
statement_word (Grammar.plain Grammar.subtract) here = record { bytes = _; place = _; us = _; here = here }
statement_word Grammar.accept here = record { bytes = _; place = _; us = _; here = here }
statement_word Grammar.reject here = record { bytes = _; place = _; us = _; here = here }
statement_word (Grammar.if c b e) here = record { bytes = _; place = _; us = _; here = here }
statement_word (Grammar.while c b) here = record { bytes = _; place = _; us = _; here = here }
statement_word (Grammar.choose b) here = record { bytes = _; place = _; us = _; here = here }
statement_word (Grammar.branch b a) here = record { bytes = _; place = _; us = _; here = here }

task_word : {text : List ℕ} {from : ℕ} {alphabet : List ℕ} {p next : ℕ} {ts us : Ts} {part : Part} → StatementTask alphabet p next ts us part → Here text from ts → WordStands text from
task_word (a_statement d follows within) here = statement_word d here

pub statement_at_word : {e : Emitter} → Ready StatementTask e → AtWord e.cursor
statement_at_word needs =
    let w = task_word needs.doing.is needs.doing.stands.here in
    record { bytes = w.bytes; place = w.place; us = w.us; here = w.here }

-- the rest of a block, where its brace stands
record Ended (p next : ℕ) (ts us : Ts) (part : Part) : Type 0 where
  pub same : ts ≡ us
  pub is : part ≡ rows_part [] p next

closed_case : (alphabet : List ℕ) {p next k : ℕ} {ts us : Ts} {b : Statements} → Closed ((s "}" at k) ∷ ts) b us → Ended p next ts us (statements_part alphabet b p next)
unfolding statements_part
closed_case alphabet closed = record { same = refl; is = refl }

ended : {alphabet : List ℕ} {p next k : ℕ} {ts us : Ts} {part : Part} → RestTask alphabet p next ((s "}" at k) ∷ ts) us part → Ended p next ts us part
ended {alphabet} (the_rest d within) = closed_case alphabet (rest_brace d)

-- and where a statement stands
pub record StatementThen (alphabet : List ℕ) (p next : ℕ) (ts us : Ts) (part : Part) : Type 0 where
  pub behind : Ts
  pub first : Part
  pub later : Part
  pub statement : StatementTask alphabet p next ts behind first
  pub rest : RestTask alphabet first.exit first.next behind us later
  pub is : part ≡ and_then first later
  pub grows : first.next ≤ later.next

follows_rest : {q : ℕ} {us vs : Ts} {b : Statements} → IsStatements us b ((s "}" at q) ∷ vs) → Follows us
follows_rest {q} {us} {vs} {b} d =
    record {
      no_else = λ p xs e. rest_else (subst (λ (ys : Ts). IsStatements ys b ((s "}" at q) ∷ vs)) e d);
      no_also = λ p xs e. rest_also (subst (λ (ys : Ts). IsStatements ys b ((s "}" at q) ∷ vs)) e d);
    }

pub statement_then : {text : List ℕ} {from : ℕ} {alphabet : List ℕ} {p next : ℕ} {ts us : Ts} {part : Part}
    → RestTask alphabet p next ts us part
    → Here text from ts
    → NotSign text from Sign.CloseBrace
    → StatementThen alphabet p next ts us part
unfolding statements_part StatementsWithin
statement_then (the_rest Grammar.none within) here other = absurd (other.other here refl)
statement_then {alphabet = alphabet} {p = p} {next = n} (the_rest (Grammar.next {a = a} {b = b} d e) (within, later)) here other =
    let first = statement_part alphabet a p n in
    record {
      behind = _;
      first = first;
      later = _;
      statement = a_statement d (follows_rest e) within;
      rest = the_rest e later;
      is = refl;
      grows = omega (arith, statements_next b alphabet first.exit first.next);
    }

module _ {text out : List ℕ} {place : Place}
    {h : Sheet} {accepting : List ℕ} {rows : List Row} {p next : ℕ} {ts us : Ts} {part : Part}
    (d : Doing RestTask text out place h accepting rows p next ts us part) where
  module _ {end : ℕ} (sees : SeesSign text place.at end Sign.CloseBrace) where
    abbrev brace_here : SignAt text place.at end Sign.CloseBrace ts
    brace_here = sign_at (sees.stands ts d.stands.here)

    pub brace_onward : place.at ≤ end
    brace_onward = omega (arith, brace_here.behind.onward)

    pub brace_emitted : Emitted text out (record { at = end; state = place.state; next = place.next; row = place.row }) h accepting rows us part
    brace_emitted =
        let e = ended (subst (λ (xs : Ts). RestTask h.alphabet p next xs us part) brace_here.is d.is) in
        emitted_as e.is
        (nothing_emitted (at_moved end d.stands (subst (Here text end) e.same brace_here.behind.here)))

  module _ (other : NotSign text place.at Sign.CloseBrace) where
    abbrev then_here : StatementThen h.alphabet p next ts us part
    then_here = statement_then d.is d.stands.here other

    then_fits : length rows + length (then_here.first.rows ++ then_here.later.rows) ≤ h.count
    unfolding and_then
    then_fits = subst (λ (x : Part). length rows + length x.rows ≤ h.count) then_here.is d.fits

    then_states : then_here.later.next ≤ 128
    unfolding and_then
    then_states = subst (λ (x : Part). x.next ≤ 128) then_here.is d.states

    pub statement_doing : Doing StatementTask text out place h accepting rows p next ts then_here.behind then_here.first
    statement_doing =
        record {
          stands = d.stands;
          is = then_here.statement;
          states = omega (arith, then_states, then_here.grows);
          fits = fits_first rows then_here.first.rows then_here.later.rows then_fits;
        }

    module _ {middle : List ℕ} {first : Place} (e : Emitted text middle first h accepting rows then_here.behind then_here.first) where
      pub rest_doing : Doing RestTask text middle first h (accepting ++ then_here.first.accepting) (rows ++ then_here.first.rows) then_here.first.exit then_here.first.next then_here.behind us then_here.later
      rest_doing =
          record {
            stands = e.stands;
            is = then_here.rest;
            states = then_states;
            fits = fits_then rows then_here.first.rows then_here.later.rows then_fits;
          }

      pub then_emitted : {after : List ℕ} {last : Place}
          → Emitted text after last h (accepting ++ then_here.first.accepting) (rows ++ then_here.first.rows) us then_here.later
          → Emitted text after last h accepting rows us part
      then_emitted f = emitted_as then_here.is (emitted_then then_here.first then_here.later f)

    pub rest_some : place.at < length text
    rest_some = here_some (task_word then_here.statement d.stands.here).here
