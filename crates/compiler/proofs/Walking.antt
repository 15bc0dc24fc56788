-- The condition walker: an atom, what an operator joins, and a condition both ways.
use Prim.Native.Nat.{ℕ, ◌+◌, ◌≤◌, ◌<◌}
use native.Mathlib.Omega.{arith}
use mathlib.Core.Path.{◌≡◌, refl, sym, ◌∙◌, ap, subst, subst₂}
use mathlib.Core.Bool.{Bool, true, false, not}
use mathlib.Core.List.{List, [], ◌∷◌, ◌++◌, append-nil, append_assoc}
use lib.ListN.{length}
use Rattle.text.specs.Token.{s}
use Rattle.text.specs.Token.{sign as signed}
use Rattle.text.specs.First.{written}
use Rattle.text.specs.Tokens.{◌at◌}
use Rattle.text.specs.declared.Sign.{Sign}
use Rattle.table.specs.Table.{Row}
use Rattle.rule.specs.Tree.{Atom, Condition}
use Rattle.rule.specs.Grammar.{Ts, IsAtom, read_is, read_is_not, counter_is, counter_is_not, Binding, loosest, tightest, IsCondition, atom, parens, negation, tighter, both, tight, either}
use Rattle.rule.specs.Inside.Within.{AtomWithin, ConditionWithin}
use Rattle.construction.specs.Construction.{Part, atom_rows, Added, walk, one_after_other, one_or_other, test}
use Rattle.compiler.specs.Inside.Writing.{Sheet, Filled, Room, Writes}
use Rattle.compiler.specs.Inside.Seeing.{Here, SeesSign, NotSign, GoesPast}
use Rattle.atoms.specs.Atom.{Read, AtomAt}
use Rattle.reader.specs.Inside.Atoms.{atom_of}
use Rattle.atoms.specs.declared.Atom.{Atom as Tested}
use Rattle.atoms.specs.declared.AtomRead.{AtomRead}
use Rattle.std.specs.Prelude.{Ok}
use Rattle.compiler.specs.Inside.Atoms.{rows_of}
use Rattle.compiler.specs.Inside.Place.{Place}
use Rattle.compiler.specs.Inside.Emission.{At, Doing, Emitted, rows_part, added_part, AtomTask, an_atom, Closes, by_paren, by_or, by_any, WalkTask, walks, joins, joined, takes, via_to, via_from, via_next, Leads, TestTask, tests}
use Rattle.compiler.specs.Inside.Operators.{ahead, Ahead}
use Rattle.compiler.specs.declared.walk.Course.{Course}
use Rattle.construction.proofs.Parts.{leads_walk}
use Rattle.compiler.proofs.Operators.{operator, join, no_operator, one_operator}
use Rattle.compiler.proofs.Seeing.{here_some, SignAt, sign_at}
use Rattle.compiler.proofs.AtomTokens.{FoundAt, atom_found, rows_are_lem}
use Rattle.compiler.proofs.Emission.{at_room, at_rows, at_moved, at_past, at_onward, emitted_as, emitted_past, rows_emitted, fits_first, fits_then}

-- an atom's task by its parts
record AtomOf (to : ℕ) (sign : Bool) (alphabet : List ℕ) (p next : ℕ) (ts us : Ts) (part : Part) : Type 0 where
  pub place : ℕ
  pub atom : Atom
  pub derived : IsAtom ts place atom us
  pub within : AtomWithin alphabet atom
  pub below : to < next
  pub is : part ≡ rows_part (atom_rows alphabet sign atom p to) p next

atom_of_lem : {to : ℕ} {sign : Bool} {alphabet : List ℕ} {p next : ℕ} {ts us : Ts} {part : Part} → AtomTask to sign alphabet p next ts us part → AtomOf to sign alphabet p next ts us part
atom_of_lem (an_atom d within below) = record { place = _; atom = _; derived = d; within = within; below = below; is = refl }

module _ {text out : List ℕ} {place : Place} {to : ℕ} {sign : Bool} {h : Sheet} {accepting : List ℕ} {rows : List Row} {p next : ℕ} {ts us : Ts} {part : Part} (d : Doing (AtomTask to sign) text out place h accepting rows p next ts us part) where
  abbrev task : AtomOf to sign h.alphabet p next ts us part
  task = atom_of_lem d.is

  -- the states that a row of it names
  pub atom_states : (place.state ≤ 128) × (to ≤ 128)
  atom_states =
      let next-is : part.next ≡ next = ap (λ (x : Part). x.next) task.is in
      (omega (arith, d.stands.state, d.stands.taken, d.states), omega (arith, task.below, d.states))

  module _ {r : Read} (reads : AtomAt text place.at r) where
    abbrev found : FoundAt text place.at us (atom_of task.atom) r
    found = atom_found h.alphabet reads d.stands.here task.derived task.within

    -- it is not refused
    pub atom_not_refused : ((a : AtomRead) → r ≡ Ok a → ⊥) → ⊥
    atom_not_refused none = none _ found.is

    module _ (read : AtomRead) (is : r ≡ Ok read) where
      same_read : record { atom = atom_of task.atom; at = found.end } ≡ read
      same_read = let both = sym found.is ∙ is in cc

      same_atom : atom_of task.atom ≡ read.atom
      same_atom = ap (λ (a : AtomRead). a.atom) same_read

      same_end : found.end ≡ read.at
      same_end = ap (λ (a : AtomRead). a.at) same_read

      atom_rows_lem : atom_rows h.alphabet sign task.atom p to ≡ rows_of read.atom sign h.alphabet place.state to
      atom_rows_lem =
          rows_are_lem h.alphabet sign task.atom p to
          ∙ ap (λ (a : Tested). rows_of a sign h.alphabet p to) same_atom
          ∙ ap (λ (n : ℕ). rows_of read.atom sign h.alphabet n to) (sym d.stands.state)

      pub atom_room : Room out place.row (λ alphabet. rows_of read.atom sign alphabet place.state to)
      atom_room =
          at_room d.stands (λ alphabet. rows_of read.atom sign alphabet place.state to)
          (subst (λ (zs : List Row). length rows + length zs ≤ h.count) (ap (λ (x : Part). x.rows) task.is ∙ atom_rows_lem) d.fits)

      pub atom_onward : place.at ≤ read.at
      atom_onward = omega (arith, found.onward, same_end)

      pub atom_emits : {after : List ℕ} {row : ℕ}
          → Writes out after place.row row (λ alphabet. rows_of read.atom sign alphabet place.state to)
          → Emitted text after (record { at = read.at; state = place.state; next = place.next; row = row }) h accepting rows us part
      atom_emits w =
          emitted_as task.is
          (rows_emitted (subst (λ (n : ℕ). Here text n us) same_end found.here)
          (at_rows d.stands (λ alphabet. rows_of read.atom sign alphabet place.state to) _ (sym atom_rows_lem) (subst (λ (x : Part). length rows + length x.rows ≤ h.count) task.is d.fits) w)
          d.stands.state
          d.stands.takes
          d.stands.taken)

-- a condition's task by its parts
record WalkOf (level : Binding) (to : ℕ) (sign : Bool) (alphabet : List ℕ) (p next : ℕ) (ts us : Ts) (part : Part) : Type 0 where
  pub below : to < next
  pub added : Added
  pub grows : next ≤ added.next
  pub is : part ≡ added_part added p

walk_of : {level : Binding} {to : ℕ} {sign : Bool} {alphabet : List ℕ} {p next : ℕ} {ts us : Ts} {part : Part}
    → WalkTask level to sign alphabet p next ts us part
    → WalkOf level to sign alphabet p next ts us part
walk_of {to = to} {sign = sign} {alphabet = alphabet} {p = p} {next = next} (walks {c = c} d closes within below) =
    record { below = below; added = _; grows = (leads_walk alphabet c sign p to next).grows; is = refl }

-- what may stand behind one side of an operator
closes_side : (sought : Bool) {us : Ts} → Closes (joins sought) us → Closes (joined sought) us
closes_side true by_paren = by_paren
closes_side false closes = by_any

closes_operator : (sought : Bool) (q : ℕ) (us : Ts) → Closes (joined sought) ((operator sought at q) ∷ us)
closes_operator true q us = by_or
closes_operator false q us = by_any

-- with no operator there is one side
pub one_side : (sought : Bool) {to : ℕ} {sign : Bool} {alphabet : List ℕ} {p next : ℕ} {ts us : Ts} {part : Part}
    → WalkTask (joins sought) to sign alphabet p next ts us part
    → ahead sought 0 ts ≡ false
    → WalkTask (joined sought) to sign alphabet p next ts us part
one_side sought (walks d closes within below) none = walks (no_operator sought d none) (closes_side sought closes) within below

-- how two sides are walked
walk-joined : (sought sign : Bool) (alphabet : List ℕ) (c d : Condition) (p to next : ℕ)
    → walk alphabet (join sought c d) sign p to next
    ≡ (let t : Bool = takes sought sign in
    let first : Added = walk alphabet c sign p (via_to t to next) (via_next t next) in
    let second : Added = walk alphabet d sign (via_from t p next) to first.next in
    record { rows = first.rows ++ second.rows; next = second.next })
unfolding walk one_after_other one_or_other
walk-joined true true alphabet c d p to next = refl
walk-joined true false alphabet c d p to next = refl
walk-joined false true alphabet c d p to next = refl
walk-joined false false alphabet c d p to next = refl

-- the task of each side
pub record Sides (sought : Bool) (to : ℕ) (sign : Bool) (alphabet : List ℕ) (p next : ℕ) (ts us : Ts) (part : Part) : Type 0 where
  pub place : ℕ
  pub behind : Ts
  pub first : Added
  pub second : Added
  pub before : WalkTask (joined sought) (via_to (takes sought sign) to next) sign alphabet p (via_next (takes sought sign) next) ts ((operator sought at place) ∷ behind) (added_part first p)
  pub after : WalkTask (joins sought) to sign alphabet (via_from (takes sought sign) p next) first.next behind us (added_part second (via_from (takes sought sign) p next))
  pub is : part ≡ added_part (record { rows = first.rows ++ second.rows; next = second.next }) p
  pub grows : via_next (takes sought sign) next ≤ first.next
  pub later : first.next ≤ second.next

join_within : (sought : Bool) (alphabet : List ℕ) (c d : Condition) → ConditionWithin alphabet (join sought c d) → ConditionWithin alphabet c × ConditionWithin alphabet d
unfolding ConditionWithin
join_within true alphabet c d within = within
join_within false alphabet c d within = within

via_below : (taking : Bool) (to next : ℕ) → to < next → via_to taking to next < via_next taking next
via_below true to next below = omega arith
via_below false to next below = below

via_grows : (taking : Bool) (next : ℕ) → next ≤ via_next taking next
via_grows true next = omega arith
via_grows false next = omega arith

pub two_sides : (sought : Bool) {to : ℕ} {sign : Bool} {alphabet : List ℕ} {p next : ℕ} {ts us : Ts} {part : Part}
    → WalkTask (joins sought) to sign alphabet p next ts us part
    → ahead sought 0 ts ≡ true
    → Sides sought to sign alphabet p next ts us part
two_sides sought {to} {sign} {alphabet} {p} {next} (walks {us = us} {c = c} d closes within below) found =
    let o = one_operator sought d closes found in
    let both = join_within sought alphabet o.first o.second (subst (ConditionWithin alphabet) o.is within) in
    let t = takes sought sign in
    let first = walk alphabet o.first sign p (via_to t to next) (via_next t next) in
    let grown = (leads_walk alphabet o.first sign p (via_to t to next) (via_next t next)).grows in
    record {
      place = o.place;
      behind = o.behind;
      first = first;
      second = walk alphabet o.second sign (via_from t p next) to first.next;
      before = walks o.before (closes_operator sought o.place o.behind) both.0 (via_below t to next below);
      after = walks o.after closes both.1 (omega (arith, via_grows t next));
      is =
          ap (λ (x : Condition). added_part (walk alphabet x sign p to next) p) o.is
          ∙ ap (λ (x : Added). added_part x p) (walk-joined sought sign alphabet o.first o.second p to next);
      grows = grown;
      later = (leads_walk alphabet o.second sign (via_from t p next) to first.next).grows;
    }

via_taken : (taking : Bool) (p next : ℕ) {last : ℕ} → p < next → via_next taking next ≤ last → via_from taking p next < last
via_taken true p next taken grown = omega (arith, grown)
via_taken false p next taken grown = omega arith

-- the two calls of a chain with an operator
module _ {text out : List ℕ} {place : Place} {sought : Bool} {to : ℕ} {sign : Bool} {w : Course} (goes : Leads (takes sought sign) to place.state place.next w)
    {h : Sheet} {accepting : List ℕ} {rows : List Row} {p next : ℕ} {ts us : Ts} {part : Part}
    (d : Doing (WalkTask (joins sought) to sign) text out place h accepting rows p next ts us part)
    (s : Sides sought to sign h.alphabet p next ts us part) where
  abbrev taking : Bool
  taking = takes sought sign

  both_fit : length rows + length (s.first.rows ++ s.second.rows) ≤ h.count
  both_fit = subst (λ (x : Part). length rows + length x.rows ≤ h.count) s.is d.fits

  few_states_lem : s.second.next ≤ 128
  few_states_lem = subst (λ (x : Part). x.next ≤ 128) s.is d.states

  -- what stands before the operator
  pub before_operator : Doing (WalkTask (joined sought) w.to sign) text out (record { at = place.at; state = place.state; next = w.next; row = place.row }) h accepting rows p (via_next taking next) ts ((operator sought at s.place) ∷ s.behind) (added_part s.first p)
  before_operator =
      record {
        stands = record {
          here = d.stands.here;
          filled = d.stands.filled;
          state = d.stands.state;
          takes = goes.takes ∙ ap (via_next taking) d.stands.takes;
          taken = omega (arith, d.stands.taken, via_grows taking next);
        };
        is =
            subst (λ (n : ℕ). WalkTask (joined sought) n sign h.alphabet p (via_next taking next) ts ((operator sought at s.place) ∷ s.behind) (added_part s.first p))
            (sym (goes.first ∙ ap (via_to taking to) d.stands.takes))
            s.before;
        states = omega (arith, s.later, few_states_lem);
        fits = fits_first rows s.first.rows s.second.rows both_fit;
      }

  module _ {middle : List ℕ} {r : Place} (e : Emitted text middle r h accepting rows ((operator sought at s.place) ∷ s.behind) (added_part s.first p)) {end : ℕ} (pass : GoesPast text r.at 1 end) where
    -- what stands behind it
    pub behind_operator : Doing (WalkTask (joins sought) to sign) text middle (record { at = end; state = w.from; next = r.next; row = r.row }) h (accepting ++ []) (rows ++ s.first.rows) (via_from taking p next) s.first.next s.behind us (added_part s.second (via_from taking p next))
    behind_operator =
        record {
          stands = record {
            here = (pass.behind _ e.stands.here (omega arith)).here;
            filled = e.stands.filled;
            state = goes.second ∙ ap (λ (n : ℕ). via_from taking n place.next) d.stands.state ∙ ap (via_from taking p) d.stands.takes;
            takes = e.stands.takes;
            taken = via_taken taking p next d.stands.taken s.grows;
          };
          is = s.after;
          states = few_states_lem;
          fits = fits_then rows s.first.rows s.second.rows both_fit;
        }

    pub operator_onward : r.at < end
    operator_onward = omega (arith, (pass.behind _ e.stands.here (omega arith)).onward)

    -- and the whole
    pub both_sides : {after : List ℕ} {last : Place}
        → Emitted text after last h (accepting ++ []) (rows ++ s.first.rows) us (added_part s.second (via_from taking p next))
        → Emitted text after (record { at = last.at; state = place.state; next = last.next; row = last.row }) h accepting rows us part
    both_sides {after} {last} f =
        emitted_as s.is
        (rows_emitted f.stands.here
        (subst₂ (λ (a : List ℕ) (x : List Row). Filled h a x after last.row)
        (append-nil (accepting ++ []) ∙ append-nil accepting)
        (append_assoc rows s.first.rows s.second.rows)
        f.stands.filled)
        d.stands.state
        f.stands.takes
        (omega (arith, d.stands.taken, via_grows taking next, s.grows, s.later)))

-- what binds tightest, by its first token
negated : {to : ℕ} {sign : Bool} {alphabet : List ℕ} {p next q : ℕ} {ts us : Ts} {part : Part}
    → WalkTask tightest to sign alphabet p next ((s "!" at q) ∷ ts) us part
    → WalkTask tightest to (not sign) alphabet p next ts us part
unfolding walk ConditionWithin
negated {to = to} {sign = sign} {alphabet = alphabet} {p = p} {next = next} {q = q} {ts = ts} {us = us} (walks (atom {a = a} x8) closes within below) = elim x8 [ ]
negated (walks (negation d) closes within below) = walks d by_any within below

pub record Inside (to : ℕ) (sign : Bool) (alphabet : List ℕ) (p next : ℕ) (ts us : Ts) (part : Part) : Type 0 where
  pub place : ℕ
  pub inner : WalkTask loosest to sign alphabet p next ts ((s ")" at place) ∷ us) part

pub enclosed : {to : ℕ} {sign : Bool} {alphabet : List ℕ} {p next q : ℕ} {ts us : Ts} {part : Part}
    → WalkTask tightest to sign alphabet p next ((s "(" at q) ∷ ts) us part
    → Inside to sign alphabet p next ts us part
unfolding walk ConditionWithin
enclosed {to = to} {sign = sign} {alphabet = alphabet} {p = p} {next = next} {q = q} {ts = ts} {us = us} (walks (atom {a = a} x8) closes within below) = elim x8 [ ]
enclosed (walks (parens d) closes within below) = record { place = _; inner = walks d by_paren within below }

atom_only : {text : List ℕ} {from : ℕ} {to : ℕ} {sign : Bool} {alphabet : List ℕ} {p next : ℕ} {ts us : Ts} {part : Part}
    → WalkTask tightest to sign alphabet p next ts us part
    → Here text from ts
    → NotSign text from Sign.Not
    → NotSign text from Sign.OpenParen
    → AtomTask to sign alphabet p next ts us part
unfolding walk ConditionWithin
atom_only (walks (atom a) closes within below) here none closed = an_atom a within below
atom_only (walks (parens d) closes within below) here none closed =
    absurd (closed.other here refl)
atom_only (walks (negation d) closes within below) here none closed =
    absurd (none.other here refl)

-- the call of an operand, by the sign that is seen
module _ {text out : List ℕ} {place : Place} {to : ℕ} {sign : Bool} {end : ℕ}
    {h : Sheet} {accepting : List ℕ} {rows : List Row} {p next : ℕ} {ts us : Ts} {part : Part}
    (d : Doing (WalkTask tightest to sign) text out place h accepting rows p next ts us part) where
  module _ {y : Sign} (sees : SeesSign text place.at end y) where
    abbrev sign_here : SignAt text place.at end y ts
    sign_here = sign_at (sees.stands ts d.stands.here)

    abbrev task_here : WalkTask tightest to sign h.alphabet p next ((signed (written y) at sign_here.place) ∷ sign_here.rest) us part
    task_here = subst (λ (xs : Ts). WalkTask tightest to sign h.alphabet p next xs us part) sign_here.is d.is

    pub sign_onward : place.at < end
    sign_onward = sign_here.behind.onward

    moved_here : At text out (record { at = end; state = place.state; next = place.next; row = place.row }) h accepting rows p next sign_here.rest
    moved_here = at_moved end d.stands sign_here.behind.here

  pub negation_doing : (sees : SeesSign text place.at end Sign.Not)
      → Doing (WalkTask tightest to (not sign)) text out (record { at = end; state = place.state; next = place.next; row = place.row }) h accepting rows p next (sign_here sees).rest us part
  negation_doing sees =
      record { stands = moved_here sees; is = negated (task_here sees); states = d.states; fits = d.fits }

  module _ (sees : SeesSign text place.at end Sign.OpenParen) where
    abbrev inside : Inside to sign h.alphabet p next (sign_here sees).rest us part
    inside = enclosed (task_here sees)

    pub parens_doing : Doing (WalkTask loosest to sign) text out (record { at = end; state = place.state; next = place.next; row = place.row }) h accepting rows p next (sign_here sees).rest ((s ")" at inside.place) ∷ us) part
    parens_doing =
        record { stands = moved_here sees; is = inside.inner; states = d.states; fits = d.fits }

-- and with neither
pub atom_doing : {text out : List ℕ} {place : Place} {to : ℕ} {sign : Bool}
    {h : Sheet} {accepting : List ℕ} {rows : List Row} {p next : ℕ} {ts us : Ts} {part : Part}
    → NotSign text place.at Sign.Not
    → NotSign text place.at Sign.OpenParen
    → Doing (WalkTask tightest to sign) text out place h accepting rows p next ts us part
    → Doing (AtomTask to sign) text out place h accepting rows p next ts us part
atom_doing none closed d =
    record { stands = d.stands; is = atom_only d.is d.stands.here none closed; states = d.states; fits = d.fits }

-- a chain without an operator
pub side_doing : {text out : List ℕ} {place : Place} {sought : Bool} {to : ℕ} {sign : Bool}
    {h : Sheet} {accepting : List ℕ} {rows : List Row} {p next : ℕ} {ts us : Ts} {part : Part}
    → Ahead text place.at sought false
    → Doing (WalkTask (joins sought) to sign) text out place h accepting rows p next ts us part
    → Doing (WalkTask (joined sought) to sign) text out place h accepting rows p next ts us part
side_doing {sought = sought} looked d =
    record { stands = d.stands; is = one_side sought d.is (sym (looked.finds _ d.stands.here)); states = d.states; fits = d.fits }

-- and one with an operator
pub sides_here : {text out : List ℕ} {place : Place} {sought : Bool} {to : ℕ} {sign : Bool}
    {h : Sheet} {accepting : List ℕ} {rows : List Row} {p next : ℕ} {ts us : Ts} {part : Part}
    → Ahead text place.at sought true
    → Doing (WalkTask (joins sought) to sign) text out place h accepting rows p next ts us part
    → Sides sought to sign h.alphabet p next ts us part
sides_here {sought = sought} looked d = two_sides sought d.is (sym (looked.finds _ d.stands.here))

-- the next state to be taken is within the limit
pub walk_few : {level : Binding} {text out : List ℕ} {place : Place} {to : ℕ} {sign : Bool}
    {h : Sheet} {accepting : List ℕ} {rows : List Row} {p next : ℕ} {ts us : Ts} {part : Part}
    → Doing (WalkTask level to sign) text out place h accepting rows p next ts us part
    → place.next ≤ 128
walk_few d =
    let w = walk_of d.is in
    omega (arith, d.stands.takes, w.grows, ap (λ (x : Part). x.next) w.is, d.states)

-- how the measure falls: from a chain to a side of it
abbrev pub rank : Bool → ℕ → ℕ → ℕ
rank true a b = a
rank false a b = b

pub rank_falls : (sought : Bool) → rank sought 3 1 < rank sought 4 2
rank_falls true = omega arith
rank_falls false = omega arith

-- where a condition stands there is text
condition_some : {level : Binding} {text : List ℕ} {from : ℕ} {ts us : Ts} {c : Condition} → IsCondition level ts c us → Here text from ts → from < length text
condition_some (atom (read_is x)) here = here_some here
condition_some (atom (read_is_not x)) here = here_some here
condition_some (atom counter_is) here = here_some here
condition_some (atom counter_is_not) here = here_some here
condition_some (parens d) here = here_some here
condition_some (negation d) here = here_some here
condition_some (tighter d) here = condition_some d here
condition_some (both d e) here = condition_some d here
condition_some (tight d) here = condition_some d here
condition_some (either d e) here = condition_some d here

walk_text : {level : Binding} {text : List ℕ} {from to : ℕ} {sign : Bool} {alphabet : List ℕ} {p next : ℕ} {ts us : Ts} {part : Part}
    → WalkTask level to sign alphabet p next ts us part
    → Here text from ts
    → from < length text
walk_text (walks d closes within below) here = condition_some d here

pub walk_some : {level : Binding} {text out : List ℕ} {place : Place} {to : ℕ} {sign : Bool}
    {h : Sheet} {accepting : List ℕ} {rows : List Row} {p next : ℕ} {ts us : Ts} {part : Part}
    → Doing (WalkTask level to sign) text out place h accepting rows p next ts us part
    → place.at < length text
walk_some d = walk_text d.is d.stands.here

-- a condition in its own parentheses
pub record TestOf (yes no : ℕ) (alphabet : List ℕ) (p next : ℕ) (ts us : Ts) (part : Part) : Type 0 where
  pub opens : ℕ
  pub closes : ℕ
  pub inner : Ts
  pub condition : Condition
  pub starts : ts ≡ (s "(" at opens) ∷ inner
  pub holding : WalkTask loosest yes true alphabet p next inner ((s ")" at closes) ∷ us) (added_part (walk alphabet condition true p yes next) p)
  pub failing : WalkTask loosest no false alphabet p (walk alphabet condition true p yes next).next inner ((s ")" at closes) ∷ us) (added_part (walk alphabet condition false p no (walk alphabet condition true p yes next).next) p)
  pub is : part ≡ added_part (test alphabet condition p yes no next) p
  pub grows : next ≤ (walk alphabet condition true p yes next).next
  pub later : (walk alphabet condition true p yes next).next ≤ (test alphabet condition p yes no next).next

pub test_of : {yes no : ℕ} {alphabet : List ℕ} {p next : ℕ} {ts us : Ts} {part : Part} → TestTask yes no alphabet p next ts us part → TestOf yes no alphabet p next ts us part
unfolding test
test_of {yes} {no} {alphabet} {p} {next} (tests {c = c} d within y n) =
    let grown = (leads_walk alphabet c true p yes next).grows in
    record {
      opens = _;
      closes = _;
      inner = _;
      condition = c;
      starts = refl;
      holding = walks d by_paren within y;
      failing = walks d by_paren within (omega arith);
      is = refl;
      grows = grown;
      later = (leads_walk alphabet c false p no (walk alphabet c true p yes next).next).grows;
    }

module _ {text out : List ℕ} {place : Place} {yes no : ℕ} {start : ℕ} (enters : GoesPast text place.at 1 start)
    {h : Sheet} {accepting : List ℕ} {rows : List Row} {p next : ℕ} {ts us : Ts} {part : Part}
    (d : Doing (TestTask yes no) text out place h accepting rows p next ts us part) where
  abbrev tested : TestOf yes no h.alphabet p next ts us part
  tested = test_of d.is

  abbrev held : Added
  held = walk h.alphabet tested.condition true p yes next

  abbrev failed : Added
  failed = walk h.alphabet tested.condition false p no held.next

  abbrev inside_parens : Place
  inside_parens = record { at = start; state = place.state; next = place.next; row = place.row }

  tests_fit : length rows + length (held.rows ++ failed.rows) ≤ h.count
  unfolding test
  tests_fit = subst (λ (x : Part). length rows + length x.rows ≤ h.count) tested.is d.fits

  tests_few : failed.next ≤ 128
  unfolding test
  tests_few = subst (λ (x : Part). x.next ≤ 128) tested.is d.states

  -- it holds
  pub holding_doing : Doing (WalkTask loosest yes true) text out inside_parens h accepting rows p next tested.inner ((s ")" at tested.closes) ∷ us) (added_part held p)
  unfolding test
  holding_doing =
      record {
        stands = at_past d.stands tested.starts enters;
        is = tested.holding;
        states = omega (arith, tested.later, tests_few);
        fits = fits_first rows held.rows failed.rows tests_fit;
      }

  pub tests_onward : place.at < start
  tests_onward = at_onward d.stands tested.starts enters

  -- it fails
  pub failing_doing : {middle : List ℕ} {r : Place}
      → Emitted text middle r h accepting rows ((s ")" at tested.closes) ∷ us) (added_part held p)
      → Doing (WalkTask loosest no false) text middle (record { at = start; state = r.state; next = r.next; row = r.row }) h (accepting ++ []) (rows ++ held.rows) p held.next tested.inner ((s ")" at tested.closes) ∷ us) (added_part failed p)
  failing_doing e =
      record {
        stands = at_moved start e.stands holding_doing.stands.here;
        is = tested.failing;
        states = tests_few;
        fits = fits_then rows held.rows failed.rows tests_fit;
      }

  -- both
  pub tests_emitted : {after : List ℕ} {last : Place} {end : ℕ}
      → Emitted text after last h (accepting ++ []) (rows ++ held.rows) ((s ")" at tested.closes) ∷ us) (added_part failed p)
      → GoesPast text last.at 1 end
      → Emitted text after (record { at = end; state = last.state; next = last.next; row = last.row }) h accepting rows us part
  unfolding test
  tests_emitted {after} {last} {end} e pass =
      let f = emitted_past e pass in
      emitted_as tested.is
      (rows_emitted f.stands.here
      (subst₂ (λ (a : List ℕ) (x : List Row). Filled h a x after last.row)
      (append-nil (accepting ++ []) ∙ append-nil accepting)
      (append_assoc rows held.rows failed.rows)
      f.stands.filled)
      f.stands.state
      f.stands.takes
      f.stands.taken)
