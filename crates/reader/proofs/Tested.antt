-- The atoms of a condition: each token of one is a move of the machine, and together they are derived.
use Prim.Native.Nat.{ℕ, ◌+◌, ◌≤◌, ◌<◌}
use native.Mathlib.Omega.{arith}
use mathlib.Core.Path.{◌≡◌, refl, sym, ap, ◌∙◌, subst}
use mathlib.Core.Bool.{Bool, true, false, not}
use mathlib.Core.Option.{some}
use mathlib.Core.List.{List, [], ◌∷◌}
use Rattle.std.specs.Prelude.{Option, Some, None, Ok, Err}
use lib.ListN.{length}
use lib.Dec.{T}
use Rattle.text.specs.Token as Spelt
use Rattle.text.specs.Token.{w}
use Rattle.text.specs.Tokens.{◌at◌, Ending}
use Rattle.text.specs.First.{FirstToken}
use Rattle.text.specs.declared.Token.{Token}
use Rattle.text.proofs.Tokens.{tokens_once}
use Rattle.rule.specs.Tree as Tree
use Rattle.rule.specs.Tree.{Number}
use Rattle.rule.specs.Grammar as Grammar
use Rattle.rule.specs.Grammar.{Ts, IsSymbolName, IsAtom}
use Rattle.rule.specs.Limits.{fault_if, is_in, symbol_name_faults, number_faults, atom_faults}
use Rattle.rule.proofs.Within.{kept}
use Rattle.rule.specs.Inside.Class.{Class, token_of}
use Rattle.rule.proofs.Machine.Class.{token_of_class}
use Rattle.rule.specs.Inside.Machine.{Expected, number, operand, symbol_name, Stack, Value, Totals, counted, Move, outside, choices, pick, move, refused, run}
use Rattle.table.specs.Refusal.{number_of}
use Rattle.table.specs.declared.reason.Reason.{Reason as Named}
use Rattle.table.specs.declared.reason.Reason.TheVariants as Reason
use Rattle.atoms.specs.Atom.{refusal_of}
use Rattle.reader.specs.Inside.Answers.{Front, Onward, Counted, spot, totals, before, ComesTo, Stops, Arrives, ReadsOn}
use Rattle.reader.specs.Inside.Atoms.{symbol_of, atom_of, rows_of, stray_of, Zeroed, compared, behind, Tests}
use Rattle.table.specs.declared.reason.Refusal.{Refusal}
use Rattle.reader.specs.declared.answers.Counts.{Counts}
use Rattle.reader.specs.declared.answers.Reader.{Reader}
use Rattle.atoms.specs.declared.AtomRead.{AtomRead}
use Rattle.atoms.specs.declared.Atom.{Atom}
use Rattle.atoms.specs.Atom.{found}
use Rattle.atoms.specs.Atom.{Read as AtomAnswer}
use Rattle.reader.proofs.Moves.{goes, breaks, comes_stops}
use Rattle.reader.proofs.Missed.{Misses, missed, untaken, sort_in, missed_sort}

-- a token by its class
front_token : {text : List ℕ} {from p q : ℕ} {k : Class} (f : Front text from k p q) → f.token ≡ token_of k
front_token f = sym (token_of_class f.token) ∙ ap token_of f.is

module _ {text : List ℕ} {from : ℕ} {lead : Ts → Ts} {x : Expected} where
  -- what comes first is refused
  pub test_missed : {k : Token} {r : Refusal}
      → FirstToken text from k
      → ((t : Totals) → Misses text t x k)
      → r ≡ refusal_of k
      → Tests text from lead x (Err r)
  test_missed {k} f h right = record { right = λ t. rw right (missed k f (h t)) }

  pub test_refuses : {k : Token} {r : Refusal}
      → FirstToken text from k
      → ((t : Totals) (p : ℕ) → T (untaken (choices t p x) (sort_in k)))
      → r ≡ refusal_of k
      → Tests text from lead x (Err r)
  test_refuses {k} f h right = test_missed f (λ t. missed_sort text x t k (h t)) right

  module _ {p q : ℕ} {k : Class} (f : Front text from k p q) where
    -- a limit is broken
    pub test_breaks : (m : Totals → Move (Value x)) {why : Named}
        → ((t : Totals) → pick (choices t p x) k ≡ some (m t))
        → ((t : Totals) → (m t).breaks ≡ true)
        → ((t : Totals) → (m t).fault ≡ number_of why)
        → Tests text from lead x (Err (record { reason = why; place = p }))
    test_breaks m h b n =
        record { right = λ t. breaks x t f (h t) (b t) (n t) }

    -- a token of an atom, and the rest of it
    pub test_on : (m : Totals → Move (Value x)) {y : Expected} {r : AtomAnswer}
        → ((t : Totals) → pick (choices t p x) k ≡ some (m t))
        → ((t : Totals) → (m t).breaks ≡ false)
        → ((t : Totals) → (m t).push ≡ y ∷ [])
        → Tests text q (λ ts. lead ((token_of k at p) ∷ ts)) y r
        → Tests text from lead x r
    test_on m {r = Ok found} h b e g =
        let g' = g.right in
        let once = tokens_once f.rest g'.here in
        record {
          right =
              record {
                before = (token_of k at p) ∷ g'.before;
                after = g'.after;
                ending = g'.ending;
                here = rw (← front_token f, ← once.0, ← once.1) f.all;
                there = g'.there;
                place = g'.place;
                tree = g'.tree;
                derived = g'.derived;
                zeroed = g'.zeroed;
                is = g'.is;
                forth = omega (arith, f.back, f.some, g'.forth);
                inside = g'.inside;
              };
        }
    test_on m {y = y} {r = Err r} h b e g =
        record {
          right =
              λ t.
              comes_stops
              (goes x t f (h t) (b t))
              (subst (λ (st : Stack). Stops text (spot q st (m t).totals) r) (sym (e t)) (g.right (m t).totals));
        }

    -- the last token of an atom
    pub test_found : {atom : Atom} {place : ℕ} (tree : Tree.Atom)
        → ((ts : Ts) → IsAtom (lead ((token_of k at p) ∷ ts)) place tree ts)
        → Zeroed tree
        → atom ≡ atom_of tree
        → Tests text from lead x (found atom q)
    test_found tree h g e =
        record {
          right =
              record {
                before = (token_of k at p) ∷ f.after;
                after = f.after;
                ending = f.ending;
                here = rw (← front_token f) f.all;
                there = f.rest;
                place = _;
                tree = tree;
                derived = h f.after;
                zeroed = g;
                is = e;
                forth = omega (arith, f.back, f.some);
                inside = f.within;
              };
        }

-- an atom of `read` or of `c`, by its comparison
abbrev read_of : Bool → Tree.SymbolName → Tree.Atom
read_of true x = Tree.read_is x
read_of false x = Tree.read_is_not x

abbrev counter_of : Bool → Number → Tree.Atom
counter_of true n = Tree.counter_is n
counter_of false n = Tree.counter_is_not n

is_read : (equal : Bool) {ts us : Ts} {x : Tree.SymbolName} (p q : ℕ)
    → IsSymbolName ts x us
    → IsAtom ((w "read" at p) ∷ (compared equal at q) ∷ ts) p (read_of equal x) us
is_read true p q h = Grammar.read_is h
is_read false p q h = Grammar.read_is_not h

is_counter : (equal : Bool) (p q r : ℕ) (n : List ℕ) (ts : Ts)
    → IsAtom ((w "c" at p) ∷ (compared equal at q) ∷ (Spelt.number n at r) ∷ ts) p (counter_of equal (record { digits = n; place = r })) ts
is_counter true p q r n ts = Grammar.counter_is
is_counter false p q r n ts = Grammar.counter_is_not

read_is_lem : (equal : Bool) (x : Tree.SymbolName) → Atom.Read equal (symbol_of x) ≡ atom_of (read_of equal x)
read_is_lem true x = refl
read_is_lem false x = refl

counter_is_lem : (equal : Bool) (n : Number) → Atom.Counter equal ≡ atom_of (counter_of equal n)
counter_is_lem true n = refl
counter_is_lem false n = refl

read_zeroed : (equal : Bool) (x : Tree.SymbolName) → Zeroed (read_of equal x)
read_zeroed true x = tt
read_zeroed false x = tt

counter_zeroed : (equal : Bool) (n : Number) → number_faults 0 n ≡ [] → Zeroed (counter_of equal n)
counter_zeroed true n e = e
counter_zeroed false n e = e

module _ {text : List ℕ} {from p q : ℕ} (equal : Bool) (o r : ℕ) where
  -- what `read` is compared with
  pub sought_found : {k : Class} (x : Tree.SymbolName)
      → Front text from k p q
      → ((ts : Ts) → IsSymbolName ((token_of k at p) ∷ ts) x ts)
      → Tests text from (λ ts. behind (w "read") o (behind (compared equal) r ts)) symbol_name (found (Atom.Read equal (symbol_of x)) q)
  sought_found x f h = test_found f (read_of equal x) (λ ts. is_read equal o r (h ts)) (read_zeroed equal x) (read_is_lem equal x)

  -- what `c` is compared with
  pub zero_found_lem : {l : List ℕ}
      → Front text from (Class.number l) p q
      → outside 0 l ≡ false
      → Tests text from (λ ts. behind (w "c") o (behind (compared equal) r ts)) (number 0) (found (Atom.Counter equal) q)
  unfolding number_faults fault_if
  zero_found_lem {l} f h =
      let n : Number = record { digits = l; place = p } in
      test_found
      f
      (counter_of equal n)
      (λ ts. is_counter equal o r p l ts)
      (counter_zeroed equal n (ap (λ (t : Bool). fault_if t 7 p) h))
      (counter_is_lem equal n)

module _ (t : Totals) (st : Stack) (e : Ending) where
  sought_runs : {ts us : Ts} {x : Tree.SymbolName}
      → IsSymbolName ts x us
      → symbol_name_faults t.alphabet x ≡ []
      → run (symbol_name ∷ st) t ts e ≡ run st t us e
  unfolding run move symbol_name_faults
  sought_runs (Grammar.a_letter {p = p} {b = b}) h = rw (kept (not (is_in b t.alphabet)) 6 p h, run)
  sought_runs Grammar.lend h = refl
  sought_runs Grammar.rend h = refl

  zero_runs : (n : List ℕ) (p : ℕ) (ts : Ts)
      → number_faults 0 (record { digits = n; place = p }) ≡ []
      → run (number 0 ∷ st) t ((Spelt.number n at p) ∷ ts) e ≡ run st t ts e
  unfolding run move number_faults
  zero_runs n p ts h = rw (kept (outside 0 n) 7 p h, run)

pub rows_most : (k : ℕ) (atom : Atom) → rows_of k atom ≤ k + 2
rows_most k (Atom.Read equal x) = omega arith
rows_most k (Atom.Counter zero) = omega arith

-- the machine takes an atom that breaks no limit, and counts its rows
atom_runs : (n : ℕ) (t : Totals) (st : Stack) (e : Ending) {p : ℕ} {ts us : Ts} {x : Tree.Atom}
    → IsAtom ts p x us
    → atom_faults t.alphabet x ≡ []
    → run (operand n ∷ st) t ts e ≡ run st (counted 0 (rows_of (length t.alphabet) (atom_of x)) t) us e
unfolding run move atom_faults
atom_runs n t st e (Grammar.read_is h) g = sought_runs (counted 0 (length t.alphabet + 2) t) st e h g
atom_runs n t st e (Grammar.read_is_not h) g = sought_runs (counted 0 (length t.alphabet + 2) t) st e h g
atom_runs n t st e (Grammar.counter_is {r = r} {n = l} {ts = ts}) g = zero_runs (counted 0 2 t) st e l r ts g
atom_runs n t st e (Grammar.counter_is_not {r = r} {n = l} {ts = ts}) g = zero_runs (counted 0 2 t) st e l r ts g

-- of an atom that is found, a letter outside the alphabet is the only fault left
not_stray : (b p : ℕ) (a : List ℕ) → ◌≡◌ {A = Option ℕ} (elim (is_in b a) [ true ↦ None | false ↦ Some p ]) None → is_in b a ≡ true
not_stray b p a e = by_cases (is_in b a) e
  where
    by_cases : (t : Bool) → ◌≡◌ {A = Option ℕ} (elim t [ true ↦ None | false ↦ Some p ]) None → t ≡ true
    by_cases true h = refl
    by_cases false h = absurd cc

is_stray : (b p q : ℕ) (a : List ℕ) → ◌≡◌ {A = Option ℕ} (elim (is_in b a) [ true ↦ None | false ↦ Some p ]) (Some q) → (is_in b a ≡ false) × (p ≡ q)
is_stray b p q a e = by_cases (is_in b a) e
  where
    by_cases : (t : Bool) → ◌≡◌ {A = Option ℕ} (elim t [ true ↦ None | false ↦ Some p ]) (Some q) → (t ≡ false) × (p ≡ q)
    by_cases true h = absurd cc
    by_cases false h = (refl, cc)

sought_clean : (a : List ℕ) (equal : Bool) (x : Tree.SymbolName) → stray_of a (Atom.Read equal (symbol_of x)) ≡ None → symbol_name_faults a x ≡ []
unfolding symbol_name_faults fault_if
sought_clean a equal (Tree.letter l) e = ap (λ (t : Bool). fault_if (not t) 6 l.place) (not_stray l.byte l.place a e)
sought_clean a equal Tree.lend e = refl
sought_clean a equal Tree.rend e = refl

atom_clean : (a : List ℕ) (x : Tree.Atom) → Zeroed x → stray_of a (atom_of x) ≡ None → atom_faults a x ≡ []
unfolding atom_faults
atom_clean a (Tree.read_is x) z e = sought_clean a true x e
atom_clean a (Tree.read_is_not x) z e = sought_clean a false x e
atom_clean a (Tree.counter_is n) z e = z
atom_clean a (Tree.counter_is_not n) z e = z

-- such a letter is refused with its place
sought_stops : (t : Totals) (st : Stack) (e : Ending) (equal : Bool) (q : ℕ) {ts us : Ts} {x : Tree.SymbolName}
    → IsSymbolName ts x us
    → stray_of t.alphabet (Atom.Read equal (symbol_of x)) ≡ Some q
    → run (symbol_name ∷ st) t ts e ≡ refused 6 q
unfolding run move
sought_stops t st e equal q (Grammar.a_letter {p = p} {b = b}) h =
    let out = is_stray b p q t.alphabet h in
    rw (out.0, run) (ap (refused 6) out.1)
sought_stops t st e equal q Grammar.lend h = absurd cc
sought_stops t st e equal q Grammar.rend h = absurd cc

atom_stops : (n : ℕ) (t : Totals) (st : Stack) (e : Ending) (q : ℕ) {p : ℕ} {ts us : Ts} {x : Tree.Atom}
    → IsAtom ts p x us
    → stray_of t.alphabet (atom_of x) ≡ Some q
    → run (operand n ∷ st) t ts e ≡ refused 6 q
unfolding run move
atom_stops n t st e q (Grammar.read_is h) g = sought_stops (counted 0 (length t.alphabet + 2) t) st e true q h g
atom_stops n t st e q (Grammar.read_is_not h) g = sought_stops (counted 0 (length t.alphabet + 2) t) st e false q h g
atom_stops n t st e q Grammar.counter_is g = absurd cc
atom_stops n t st e q Grammar.counter_is_not g = absurd cc

-- an atom that is found ends in the text, and behind where it begins
pub found_behind : {text : List ℕ} {from n : ℕ} {r : AtomAnswer} {read : AtomRead}
    → Tests text from (λ ts. ts) (operand n) r
    → r ≡ Ok read
    → (from < read.at) × (read.at ≤ length text)
found_behind {text} {from} {n} h e =
    let i = (subst (λ (u : AtomAnswer). Tests text from (λ ts. ts) (operand n) u) e h).right in
    (i.forth, i.inside)

module _ (r : Reader) {n : ℕ} {a : List ℕ} {u : AtomAnswer} (h : Tests r.text.now r.at (λ ts. ts) (operand n) u) where
  -- an operand that is an atom
  pub atom_answers : {read : AtomRead} {y z : Reader} {rows : ℕ}
      → u ≡ Ok read
      → stray_of a read.atom ≡ None
      → rows ≡ rows_of (length a) read.atom
      → Onward r read.at y
      → Counted y 0 rows z
      → Arrives r.text.now (before r (operand n ∷ []) a) [] a z
  atom_answers {read} {y} {z} {rows} e stays rows_are on more =
      let i = (subst (λ (u : AtomAnswer). Tests r.text.now r.at (λ ts. ts) (operand n) u) e h).right in
      let rows_so : rows ≡ rows_of (length a) (atom_of i.tree) = rows_are ∙ ap (rows_of (length a)) i.is in
      let counts : z.counts ≡ record { states = r.counts.states + 0; rows = r.counts.rows + rows } =
      more.counts_are ∙ ap (λ (c : Counts). record { states = c.states + 0; rows = c.rows + rows }) on.counts_are
      in
      let same : counted 0 (rows_of (length a) (atom_of i.tree)) (totals a r.counts) ≡ totals a z.counts =
      ap (λ (k : ℕ). counted 0 k (totals a r.counts)) (sym rows_so) ∙ ap (totals a) (sym counts)
      in
      let there : read.at ≡ z.at = sym (more.at_is ∙ on.at_is) in
      record {
        comes =
            subst
            (λ (q : ℕ). ComesTo r.text.now (before r (operand n ∷ []) a) (spot q [] (totals a z.counts)))
            there
            (record {
              before = i.before;
              after = i.after;
              ending = i.ending;
              here = i.here;
              there = i.there;
              same = λ st. atom_runs n (totals a r.counts) st i.ending i.derived (atom_clean a i.tree i.zeroed (ap (stray_of a) (sym i.is) ∙ stays)) ∙ ap (λ (k : Totals). run st k i.after i.ending) same;
              forth = omega (arith, i.forth);
            });
        same = more.same ∙ on.same;
      }

  -- and one that is none
  pub atom_refused : {f : Refusal} → u ≡ Err f → ReadsOn r (operand n ∷ []) [] a (Err f)
  atom_refused {f} e = record { right = (subst (λ (u : AtomAnswer). Tests r.text.now r.at (λ ts. ts) (operand n) u) e h).right (totals a r.counts) }

  -- and one whose letter is outside the alphabet
  pub atom_strays : {read : AtomRead} {q : ℕ}
      → u ≡ Ok read
      → stray_of a read.atom ≡ Some q
      → ReadsOn r (operand n ∷ []) [] a (Err (record { reason = Reason.OutsideAlphabet; place = q }))
  atom_strays {q = q} e out =
      let i = (subst (λ (u : AtomAnswer). Tests r.text.now r.at (λ ts. ts) (operand n) u) e h).right in
      record {
        right =
            record {
              before = i.before;
              ending = i.ending;
              here = i.here;
              same = λ st. atom_stops n (totals a r.counts) st i.ending q i.derived (ap (stray_of a) (sym i.is) ∙ out);
            };
      }
