-- The parts of the construction start their rows from their own states and accept in them, and no row starts from an accepting state.
use Prim.Native.Nat.{ℕ, ◌+◌, ◌≤◌, ◌<◌}
use native.Mathlib.Omega.{arith}
use native.Mathlib.Nat.{le_refl}
use mathlib.Core.Path.{◌≡◌, refl}
use mathlib.Core.Logic.{⊎_elim}
use mathlib.Core.Bool.{Bool, true, false, not}
use mathlib.Core.List.Memᴰ
use mathlib.Core.List.{
  List,
  [],
  ◌∷◌,
  ◌++◌,
  append_assoc,
}
use lib.Seq.{append_snoc}
use Rattle.table.specs.Table.{Row}
use Rattle.rule.specs.Tree.{
  Atom,
  read_is,
  read_is_not,
  counter_is,
  counter_is_not,
  Condition,
  atom,
  parens,
  negation,
  both,
  either,
  Statement,
  plain,
  accept,
  reject,
  if,
  while,
  choose,
  branch,
  Rest,
  nothing,
  else,
  Statements,
  done,
  ◌then◌,
  Arms,
  last_arm,
  more_arms,
}
use Rattle.construction.specs.Construction.{
  test_row,
  symbol_rows,
  atom_rows,
  Added,
  one_after_other,
  one_or_other,
  walk,
  Part,
  empty_part,
  free,
  test,
  if_part,
  loop_part,
  arm_part,
  and_then,
  statement_part,
  rest_part,
  statements_part,
  arms_part,
}
use Rattle.construction.proofs.Every.{Every, every-nil, every-cons}
use Rattle.construction.proofs.Counts.{test_next}
use Rattle.construction.proofs.Own.{
  Own,
  start,
  own_inside,
  own_apart,
  same_start,
  fresh_start,
  own-append,
  ◌∪◌,
  Disjoint,
  Laid,
  laid_rows,
  laid_in,
  laid_same,
  laid_append,
  laid_own,
}

-- rows that lead from p to q: they start from p and end in q, but for states taken on the way
pub record Leads (p q next : ℕ) (added : Added) : Type 0 where
  pub grows : next ≤ added.next
  pub from : Every (λ (r : Row). Own p next added.next r.from) added.rows
  pub to : Every (λ (r : Row). Own q next added.next r.to) added.rows

-- one after another, over the state just taken
leads_after :
    {p q next : ℕ} {a b : Added}
    → Leads p next (next + 1) a
    → Leads next q a.next b
    → Leads p q next (record { rows = a.rows ++ b.rows; next = b.next })
leads_after f g =
    let h = f.grows in
    let k = g.grows in
    record {
      grows = omega arith;
      from = own-append (λ (r : Row). r.from) f.from g.from (same_start (omega arith)) (fresh_start (omega arith));
      to = own-append (λ (r : Row). r.to) f.to g.to (fresh_start (omega arith)) (same_start (omega arith));
    }

-- one or another, between the same states
leads_or :
    {p q next : ℕ} {a b : Added}
    → Leads p q next a
    → Leads p q a.next b
    → Leads p q next (record { rows = a.rows ++ b.rows; next = b.next })
leads_or f g =
    let h = f.grows in
    let k = g.grows in
    record {
      grows = omega arith;
      from = own-append (λ (r : Row). r.from) f.from g.from (same_start (omega arith)) (same_start (omega arith));
      to = own-append (λ (r : Row). r.to) f.to g.to (same_start (omega arith)) (same_start (omega arith));
    }

-- rows for symbols
leads_symbols : (xs : List ℕ) (p q next : ℕ) → Leads p q next (record { rows = symbol_rows xs p q; next = next })
unfolding symbol_rows
leads_symbols [] p q next = record { grows = le_refl _; from = every-nil; to = every-nil }
leads_symbols (x ∷ xs) p q next =
    let rest = leads_symbols xs p q next in
    record {
      grows = le_refl _;
      from = every-cons (start refl) rest.from;
      to = every-cons (start refl) rest.to;
    }

-- a row that tests the counter
leads_one : {symbol test p q next : ℕ} → Leads p q next (record { rows = test_row symbol test p q ∷ []; next = next })
leads_one =
    record {
      grows = le_refl _;
      from = every-cons (start refl) every-nil;
      to = every-cons (start refl) every-nil;
    }

-- an atom's rows
leads_atom :
    (alphabet : List ℕ) (sign : Bool) (a : Atom) (p q next : ℕ)
    → Leads p q next (record { rows = atom_rows alphabet sign a p q; next = next })
unfolding atom_rows
leads_atom alphabet true (read_is x) p q next = leads_symbols _ p q next
leads_atom alphabet false (read_is x) p q next = leads_symbols _ p q next
leads_atom alphabet true (read_is_not x) p q next = leads_symbols _ p q next
leads_atom alphabet false (read_is_not x) p q next = leads_symbols _ p q next
leads_atom alphabet true (counter_is n) p q next = leads_one
leads_atom alphabet false (counter_is n) p q next = leads_one
leads_atom alphabet true (counter_is_not n) p q next = leads_one
leads_atom alphabet false (counter_is_not n) p q next = leads_one

-- a condition's rows lead from p to q
pub leads_walk :
    (alphabet : List ℕ) (c : Condition) (sign : Bool) (p q next : ℕ) → Leads p q next (walk alphabet c sign p q next)
unfolding walk one_after_other one_or_other
leads_walk alphabet (atom t a) sign p q next = leads_atom alphabet sign a p q next
leads_walk alphabet (parens o c) sign p q next = leads_walk alphabet c sign p q next
leads_walk alphabet (negation o c) sign p q next = leads_walk alphabet c (not sign) p q next
leads_walk alphabet (both c d) true p q next =
    leads_after (leads_walk alphabet c true p next (next + 1)) (leads_walk alphabet d true next q _)
leads_walk alphabet (both c d) false p q next =
    leads_or (leads_walk alphabet c false p q next) (leads_walk alphabet d false p q _)
leads_walk alphabet (either c d) true p q next =
    leads_or (leads_walk alphabet c true p q next) (leads_walk alphabet d true p q _)
leads_walk alphabet (either c d) false p q next =
    leads_after (leads_walk alphabet c false p next (next + 1)) (leads_walk alphabet d false next q _)

-- a condition's rows and its negation's, from p
test_from :
    (alphabet : List ℕ) (c : Condition) (p x y next : ℕ)
    → Every (λ (r : Row). Own p next (test alphabet c p x y next).next r.from) (test alphabet c p x y next).rows
unfolding test
test_from alphabet c p x y next =
    let f = leads_walk alphabet c true p x next in
    let g = leads_walk alphabet c false p y (walk alphabet c true p x next).next in
    let h = f.grows in
    let k = g.grows in
    own-append (λ (r : Row). r.from) f.from g.from (same_start (omega arith)) (same_start (omega arith))

-- statements from p: with them may stand any rows that go on from their exit
pub record Series (p next : ℕ) (part : Part) : Type 0 where
  pub grows : next ≤ part.next
  pub laid :
      (onward : List Row)
      → Every (λ (r : Row). r.from ≡ part.exit) onward
      → Laid (Own p next part.next) (Own p next part.next) (part.rows ++ onward) part.accepting

-- a block that goes on to q by a free row
closed :
    {p next : ℕ} {part : Part} (q : ℕ)
    → Series p next part
    → Laid (Own p next part.next) (Own p next part.next) (part.rows ++ (free part.exit q ∷ [])) part.accepting
closed q b = b.laid _ (every-cons refl every-nil)

-- a statement's part: it exits in the first state that it takes, and no row of it starts there
pub record Lone (p next : ℕ) (part : Part) : Type 0 where
  pub grows : next < part.next
  pub exit : part.exit ≡ next
  pub laid : Laid (Own p (next + 1) part.next) (Own p (next + 1) part.next) part.rows part.accepting

-- arms from p to q
pub record Many (p q next : ℕ) (part : Part) : Type 0 where
  pub grows : next < part.next
  pub exit : part.exit ≡ q
  pub laid : Laid (Own p next part.next) (Own next next part.next) part.rows part.accepting

-- a loop
loop_lone :
    (first : List Row) (body : Part) {p next took : ℕ}
    → p < next
    → next + 2 ≤ took
    → Every (λ (r : Row). Own p (next + 2) took r.from) first
    → Series (next + 1) took body
    → Lone p next (loop_part first body p next)
unfolding loop_part
loop_lone first body h k f b =
    let g = b.grows in
    record {
      grows = omega arith;
      exit = refl;
      laid = laid_own (laid_rows f) (closed _ b) (omega arith) (same_start (omega arith)) (fresh_start (omega arith));
    }

-- an if
if_lone :
    (tests : Added) (yes_part no_part : Part) {p next : ℕ}
    → p < next
    → next + 3 ≤ tests.next
    → Every (λ (r : Row). Own p (next + 3) tests.next r.from) tests.rows
    → Series (next + 1) tests.next yes_part
    → Series (next + 2) yes_part.next no_part
    → Lone p next (if_part tests yes_part no_part next)
unfolding if_part
if_lone tests yes_part no_part {p} {next} h k f a b =
    let g = a.grows in
    let i = b.grows in
    let blocks = laid_append (closed next a) (closed next b) (λ s. own_apart (omega arith)) (λ s. own_apart (omega arith)) in
    record {
      grows = omega arith;
      exit = refl;
      laid =
          rw (← append_snoc yes_part.rows (free yes_part.exit next) _)
          (laid_same
          (λ s.
          ⊎_elim
          (own_inside (same_start (omega arith)))
          (⊎_elim (own_inside (fresh_start (omega arith))) (own_inside (fresh_start (omega arith)))))
          (laid_append (laid_rows f) blocks tests_apart tests_apart));
    }
  where
    tests_apart :
        Disjoint
        (Own p (next + 3) tests.next)
        (Own (next + 1) tests.next yes_part.next ∪ Own (next + 2) yes_part.next no_part.next)
    tests_apart s o = ⊎_elim (own_apart (omega arith) o) (own_apart (omega (arith, a.grows)) o)

-- an arm
arm_many :
    (body : Part) {p next took : ℕ} (q : ℕ)
    → p < next
    → next < took
    → Series next took body
    → Many p q next (arm_part body p next q)
unfolding arm_part
arm_many body {p} {next} q h k b =
    let g = b.grows in
    record {
      grows = omega arith;
      exit = refl;
      laid =
          laid_in
          (λ s. ⊎_elim (own_inside (same_start (omega arith))) (own_inside (fresh_start (omega arith))))
          (λ s. ⊎_elim absurd (own_inside (same_start (omega arith))))
          (laid_append enters (closed q b) (λ s. own_apart (omega arith)) (λ s. absurd));
    }
  where
    enters : Laid (Own p next next) (λ s. ⊥) (free p next ∷ []) []
    enters = laid_rows (every-cons (start refl) every-nil)

-- an arm, and more of them
many_then :
    {a b : Part} {p q next : ℕ} → p < next → Many p q next a → Many p q a.next b → Many p q next (and_then a b)
unfolding and_then
many_then h a b =
    let g = a.grows in
    let i = b.grows in
    record {
      grows = omega arith;
      exit = b.exit;
      laid =
          laid_in
          (λ s. ⊎_elim (own_inside (same_start (omega arith))) (own_inside (same_start (omega arith))))
          (λ s. ⊎_elim (own_inside (same_start (omega arith))) (own_inside (fresh_start (omega arith))))
          (laid_append a.laid b.laid (λ s. own_apart (omega arith)) (λ s. own_apart (omega arith)));
    }

-- all arms, as one statement
many_lone : {part : Part} {p next : ℕ} → p < next → Many p next (next + 1) part → Lone p next part
many_lone h a =
    let g = a.grows in
    record {
      grows = omega arith;
      exit = a.exit;
      laid =
          laid_in
          (λ s. own_inside (same_start (omega arith)))
          (λ s. own_inside (fresh_start (omega arith)))
          a.laid;
    }

-- no statement, and one before others
done_series : (p next : ℕ) → Series p next (empty_part p next)
done_series p next =
    record { grows = le_refl _; laid = λ onward f. laid_rows (record { at = λ r m. start (f.at r m) }) }

then_series :
    {a b : Part} {p next : ℕ} → p < next → Lone p next a → Series a.exit a.next b → Series p next (and_then a b)
unfolding and_then
then_series {a} {b} h f g =
    let i = f.grows in
    let j = g.grows in
    let e = f.exit in
    record {
      grows = omega arith;
      laid =
          λ onward k.
          rw append_assoc
          (laid_own f.laid (g.laid onward k) (omega arith) (same_start (omega arith)) (fresh_start (omega arith)));
    }

-- every part, wherever it starts and whatever the alphabet is
module _ (alphabet : List ℕ) where
  mutual
    unfolding statement_part rest_part statements_part arms_part

    -- a statement
    pub statement_lone : (s : Statement) (p next : ℕ) → p < next → Lone p next (statement_part alphabet s p next)
    statement_lone (plain t e) p next h =
        record { grows = omega arith; exit = refl; laid = laid_rows (every-cons (start refl) every-nil) }
    statement_lone (accept t) p next h =
        record {
          grows = omega arith;
          exit = refl;
          laid =
              record {
                from = every-nil;
                accepts = every-cons (start refl) every-nil;
                apart = λ r s m n. absurd (Memᴰ.not-nil m);
              };
        }
    statement_lone (reject t) p next h = record { grows = omega arith; exit = refl; laid = laid_rows every-nil }
    statement_lone (if t c o b e) p next h =
        let grows = test_next alphabet c p (next + 1) (next + 2) (next + 3) in
        let first = statements_series b (next + 1) (test alphabet c p (next + 1) (next + 2) (next + 3)).next (omega arith) in
        let more = first.grows in
        if_lone _ _ _ h (omega arith) (test_from alphabet c p (next + 1) (next + 2) (next + 3))
        first
        (rest_series e (next + 2) _ (omega arith))
    statement_lone (while t c o b) p next h =
        let grows = test_next alphabet c p (next + 1) next (next + 2) in
        loop_lone _ _ h (omega arith) (test_from alphabet c p (next + 1) next (next + 2))
        (statements_series b (next + 1) _ (omega arith))
    statement_lone (choose t o b) p next h =
        loop_lone _ _ h (le_refl _) (every-cons (start refl) (every-cons (start refl) every-nil))
        (statements_series b (next + 1) (next + 2) (omega arith))
    statement_lone (branch t o b a) p next h =
        let enters : p < next + 1 = omega arith in
        let first = arm_many _ next enters (omega arith) (statements_series b (next + 1) (next + 2) (omega arith)) in
        let grows = first.grows in
        many_lone h (many_then enters first (arms_many a p next _ (omega arith)))

    -- the rest of an if
    rest_series : (e : Rest) (p next : ℕ) → p < next → Series p next (rest_part alphabet e p next)
    rest_series nothing p next h = done_series p next
    rest_series (else o b) p next h = statements_series b p next h

    -- a block's statements
    pub statements_series : (b : Statements) (p next : ℕ) → p < next → Series p next (statements_part alphabet b p next)
    statements_series done p next h = done_series p next
    statements_series (a then b) p next h =
        let first = statement_lone a p next h in
        let grows = first.grows in
        let exits = first.exit in
        then_series h first (statements_series b _ _ (omega arith))

    -- a branch's arms after the first
    pub arms_many : (a : Arms) (p q next : ℕ) → p < next → Many p q next (arms_part alphabet a p q next)
    arms_many (last_arm t o b) p q next h =
        arm_many _ q h (omega arith) (statements_series b next (next + 1) (omega arith))
    arms_many (more_arms t o b a) p q next h =
        let first = arm_many _ q h (omega arith) (statements_series b next (next + 1) (omega arith)) in
        let grows = first.grows in
        many_then h first (arms_many a p q _ (omega arith))
