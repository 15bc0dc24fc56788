-- Behind a tree the machine has added the tree's states, rows and faults.
use Prim.Native.Nat.{ℕ, suc, ◌+◌}
use native.Mathlib.Nat.{zero-add}
use native.Mathlib.Omega.{arith}
use mathlib.Core.Path.{◌≡◌, refl, sym, ◌∙◌, ap}
use mathlib.Core.Bool.{Bool, true, false, not}
use mathlib.Core.List.{List, [], ◌∷◌, ◌++◌, append-nil, append_assoc}
use lib.ListN.{length}
use lib.Dec.{leb}
use Rattle.rule.specs.Tree as Tree
use Rattle.rule.specs.Tree.{Number, Letter, SymbolName, Atom, Condition, Plain, Statement, Rest, Statements, Arms, Order, Program, done, ◌then◌, letter_bytes}
use Rattle.rule.specs.Limits.{Fault, fault_if, too_deep, is_in, letter_faults, number_faults, symbol_name_faults, atom_faults, condition_faults, plain_faults, statement_faults, rest_faults, statements_faults, arms_faults, truth_faults, in_order, settings_faults, faults}
use Rattle.rule.specs.Counts.{
  condition_states,
  statement_states,
  rest_states,
  statements_states,
  arms_states,
  program_states,
  atom_count,
  condition_rows,
  statement_rows,
  rest_rows,
  statements_rows,
  arms_rows,
  program_rows,
}
use Rattle.rule.specs.Inside.Machine.{start, outside, excess}
use Rattle.rule.proofs.Machine.Steps.{Far, noted}
use Rattle.rule.proofs.Machine.Far.{
  counts,
  notes,
  number_far,
  sought_far,
  atom_far,
  condition_far,
  plain_far,
  statement_far,
  rest_far,
  statements_far,
  arms_far,
  letters_far,
  truth_far,
  settings_far,
  program_far,
}

-- so many states and rows, and these faults, further
abbrev plus : Far → ℕ → ℕ → List Fault → Far
plus s a b f =
    record {
      totals = record { alphabet = s.totals.alphabet; states = s.totals.states + a; rows = s.totals.rows + b };
      seen = s.seen ++ f;
    }

same_far : {l : List ℕ} {a a' b b' : ℕ} {f f' : List Fault}
    → a ≡ a'
    → b ≡ b'
    → f ≡ f'
    → ◌≡◌ {A = Far} (record { totals = record { alphabet = l; states = a; rows = b }; seen = f }) (record { totals = record { alphabet = l; states = a'; rows = b' }; seen = f' })
same_far {l} p q r = λ i. record { totals = record { alphabet = l; states = p i; rows = q i }; seen = r i }

noted_is : (b : Bool) (n p : ℕ) (f : List Fault) → noted b n p f ≡ f ++ fault_if b n p
unfolding noted fault_if
noted_is true n p f = refl
noted_is false n p f = sym (append-nil f)

noted_then : (b : Bool) (n p : ℕ) (f g : List Fault) → noted b n p f ++ g ≡ f ++ (fault_if b n p ++ g)
noted_then b n p f g = ap (λ (l : List Fault). l ++ g) (noted_is b n p f) ∙ append_assoc f (fault_if b n p) g

nothing_is : (s : Far) → s ≡ plus s 0 0 []
nothing_is s = same_far (omega arith) (omega arith) (sym (append-nil s.seen))

notes_is : (b : Bool) (n p : ℕ) (s : Far) → notes b n p s ≡ plus s 0 0 (fault_if b n p)
notes_is b n p s = same_far (omega arith) (omega arith) (noted_is b n p s.seen)

number_is : (greatest : ℕ) (n : Number) (s : Far) → number_far greatest n s ≡ plus s 0 0 (number_faults greatest n)
unfolding number_faults
number_is greatest n s = notes_is (outside greatest n.digits) 7 n.place s

sought_is : (x : SymbolName) (s : Far) → sought_far x s ≡ plus s 0 0 (symbol_name_faults s.totals.alphabet x)
unfolding sought_far symbol_name_faults
sought_is (Tree.letter l) s = notes_is (not (is_in l.byte s.totals.alphabet)) 6 l.place s
sought_is Tree.lend s = nothing_is s
sought_is Tree.rend s = nothing_is s

atom_is : (x : Atom) (s : Far) → atom_far x s ≡ plus s 0 (atom_count (length s.totals.alphabet) x) (atom_faults s.totals.alphabet x)
unfolding atom_far atom_count atom_faults
atom_is (Tree.read_is x) s = sought_is x _ ∙ same_far (omega arith) (omega arith) refl
atom_is (Tree.read_is_not x) s = sought_is x _ ∙ same_far (omega arith) (omega arith) refl
atom_is (Tree.counter_is n) s = number_is 0 n _ ∙ same_far (omega arith) (omega arith) refl
atom_is (Tree.counter_is_not n) s = number_is 0 n _ ∙ same_far (omega arith) (omega arith) refl

condition_is : (c : Condition) (n : ℕ) (s : Far)
    → condition_far n c s
    ≡ plus s (condition_states c) (condition_rows (length s.totals.alphabet) c) (condition_faults s.totals.alphabet n c)
unfolding condition_far condition_states condition_rows condition_faults
condition_is (Tree.atom p a) n s = atom_is a s
condition_is (Tree.parens p c) n s = condition_is c (suc n) _ ∙ same_far refl refl (noted_then (leb 16 n) 8 p s.seen _)
condition_is (Tree.negation p c) n s = condition_is c (suc n) _ ∙ same_far refl refl (noted_then (leb 16 n) 8 p s.seen _)
condition_is (Tree.both c d) n s =
    ap (λ (z : Far). condition_far n d (counts 1 0 z)) (condition_is c n s)
    ∙ condition_is d n _
    ∙ same_far (omega arith) (omega arith) (simp append_assoc)
condition_is (Tree.either c d) n s =
    ap (λ (z : Far). condition_far n d (counts 1 0 z)) (condition_is c n s)
    ∙ condition_is d n _
    ∙ same_far (omega arith) (omega arith) (simp append_assoc)

plain_is : (x : Plain) (s : Far) → plain_far x s ≡ plus s 0 0 (plain_faults x)
unfolding plain_far plain_faults
plain_is (Tree.move_by n) s = number_is 63 n s
plain_is (Tree.move_back n) s = number_is 63 n s
plain_is Tree.goto_lend s = nothing_is s
plain_is Tree.goto_rend s = nothing_is s
plain_is Tree.increment s = nothing_is s
plain_is Tree.decrement s = nothing_is s
plain_is (Tree.add n) s = number_is 31 n s
plain_is (Tree.subtract n) s = number_is 31 n s

abbrev StatementsIs : Statements → Type 0
StatementsIs b =
    (d : ℕ) (s : Far)
    → statements_far d b s
    ≡ plus s (statements_states b) (statements_rows (length s.totals.alphabet) b) (statements_faults s.totals.alphabet d b)

block_is : (b : Statements)
    → StatementsIs b
    → (d o : ℕ) (s : Far)
    → statements_far (suc d) b (notes (leb 16 d) 8 o s)
    ≡ plus
    s
    (statements_states b)
    (statements_rows (length s.totals.alphabet) b)
    (too_deep d o ++ statements_faults s.totals.alphabet (suc d) b)
block_is b h d o s = h (suc d) _ ∙ same_far refl refl (noted_then (leb 16 d) 8 o s.seen _)

mutual
  unfolding statement_far statement_states statement_rows statement_faults

  statement_is : (x : Statement) (d : ℕ) (s : Far)
      → statement_far d x s
      ≡ plus s (statement_states x) (statement_rows (length s.totals.alphabet) x) (statement_faults s.totals.alphabet d x)
  statement_is (Tree.plain p e) d s = plain_is e _ ∙ same_far (omega arith) (omega arith) refl
  statement_is (Tree.accept p) d s = same_far refl refl (sym (append-nil s.seen))
  statement_is (Tree.reject p) d s = same_far refl refl (sym (append-nil s.seen))
  statement_is (Tree.if p c o b e) d s =
      ap (λ (z : Far). rest_far d e (statements_far (suc d) b (notes (leb 16 d) 8 o z))) (condition_is c 0 (counts 3 2 s))
      ∙ ap (λ (z : Far). rest_far d e z) (block_is b (λ e t. statements_is b e t) d o _)
      ∙ rest-is e d _
      ∙ same_far (omega arith) (omega arith) (simp append_assoc)
  statement_is (Tree.while p c o b) d s =
      ap (λ (z : Far). statements_far (suc d) b (notes (leb 16 d) 8 o z)) (condition_is c 0 (counts 2 1 s))
      ∙ block_is b (λ e t. statements_is b e t) d o _
      ∙ same_far (omega arith) (omega arith) (simp append_assoc)
  statement_is (Tree.choose p o b) d s =
      block_is b (λ e t. statements_is b e t) d o _ ∙ same_far (omega arith) (omega arith) refl
  statement_is (Tree.branch p o b a) d s =
      ap (λ (z : Far). arms_far d 1 a z) (block_is b (λ e t. statements_is b e t) d o (counts 2 2 s))
      ∙ arms_is a d 1 _
      ∙ same_far (omega arith) (omega arith) (simp append_assoc)

  rest-is : (x : Rest) (d : ℕ) (s : Far)
      → rest_far d x s
      ≡ plus s (rest_states x) (rest_rows (length s.totals.alphabet) x) (rest_faults s.totals.alphabet d x)
  rest-is Tree.nothing d s = nothing_is s
  rest-is (Tree.else o b) d s = block_is b (λ e t. statements_is b e t) d o s

  statements_is : (b : Statements) → StatementsIs b
  statements_is done d s = nothing_is s
  statements_is (a then b) d s =
      ap (λ (z : Far). statements_far d b z) (statement_is a d s)
      ∙ statements_is b d _
      ∙ same_far (omega arith) (omega arith) (simp append_assoc)

  arms_is : (x : Arms) (d n : ℕ) (s : Far)
      → arms_far d n x s
      ≡ plus s (arms_states x) (arms_rows (length s.totals.alphabet) x) (arms_faults s.totals.alphabet d n x)
  arms_is (Tree.last_arm p o b) d n s =
      block_is b (λ e t. statements_is b e t) d o _ ∙ same_far (omega arith) (omega arith) (noted_then (leb 8 n) 9 p s.seen _)
  arms_is (Tree.more_arms p o b a) d n s =
      ap
      (λ (z : Far). arms_far d (suc n) a (statements_far (suc d) b (notes (leb 16 d) 8 o (counts 1 2 z))))
      (notes_is (leb 8 n) 9 p s)
      ∙ ap (λ (z : Far). arms_far d (suc n) a z) (block_is b (λ e t. statements_is b e t) d o _)
      ∙ arms_is a d (suc n) _
      ∙ same_far (omega arith) (omega arith) (simp append_assoc)

same_letters : {l l' : List ℕ} {a b : ℕ} {f f' : List Fault}
    → l ≡ l'
    → f ≡ f'
    → ◌≡◌ {A = Far} (record { totals = record { alphabet = l; states = a; rows = b }; seen = f }) (record { totals = record { alphabet = l'; states = a; rows = b }; seen = f' })
same_letters {a = a} {b = b} p q = λ i. record { totals = record { alphabet = p i; states = a; rows = b }; seen = q i }

letters_is : (l : List Letter) (s : Far)
    → letters_far l s
    ≡ record {
      totals = record { alphabet = s.totals.alphabet ++ letter_bytes l; states = s.totals.states; rows = s.totals.rows };
      seen = s.seen ++ letter_faults s.totals.alphabet l;
    }
unfolding letters_far letter_bytes letter_faults
letters_is [] s = same_letters (sym (append-nil s.totals.alphabet)) (sym (append-nil s.seen))
letters_is (x ∷ l) s =
    letters_is l _
    ∙ same_letters
    (append_assoc s.totals.alphabet (x.byte ∷ []) (letter_bytes l))
    (noted_then (excess x.byte s.totals.alphabet) 5 x.place s.seen _)

truth_is : (d : Bool) (p : ℕ) (s : Far) → truth_far d p s ≡ record { totals = s.totals; seen = s.seen ++ truth_faults d p }
unfolding truth_far truth_faults
truth_is d p s = same_letters refl (sym (append-nil s.seen))

settings_is : (o : Order) (l : List Letter) (d : Bool) (p : ℕ) (s : Far)
    → settings_far o l d p s
    ≡ record {
      totals = record { alphabet = s.totals.alphabet ++ letter_bytes l; states = s.totals.states; rows = s.totals.rows };
      seen = s.seen ++ in_order o (letter_faults s.totals.alphabet l) (truth_faults d p);
    }
unfolding settings_far in_order
settings_is Tree.alphabet_first l d p s =
    truth_is d p (letters_far l s)
    ∙ ap (λ (z : Far). record { totals = z.totals; seen = z.seen ++ truth_faults d p }) (letters_is l s)
    ∙ same_letters refl (append_assoc s.seen (letter_faults s.totals.alphabet l) (truth_faults d p))
settings_is Tree.decrement_first l d p s =
    ap (letters_far l) (truth_is d p s)
    ∙ letters_is l _
    ∙ same_letters refl (append_assoc s.seen (truth_faults d p) (letter_faults s.totals.alphabet l))

length_letters : (l : List Letter) → length (letter_bytes l) ≡ length l
unfolding letter_bytes
length_letters [] = refl
length_letters (x ∷ l) = ap suc (length_letters l)

-- behind a whole program
pub program_is : (x : Program)
    → program_far x (record { totals = start; seen = [] })
    ≡ record {
      totals = record { alphabet = letter_bytes x.alphabet; states = program_states x; rows = program_rows x };
      seen = faults x;
    }
unfolding program_far program_states program_rows faults settings_faults
program_is x =
    ap
    (λ (z : Far). statements_far 1 x.body (notes (leb 16 0) 8 x.brace z))
    (settings_is x.first x.alphabet x.decr_on_zero x.truth _)
    ∙ block_is x.body (statements_is x.body) 0 x.brace _
    ∙ same_far
    refl
    (zero-add _ ∙ ap (λ (k : ℕ). statements_rows k x.body) (length_letters x.alphabet))
    refl
