-- A tree without faults, by its parts: few and different letters, its conditions' letters among them, its numbers in bounds.
-- Places and depths are left behind.
use Prim.Native.Nat.{ℕ, suc, ◌+◌, ◌≤◌, ◌<◌}
use native.Mathlib.Omega.{arith}
use mathlib.Core.Path.{◌≡◌, refl, sym, ◌∙◌, ap}
use mathlib.Core.Logic.{∥∥₁_elim}
use mathlib.Core.HLevel.{⊥_prop}
use mathlib.Core.Bool.{Bool, true, false, ◌&&◌, ◌||◌, true≢false, or-true}
use mathlib.Core.List.{
  List,
  [],
  ◌∷◌,
  ◌++◌,
  append-nil,
  Memᴰ,
  Nodup,
  Nodup-nil,
  concat,
  concat-eq-append,
  Nodup-concat,
}
use lib.ListN.{length, length-append}
use lib.Seq.{append_snoc}
use lib.Dec.{leb, eqb}
use borrow.Author.Tests.{leb-true, leb-false, eqb-true, eq-eqb, not-false}
use Rattle.rule.specs.Tree.{
  Number,
  Letter,
  SymbolName,
  letter,
  lend,
  rend,
  Atom,
  read_is,
  read_is_not,
  counter_is,
  counter_is_not,
  Condition,
  atom,
  parens,
  negation,
  both,
  either,
  Plain,
  move_by,
  move_back,
  goto_lend,
  goto_rend,
  increment,
  decrement,
  add,
  subtract,
  Statement,
  plain,
  accept,
  reject,
  if,
  while,
  choose,
  branch,
  Rest,
  nothing,
  else,
  Statements,
  done,
  ◌then◌,
  Arms,
  last_arm,
  more_arms,
  Order,
  alphabet_first,
  decrement_first,
  Program,
  letter_bytes,
}
use Rattle.rule.specs.Limits.{
  Fault,
  fault_if,
  is_in,
  letter_faults,
  value,
  in_form,
  number_faults,
  symbol_name_faults,
  atom_faults,
  too_deep,
  condition_faults,
  plain_faults,
  statement_faults,
  rest_faults,
  statements_faults,
  arms_faults,
  in_order,
  settings_faults,
  faults,
}
use Rattle.rule.specs.Inside.Within.{ArmsWithin, AtomWithin, ConditionWithin, PlainWithin, ProgramWithin, RestWithin, SoughtWithin, StatementWithin, StatementsWithin}

-- two lists that together are empty are empty
nil-left : {A : Type 0} (xs ys : List A) → xs ++ ys ≡ [] → xs ≡ []
nil-left [] ys e = refl
nil-left (x ∷ xs) ys e = cc

nil_right : {A : Type 0} (xs ys : List A) → xs ++ ys ≡ [] → ys ≡ []
nil_right [] ys e = e
nil_right (x ∷ xs) ys e = cc

-- no fault, so the limit is kept
pub kept : (b : Bool) (n p : ℕ) → fault_if b n p ≡ [] → b ≡ false
unfolding fault_if
kept true n p e = cc
kept false n p e = refl

or_left : (a b : Bool) → (a || b) ≡ false → a ≡ false
or_left true b e = e
or_left false b e = refl

or_right : (a b : Bool) → (a || b) ≡ false → b ≡ false
or_right true b e = absurd (true≢false e)
or_right false b e = e

and_first : (a b : Bool) → (a && b) ≡ true → a ≡ true
and_first true b e = refl
and_first false b e = e

and_right : (a b : Bool) → (a && b) ≡ true → b ≡ true
and_right true b e = e
and_right false b e = absurd (true≢false (sym e))

-- a letter that is found is there
pub is_in-mem : (b : ℕ) (l : List ℕ) → is_in b l ≡ true → Memᴰ b l
unfolding is_in
is_in-mem b [] e = absurd (true≢false (sym e))
is_in-mem b (x ∷ xs) e = by_cases (eqb b x) refl (is_in-mem b xs) e
  where
    by_cases : (t : Bool) → eqb b x ≡ t → (is_in b xs ≡ true → Memᴰ b xs) → (t || is_in b xs) ≡ true → Memᴰ b (x ∷ xs)
    by_cases true q found e = Memᴰ.head (eqb-true b x q)
    by_cases false q found e = Memᴰ.tail (found e)

-- a letter that is there is found
pub mem-is_in : (b : ℕ) (l : List ℕ) → Memᴰ b l → is_in b l ≡ true
unfolding is_in
mem-is_in b l (Memᴰ.head {x = x} q) = rw (eq-eqb b x q)
mem-is_in b l (Memᴰ.tail {x = x} {xs = xs} m) = rw (mem-is_in b xs m) (or-true (eqb b x))

number_within : (greatest : ℕ) (n : Number) → number_faults greatest n ≡ [] → value n ≤ greatest
unfolding number_faults
number_within greatest n e =
    leb-true (value n) greatest
    (and_right (in_form n.digits) (leb (value n) greatest) (not-false _ (kept _ 7 n.place e)))

number_form : (greatest : ℕ) (n : Number) → number_faults greatest n ≡ [] → in_form n.digits ≡ true
unfolding number_faults
number_form greatest n e = and_first (in_form n.digits) (leb (value n) greatest) (not-false _ (kept _ 7 n.place e))

sought_within : (alphabet : List ℕ) (x : SymbolName) → symbol_name_faults alphabet x ≡ [] → SoughtWithin alphabet x
unfolding symbol_name_faults SoughtWithin
sought_within alphabet (letter l) e = is_in-mem l.byte alphabet (not-false _ (kept _ 6 l.place e))
sought_within alphabet lend e = tt
sought_within alphabet rend e = tt

atom_within : (alphabet : List ℕ) (a : Atom) → atom_faults alphabet a ≡ [] → AtomWithin alphabet a
unfolding atom_faults AtomWithin
atom_within alphabet (read_is x) e = sought_within alphabet x e
atom_within alphabet (read_is_not x) e = sought_within alphabet x e
atom_within alphabet (counter_is n) e = (omega (arith, number_within 0 n e), number_form 0 n e)
atom_within alphabet (counter_is_not n) e = (omega (arith, number_within 0 n e), number_form 0 n e)

condition_within :
    (alphabet : List ℕ) (opened : ℕ) (c : Condition) → condition_faults alphabet opened c ≡ [] → ConditionWithin alphabet c
unfolding condition_faults ConditionWithin
condition_within alphabet opened (atom p a) e = atom_within alphabet a e
condition_within alphabet opened (parens p c) e =
    condition_within alphabet (suc opened) c (nil_right (too_deep opened p) _ e)
condition_within alphabet opened (negation p c) e =
    condition_within alphabet (suc opened) c (nil_right (too_deep opened p) _ e)
condition_within alphabet opened (both c d) e =
    let first = condition_faults alphabet opened c in (
      condition_within alphabet opened c (nil-left first _ e),
      condition_within alphabet opened d (nil_right first _ e),
    )
condition_within alphabet opened (either c d) e =
    let first = condition_faults alphabet opened c in (
      condition_within alphabet opened c (nil-left first _ e),
      condition_within alphabet opened d (nil_right first _ e),
    )

plain_within : (e : Plain) → plain_faults e ≡ [] → PlainWithin e
unfolding plain_faults PlainWithin
plain_within (move_by n) e = number_within 63 n e
plain_within (move_back n) e = number_within 63 n e
plain_within goto_lend e = tt
plain_within goto_rend e = tt
plain_within increment e = tt
plain_within decrement e = tt
plain_within (add n) e = number_within 31 n e
plain_within (subtract n) e = number_within 31 n e

-- a block's faults: those of its brace, then those of its statements
block_rest : (opened o : ℕ) (fs : List Fault) → too_deep opened o ++ fs ≡ [] → fs ≡ []
block_rest opened o fs e = nil_right (too_deep opened o) fs e

mutual
  unfolding statement_faults rest_faults statements_faults arms_faults StatementWithin RestWithin StatementsWithin ArmsWithin

  statement_within :
      (s : Statement) (alphabet : List ℕ) (opened : ℕ) → statement_faults alphabet opened s ≡ [] → StatementWithin alphabet s
  statement_within (plain p e) alphabet opened none = plain_within e none
  statement_within (accept p) alphabet opened none = tt
  statement_within (reject p) alphabet opened none = tt
  statement_within (if p c o b e) alphabet opened none =
      let tests = condition_faults alphabet 0 c in
      let first = statements_faults alphabet (suc opened) b in
      let blocks = block_rest opened o _ (nil_right tests _ none) in (
        condition_within alphabet 0 c (nil-left tests _ none),
        statements_within b alphabet (suc opened) (nil-left first _ blocks),
        rest_within e alphabet opened (nil_right first _ blocks),
      )
  statement_within (while p c o b) alphabet opened none =
      let tests = condition_faults alphabet 0 c in (
        condition_within alphabet 0 c (nil-left tests _ none),
        statements_within b alphabet (suc opened) (block_rest opened o _ (nil_right tests _ none)),
      )
  statement_within (choose p o b) alphabet opened none =
      statements_within b alphabet (suc opened) (block_rest opened o _ none)
  statement_within (branch p o b a) alphabet opened none =
      let first = statements_faults alphabet (suc opened) b in
      let blocks = block_rest opened o _ none in (
        statements_within b alphabet (suc opened) (nil-left first _ blocks),
        arms_within a alphabet opened 1 (nil_right first _ blocks),
      )

  rest_within : (e : Rest) (alphabet : List ℕ) (opened : ℕ) → rest_faults alphabet opened e ≡ [] → RestWithin alphabet e
  rest_within nothing alphabet opened none = tt
  rest_within (else o b) alphabet opened none = statements_within b alphabet (suc opened) (block_rest opened o _ none)

  statements_within :
      (b : Statements) (alphabet : List ℕ) (opened : ℕ)
      → statements_faults alphabet opened b ≡ []
      → StatementsWithin alphabet b
  statements_within done alphabet opened none = tt
  statements_within (a then b) alphabet opened none =
      let first = statement_faults alphabet opened a in (
        statement_within a alphabet opened (nil-left first _ none),
        statements_within b alphabet opened (nil_right first _ none),
      )

  arms_within :
      (a : Arms) (alphabet : List ℕ) (opened arms : ℕ) → arms_faults alphabet opened arms a ≡ [] → ArmsWithin alphabet a
  arms_within (last_arm p o b) alphabet opened arms none =
      statements_within b alphabet (suc opened) (block_rest opened o _ (nil_right (fault_if (leb 8 arms) 9 p) _ none))
  arms_within (more_arms p o b a) alphabet opened arms none =
      let first = statements_faults alphabet (suc opened) b in
      let blocks = block_rest opened o _ (nil_right (fault_if (leb 8 arms) 9 p) _ none) in (
        statements_within b alphabet (suc opened) (nil-left first _ blocks),
        arms_within a alphabet opened (suc arms) (nil_right first _ blocks),
      )

-- as many bytes as letters
pub length-letter_bytes : (ls : List Letter) → length (letter_bytes ls) ≡ length ls
unfolding letter_bytes
length-letter_bytes [] = refl
length-letter_bytes (l ∷ ls) = ap suc (length-letter_bytes ls)

-- a letter without a fault is new, and comes behind fewer than 16
letter_kept :
    (before : List ℕ) (l : Letter) (ls : List Letter)
    → letter_faults before (l ∷ ls) ≡ []
    → (¬ Memᴰ l.byte before) × (length before < 16) × (letter_faults (before ++ (l.byte ∷ [])) ls ≡ [])
unfolding letter_faults
letter_kept before l ls none =
    let repeated = is_in l.byte before in
    let many = leb 16 (length before) in
    let this = fault_if (repeated || many) 5 l.place in
    let fine = kept (repeated || many) 5 l.place (nil-left this _ none) in (
      λ m. true≢false (sym (mem-is_in l.byte before m) ∙ or_left repeated many fine),
      leb-false 16 (length before) (or_right repeated many fine),
      nil_right this _ none,
    )

letters_few :
    (ls : List Letter) (before : List ℕ) → letter_faults before ls ≡ [] → length before ≤ 16 → length before + length ls ≤ 16
letters_few [] before none h = omega arith
letters_few (l ∷ ls) before none h =
    let k = letter_kept before l ls none in
    let longer = length-append before (l.byte ∷ []) in
    omega (arith, letters_few ls (before ++ (l.byte ∷ [])) k.2 (omega arith))

new_behind : {b : ℕ} {before : List ℕ} → ¬ Memᴰ b before → Nodup before → Nodup (concat before b)
new_behind {b} {before} new h = (Nodup-concat before b).1 (λ m. ∥∥₁_elim m ⊥_prop new, h)

letters_different :
    (ls : List Letter) (before : List ℕ)
    → letter_faults before ls ≡ []
    → Nodup before
    → Nodup (before ++ letter_bytes ls)
unfolding letter_bytes
letters_different [] before none h = rw append-nil h
letters_different (l ∷ ls) before none h =
    let k = letter_kept before l ls none in
    rw append_snoc at (letters_different ls (before ++ (l.byte ∷ [])) k.2 (rw concat-eq-append at (new_behind k.0 h)))

-- in either order
nil_letters : (o : Order) (letters truth : List Fault) → in_order o letters truth ≡ [] → letters ≡ []
unfolding in_order
nil_letters alphabet_first letters truth e = nil-left letters truth e
nil_letters decrement_first letters truth e = nil_right truth letters e

no_letters : (p : Program) → settings_faults p ≡ [] → letter_faults [] p.alphabet ≡ []
unfolding settings_faults
no_letters p none = nil_letters p.first (letter_faults [] p.alphabet) _ none

-- a program without faults, by its parts
pub program_within : (p : Program) → faults p ≡ [] → ProgramWithin p
unfolding faults
program_within p none =
    let alphabet = letter_bytes p.alphabet in
    let settings = settings_faults p in
    let letters = no_letters p (nil-left settings _ none) in
    record {
      few =
          omega (
            arith,
            letters_few p.alphabet [] letters (omega arith),
            length-letter_bytes p.alphabet,
          );
      different = letters_different p.alphabet [] letters Nodup-nil;
      body = statements_within p.body alphabet 1 (block_rest 0 p.brace _ (nil_right settings _ none));
    }
