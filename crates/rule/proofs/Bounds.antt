-- A first fault's number is 3 to 9, and its place is in the text or at its end.
use Prim.Native.Nat.{ℕ, suc, ◌≤◌}
use native.Mathlib.Omega.{arith}
use mathlib.Core.Path.{refl, sym, subst}
use mathlib.Core.Logic.{⊎_elim}
use mathlib.Core.Bool.{Bool, true, false}
use mathlib.Core.List.Memᴰ
use mathlib.Core.List.{
  List,
  [],
  ◌∷◌,
  ◌++◌,
  Memᴰ,
}
use lib.ListN.{length}
use lib.Dec.{leb}
use Rattle.text.proofs.Ending.{ends_at, broken_at}
use Rattle.text.proofs.Tokens.{tokens_below, below_at}
use Rattle.rule.specs.Tree.{
  Number,
  Letter,
  SymbolName,
  letter,
  lend,
  rend,
  Atom,
  read_is,
  read_is_not,
  counter_is,
  counter_is_not,
  Condition,
  atom,
  parens,
  negation,
  both,
  either,
  Plain,
  move_by,
  move_back,
  goto_lend,
  goto_rend,
  increment,
  decrement,
  add,
  subtract,
  Statement,
  plain,
  accept,
  reject,
  if,
  while,
  choose,
  branch,
  Rest,
  nothing,
  else,
  Statements,
  done,
  ◌then◌,
  Arms,
  last_arm,
  more_arms,
  Order,
  alphabet_first,
  decrement_first,
  Program,
  letter_bytes,
}
use Rattle.rule.specs.Limits.{Fault, fault_if, letter_faults, number_faults, symbol_name_faults, atom_faults, too_deep, condition_faults, plain_faults, statement_faults, rest_faults, statements_faults, arms_faults, truth_faults, in_order, settings_faults, faults}
use Rattle.rule.specs.Faults.{FirstFault, no_token, not_here, early, limit}

-- faults of the limits have numbers 5 to 9
record Numbered (fs : List Fault) : Type 0 where
  pub number : (f : Fault) → Memᴰ f fs → (5 ≤ f.number) × (f.number ≤ 9)

no_fault : Numbered []
no_fault = record { number = λ f m. absurd (Memᴰ.not-nil m) }

join : {fs gs : List Fault} → Numbered fs → Numbered gs → Numbered (fs ++ gs)
join {fs} a b = record { number = λ f m. ⊎_elim (a.number f) (b.number f) (Memᴰ.append_cases fs m) }

fault_if_lem : (b : Bool) (n p : ℕ) → 5 ≤ n → n ≤ 9 → Numbered (fault_if b n p)
unfolding fault_if
fault_if_lem true n p low high =
    record {
      number = λ f m.
          subst (λ (g : Fault). (5 ≤ g.number) × (g.number ≤ 9)) (sym (Memᴰ.eq_of_singleton m)) (low, high);
    }
fault_if_lem false n p low high = no_fault

letters_numbered : (ls : List Letter) (before : List ℕ) → Numbered (letter_faults before ls)
unfolding letter_faults
letters_numbered [] before = no_fault
letters_numbered (l ∷ ls) before = join (fault_if_lem _ 5 _ (omega arith) (omega arith)) (letters_numbered ls (before ++ (l.byte ∷ [])))

number_numbered : (greatest : ℕ) (n : Number) → Numbered (number_faults greatest n)
unfolding number_faults
number_numbered greatest n = fault_if_lem _ 7 _ (omega arith) (omega arith)

deep : (opened o : ℕ) → Numbered (too_deep opened o)
deep opened o = fault_if_lem _ 8 _ (omega arith) (omega arith)

sought_numbered : (alphabet : List ℕ) (x : SymbolName) → Numbered (symbol_name_faults alphabet x)
unfolding symbol_name_faults
sought_numbered alphabet (letter l) = fault_if_lem _ 6 _ (omega arith) (omega arith)
sought_numbered alphabet lend = no_fault
sought_numbered alphabet rend = no_fault

atom_numbered : (alphabet : List ℕ) (a : Atom) → Numbered (atom_faults alphabet a)
unfolding atom_faults
atom_numbered alphabet (read_is x) = sought_numbered alphabet x
atom_numbered alphabet (read_is_not x) = sought_numbered alphabet x
atom_numbered alphabet (counter_is n) = number_numbered 0 n
atom_numbered alphabet (counter_is_not n) = number_numbered 0 n

condition_numbered : (alphabet : List ℕ) (opened : ℕ) (c : Condition) → Numbered (condition_faults alphabet opened c)
unfolding condition_faults
condition_numbered alphabet opened (atom p a) = atom_numbered alphabet a
condition_numbered alphabet opened (parens p c) = join (deep opened p) (condition_numbered alphabet (suc opened) c)
condition_numbered alphabet opened (negation p c) = join (deep opened p) (condition_numbered alphabet (suc opened) c)
condition_numbered alphabet opened (both c d) = join (condition_numbered alphabet opened c) (condition_numbered alphabet opened d)
condition_numbered alphabet opened (either c d) = join (condition_numbered alphabet opened c) (condition_numbered alphabet opened d)

plain_numbered : (e : Plain) → Numbered (plain_faults e)
unfolding plain_faults
plain_numbered (move_by n) = number_numbered 63 n
plain_numbered (move_back n) = number_numbered 63 n
plain_numbered goto_lend = no_fault
plain_numbered goto_rend = no_fault
plain_numbered increment = no_fault
plain_numbered decrement = no_fault
plain_numbered (add n) = number_numbered 31 n
plain_numbered (subtract n) = number_numbered 31 n

ninth : (arms p : ℕ) → Numbered (fault_if (leb 8 arms) 9 p)
ninth arms p = fault_if_lem _ 9 _ (omega arith) (omega arith)

mutual
  unfolding statement_faults rest_faults statements_faults arms_faults

  statement_numbered : (s : Statement) (alphabet : List ℕ) (opened : ℕ) → Numbered (statement_faults alphabet opened s)
  statement_numbered (plain p e) alphabet opened = plain_numbered e
  statement_numbered (accept p) alphabet opened = no_fault
  statement_numbered (reject p) alphabet opened = no_fault
  statement_numbered (if p c o b e) alphabet opened =
      join (condition_numbered alphabet 0 c)
      (join (deep opened o) (join (statements_numbered b alphabet (suc opened)) (rest_numbered e alphabet opened)))
  statement_numbered (while p c o b) alphabet opened =
      join (condition_numbered alphabet 0 c) (join (deep opened o) (statements_numbered b alphabet (suc opened)))
  statement_numbered (choose p o b) alphabet opened = join (deep opened o) (statements_numbered b alphabet (suc opened))
  statement_numbered (branch p o b a) alphabet opened =
      join (deep opened o) (join (statements_numbered b alphabet (suc opened)) (arms_numbered a alphabet opened 1))

  rest_numbered : (e : Rest) (alphabet : List ℕ) (opened : ℕ) → Numbered (rest_faults alphabet opened e)
  rest_numbered nothing alphabet opened = no_fault
  rest_numbered (else o b) alphabet opened = join (deep opened o) (statements_numbered b alphabet (suc opened))

  statements_numbered : (b : Statements) (alphabet : List ℕ) (opened : ℕ) → Numbered (statements_faults alphabet opened b)
  statements_numbered done alphabet opened = no_fault
  statements_numbered (a then b) alphabet opened = join (statement_numbered a alphabet opened) (statements_numbered b alphabet opened)

  arms_numbered : (a : Arms) (alphabet : List ℕ) (opened arms : ℕ) → Numbered (arms_faults alphabet opened arms a)
  arms_numbered (last_arm p o b) alphabet opened arms =
      join (ninth arms p) (join (deep opened o) (statements_numbered b alphabet (suc opened)))
  arms_numbered (more_arms p o b a) alphabet opened arms =
      join (ninth arms p)
      (join (deep opened o) (join (statements_numbered b alphabet (suc opened)) (arms_numbered a alphabet opened (suc arms))))

in_order_lem : {fs gs : List Fault} (o : Order) → Numbered fs → Numbered gs → Numbered (in_order o fs gs)
unfolding in_order
in_order_lem alphabet_first a b = join a b
in_order_lem decrement_first a b = join b a

settings_numbered : (p : Program) → Numbered (settings_faults p)
unfolding settings_faults truth_faults
settings_numbered p = in_order_lem p.first (letters_numbered p.alphabet []) no_fault

program_numbered : (p : Program) → Numbered (faults p)
unfolding faults
program_numbered p =
    join (settings_numbered p)
    (join (deep 0 p.brace) (statements_numbered p.body (letter_bytes p.alphabet) 1))

pub fault_bounds : {text : List ℕ} {n p : ℕ} → FirstFault text n p → (3 ≤ n) × (n ≤ 9) × (p ≤ length text)
fault_bounds (no_token ts of clean) = (omega arith, omega arith, omega (arith, broken_at of))
fault_bounds (not_here ts us t of clean dead) = (omega arith, omega arith, omega (arith, below_at ts t us (tokens_below of)))
fault_bounds (early ts of clean dead) = (omega arith, omega arith, omega (arith, ends_at of))
fault_bounds (limit {n = n} {p = p} ts us t of clean b) =
    let is = (program_numbered b.goes_on.program).number _ (subst (Memᴰ _) (sym b.first) (Memᴰ.head refl)) in
    (omega (arith, is), omega (arith, is), omega (arith, below_at ts t us (tokens_below of)))
