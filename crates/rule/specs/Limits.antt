-- The limits within a program: the tokens of a tree that break one, in the text's order, each with its number 5 to 9.
use Rattle.std.specs.Prelude.{ℕ, suc, ◌+◌, ◌-◌, ◌*◌, Bool, true, false, not, ◌&&◌, ◌||◌, List, [], ◌∷◌, ◌++◌, length, leb, eqb}
use Rattle.rule.specs.Tree.{
  Number,
  Letter,
  SymbolName,
  letter,
  lend,
  rend,
  Atom,
  read_is,
  read_is_not,
  counter_is,
  counter_is_not,
  Condition,
  atom,
  parens,
  negation,
  both,
  either,
  Plain,
  move_by,
  move_back,
  goto_lend,
  goto_rend,
  increment,
  decrement,
  add,
  subtract,
  Statement,
  plain,
  accept,
  reject,
  if,
  while,
  choose,
  branch,
  Rest,
  nothing,
  else,
  Statements,
  done,
  ◌then◌,
  Arms,
  last_arm,
  more_arms,
  Order,
  alphabet_first,
  decrement_first,
  Program,
  letter_bytes,
}

pub record Fault : Type 0 where
  pub number : ℕ
  pub place : ℕ

abbrev pub fault : ℕ → ℕ → Fault
fault n p = record { number = n; place = p }

-- a fault, if the limit is broken
unfoldable pub fault_if : Bool → ℕ → ℕ → List Fault
fault_if true n p = fault n p ∷ []
fault_if false n p = []

unfoldable pub is_in : ℕ → List ℕ → Bool
is_in b [] = false
is_in b (x ∷ xs) = eqb b x || is_in b xs

-- 5: a letter that stands before already, or a 17th
unfoldable pub letter_faults : List ℕ → List Letter → List Fault
letter_faults before [] = []
letter_faults before (l ∷ ls) =
    fault_if (is_in l.byte before || leb 16 (length before)) 5 l.place
    ++ letter_faults (before ++ (l.byte ∷ [])) ls

-- the value of digits, behind those that gave a value so far
unfoldable pub value_from : ℕ → List ℕ → ℕ
value_from n [] = n
value_from n (d ∷ ds) = value_from (10 * n + (d - 48)) ds

abbrev pub value : Number → ℕ
value n = value_from 0 n.digits

-- no leading zero, except 0 itself, and at most two digits
unfoldable pub in_form : List ℕ → Bool
in_form [] = false
in_form (d ∷ []) = true
in_form (d ∷ e ∷ []) = not (eqb d 48)
in_form (d ∷ e ∷ f ∷ ds) = false

-- 7: a number out of its form, or above the greatest that may stand there
unfoldable pub number_faults : ℕ → Number → List Fault
number_faults greatest n = fault_if (not (in_form n.digits && leb (value n) greatest)) 7 n.place

-- 6: a letter outside the alphabet
unfoldable pub symbol_name_faults : List ℕ → SymbolName → List Fault
symbol_name_faults alphabet (letter l) = fault_if (not (is_in l.byte alphabet)) 6 l.place
symbol_name_faults alphabet lend = []
symbol_name_faults alphabet rend = []

unfoldable pub atom_faults : List ℕ → Atom → List Fault
atom_faults alphabet (read_is x) = symbol_name_faults alphabet x
atom_faults alphabet (read_is_not x) = symbol_name_faults alphabet x
atom_faults alphabet (counter_is n) = number_faults 0 n
atom_faults alphabet (counter_is_not n) = number_faults 0 n

-- 8: the `(`, `!` or `{` that opens one more than 16, where so many are open already
abbrev pub too_deep : ℕ → ℕ → List Fault
too_deep opened place = fault_if (leb 16 opened) 8 place

unfoldable pub condition_faults : List ℕ → ℕ → Condition → List Fault
condition_faults alphabet opened (atom p a) = atom_faults alphabet a
condition_faults alphabet opened (parens p c) = too_deep opened p ++ condition_faults alphabet (suc opened) c
condition_faults alphabet opened (negation p c) = too_deep opened p ++ condition_faults alphabet (suc opened) c
condition_faults alphabet opened (both c d) = condition_faults alphabet opened c ++ condition_faults alphabet opened d
condition_faults alphabet opened (either c d) = condition_faults alphabet opened c ++ condition_faults alphabet opened d

unfoldable pub plain_faults : Plain → List Fault
plain_faults (move_by n) = number_faults 63 n
plain_faults (move_back n) = number_faults 63 n
plain_faults goto_lend = []
plain_faults goto_rend = []
plain_faults increment = []
plain_faults decrement = []
plain_faults (add n) = number_faults 31 n
plain_faults (subtract n) = number_faults 31 n

-- with so many blocks open around it; 9: an `also` behind eight arms
unfoldable mutual
  pub statement_faults : List ℕ → ℕ → Statement → List Fault
  statement_faults alphabet opened (plain p e) = plain_faults e
  statement_faults alphabet opened (accept p) = []
  statement_faults alphabet opened (reject p) = []
  statement_faults alphabet opened (if p c o b e) =
      condition_faults alphabet 0 c
      ++ (too_deep opened o ++ (statements_faults alphabet (suc opened) b ++ rest_faults alphabet opened e))
  statement_faults alphabet opened (while p c o b) =
      condition_faults alphabet 0 c ++ (too_deep opened o ++ statements_faults alphabet (suc opened) b)
  statement_faults alphabet opened (choose p o b) = too_deep opened o ++ statements_faults alphabet (suc opened) b
  statement_faults alphabet opened (branch p o b a) =
      too_deep opened o ++ (statements_faults alphabet (suc opened) b ++ arms_faults alphabet opened 1 a)

  pub rest_faults : List ℕ → ℕ → Rest → List Fault
  rest_faults alphabet opened nothing = []
  rest_faults alphabet opened (else o b) = too_deep opened o ++ statements_faults alphabet (suc opened) b

  pub statements_faults : List ℕ → ℕ → Statements → List Fault
  statements_faults alphabet opened done = []
  statements_faults alphabet opened (a then b) = statement_faults alphabet opened a ++ statements_faults alphabet opened b

  pub arms_faults : List ℕ → ℕ → ℕ → Arms → List Fault
  arms_faults alphabet opened arms (last_arm p o b) =
      fault_if (leb 8 arms) 9 p ++ (too_deep opened o ++ statements_faults alphabet (suc opened) b)
  arms_faults alphabet opened arms (more_arms p o b a) =
      fault_if (leb 8 arms) 9 p
      ++ (too_deep opened o ++ (statements_faults alphabet (suc opened) b ++ arms_faults alphabet opened (suc arms) a))

-- decr_on_zero breaks no limit, whichever its word is
unfoldable pub truth_faults : Bool → ℕ → List Fault
truth_faults decr_on_zero place = []

-- those of the alphabet and those of decr_on_zero, as the settings stand
unfoldable pub in_order : Order → List Fault → List Fault → List Fault
in_order alphabet_first letters truth = letters ++ truth
in_order decrement_first letters truth = truth ++ letters

unfoldable pub settings_faults : Program → List Fault
settings_faults p = in_order p.first (letter_faults [] p.alphabet) (truth_faults p.decr_on_zero p.truth)

-- the outermost block has none open around it
unfoldable pub faults : Program → List Fault
faults p =
    settings_faults p
    ++ (too_deep 0 p.brace ++ statements_faults (letter_bytes p.alphabet) 1 p.body)
