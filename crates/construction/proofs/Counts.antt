-- How many states and rows the construction takes: the two formulas of document 01. That of the states holds over every tree and every
-- alphabet; that of the rows where the letters are at most 16 and the conditions seek no others. (A 17th letter, or one outside the
-- alphabet, has no code of its own, and `read !=` then has another number of rows.)
use Prim.Native.Nat.{ℕ, suc, ◌+◌, ◌≤◌}
use native.Mathlib.Omega.{arith}
use mathlib.Core.Path.{◌≡◌, refl, ◌∙◌, ap}
use mathlib.Core.Bool.{Bool, true, false, not}
use mathlib.Core.List.{List, [], ◌∷◌}
use lib.ListN.{length, length-append}
use Rattle.rule.specs.Tree.{
  SymbolName,
  Atom,
  read_is,
  read_is_not,
  counter_is,
  counter_is_not,
  Condition,
  atom,
  parens,
  negation,
  both,
  either,
  Statement,
  plain,
  accept,
  reject,
  if,
  while,
  choose,
  branch,
  Rest,
  nothing,
  else,
  Statements,
  done,
  ◌then◌,
  Arms,
  last_arm,
  more_arms,
  Program,
  letter_bytes,
}
use Rattle.rule.specs.Limits.{faults}
use Rattle.rule.proofs.Within.{program_within, length-letter_bytes}
use Rattle.rule.specs.Inside.Within.{SoughtWithin}
use Rattle.construction.specs.Construction.{
  symbol_rows,
  is_not_rows,
  atom_rows,
  Walk,
  one_after_other,
  one_or_other,
  walk,
  test,
  if_part,
  loop_part,
  arm_part,
  and_then,
  statement_part,
  rest_part,
  statements_part,
  arms_part,
  program_part,
  construct,
}
use Rattle.rule.specs.Counts.{
  condition_states,
  statement_states,
  rest_states,
  statements_states,
  arms_states,
  program_states,
  atom_count,
  condition_rows,
  statement_rows,
  rest_rows,
  statements_rows,
  arms_rows,
  program_rows,
}
use Rattle.construction.proofs.Symbols.{length_others}
use Rattle.construction.proofs.Seeks.{AtomSeeks, ConditionSeeks, StatementSeeks, RestSeeks, StatementsSeek, ArmsSeek, statements_seek}

-- the states that a condition takes when walked with this sign: each operator takes one under one of the two signs
unfoldable pub walk_states : Condition → Bool → ℕ
walk_states (atom t a) sign = 0
walk_states (parens o c) sign = walk_states c sign
walk_states (negation o c) sign = walk_states c (not sign)
walk_states (both c d) true = 1 + (walk_states c true + walk_states d true)
walk_states (both c d) false = walk_states c false + walk_states d false
walk_states (either c d) true = walk_states c true + walk_states d true
walk_states (either c d) false = 1 + (walk_states c false + walk_states d false)

-- whatever it goes between, a walk takes this many states
abbrev pub TakesStates : Walk → ℕ → Type 0
TakesStates w n = (p q next : ℕ) → (w p q next).next ≡ next + n

after_states : (a b : Walk) (m n : ℕ) → TakesStates a m → TakesStates b n → TakesStates (one_after_other a b) (1 + (m + n))
unfolding one_after_other
after_states a b m n f g p q next =
    omega (arith, f p next (next + 1), g next q (a p next (next + 1)).next)

or_states : (a b : Walk) (m n : ℕ) → TakesStates a m → TakesStates b n → TakesStates (one_or_other a b) (m + n)
unfolding one_or_other
or_states a b m n f g p q next = omega (arith, f p q next, g p q (a p q next).next)

-- a condition's walk takes its states
pub walk_states_lem : (alphabet : List ℕ) (c : Condition) (sign : Bool) → TakesStates (walk alphabet c sign) (walk_states c sign)
unfolding walk walk_states
walk_states_lem alphabet (atom t a) sign = λ p q next. omega arith
walk_states_lem alphabet (parens o c) sign = walk_states_lem alphabet c sign
walk_states_lem alphabet (negation o c) sign = walk_states_lem alphabet c (not sign)
walk_states_lem alphabet (both c d) true =
    after_states _ _ _ _ (walk_states_lem alphabet c true) (walk_states_lem alphabet d true)
walk_states_lem alphabet (both c d) false =
    or_states _ _ _ _ (walk_states_lem alphabet c false) (walk_states_lem alphabet d false)
walk_states_lem alphabet (either c d) true =
    or_states _ _ _ _ (walk_states_lem alphabet c true) (walk_states_lem alphabet d true)
walk_states_lem alphabet (either c d) false =
    after_states _ _ _ _ (walk_states_lem alphabet c false) (walk_states_lem alphabet d false)

-- under the two signs together, one for each operator
pub both_signs : (c : Condition) → walk_states c true + walk_states c false ≡ condition_states c
unfolding walk_states condition_states
both_signs (atom t a) = refl
both_signs (parens o c) = both_signs c
both_signs (negation o c) = omega (arith, both_signs c)
both_signs (both c d) = omega (arith, both_signs c, both_signs d)
both_signs (either c d) = omega (arith, both_signs c, both_signs d)

-- both tests of a condition together
pub test_next :
    (alphabet : List ℕ) (c : Condition) (p x y next : ℕ) → (test alphabet c p x y next).next ≡ next + condition_states c
unfolding test
test_next alphabet c p x y next =
    let held = walk_states_lem alphabet c true p x next in
    omega (arith, walk_states_lem alphabet c false p y (walk alphabet c true p x next).next, both_signs c)

-- every part takes its tree's states, wherever it starts and whatever the alphabet is
mutual
  unfolding statement_part rest_part statements_part arms_part if_part loop_part arm_part and_then statement_states rest_states statements_states arms_states

  -- a statement
  pub statement_next :
      (s : Statement) (alphabet : List ℕ) (p next : ℕ)
      → (statement_part alphabet s p next).next ≡ next + statement_states s
  statement_next (plain t e) alphabet p next = omega arith
  statement_next (accept t) alphabet p next = omega arith
  statement_next (reject t) alphabet p next = omega arith
  statement_next (if t c o b e) alphabet p next =
      let tests = test alphabet c p (next + 1) (next + 2) (next + 3) in
      let yes_part = statements_part alphabet b (next + 1) tests.next in
      omega (
        arith,
        test_next alphabet c p (next + 1) (next + 2) (next + 3),
        statements_next b alphabet (next + 1) tests.next,
        rest_next e alphabet (next + 2) yes_part.next,
      )
  statement_next (while t c o b) alphabet p next =
      let tests = test alphabet c p (next + 1) next (next + 2) in
      omega (
        arith,
        test_next alphabet c p (next + 1) next (next + 2),
        statements_next b alphabet (next + 1) tests.next,
      )
  statement_next (choose t o b) alphabet p next = omega (arith, statements_next b alphabet (next + 1) (next + 2))
  statement_next (branch t o b a) alphabet p next =
      let first = statements_part alphabet b (next + 1) (next + 2) in
      omega (
        arith,
        statements_next b alphabet (next + 1) (next + 2),
        arms_next a alphabet p next first.next,
      )

  -- the rest of an if
  pub rest_next :
      (e : Rest) (alphabet : List ℕ) (p next : ℕ)
      → (rest_part alphabet e p next).next ≡ next + rest_states e
  rest_next nothing alphabet p next = omega arith
  rest_next (else o b) alphabet p next = statements_next b alphabet p next

  -- a block's statements
  pub statements_next :
      (b : Statements) (alphabet : List ℕ) (p next : ℕ)
      → (statements_part alphabet b p next).next ≡ next + statements_states b
  statements_next done alphabet p next = omega arith
  statements_next (a then b) alphabet p next =
      let first = statement_part alphabet a p next in
      omega (arith, statement_next a alphabet p next, statements_next b alphabet first.exit first.next)

  -- a branch's arms after the first
  pub arms_next :
      (a : Arms) (alphabet : List ℕ) (p q next : ℕ)
      → (arms_part alphabet a p q next).next ≡ next + arms_states a
  arms_next (last_arm t o b) alphabet p q next = omega (arith, statements_next b alphabet next (next + 1))
  arms_next (more_arms t o b a) alphabet p q next =
      let first = statements_part alphabet b next (next + 1) in
      omega (arith, statements_next b alphabet next (next + 1), arms_next a alphabet p q first.next)

-- a program's table has the states that document 01 counts
pub states_formula : (p : Program) → (construct p).states ≡ program_states p
unfolding construct program_part program_states
states_formula p = statements_next p.body (letter_bytes p.alphabet) 0 1

-- the rows of an atom under this sign, with k letters
unfoldable pub atom_signed : ℕ → Atom → Bool → ℕ
atom_signed k (read_is x) true = 1
atom_signed k (read_is x) false = k + 1
atom_signed k (read_is_not x) true = k + 1
atom_signed k (read_is_not x) false = 1
atom_signed k (counter_is n) sign = 1
atom_signed k (counter_is_not n) sign = 1

-- the rows of a condition under this sign
unfoldable pub walk_rows : ℕ → Condition → Bool → ℕ
walk_rows k (atom t a) sign = atom_signed k a sign
walk_rows k (parens o c) sign = walk_rows k c sign
walk_rows k (negation o c) sign = walk_rows k c (not sign)
walk_rows k (both c d) sign = walk_rows k c sign + walk_rows k d sign
walk_rows k (either c d) sign = walk_rows k c sign + walk_rows k d sign

length-symbol_rows : (xs : List ℕ) (p q : ℕ) → length (symbol_rows xs p q) ≡ length xs
unfolding symbol_rows
length-symbol_rows [] p q = refl
length-symbol_rows (x ∷ xs) p q = ap suc (length-symbol_rows xs p q)

-- under the two signs together, those of the formula
both_signs_rows : (k : ℕ) (c : Condition) → walk_rows k c true + walk_rows k c false ≡ condition_rows k c
unfolding walk_rows condition_rows atom_signed atom_count
both_signs_rows k (atom t (read_is x)) = omega arith
both_signs_rows k (atom t (read_is_not x)) = omega arith
both_signs_rows k (atom t (counter_is n)) = refl
both_signs_rows k (atom t (counter_is_not n)) = refl
both_signs_rows k (parens o c) = both_signs_rows k c
both_signs_rows k (negation o c) = omega (arith, both_signs_rows k c)
both_signs_rows k (both c d) = omega (arith, both_signs_rows k c, both_signs_rows k d)
both_signs_rows k (either c d) = omega (arith, both_signs_rows k c, both_signs_rows k d)

-- whatever it goes between, a walk adds this many rows
abbrev pub AddsRows : Walk → ℕ → Type 0
AddsRows w n = (p q next : ℕ) → length (w p q next).rows ≡ n

after_rows : (a b : Walk) (m n : ℕ) → AddsRows a m → AddsRows b n → AddsRows (one_after_other a b) (m + n)
unfolding one_after_other
after_rows a b m n f g p q next =
    simp length-append (omega (arith, f p next (next + 1), g next q (a p next (next + 1)).next))

or_rows : (a b : Walk) (m n : ℕ) → AddsRows a m → AddsRows b n → AddsRows (one_or_other a b) (m + n)
unfolding one_or_other
or_rows a b m n f g p q next = simp length-append (omega (arith, f p q next, g p q (a p q next).next))

-- over an alphabet of at most 16 letters, every tree whose conditions seek letters of it has its rows
module _ (alphabet : List ℕ) (few : length alphabet ≤ 16) where
  length-is_not_rows :
      (x : SymbolName) (p q : ℕ) → SoughtWithin alphabet x → length (is_not_rows alphabet x p q) ≡ length alphabet + 1
  length-is_not_rows x p q within = length-symbol_rows _ p q ∙ length_others alphabet x few within

  -- an atom, walked with this sign
  pub atom_rows_lem :
      (a : Atom) (sign : Bool) (p q : ℕ)
      → AtomSeeks alphabet a
      → length (atom_rows alphabet sign a p q) ≡ atom_signed (length alphabet) a sign
  unfolding atom_rows atom_signed AtomSeeks
  atom_rows_lem (read_is x) true p q within = length-symbol_rows _ p q
  atom_rows_lem (read_is x) false p q within = length-is_not_rows x p q within
  atom_rows_lem (read_is_not x) true p q within = length-is_not_rows x p q within
  atom_rows_lem (read_is_not x) false p q within = length-symbol_rows _ p q
  atom_rows_lem (counter_is n) true p q within = refl
  atom_rows_lem (counter_is n) false p q within = refl
  atom_rows_lem (counter_is_not n) true p q within = refl
  atom_rows_lem (counter_is_not n) false p q within = refl

  -- a condition, walked with this sign
  pub condition_rows_lem :
      (c : Condition) (sign : Bool)
      → ConditionSeeks alphabet c
      → AddsRows (walk alphabet c sign) (walk_rows (length alphabet) c sign)
  unfolding walk walk_rows ConditionSeeks
  condition_rows_lem (atom t a) sign within = λ p q next. atom_rows_lem a sign p q within
  condition_rows_lem (parens o c) sign within = condition_rows_lem c sign within
  condition_rows_lem (negation o c) sign within = condition_rows_lem c (not sign) within
  condition_rows_lem (both c d) true within =
      after_rows _ _ _ _ (condition_rows_lem c true within.0) (condition_rows_lem d true within.1)
  condition_rows_lem (both c d) false within =
      or_rows _ _ _ _ (condition_rows_lem c false within.0) (condition_rows_lem d false within.1)
  condition_rows_lem (either c d) true within =
      or_rows _ _ _ _ (condition_rows_lem c true within.0) (condition_rows_lem d true within.1)
  condition_rows_lem (either c d) false within =
      after_rows _ _ _ _ (condition_rows_lem c false within.0) (condition_rows_lem d false within.1)

  -- both tests of a condition together
  pub test_rows :
      (c : Condition) (p x y next : ℕ)
      → ConditionSeeks alphabet c
      → length (test alphabet c p x y next).rows ≡ condition_rows (length alphabet) c
  unfolding test
  test_rows c p x y next within =
      simp length-append
      (omega (
        arith,
        condition_rows_lem c true within p x next,
        condition_rows_lem c false within p y (walk alphabet c true p x next).next,
        both_signs_rows (length alphabet) c,
      ))

  mutual
    unfolding statement_part rest_part statements_part arms_part if_part loop_part arm_part and_then statement_rows rest_rows statements_rows arms_rows StatementSeeks RestSeeks StatementsSeek ArmsSeek

    -- a statement
    pub statement_rows_lem :
        (s : Statement) (p next : ℕ)
        → StatementSeeks alphabet s
        → length (statement_part alphabet s p next).rows ≡ statement_rows (length alphabet) s
    statement_rows_lem (plain t e) p next within = refl
    statement_rows_lem (accept t) p next within = refl
    statement_rows_lem (reject t) p next within = refl
    statement_rows_lem (if t c o b e) p next within =
        let tests = test alphabet c p (next + 1) (next + 2) (next + 3) in
        let yes_part = statements_part alphabet b (next + 1) tests.next in
        simp length-append
        (omega (
          arith,
          test_rows c p (next + 1) (next + 2) (next + 3) within.0,
          statements_rows_lem b (next + 1) tests.next within.1,
          rest_rows_lem e (next + 2) yes_part.next within.2,
        ))
    statement_rows_lem (while t c o b) p next within =
        let tests = test alphabet c p (next + 1) next (next + 2) in
        simp length-append
        (omega (
          arith,
          test_rows c p (next + 1) next (next + 2) within.0,
          statements_rows_lem b (next + 1) tests.next within.1,
        ))
    statement_rows_lem (choose t o b) p next within =
        simp length-append (omega (arith, statements_rows_lem b (next + 1) (next + 2) within))
    statement_rows_lem (branch t o b a) p next within =
        let first = statements_part alphabet b (next + 1) (next + 2) in
        simp length-append
        (omega (
          arith,
          statements_rows_lem b (next + 1) (next + 2) within.0,
          arms_rows_lem a p next first.next within.1,
        ))

    -- the rest of an if
    pub rest_rows_lem :
        (e : Rest) (p next : ℕ)
        → RestSeeks alphabet e
        → length (rest_part alphabet e p next).rows ≡ rest_rows (length alphabet) e
    rest_rows_lem nothing p next within = refl
    rest_rows_lem (else o b) p next within = statements_rows_lem b p next within

    -- a block's statements
    pub statements_rows_lem :
        (b : Statements) (p next : ℕ)
        → StatementsSeek alphabet b
        → length (statements_part alphabet b p next).rows ≡ statements_rows (length alphabet) b
    statements_rows_lem done p next within = refl
    statements_rows_lem (a then b) p next within =
        let first = statement_part alphabet a p next in
        simp length-append
        (omega (
          arith,
          statement_rows_lem a p next within.0,
          statements_rows_lem b first.exit first.next within.1,
        ))

    -- a branch's arms after the first
    pub arms_rows_lem :
        (a : Arms) (p q next : ℕ)
        → ArmsSeek alphabet a
        → length (arms_part alphabet a p q next).rows ≡ arms_rows (length alphabet) a
    arms_rows_lem (last_arm t o b) p q next within =
        simp length-append (omega (arith, statements_rows_lem b next (next + 1) within))
    arms_rows_lem (more_arms t o b a) p q next within =
        let first = statements_part alphabet b next (next + 1) in
        simp length-append
        (omega (
          arith,
          statements_rows_lem b next (next + 1) within.0,
          arms_rows_lem a p q first.next within.1,
        ))

-- a program's table has the rows that document 01 counts, where its letters are at most 16 and its conditions seek no others: however
-- deep it is, whatever numbers stand in it, and also with letters that repeat
pub rows_over_trees : (p : Program)
    → length (letter_bytes p.alphabet) ≤ 16
    → StatementsSeek (letter_bytes p.alphabet) p.body
    → length (construct p).rows ≡ program_rows p
unfolding construct program_part program_rows
rows_over_trees p few seek =
    statements_rows_lem (letter_bytes p.alphabet) few p.body 0 1 seek
    ∙ ap (λ (k : ℕ). statements_rows k p.body) (length-letter_bytes p.alphabet)

-- so has that of every program without faults
pub rows_formula : (p : Program) → faults p ≡ [] → length (construct p).rows ≡ program_rows p
rows_formula p none =
    let within = program_within p none in
    rows_over_trees p within.few (statements_seek (letter_bytes p.alphabet) p.body within.body)
