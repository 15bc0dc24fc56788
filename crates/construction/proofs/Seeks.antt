-- What a tree's conditions seek is in the alphabet: all that the formula of the rows asks of a tree.
use Prim.Native.Nat.{ℕ}
use mathlib.Core.List.{List}
use Rattle.rule.specs.Tree.{
  Atom,
  read_is,
  read_is_not,
  counter_is,
  counter_is_not,
  Condition,
  atom,
  parens,
  negation,
  both,
  either,
  Statement,
  plain,
  accept,
  reject,
  if,
  while,
  choose,
  branch,
  Rest,
  nothing,
  else,
  Statements,
  done,
  ◌then◌,
  Arms,
  last_arm,
  more_arms,
}
use Rattle.rule.specs.Inside.Within.{SoughtWithin, AtomWithin, ConditionWithin, StatementWithin, RestWithin, StatementsWithin, ArmsWithin}

-- a mark, or a letter of the alphabet
unfoldable pub AtomSeeks : List ℕ → Atom → Type 0
AtomSeeks alphabet (read_is x) = SoughtWithin alphabet x
AtomSeeks alphabet (read_is_not x) = SoughtWithin alphabet x
AtomSeeks alphabet (counter_is n) = Unit
AtomSeeks alphabet (counter_is_not n) = Unit

-- so in every atom of a condition
unfoldable pub ConditionSeeks : List ℕ → Condition → Type 0
ConditionSeeks alphabet (atom t a) = AtomSeeks alphabet a
ConditionSeeks alphabet (parens o c) = ConditionSeeks alphabet c
ConditionSeeks alphabet (negation o c) = ConditionSeeks alphabet c
ConditionSeeks alphabet (both c d) = ConditionSeeks alphabet c × ConditionSeeks alphabet d
ConditionSeeks alphabet (either c d) = ConditionSeeks alphabet c × ConditionSeeks alphabet d

-- so in every condition of a statement, of a block's statements and of arms
unfoldable mutual
  pub StatementSeeks : List ℕ → Statement → Type 0
  StatementSeeks alphabet (plain t e) = Unit
  StatementSeeks alphabet (accept t) = Unit
  StatementSeeks alphabet (reject t) = Unit
  StatementSeeks alphabet (if t c o b e) = ConditionSeeks alphabet c × StatementsSeek alphabet b × RestSeeks alphabet e
  StatementSeeks alphabet (while t c o b) = ConditionSeeks alphabet c × StatementsSeek alphabet b
  StatementSeeks alphabet (choose t o b) = StatementsSeek alphabet b
  StatementSeeks alphabet (branch t o b a) = StatementsSeek alphabet b × ArmsSeek alphabet a

  pub RestSeeks : List ℕ → Rest → Type 0
  RestSeeks alphabet nothing = Unit
  RestSeeks alphabet (else o b) = StatementsSeek alphabet b

  pub StatementsSeek : List ℕ → Statements → Type 0
  StatementsSeek alphabet done = Unit
  StatementsSeek alphabet (a then b) = StatementSeeks alphabet a × StatementsSeek alphabet b

  pub ArmsSeek : List ℕ → Arms → Type 0
  ArmsSeek alphabet (last_arm t o b) = StatementsSeek alphabet b
  ArmsSeek alphabet (more_arms t o b a) = StatementsSeek alphabet b × ArmsSeek alphabet a

-- a tree without faults is such
module _ (alphabet : List ℕ) where
  atom_seeks : (a : Atom) → AtomWithin alphabet a → AtomSeeks alphabet a
  unfolding AtomWithin AtomSeeks
  atom_seeks (read_is x) within = within
  atom_seeks (read_is_not x) within = within
  atom_seeks (counter_is n) within = tt
  atom_seeks (counter_is_not n) within = tt

  condition_seeks : (c : Condition) → ConditionWithin alphabet c → ConditionSeeks alphabet c
  unfolding ConditionWithin ConditionSeeks
  condition_seeks (atom t a) within = atom_seeks a within
  condition_seeks (parens o c) within = condition_seeks c within
  condition_seeks (negation o c) within = condition_seeks c within
  condition_seeks (both c d) within = (condition_seeks c within.0, condition_seeks d within.1)
  condition_seeks (either c d) within = (condition_seeks c within.0, condition_seeks d within.1)

  mutual
    unfolding StatementWithin RestWithin StatementsWithin ArmsWithin StatementSeeks RestSeeks StatementsSeek ArmsSeek

    statement_seeks : (s : Statement) → StatementWithin alphabet s → StatementSeeks alphabet s
    statement_seeks (plain t e) within = tt
    statement_seeks (accept t) within = tt
    statement_seeks (reject t) within = tt
    statement_seeks (if t c o b e) within =
        (condition_seeks c within.0, statements_seek b within.1, rest_seeks e within.2)
    statement_seeks (while t c o b) within = (condition_seeks c within.0, statements_seek b within.1)
    statement_seeks (choose t o b) within = statements_seek b within
    statement_seeks (branch t o b a) within = (statements_seek b within.0, arms_seek a within.1)

    rest_seeks : (e : Rest) → RestWithin alphabet e → RestSeeks alphabet e
    rest_seeks nothing within = tt
    rest_seeks (else o b) within = statements_seek b within

    pub statements_seek : (b : Statements) → StatementsWithin alphabet b → StatementsSeek alphabet b
    statements_seek done within = tt
    statements_seek (a then b) within = (statement_seeks a within.0, statements_seek b within.1)

    arms_seek : (a : Arms) → ArmsWithin alphabet a → ArmsSeek alphabet a
    arms_seek (last_arm t o b) within = statements_seek b within
    arms_seek (more_arms t o b a) within = (statements_seek b within.0, arms_seek a within.1)
