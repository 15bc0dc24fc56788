-- What a tree without faults keeps to: letters of the alphabet, numbers in their ranges. No public promise reaches it.
use Rattle.std.specs.Prelude.{ℕ, ◌≤◌, ◌≡◌, true, length}
use mathlib.Core.List.{List, Memᴰ, Nodup}
use Rattle.rule.specs.Tree.{SymbolName, letter, lend, rend, Atom, read_is, read_is_not, counter_is, counter_is_not, Condition, atom, parens, negation, both, either, Plain, move_by, move_back, goto_lend, goto_rend, increment, decrement, add, subtract, Statement, plain, accept, reject, if, while, choose, branch, Rest, nothing, else, Statements, done, ◌then◌, Arms, last_arm, more_arms, Program, letter_bytes}
use Rattle.rule.specs.Limits.{in_form, value}

-- a letter sought is in the alphabet
unfoldable pub SoughtWithin : List ℕ → SymbolName → Type 0
SoughtWithin alphabet (letter l) = Memᴰ l.byte alphabet
SoughtWithin alphabet lend = Unit
SoughtWithin alphabet rend = Unit

-- and the counter is tested against 0 only, in its form
unfoldable pub AtomWithin : List ℕ → Atom → Type 0
AtomWithin alphabet (read_is x) = SoughtWithin alphabet x
AtomWithin alphabet (read_is_not x) = SoughtWithin alphabet x
AtomWithin alphabet (counter_is n) = (value n ≡ 0) × (in_form n.digits ≡ true)
AtomWithin alphabet (counter_is_not n) = (value n ≡ 0) × (in_form n.digits ≡ true)

-- so in every atom of a condition
unfoldable pub ConditionWithin : List ℕ → Condition → Type 0
ConditionWithin alphabet (atom p a) = AtomWithin alphabet a
ConditionWithin alphabet (parens p c) = ConditionWithin alphabet c
ConditionWithin alphabet (negation p c) = ConditionWithin alphabet c
ConditionWithin alphabet (both c d) = ConditionWithin alphabet c × ConditionWithin alphabet d
ConditionWithin alphabet (either c d) = ConditionWithin alphabet c × ConditionWithin alphabet d

-- a number is at most the greatest that may stand there
unfoldable pub PlainWithin : Plain → Type 0
PlainWithin (move_by n) = value n ≤ 63
PlainWithin (move_back n) = value n ≤ 63
PlainWithin goto_lend = Unit
PlainWithin goto_rend = Unit
PlainWithin increment = Unit
PlainWithin decrement = Unit
PlainWithin (add n) = value n ≤ 31
PlainWithin (subtract n) = value n ≤ 31

-- so in every part of a statement, of a block's statements and of arms
unfoldable mutual
  pub StatementWithin : List ℕ → Statement → Type 0
  StatementWithin alphabet (plain p e) = PlainWithin e
  StatementWithin alphabet (accept p) = Unit
  StatementWithin alphabet (reject p) = Unit
  StatementWithin alphabet (if p c o b e) = ConditionWithin alphabet c × StatementsWithin alphabet b × RestWithin alphabet e
  StatementWithin alphabet (while p c o b) = ConditionWithin alphabet c × StatementsWithin alphabet b
  StatementWithin alphabet (choose p o b) = StatementsWithin alphabet b
  StatementWithin alphabet (branch p o b a) = StatementsWithin alphabet b × ArmsWithin alphabet a

  pub RestWithin : List ℕ → Rest → Type 0
  RestWithin alphabet nothing = Unit
  RestWithin alphabet (else o b) = StatementsWithin alphabet b

  pub StatementsWithin : List ℕ → Statements → Type 0
  StatementsWithin alphabet done = Unit
  StatementsWithin alphabet (a then b) = StatementWithin alphabet a × StatementsWithin alphabet b

  pub ArmsWithin : List ℕ → Arms → Type 0
  ArmsWithin alphabet (last_arm p o b) = StatementsWithin alphabet b
  ArmsWithin alphabet (more_arms p o b a) = StatementsWithin alphabet b × ArmsWithin alphabet a

-- a program's letters are at most 16 and different, and its body is within its limits
pub record ProgramWithin (p : Program) : Type 0 where
  pub few : length (letter_bytes p.alphabet) ≤ 16
  pub different : Nodup (letter_bytes p.alphabet)
  pub body : StatementsWithin (letter_bytes p.alphabet) p.body
