-- How many states and rows a program takes, by what stands in it.
use Rattle.std.specs.Prelude.{ℕ, ◌+◌, length}
use Rattle.rule.specs.Tree.{
  Atom,
  read_is,
  read_is_not,
  counter_is,
  counter_is_not,
  Condition,
  atom,
  parens,
  negation,
  both,
  either,
  Statement,
  plain,
  accept,
  reject,
  if,
  while,
  choose,
  branch,
  Rest,
  nothing,
  else,
  Statements,
  done,
  ◌then◌,
  Arms,
  last_arm,
  more_arms,
  Program,
}

-- 1 for each `&&` or `||`
unfoldable pub condition_states : Condition → ℕ
condition_states (atom p a) = 0
condition_states (parens o c) = condition_states c
condition_states (negation o c) = condition_states c
condition_states (both c d) = 1 + (condition_states c + condition_states d)
condition_states (either c d) = 1 + (condition_states c + condition_states d)

-- 1 for each plain statement, accept and reject, 3 for an if, 2 for each loop, 1 + arms for a branch
unfoldable mutual
  pub statement_states : Statement → ℕ
  statement_states (plain p e) = 1
  statement_states (accept p) = 1
  statement_states (reject p) = 1
  statement_states (if p c o b e) = 3 + (condition_states c + (statements_states b + rest_states e))
  statement_states (while p c o b) = 2 + (condition_states c + statements_states b)
  statement_states (choose p o b) = 2 + statements_states b
  statement_states (branch p o b a) = 1 + (1 + (statements_states b + arms_states a))

  pub rest_states : Rest → ℕ
  rest_states nothing = 0
  rest_states (else o b) = statements_states b

  pub statements_states : Statements → ℕ
  statements_states done = 0
  statements_states (a then b) = statement_states a + statements_states b

  pub arms_states : Arms → ℕ
  arms_states (last_arm t o b) = 1 + statements_states b
  arms_states (more_arms t o b a) = 1 + (statements_states b + arms_states a)

unfoldable pub program_states : Program → ℕ
program_states p = 1 + statements_states p.body

-- with k letters: k + 2 for each read atom, 2 for each counter atom
unfoldable pub atom_count : ℕ → Atom → ℕ
atom_count k (read_is x) = k + 2
atom_count k (read_is_not x) = k + 2
atom_count k (counter_is n) = 2
atom_count k (counter_is_not n) = 2

unfoldable pub condition_rows : ℕ → Condition → ℕ
condition_rows k (atom p a) = atom_count k a
condition_rows k (parens o c) = condition_rows k c
condition_rows k (negation o c) = condition_rows k c
condition_rows k (both c d) = condition_rows k c + condition_rows k d
condition_rows k (either c d) = condition_rows k c + condition_rows k d

-- 1 for each plain statement, 2 for an if, 1 for a while, 3 for a choose, 2 for each arm
unfoldable mutual
  pub statement_rows : ℕ → Statement → ℕ
  statement_rows k (plain p e) = 1
  statement_rows k (accept p) = 0
  statement_rows k (reject p) = 0
  statement_rows k (if p c o b e) = 2 + (condition_rows k c + (statements_rows k b + rest_rows k e))
  statement_rows k (while p c o b) = 1 + (condition_rows k c + statements_rows k b)
  statement_rows k (choose p o b) = 3 + statements_rows k b
  statement_rows k (branch p o b a) = 2 + (statements_rows k b + arms_rows k a)

  pub rest_rows : ℕ → Rest → ℕ
  rest_rows k nothing = 0
  rest_rows k (else o b) = statements_rows k b

  pub statements_rows : ℕ → Statements → ℕ
  statements_rows k done = 0
  statements_rows k (a then b) = statement_rows k a + statements_rows k b

  pub arms_rows : ℕ → Arms → ℕ
  arms_rows k (last_arm t o b) = 2 + statements_rows k b
  arms_rows k (more_arms t o b a) = 2 + (statements_rows k b + arms_rows k a)

unfoldable pub program_rows : Program → ℕ
program_rows p = statements_rows (length p.alphabet) p.body
