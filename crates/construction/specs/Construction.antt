-- The construction: from a program to its table. States are numbered as taken, and rows stand in the order added.
-- `next` is the next state to be taken; a statement starts at state `p`, and its exit is where the next one starts.
use Rattle.std.specs.Prelude.{ℕ, zero, suc, ◌+◌, ◌-◌, Bool, true, false, not, List, [], ◌∷◌, ◌++◌, length, replicate, eqb}
use Rattle.bits.specs.Bit.{with_bit}
use Rattle.table.specs.Form.{left_mark, right_mark, any_symbol, zero_counter, above_zero, either_counter, to_left, no_move, to_right, no_change, accepting_bytes}
use Rattle.table.specs.Table.{Row, Table}
use Rattle.rule.specs.Tree.{
  SymbolName,
  letter,
  lend,
  rend,
  Atom,
  read_is,
  read_is_not,
  counter_is,
  counter_is_not,
  Condition,
  atom,
  parens,
  negation,
  both,
  either,
  Plain,
  move_by,
  move_back,
  goto_lend,
  goto_rend,
  increment,
  decrement,
  add,
  subtract,
  Statement,
  plain,
  accept,
  reject,
  if,
  while,
  choose,
  branch,
  Rest,
  nothing,
  else,
  Statements,
  done,
  ◌then◌,
  Arms,
  last_arm,
  more_arms,
  Program,
  letter_bytes,
}
use Rattle.rule.specs.Limits.{value}

-- a row that only tests, and one that is free
abbrev pub test_row : ℕ → ℕ → ℕ → ℕ → Row
test_row symbol test p q =
    record { from = p; symbol = symbol; test = test; move = no_move; change = no_change; to = q }

abbrev pub free : ℕ → ℕ → Row
free p q = test_row any_symbol either_counter p q

-- a plain statement's row
unfoldable pub move_code : Plain → ℕ
move_code (move_by n) = no_move + value n
move_code (move_back n) = no_move - value n
move_code goto_lend = to_left
move_code goto_rend = to_right
move_code increment = no_move
move_code decrement = no_move
move_code (add n) = no_move
move_code (subtract n) = no_move

unfoldable pub change_code : Plain → ℕ
change_code (move_by n) = no_change
change_code (move_back n) = no_change
change_code goto_lend = no_change
change_code goto_rend = no_change
change_code increment = no_change + 1
change_code decrement = no_change - 1
change_code (add n) = no_change + value n
change_code (subtract n) = no_change - value n

abbrev pub plain_row : Plain → ℕ → ℕ → Row
plain_row e p q =
    record { from = p; symbol = any_symbol; test = either_counter; move = move_code e; change = change_code e; to = q }

-- a letter's index in the alphabet
unfoldable pub index_in : List ℕ → ℕ → ℕ
index_in [] b = 0
index_in (x ∷ xs) b = elim (eqb b x) [ true ↦ 0 | false ↦ suc (index_in xs b) ]

unfoldable pub symbol_code : List ℕ → SymbolName → ℕ
symbol_code alphabet (letter l) = index_in alphabet l.byte
symbol_code alphabet lend = left_mark
symbol_code alphabet rend = right_mark

-- n, n + 1, .. : as many as asked
unfoldable pub count_up : ℕ → ℕ → List ℕ
count_up n zero = []
count_up n (suc many) = n ∷ count_up (suc n) many

-- every symbol: letters in the setting's order, then left mark, right mark
abbrev pub all_symbols : List ℕ → List ℕ
all_symbols alphabet = count_up 0 (length alphabet) ++ (left_mark ∷ right_mark ∷ [])

unfoldable pub without : ℕ → List ℕ → List ℕ
without x [] = []
without x (y ∷ ys) = elim (eqb y x) [ true ↦ without x ys | false ↦ y ∷ without x ys ]

unfoldable pub symbol_rows : List ℕ → ℕ → ℕ → List Row
symbol_rows [] p q = []
symbol_rows (x ∷ xs) p q = test_row x either_counter p q ∷ symbol_rows xs p q

-- `==` one row, `!=` one row for each other symbol
abbrev pub is_rows : List ℕ → SymbolName → ℕ → ℕ → List Row
is_rows alphabet x p q = symbol_rows (symbol_code alphabet x ∷ []) p q

abbrev pub is_not_rows : List ℕ → SymbolName → ℕ → ℕ → List Row
is_not_rows alphabet x p q = symbol_rows (without (symbol_code alphabet x) (all_symbols alphabet)) p q

-- an atom with its sign
unfoldable pub atom_rows : List ℕ → Bool → Atom → ℕ → ℕ → List Row
atom_rows alphabet true (read_is x) p q = is_rows alphabet x p q
atom_rows alphabet false (read_is x) p q = is_not_rows alphabet x p q
atom_rows alphabet true (read_is_not x) p q = is_not_rows alphabet x p q
atom_rows alphabet false (read_is_not x) p q = is_rows alphabet x p q
atom_rows alphabet true (counter_is n) p q = test_row any_symbol zero_counter p q ∷ []
atom_rows alphabet false (counter_is n) p q = test_row any_symbol above_zero p q ∷ []
atom_rows alphabet true (counter_is_not n) p q = test_row any_symbol above_zero p q ∷ []
atom_rows alphabet false (counter_is_not n) p q = test_row any_symbol zero_counter p q ∷ []

-- what a condition adds
pub record Added : Type 0 where
  pub rows : List Row
  pub next : ℕ

-- from p to q, with this next state to be taken
abbrev pub Walk : Type 0
Walk = ℕ → ℕ → ℕ → Added

-- `a && b`: take m, rows of a from p to m, rows of b from m to q
unfoldable pub one_after_other : Walk → Walk → Walk
one_after_other a b p q next =
    let first : Added = a p next (next + 1) in
    let second : Added = b next q first.next in
    record { rows = first.rows ++ second.rows; next = second.next }

-- `a || b`: rows of a, then of b, both from p to q
unfoldable pub one_or_other : Walk → Walk → Walk
one_or_other a b p q next =
    let first : Added = a p q next in
    let second : Added = b p q first.next in
    record { rows = first.rows ++ second.rows; next = second.next }

-- a condition is walked together with its sign, so a negation turns both operators and all atoms beneath it
unfoldable pub walk : List ℕ → Condition → Bool → Walk
walk alphabet (atom t a) sign = λ p q next. record { rows = atom_rows alphabet sign a p q; next = next }
walk alphabet (parens o c) sign = walk alphabet c sign
walk alphabet (negation o c) sign = walk alphabet c (not sign)
walk alphabet (both c d) true = one_after_other (walk alphabet c true) (walk alphabet d true)
walk alphabet (both c d) false = one_or_other (walk alphabet c false) (walk alphabet d false)
walk alphabet (either c d) true = one_or_other (walk alphabet c true) (walk alphabet d true)
walk alphabet (either c d) false = one_after_other (walk alphabet c false) (walk alphabet d false)

-- what statements add: rows, accepting states, where they exit, and the next state to be taken
pub record Part : Type 0 where
  pub rows : List Row
  pub accepting : List ℕ
  pub exit : ℕ
  pub next : ℕ

-- no statement: it exits where it starts
abbrev pub empty_part : ℕ → ℕ → Part
empty_part p next = record { rows = []; accepting = []; exit = p; next = next }

-- rows of the condition from p to x, rows of its negation from p to y
unfoldable pub test : List ℕ → Condition → ℕ → ℕ → ℕ → ℕ → Added
test alphabet c p x y next =
    let holding : Added = walk alphabet c true p x next in
    let failing : Added = walk alphabet c false p y holding.next in
    record { rows = holding.rows ++ failing.rows; next = failing.next }

-- if: take q, x, y; the tests; the then-block from x, a free row from its exit to q; the else-block from y, a free row to q
unfoldable pub if_part : Added → Part → Part → ℕ → Part
if_part tests yes_part no_part q =
    record {
      rows =
          tests.rows
          ++ (yes_part.rows
          ++ (free yes_part.exit q ∷ (no_part.rows ++ (free no_part.exit q ∷ []))));
      accepting = yes_part.accepting ++ no_part.accepting;
      exit = q;
      next = no_part.next;
    }

-- a loop: its first rows, the block, a free row from its exit back to p
unfoldable pub loop_part : List Row → Part → ℕ → ℕ → Part
loop_part first body p q =
    record {
      rows = first ++ (body.rows ++ (free body.exit p ∷ []));
      accepting = body.accepting;
      exit = q;
      next = body.next;
    }

-- an arm: a free row from p to a, the arm from a, a free row to q
unfoldable pub arm_part : Part → ℕ → ℕ → ℕ → Part
arm_part body p a q =
    record {
      rows = free p a ∷ (body.rows ++ (free body.exit q ∷ []));
      accepting = body.accepting;
      exit = q;
      next = body.next;
    }

-- one part, and then another
unfoldable pub and_then : Part → Part → Part
and_then a b =
    record {
      rows = a.rows ++ b.rows;
      accepting = a.accepting ++ b.accepting;
      exit = b.exit;
      next = b.next;
    }

unfoldable mutual
  pub statement_part : List ℕ → Statement → ℕ → ℕ → Part
  statement_part alphabet (plain t e) p next =
      record { rows = plain_row e p next ∷ []; accepting = []; exit = next; next = next + 1 }
  statement_part alphabet (accept t) p next = record { rows = []; accepting = p ∷ []; exit = next; next = next + 1 }
  statement_part alphabet (reject t) p next = record { rows = []; accepting = []; exit = next; next = next + 1 }
  statement_part alphabet (if t c o b e) p next =
      let tests : Added = test alphabet c p (next + 1) (next + 2) (next + 3) in
      let yes_part : Part = statements_part alphabet b (next + 1) tests.next in
      if_part tests yes_part (rest_part alphabet e (next + 2) yes_part.next) next
  statement_part alphabet (while t c o b) p next =
      let tests : Added = test alphabet c p (next + 1) next (next + 2) in
      loop_part tests.rows (statements_part alphabet b (next + 1) tests.next) p next
  statement_part alphabet (choose t o b) p next =
      loop_part
      (free p (next + 1) ∷ free p next ∷ [])
      (statements_part alphabet b (next + 1) (next + 2))
      p
      next
  statement_part alphabet (branch t o b a) p next =
      let first : Part = arm_part (statements_part alphabet b (next + 1) (next + 2)) p (next + 1) next in
      and_then first (arms_part alphabet a p next first.next)

  -- the else-block, empty if absent
  pub rest_part : List ℕ → Rest → ℕ → ℕ → Part
  rest_part alphabet nothing p next = empty_part p next
  rest_part alphabet (else o b) p next = statements_part alphabet b p next

  pub statements_part : List ℕ → Statements → ℕ → ℕ → Part
  statements_part alphabet done p next = empty_part p next
  statements_part alphabet (a then b) p next =
      let first : Part = statement_part alphabet a p next in
      and_then first (statements_part alphabet b first.exit first.next)

  pub arms_part : List ℕ → Arms → ℕ → ℕ → ℕ → Part
  arms_part alphabet (last_arm t o b) p q next = arm_part (statements_part alphabet b next (next + 1)) p next q
  arms_part alphabet (more_arms t o b a) p q next =
      let first : Part = arm_part (statements_part alphabet b next (next + 1)) p next q in
      and_then first (arms_part alphabet a p q first.next)

-- bytes with the bit of each of these states set
unfoldable pub with_bits : List ℕ → List ℕ → List ℕ
with_bits bytes [] = bytes
with_bits bytes (s ∷ ss) = with_bits (with_bit bytes s) ss

-- state 0 is the start
unfoldable pub program_part : Program → Part
program_part p = statements_part (letter_bytes p.alphabet) p.body 0 1

unfoldable pub construct : Program → Table
construct p =
    record {
      alphabet = letter_bytes p.alphabet;
      decr_on_zero = p.decr_on_zero;
      states = (program_part p).next;
      accepting = with_bits (replicate accepting_bytes 0) (program_part p).accepting;
      rows = (program_part p).rows;
    }
