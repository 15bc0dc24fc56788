-- Every row of the construction has codes within their ranges, and leads to a state that is taken.
use Prim.Native.Nat.{ℕ, ◌+◌, ◌≤◌, ◌<◌}
use native.Mathlib.Omega.{arith}
use mathlib.Core.Path.{refl}
use mathlib.Core.Logic.{inl, inr}
use mathlib.Core.Bool.{Bool, true, false, not}
use mathlib.Core.List.Memᴰ
use mathlib.Core.List.{List, [], ◌∷◌}
use lib.ListN.{length}
use Rattle.table.specs.Table.{Row}
use Rattle.table.specs.WellFormed.{SymbolCode}
use Rattle.rule.specs.Tree.{
  SymbolName,
  Atom,
  read_is,
  read_is_not,
  counter_is,
  counter_is_not,
  Condition,
  atom,
  parens,
  negation,
  both,
  either,
  Plain,
  move_by,
  move_back,
  goto_lend,
  goto_rend,
  increment,
  decrement,
  add,
  subtract,
  Statement,
  plain,
  accept,
  reject,
  if,
  while,
  choose,
  branch,
  Rest,
  nothing,
  else,
  Statements,
  done,
  ◌then◌,
  Arms,
  last_arm,
  more_arms,
}
use Rattle.rule.specs.Inside.Within.{SoughtWithin, AtomWithin, ConditionWithin, PlainWithin, StatementWithin, RestWithin, StatementsWithin, ArmsWithin}
use Rattle.table.specs.Form.{any_symbol, either_counter, to_right, most_change}
use Rattle.construction.specs.Construction.{
  test_row,
  free,
  move_code,
  change_code,
  plain_row,
  symbol_code,
  count_up,
  all_symbols,
  symbol_rows,
  is_rows,
  is_not_rows,
  atom_rows,
  one_after_other,
  one_or_other,
  walk,
  test,
  if_part,
  loop_part,
  arm_part,
  and_then,
  statement_part,
  rest_part,
  statements_part,
  arms_part,
}
use Rattle.construction.proofs.Symbols.{count_up-mem, without-mem, code_mem}
use Rattle.construction.proofs.Counts.{test_next, rest_next, statements_next, arms_next}
use Rattle.construction.proofs.Every.{Every, every-nil, every-cons, every_append}
use Rattle.construction.proofs.Own.{own_below}
use Rattle.construction.proofs.Parts.{leads_walk, statement_lone}

-- with k letters
pub record CodesIn (k : ℕ) (r : Row) : Type 0 where
  pub symbol : SymbolCode k r.symbol
  pub test : r.test ≤ either_counter
  pub move : r.move ≤ to_right
  pub change : r.change ≤ most_change

-- and leading to a state below a limit
pub record Fine (k limit : ℕ) (r : Row) : Type 0 where
  pub codes : CodesIn k r
  pub to : r.to < limit

-- a row that only tests
test_codes : {k symbol test p q : ℕ} → SymbolCode k symbol → test ≤ either_counter → CodesIn k (test_row symbol test p q)
test_codes s t = record { symbol = s; test = t; move = omega arith; change = omega arith }

any_codes : {k test p q : ℕ} → test ≤ either_counter → CodesIn k (test_row any_symbol test p q)
any_codes t = test_codes (inr (omega arith)) t

plain_codes : {k p q : ℕ} (e : Plain) → PlainWithin e → CodesIn k (plain_row e p q)
unfolding PlainWithin move_code change_code
plain_codes e within = record { symbol = inr (omega arith); test = omega arith; move = moves e within; change = changes e within }
  where
    moves : (e : Plain) → PlainWithin e → move_code e ≤ to_right
    moves (move_by n) h = omega arith
    moves (move_back n) h = omega arith
    moves goto_lend h = omega arith
    moves goto_rend h = omega arith
    moves increment h = omega arith
    moves decrement h = omega arith
    moves (add n) h = omega arith
    moves (subtract n) h = omega arith

    changes : (e : Plain) → PlainWithin e → change_code e ≤ most_change
    changes (move_by n) h = omega arith
    changes (move_back n) h = omega arith
    changes goto_lend h = omega arith
    changes goto_rend h = omega arith
    changes increment h = omega arith
    changes decrement h = omega arith
    changes (add n) h = omega arith
    changes (subtract n) h = omega arith

module _ (alphabet : List ℕ) where
  -- each of the symbols has its code
  all_codes : Every (SymbolCode (length alphabet)) (all_symbols alphabet)
  unfolding count_up
  all_codes =
      every_append (count_up 0 (length alphabet))
      (record { at = λ x m. inl (omega (arith, count_up-mem (length alphabet) 0 x m)) })
      (every-cons (inr (omega arith)) (every-cons (inr (omega arith)) every-nil))

  symbol_rows_lem :
      (xs : List ℕ) (p q : ℕ)
      → Every (SymbolCode (length alphabet)) xs
      → Every (CodesIn (length alphabet)) (symbol_rows xs p q)
  unfolding symbol_rows
  symbol_rows_lem [] p q f = every-nil
  symbol_rows_lem (x ∷ xs) p q f =
      every-cons
      (test_codes (f.at x (Memᴰ.head refl)) (omega arith))
      (symbol_rows_lem xs p q (record { at = λ y m. f.at y (Memᴰ.tail m) }))

  is_rows_lem : (x : SymbolName) (p q : ℕ) → SoughtWithin alphabet x → Every (CodesIn (length alphabet)) (is_rows alphabet x p q)
  is_rows_lem x p q within =
      symbol_rows_lem _ p q (every-cons (all_codes.at _ (code_mem alphabet x within)) every-nil)

  is_not_rows_lem : (x : SymbolName) (p q : ℕ) → Every (CodesIn (length alphabet)) (is_not_rows alphabet x p q)
  is_not_rows_lem x p q =
      symbol_rows_lem _ p q (record { at = λ y m. all_codes.at y (without-mem (symbol_code alphabet x) y (all_symbols alphabet) m).1 })

  counter_rows_lem : {n p q : ℕ} → n ≤ either_counter → Every (CodesIn (length alphabet)) (test_row any_symbol n p q ∷ [])
  counter_rows_lem h = every-cons (any_codes h) every-nil

  atom_codes :
      (a : Atom) (sign : Bool) (p q : ℕ)
      → AtomWithin alphabet a
      → Every (CodesIn (length alphabet)) (atom_rows alphabet sign a p q)
  unfolding atom_rows AtomWithin
  atom_codes (read_is x) true p q within = is_rows_lem x p q within
  atom_codes (read_is x) false p q within = is_not_rows_lem x p q
  atom_codes (read_is_not x) true p q within = is_not_rows_lem x p q
  atom_codes (read_is_not x) false p q within = is_rows_lem x p q within
  atom_codes (counter_is n) true p q within = counter_rows_lem (omega arith)
  atom_codes (counter_is n) false p q within = counter_rows_lem (omega arith)
  atom_codes (counter_is_not n) true p q within = counter_rows_lem (omega arith)
  atom_codes (counter_is_not n) false p q within = counter_rows_lem (omega arith)

  -- a condition's rows have what its atoms' rows have
  pub walk-every :
      (P : Row → Type 0)
      → ((a : Atom) (sign : Bool) (p q : ℕ) → AtomWithin alphabet a → Every P (atom_rows alphabet sign a p q))
      → (c : Condition) (sign : Bool) (p q next : ℕ)
      → ConditionWithin alphabet c
      → Every P (walk alphabet c sign p q next).rows
  unfolding walk one_after_other one_or_other ConditionWithin
  walk-every P f (atom t a) sign p q next within = f a sign p q within
  walk-every P f (parens o c) sign p q next within = walk-every P f c sign p q next within
  walk-every P f (negation o c) sign p q next within = walk-every P f c (not sign) p q next within
  walk-every P f (both c d) true p q next within =
      every_append _ (walk-every P f c true p next (next + 1) within.0) (walk-every P f d true next q _ within.1)
  walk-every P f (both c d) false p q next within =
      every_append _ (walk-every P f c false p q next within.0) (walk-every P f d false p q _ within.1)
  walk-every P f (either c d) true p q next within =
      every_append _ (walk-every P f c true p q next within.0) (walk-every P f d true p q _ within.1)
  walk-every P f (either c d) false p q next within =
      every_append _ (walk-every P f c false p next (next + 1) within.0) (walk-every P f d false next q _ within.1)

  -- so every row of every part is fine
  module _ (limit : ℕ) where
    free_fine : {p q : ℕ} → q < limit → Fine (length alphabet) limit (free p q)
    free_fine h = record { codes = any_codes (omega arith); to = h }

    walk_fine :
        (c : Condition) (sign : Bool) (p q next : ℕ)
        → ConditionWithin alphabet c
        → q < limit
        → (walk alphabet c sign p q next).next ≤ limit
        → Every (Fine (length alphabet) limit) (walk alphabet c sign p q next).rows
    walk_fine c sign p q next within h k =
        record {
          at =
              λ r m.
              record {
                codes = (walk-every (CodesIn (length alphabet)) atom_codes c sign p q next within).at r m;
                to = own_below ((leads_walk alphabet c sign p q next).to.at r m) h k;
              };
        }

    test_fine :
        (c : Condition) (p x y next : ℕ)
        → ConditionWithin alphabet c
        → x < limit
        → y < limit
        → (test alphabet c p x y next).next ≤ limit
        → Every (Fine (length alphabet) limit) (test alphabet c p x y next).rows
    unfolding test
    test_fine c p x y next within h i k =
        let holding = walk alphabet c true p x next in
        let more = (leads_walk alphabet c false p y holding.next).grows in
        every_append holding.rows
        (walk_fine c true p x next within h (omega arith))
        (walk_fine c false p y holding.next within i k)

    mutual
      unfolding statement_part rest_part statements_part arms_part if_part loop_part arm_part and_then StatementWithin RestWithin StatementsWithin ArmsWithin

      -- those of a statement
      pub statement_fine :
          (s : Statement) (p next : ℕ)
          → StatementWithin alphabet s
          → p < next
          → (statement_part alphabet s p next).next ≤ limit
          → Every (Fine (length alphabet) limit) (statement_part alphabet s p next).rows
      statement_fine (plain t e) p next within h k = every-cons (record { codes = plain_codes e within; to = omega arith }) every-nil
      statement_fine (accept t) p next within h k = every-nil
      statement_fine (reject t) p next within h k = every-nil
      statement_fine (if t c o b e) p next within h k =
          let tests = test alphabet c p (next + 1) (next + 2) (next + 3) in
          let yes_part = statements_part alphabet b (next + 1) tests.next in
          let l = test_next alphabet c p (next + 1) (next + 2) (next + 3) in
          let m = statements_next b alphabet (next + 1) tests.next in
          let n = rest_next e alphabet (next + 2) yes_part.next in
          every_append tests.rows
          (test_fine c p (next + 1) (next + 2) (next + 3) within.0 (omega arith) (omega arith) (omega arith))
          (every_append yes_part.rows
          (statements_fine b (next + 1) tests.next within.1 (omega arith) (omega arith))
          (every-cons (free_fine (omega arith))
          (every_append _
          (rest_fine e (next + 2) yes_part.next within.2 (omega arith) k)
          (every-cons (free_fine (omega arith)) every-nil))))
      statement_fine (while t c o b) p next within h k =
          let tests = test alphabet c p (next + 1) next (next + 2) in
          let m = test_next alphabet c p (next + 1) next (next + 2) in
          let n = statements_next b alphabet (next + 1) tests.next in
          every_append tests.rows
          (test_fine c p (next + 1) next (next + 2) within.0 (omega arith) (omega arith) (omega arith))
          (every_append _
          (statements_fine b (next + 1) tests.next within.1 (omega arith) k)
          (every-cons (free_fine (omega arith)) every-nil))
      statement_fine (choose t o b) p next within h k =
          let n = statements_next b alphabet (next + 1) (next + 2) in
          every-cons (free_fine (omega arith))
          (every-cons (free_fine (omega arith))
          (every_append _
          (statements_fine b (next + 1) (next + 2) within (omega arith) k)
          (every-cons (free_fine (omega arith)) every-nil)))
      statement_fine (branch t o b a) p next within h k =
          let first = statements_part alphabet b (next + 1) (next + 2) in
          let m = statements_next b alphabet (next + 1) (next + 2) in
          let n = arms_next a alphabet p next first.next in
          every-cons (free_fine (omega arith))
          (every_append _
          (every_append first.rows
          (statements_fine b (next + 1) (next + 2) within.0 (omega arith) (omega arith))
          (every-cons (free_fine (omega arith)) every-nil))
          (arms_fine a p next first.next within.1 (omega arith) (omega arith) k))

      -- those of the rest of an if
      rest_fine :
          (e : Rest) (p next : ℕ)
          → RestWithin alphabet e
          → p < next
          → (rest_part alphabet e p next).next ≤ limit
          → Every (Fine (length alphabet) limit) (rest_part alphabet e p next).rows
      rest_fine nothing p next within h k = every-nil
      rest_fine (else o b) p next within h k = statements_fine b p next within h k

      -- those of a block's statements
      pub statements_fine :
          (b : Statements) (p next : ℕ)
          → StatementsWithin alphabet b
          → p < next
          → (statements_part alphabet b p next).next ≤ limit
          → Every (Fine (length alphabet) limit) (statements_part alphabet b p next).rows
      statements_fine done p next within h k = every-nil
      statements_fine (a then b) p next within h k =
          let first = statement_lone alphabet a p next h in
          let m = first.grows in
          let e = first.exit in
          let n = statements_next b alphabet (statement_part alphabet a p next).exit (statement_part alphabet a p next).next in
          every_append (statement_part alphabet a p next).rows
          (statement_fine a p next within.0 h (omega arith))
          (statements_fine b _ _ within.1 (omega arith) k)

      -- those of arms
      pub arms_fine :
          (a : Arms) (p q next : ℕ)
          → ArmsWithin alphabet a
          → p < next
          → q < next
          → (arms_part alphabet a p q next).next ≤ limit
          → Every (Fine (length alphabet) limit) (arms_part alphabet a p q next).rows
      arms_fine (last_arm t o b) p q next within h i k =
          let n = statements_next b alphabet next (next + 1) in
          every-cons (free_fine (omega arith))
          (every_append _
          (statements_fine b next (next + 1) within (omega arith) k)
          (every-cons (free_fine (omega arith)) every-nil))
      arms_fine (more_arms t o b a) p q next within h i k =
          let first = statements_part alphabet b next (next + 1) in
          let m = statements_next b alphabet next (next + 1) in
          let n = arms_next a alphabet p q first.next in
          every-cons (free_fine (omega arith))
          (every_append _
          (every_append first.rows
          (statements_fine b next (next + 1) within.0 (omega arith) (omega arith))
          (every-cons (free_fine (omega arith)) every-nil))
          (arms_fine a p q first.next within.1 (omega arith) (omega arith) k))
