-- Table to program: every row of the construction is sound, and a part accepts only where an `accept` is in front.
use Prim.Native.Nat.{ℕ, ◌+◌}
use mathlib.Core.Path.{◌≡◌, sym, ◌∙◌}
use mathlib.Core.Bool.{true, false}
use mathlib.Core.List.{List, ◌∷◌}
use Rattle.table.specs.Table.{Row}
use Rattle.cells.specs.Cell.{Symbol}
use Rattle.rule.specs.Tree.{
  Condition,
  Statement,
  plain,
  accept,
  reject,
  if,
  while,
  choose,
  branch,
  Rest,
  nothing,
  else,
  Statements,
  done,
  ◌then◌,
  Arms,
  last_arm,
  more_arms,
}
use Rattle.rule.specs.Meaning.{
  holds,
  ◌before◌,
  otherwise,
  Arm,
  last_one,
  this_one,
  another,
  Continues,
  if_holds,
  if_fails,
  while_holds,
  while_fails,
  goes_round,
  leaves_loop,
  first_arm,
  other_arm,
}
use Rattle.rule.specs.Inside.Within.{ConditionWithin, StatementWithin, RestWithin, StatementsWithin, ArmsWithin}
use Rattle.construction.specs.Construction.{
  free,
  Added,
  Part,
  empty_part,
  test,
  if_part,
  loop_part,
  arm_part,
  and_then,
  statement_part,
  rest_part,
  statements_part,
  arms_part,
}
use Rattle.construction.proofs.Every.{Every, every-nil, every-cons, every_append}
use Rattle.construction.proofs.Trial.{Trial}
use Rattle.construction.proofs.Roles.{
  Role,
  leaves,
  test_roles,
  statement_roles,
  rest_roles,
  statements_roles,
  arms_roles,
  Given,
  given_first,
  given_rest,
  given_second,
  given_third,
  given_rest_two,
  given_rest_three,
}
use Rattle.construction.proofs.Sound.{Sound, plain_sound, turn_sound, same_sound, Tested, tests_sound}

-- this state's role has an `accept` in front
pub record Accepts (role : ℕ → Role) (s : ℕ) : Type 0 where
  pub place : ℕ
  pub rest : Statements
  pub leaving : role s ≡ leaves (accept place then rest)

-- a part's rows are sound, it accepts only where an `accept` is in front, its exit leaves these statements, and the states
-- after it have these roles
pub record Right (x : Trial) (role : ℕ → Role) (part : Part) (k : Statements) (more : List Role) : Type 0 where
  pub rows : Every (Sound x role) part.rows
  pub accepting : Every (Accepts role) part.accepting
  pub exit : role part.exit ≡ leaves k
  pub given : Given role part.next more

module _ {x : Trial} {role : ℕ → Role} where
  -- no rows
  empty_right :
      {s next : ℕ} {k : Statements} {more : List Role}
      → role s ≡ leaves k
      → Given role next more
      → Right x role (empty_part s next) k more
  empty_right left given = record { rows = every-nil; accepting = every-nil; exit = left; given = given }

  -- a free row from a part's exit to a state that leaves the same
  out_sound :
      {part : Part} {k : Statements} {more : List Role} (q : ℕ)
      → Right x role part k more
      → role q ≡ leaves k
      → Sound x role (free part.exit q)
  out_sound {part} q f right = same_sound x role part.exit q (f.exit ∙ sym right)

  -- an if
  if_right :
      {tests : Added} {yes_part no_part : Part} {k : Statements} {more more' more'' : List Role} (q : ℕ)
      → Tested x role tests more''
      → Right x role yes_part k more'
      → Right x role no_part k more
      → role q ≡ leaves k
      → Right x role (if_part tests yes_part no_part q) k more
  unfolding if_part
  if_right q f g h right =
      record {
        rows =
            every_append _ f.rows
            (every_append _ g.rows
            (every-cons (out_sound q g right) (every_append _ h.rows (every-cons (out_sound q h right) every-nil))));
        accepting = every_append _ g.accepting h.accepting;
        exit = right;
        given = h.given;
      }

  -- a loop
  loop_right :
      {first : List Row} {body : Part} {k rest : Statements} {more : List Role} (s q : ℕ)
      → Every (Sound x role) first
      → Right x role body k more
      → role s ≡ leaves k
      → role q ≡ leaves rest
      → Right x role (loop_part first body s q) rest more
  unfolding loop_part
  loop_right s q f g left right =
      record {
        rows = every_append _ f (every_append _ g.rows (every-cons (out_sound s g left) every-nil));
        accepting = g.accepting;
        exit = right;
        given = g.given;
      }

  -- an arm
  arm_right :
      {body : Part} {rest : Statements} {more : List Role} (s a q : ℕ)
      → Sound x role (free s a)
      → Right x role body rest more
      → role q ≡ leaves rest
      → Right x role (arm_part body s a q) rest more
  unfolding arm_part
  arm_right s a q f g right =
      record {
        rows = every-cons f (every_append _ g.rows (every-cons (out_sound q g right) every-nil));
        accepting = g.accepting;
        exit = right;
        given = g.given;
      }

  -- one part after another
  then_right :
      {a b : Part} {k rest : Statements} {more more' : List Role}
      → Right x role a k more'
      → Right x role b rest more
      → Right x role (and_then a b) rest more
  unfolding and_then
  then_right f g =
      record {
        rows = every_append _ f.rows g.rows;
        accepting = every_append _ f.accepting g.accepting;
        exit = g.exit;
        given = g.given;
      }

module _ (x : Trial) (role : ℕ → Role) where
  open x use {table as t}

  -- the tests of an if, which turns into these where its condition holds and into those where it fails
  if_tests :
      {a : Statement} {rest k k' : Statements} {more : List Role} (c : Condition) (s next : ℕ)
      → ConditionWithin t.alphabet c
      → role s ≡ leaves (a then rest)
      → Given role next (leaves rest ∷ leaves k ∷ leaves k' ∷ test_roles c (leaves (a then rest)) more)
      → ((symbol : Symbol) (counter : ℕ) → holds symbol counter c ≡ true → Continues symbol counter a rest k)
      → ((symbol : Symbol) (counter : ℕ) → holds symbol counter c ≡ false → Continues symbol counter a rest k')
      → Tested x role (test t.alphabet c s (next + 1) (next + 2) (next + 3)) more
  if_tests c s next within left given =
      tests_sound x role c s (next + 1) (next + 2) (next + 3) within left (given_second given) (given_third given)
      (given_rest_three given)

  -- the tests of a while
  while_tests :
      {a : Statement} {rest k : Statements} {more : List Role} (c : Condition) (s next : ℕ)
      → ConditionWithin t.alphabet c
      → role s ≡ leaves (a then rest)
      → Given role next (leaves rest ∷ leaves k ∷ test_roles c (leaves (a then rest)) more)
      → ((symbol : Symbol) (counter : ℕ) → holds symbol counter c ≡ true → Continues symbol counter a rest k)
      → ((symbol : Symbol) (counter : ℕ) → holds symbol counter c ≡ false → Continues symbol counter a rest rest)
      → Tested x role (test t.alphabet c s (next + 1) next (next + 2)) more
  while_tests c s next within left given =
      tests_sound x role c s (next + 1) next (next + 2) within left (given_second given) (given_first given)
      (given_rest_two given)

  mutual
    unfolding statement_part rest_part statements_part arms_part statement_roles rest_roles statements_roles arms_roles StatementWithin RestWithin StatementsWithin ArmsWithin ◌before◌ otherwise

    -- a statement's part is right, from a state that leaves it and the rest
    pub statement_right :
        (a : Statement) (s next : ℕ) (rest : Statements) (more : List Role)
        → StatementWithin t.alphabet a
        → role s ≡ leaves (a then rest)
        → Given role next (statement_roles a rest more)
        → Right x role (statement_part t.alphabet a s next) rest more
    statement_right (plain l e) s next rest more within left given =
        record {
          rows = every-cons (plain_sound x role e s next rest within left (given_first given)) every-nil;
          accepting = every-nil;
          exit = given_first given;
          given = given_rest given;
        }
    statement_right (accept l) s next rest more within left given =
        record {
          rows = every-nil;
          accepting = every-cons (record { place = l; rest = rest; leaving = left }) every-nil;
          exit = given_first given;
          given = given_rest given;
        }
    statement_right (reject l) s next rest more within left given = empty_right (given_first given) (given_rest given)
    statement_right (if l c o b e) s next rest more within left given =
        let tests = if_tests c s next within.0 left given (λ symbol counter. if_holds) (λ symbol counter. if_fails) in
        let yes_part = statements_right b (next + 1) _ rest _ within.1 (given_second given) tests.given in
        let no_part = rest_right e (next + 2) _ rest more within.2 (given_third given) yes_part.given in
        if_right next tests yes_part no_part (given_first given)
    statement_right (while l c o b) s next rest more within left given =
        let tests = while_tests c s next within.0 left given (λ symbol counter. while_holds) (λ symbol counter. while_fails) in
        let body = statements_right b (next + 1) _ _ more within.1 (given_second given) tests.given in
        loop_right s next tests.rows body left (given_first given)
    statement_right (choose l o b) s next rest more within left given =
        let round = turn_sound x role s (next + 1) left (given_second given) (λ symbol counter. goes_round) in
        let out = turn_sound x role s next left (given_first given) (λ symbol counter. leaves_loop) in
        let body = statements_right b (next + 1) (next + 2) _ more within (given_second given) (given_rest_two given) in
        loop_right s next (every-cons round (every-cons out every-nil)) body left (given_first given)
    statement_right (branch l o b a) s next rest more within left given =
        let into = turn_sound x role s (next + 1) left (given_second given) (λ symbol counter. first_arm) in
        let body = statements_right b (next + 1) (next + 2) rest _ within.0 (given_second given) (given_rest_two given) in
        let first = arm_right s (next + 1) next into body (given_first given) in
        then_right first
        (arms_right a s next _ rest more within.1 left (λ c m symbol counter. other_arm m) (given_first given) first.given)

    -- the part of an if's rest, from a state that leaves what the if goes on with where its condition fails
    rest_right :
        (e : Rest) (s next : ℕ) (k : Statements) (more : List Role)
        → RestWithin t.alphabet e
        → role s ≡ leaves (otherwise e before k)
        → Given role next (rest_roles e k more)
        → Right x role (rest_part t.alphabet e s next) k more
    rest_right nothing s next k more within left given = empty_right left given
    rest_right (else o b) s next k more within left given = statements_right b s next k more within left given

    -- a block's part, from a state that leaves it and what comes after it
    pub statements_right :
        (b : Statements) (s next : ℕ) (k : Statements) (more : List Role)
        → StatementsWithin t.alphabet b
        → role s ≡ leaves (b before k)
        → Given role next (statements_roles b k more)
        → Right x role (statements_part t.alphabet b s next) k more
    statements_right done s next k more within left given = empty_right left given
    statements_right (a then b) s next k more within left given =
        let first = statement_right a s next (b before k) _ within.0 left given in
        then_right first (statements_right b _ _ k more within.1 first.exit first.given)

    -- arms, from a state that leaves a statement which may turn into each of them
    pub arms_right :
        (a : Arms) (s q next : ℕ) (rest : Statements) (more : List Role) {whole : Statement}
        → ArmsWithin t.alphabet a
        → role s ≡ leaves (whole then rest)
        → ((b : Statements) → Arm b a → (symbol : Symbol) (counter : ℕ) → Continues symbol counter whole rest (b before rest))
        → role q ≡ leaves rest
        → Given role next (arms_roles a rest more)
        → Right x role (arms_part t.alphabet a s q next) rest more
    arms_right (last_arm o o' b) s q next rest more within left enter right given =
        let into = turn_sound x role s next left (given_first given) (enter b last_one) in
        let body = statements_right b next (next + 1) rest more within (given_first given) (given_rest given) in
        arm_right s next q into body right
    arms_right (more_arms o o' b a) s q next rest more within left enter right given =
        let into = turn_sound x role s next left (given_first given) (enter b this_one) in
        let body = statements_right b next (next + 1) rest _ within.0 (given_first given) (given_rest given) in
        let first = arm_right s next q into body right in
        then_right first (arms_right a s q _ rest more within.1 left (λ c m. enter c (another m)) right first.given)
