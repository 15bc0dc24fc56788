-- The roles of states: what a program has left to run where its table is in that state. States are numbered as taken,
-- so the roles stand in a list, in the order of the construction.
use Prim.Native.Nat.{ℕ, suc, ◌+◌}
use native.Mathlib.Numerals.{add-one, add-two, add-three}
use mathlib.Core.Path.{◌≡◌, refl}
use mathlib.Core.Bool.{Bool, true, false, not}
use mathlib.Core.List.{List, [], ◌∷◌}
use lib.ListN.{get_or}
use Rattle.rule.specs.Tree.{
  Condition,
  atom,
  parens,
  negation,
  both,
  either,
  Statement,
  plain,
  accept,
  reject,
  if,
  while,
  choose,
  branch,
  Rest,
  nothing,
  else,
  Statements,
  done,
  ◌then◌,
  Arms,
  last_arm,
  more_arms,
  Program,
}
use Rattle.rule.specs.Meaning.{◌before◌, otherwise}

-- these statements are left to run; or as before, and a condition is known to have this truth value
pub data Role : Type 0 where
  leaves : Statements → Role
  knows : Role → Condition → Bool → Role

-- the roles of the states that a condition's walk takes, from a state with this role; and then more
unfoldable pub walk_roles : Condition → Bool → Role → List Role → List Role
walk_roles (atom t a) sign m more = more
walk_roles (parens o c) sign m more = walk_roles c sign m more
walk_roles (negation o c) sign m more = walk_roles c (not sign) m more
walk_roles (both c d) true m more = knows m c true ∷ walk_roles c true m (walk_roles d true (knows m c true) more)
walk_roles (both c d) false m more = walk_roles c false m (walk_roles d false m more)
walk_roles (either c d) true m more = walk_roles c true m (walk_roles d true m more)
walk_roles (either c d) false m more = knows m c false ∷ walk_roles c false m (walk_roles d false (knows m c false) more)

-- and both tests of a condition, where it holds and where it fails
unfoldable pub test_roles : Condition → Role → List Role → List Role
test_roles c m more = walk_roles c true m (walk_roles c false m more)

-- those that statements take, with these statements after them
unfoldable mutual
  pub statement_roles : Statement → Statements → List Role → List Role
  statement_roles (plain t e) rest more = leaves rest ∷ more
  statement_roles (accept t) rest more = leaves rest ∷ more
  statement_roles (reject t) rest more = leaves rest ∷ more
  statement_roles (if t c o b e) rest more =
      leaves rest
      ∷ leaves (b before rest)
      ∷ leaves (otherwise e before rest)
      ∷ test_roles c (leaves (if t c o b e then rest)) (statements_roles b rest (rest_roles e rest more))
  statement_roles (while t c o b) rest more =
      leaves rest
      ∷ leaves (b before (while t c o b then rest))
      ∷ test_roles c (leaves (while t c o b then rest)) (statements_roles b (while t c o b then rest) more)
  statement_roles (choose t o b) rest more =
      leaves rest ∷ leaves (b before (choose t o b then rest)) ∷ statements_roles b (choose t o b then rest) more
  statement_roles (branch t o b a) rest more =
      leaves rest ∷ leaves (b before rest) ∷ statements_roles b rest (arms_roles a rest more)

  pub rest_roles : Rest → Statements → List Role → List Role
  rest_roles nothing rest more = more
  rest_roles (else o b) rest more = statements_roles b rest more

  pub statements_roles : Statements → Statements → List Role → List Role
  statements_roles done rest more = more
  statements_roles (a then b) rest more = statement_roles a (b before rest) (statements_roles b rest more)

  pub arms_roles : Arms → Statements → List Role → List Role
  arms_roles (last_arm t o b) rest more = leaves (b before rest) ∷ statements_roles b rest more
  arms_roles (more_arms t o b a) rest more = leaves (b before rest) ∷ statements_roles b rest (arms_roles a rest more)

-- the states from n on have these roles
pub data Given (role : ℕ → Role) : ℕ → List Role → Type 0 where
  none : {n : ℕ} → Given role n []
  one : {n : ℕ} {m : Role} {ms : List Role} → role n ≡ m → Given role (suc n) ms → Given role n (m ∷ ms)

module _ {role : ℕ → Role} {n : ℕ} where
  -- the first of them, and those behind it
  pub given_first : {m : Role} {ms : List Role} → Given role n (m ∷ ms) → role n ≡ m
  given_first (one e g) = e

  pub given_rest : {m : Role} {ms : List Role} → Given role n (m ∷ ms) → Given role (n + 1) ms
  given_rest (one e g) = rw add-one g

  -- the second, the third, and those behind, with numerals as the construction writes them
  pub given_second : {a b : Role} {ms : List Role} → Given role n (a ∷ b ∷ ms) → role (n + 1) ≡ b
  given_second (one e (one f g)) = rw add-one f

  pub given_third : {a b c : Role} {ms : List Role} → Given role n (a ∷ b ∷ c ∷ ms) → role (n + 2) ≡ c
  given_third (one e (one f (one h g))) = rw add-two h

  pub given_rest_two : {a b : Role} {ms : List Role} → Given role n (a ∷ b ∷ ms) → Given role (n + 2) ms
  given_rest_two (one e (one f g)) = rw add-two g

  pub given_rest_three : {a b c : Role} {ms : List Role} → Given role n (a ∷ b ∷ c ∷ ms) → Given role (n + 3) ms
  given_rest_three (one e (one f (one h g))) = rw add-three g

-- roles from one state further on
given_shift : (role : ℕ → Role) {n : ℕ} {ms : List Role} → Given (λ s. role (suc s)) n ms → Given role (suc n) ms
given_shift role none = none
given_shift role (one e g) = one e (given_shift role g)

-- a list gives the states from 0 on its roles
pub given_all : (ms : List Role) (other : Role) → Given (λ s. get_or ms s other) 0 ms
given_all [] other = none
given_all (m ∷ ms) other = one refl (given_shift (λ s. get_or (m ∷ ms) s other) (given_all ms other))

-- the role of each state of a program's table
unfoldable pub program_roles : Program → List Role
program_roles p = leaves (p.body before done) ∷ statements_roles p.body done []

-- any other state is none of the table's
unfoldable pub role_of : Program → ℕ → Role
role_of p s = get_or (program_roles p) s (leaves done)

-- it is the one that the list gives
pub role_given : (p : Program) → Given (role_of p) 0 (program_roles p)
unfolding role_of
role_given p = given_all (program_roles p) (leaves done)
