-- A table that has the rows of a part, and what its states then stand for: the statements left to run from there.
use Prim.Native.Nat.{ℕ}
use mathlib.Core.Path.{◌≡◌, refl}
use mathlib.Core.List.Memᴰ
use mathlib.Core.List.{
  List,
  ◌∷◌,
  ◌++◌,
  Memᴰ,
}
use Rattle.table.specs.Table.{Row, Table, Accepting}
use Rattle.rule.specs.Tree.{
  Statement,
  plain,
  accept,
  reject,
  if,
  while,
  choose,
  branch,
  Rest,
  nothing,
  else,
  Statements,
  done,
  ◌then◌,
  Arms,
  last_arm,
  more_arms,
}
use Rattle.rule.specs.Meaning.{◌before◌, otherwise}
use Rattle.rule.specs.Inside.Within.{StatementWithin, RestWithin, StatementsWithin}
use Rattle.construction.specs.Construction.{
  free,
  Added,
  Part,
  if_part,
  loop_part,
  arm_part,
  and_then,
  statement_part,
  rest_part,
  statements_part,
  arms_part,
}
use Rattle.construction.proofs.Every.{Every}

module _ {A : Type 0} {P : A → Type 0} where
  -- a property of every element of two lists together, for the first
  pub every_left : (xs ys : List A) → Every P (xs ++ ys) → Every P xs
  every_left xs ys f = record { at = λ x m. f.at x (Memᴰ.append_left ys m) }

  -- for the second
  pub every_right : (xs ys : List A) → Every P (xs ++ ys) → Every P ys
  every_right xs ys f = record { at = λ x m. f.at x (Memᴰ.append_right xs m) }

  -- for the first element
  pub every_head : {x : A} {xs : List A} → Every P (x ∷ xs) → P x
  every_head {x} f = f.at x (Memᴰ.head refl)

  -- for the other elements
  pub every_tail : {x : A} {xs : List A} → Every P (x ∷ xs) → Every P xs
  every_tail f = record { at = λ x m. f.at x (Memᴰ.tail m) }

-- a row is one of the table's
abbrev pub IsRow : Table → Row → Type 0
IsRow t r = Memᴰ r t.rows

-- the table has a part's rows, and accepts where the part does
pub record Has (t : Table) (part : Part) : Type 0 where
  pub rows : Every (IsRow t) part.rows
  pub accepting : Every (Accepting t) part.accepting

-- it has the parts of an if
pub record HasIf (t : Table) (tests : Added) (yes_part no_part : Part) (q : ℕ) : Type 0 where
  pub testing : Every (IsRow t) tests.rows
  pub yes_has : Has t yes_part
  pub yes_free : IsRow t (free yes_part.exit q)
  pub no_has : Has t no_part
  pub no_free : IsRow t (free no_part.exit q)

-- it has the parts of a loop
pub record HasLoop (t : Table) (first : List Row) (body : Part) (p : ℕ) : Type 0 where
  pub starting : Every (IsRow t) first
  pub body_has : Has t body
  pub back : IsRow t (free body.exit p)

-- it has the parts of an arm
pub record HasArm (t : Table) (body : Part) (p a q : ℕ) : Type 0 where
  pub into : IsRow t (free p a)
  pub body_has : Has t body
  pub out : IsRow t (free body.exit q)

module _ {t : Table} where
  -- with an if, it has its parts
  pub has_if :
      {tests : Added} {yes_part no_part : Part} {q : ℕ} → Has t (if_part tests yes_part no_part q) → HasIf t tests yes_part no_part q
  unfolding if_part
  has_if {tests} {yes_part} {no_part} h =
      let blocks = every_right tests.rows _ h.rows in
      let after_yes = every_right yes_part.rows _ blocks in
      let after_free = every_tail after_yes in
      record {
        testing = every_left tests.rows _ h.rows;
        yes_has =
            record {
              rows = every_left yes_part.rows _ blocks;
              accepting = every_left yes_part.accepting _ h.accepting;
            };
        yes_free = every_head after_yes;
        no_has =
            record {
              rows = every_left no_part.rows _ after_free;
              accepting = every_right yes_part.accepting _ h.accepting;
            };
        no_free = every_head (every_right no_part.rows _ after_free);
      }

  -- with a loop, it has its parts
  pub has_loop : {first : List Row} {body : Part} {p : ℕ} (q : ℕ) → Has t (loop_part first body p q) → HasLoop t first body p
  unfolding loop_part
  has_loop {first} {body} q h =
      let after_first = every_right first _ h.rows in
      record {
        starting = every_left first _ h.rows;
        body_has = record { rows = every_left body.rows _ after_first; accepting = h.accepting };
        back = every_head (every_right body.rows _ after_first);
      }

  -- with an arm, it has its parts
  pub has_arm : {body : Part} {p a q : ℕ} → Has t (arm_part body p a q) → HasArm t body p a q
  unfolding arm_part
  has_arm {body} h =
      let after_free = every_tail h.rows in
      record {
        into = every_head h.rows;
        body_has = record { rows = every_left body.rows _ after_free; accepting = h.accepting };
        out = every_head (every_right body.rows _ after_free);
      }

  -- with one part after another, it has the one
  pub has_first : (a b : Part) → Has t (and_then a b) → Has t a
  unfolding and_then
  has_first a b h =
      record { rows = every_left a.rows _ h.rows; accepting = every_left a.accepting _ h.accepting }

  -- and the other
  pub has_second : (a b : Part) → Has t (and_then a b) → Has t b
  unfolding and_then
  has_second a b h =
      record { rows = every_right a.rows _ h.rows; accepting = every_right a.accepting _ h.accepting }

-- a state stands for statements left to run: the first one's part starts from it, or a free row leads on to such a state
pub data StandsFor (t : Table) : ℕ → Statements → Type 0 where
  at_end : {s : ℕ} → StandsFor t s done
  front : {s : ℕ} (next : ℕ) {a : Statement} {rest : Statements}
      → StatementWithin t.alphabet a
      → Has t (statement_part t.alphabet a s next)
      → StandsFor t next rest
      → StandsFor t s (a then rest)
  onward : {s u : ℕ} {k : Statements} → IsRow t (free s u) → StandsFor t u k → StandsFor t s k

-- arms exit where the branch does
arms_exit : (alphabet : List ℕ) (a : Arms) (p q next : ℕ) → (arms_part alphabet a p q next).exit ≡ q
unfolding arms_part arm_part and_then
arms_exit alphabet (last_arm t o b) p q next = refl
arms_exit alphabet (more_arms t o b a) p q next = arms_exit alphabet a p q _

-- a statement exits in the first state that it takes
statement_exit : (alphabet : List ℕ) (a : Statement) (p next : ℕ) → (statement_part alphabet a p next).exit ≡ next
unfolding statement_part if_part loop_part and_then
statement_exit alphabet (plain t e) p next = refl
statement_exit alphabet (accept t) p next = refl
statement_exit alphabet (reject t) p next = refl
statement_exit alphabet (if t c o b e) p next = refl
statement_exit alphabet (while t c o b) p next = refl
statement_exit alphabet (choose t o b) p next = refl
statement_exit alphabet (branch t o b a) p next = arms_exit alphabet a p next _

-- the first state of a block stands for the block, and then for what its exit stands for
pub block_stands :
    {t : Table} (b : Statements) (s next : ℕ) {k : Statements}
    → StatementsWithin t.alphabet b
    → Has t (statements_part t.alphabet b s next)
    → StandsFor t (statements_part t.alphabet b s next).exit k
    → StandsFor t s (b before k)
unfolding statements_part and_then ◌before◌ StatementsWithin
block_stands done s next within has after = after
block_stands {t} (a then b) s next within has after =
    let first = statement_part t.alphabet a s next in
    let second = statements_part t.alphabet b first.exit first.next in
    front next within.0 (has_first first second has)
    (rw statement_exit at (block_stands b first.exit first.next within.1 (has_second first second has) after))

-- so it is with the rest of an if
pub rest_stands :
    {t : Table} (e : Rest) (s next : ℕ) {k : Statements}
    → RestWithin t.alphabet e
    → Has t (rest_part t.alphabet e s next)
    → StandsFor t (rest_part t.alphabet e s next).exit k
    → StandsFor t s (otherwise e before k)
unfolding rest_part otherwise ◌before◌ RestWithin
rest_stands nothing s next within has after = after
rest_stands (else o b) s next within has after = block_stands b s next within has after
