-- By which production a statement is derived, and a condition's operand, where its first token is known.
use Prim.Native.Nat.{ℕ}
use mathlib.Core.Path.{◌≡◌, refl}
use mathlib.Core.List.{List, ◌∷◌}
use Rattle.text.specs.Token.{Token, number, w, s}
use Rattle.text.specs.Tokens.{◌at◌}
use Rattle.rule.specs.Tree as Tree
use Rattle.rule.specs.Tree.{Condition, Plain, Statement, Rest, Statements, Arms}
use Rattle.rule.specs.Grammar.{
  Ts,
  loosest,
  IsCondition,
  IsPlain,
  move_by,
  move_back,
  goto_lend,
  goto_rend,
  increment,
  decrement,
  add,
  subtract,
  IsStatement,
  plain,
  accept,
  reject,
  if,
  while,
  choose,
  branch,
  IsRest,
  IsArms,
  last_arm,
  more_arms,
  IsBlock,
  IsStatements,
  none,
  next,
}

-- what stands behind `move`
pub data Move : Ts → Plain → Ts → Type 0 where
  forward : {q r u v : ℕ} {n : List ℕ} {us : Ts}
      → Move ((s "(" at q) ∷ (number n at r) ∷ (s ")" at u) ∷ (s ";" at v) ∷ us) (Tree.move_by (record { digits = n; place = r })) us
  back : {q o r u v : ℕ} {n : List ℕ} {us : Ts}
      → Move ((s "(" at q) ∷ (s "-" at o) ∷ (number n at r) ∷ (s ")" at u) ∷ (s ";" at v) ∷ us) (Tree.move_back (record { digits = n; place = r })) us

plain_move : {k p : ℕ} {ts us : Ts} {e : Plain} → IsPlain ((w "move" at k) ∷ ts) p e us → Move ts e us
plain_move move_by = forward
plain_move move_back = back

-- behind `goto`
pub data Goto : Ts → Plain → Ts → Type 0 where
  to_lend : {q r u v : ℕ} {us : Ts} → Goto ((s "(" at q) ∷ (w "lend" at r) ∷ (s ")" at u) ∷ (s ";" at v) ∷ us) Tree.goto_lend us
  to_rend : {q r u v : ℕ} {us : Ts} → Goto ((s "(" at q) ∷ (w "rend" at r) ∷ (s ")" at u) ∷ (s ";" at v) ∷ us) Tree.goto_rend us

plain_goto : {k p : ℕ} {ts us : Ts} {e : Plain} → IsPlain ((w "goto" at k) ∷ ts) p e us → Goto ts e us
plain_goto goto_lend = to_lend
plain_goto goto_rend = to_rend

-- behind `c`
pub data Change : Ts → Plain → Ts → Type 0 where
  up : {q v : ℕ} {us : Ts} → Change ((s "++" at q) ∷ (s ";" at v) ∷ us) Tree.increment us
  down : {q v : ℕ} {us : Ts} → Change ((s "--" at q) ∷ (s ";" at v) ∷ us) Tree.decrement us
  up_by : {q r v : ℕ} {n : List ℕ} {us : Ts}
      → Change ((s "+=" at q) ∷ (number n at r) ∷ (s ";" at v) ∷ us) (Tree.add (record { digits = n; place = r })) us
  down_by : {q r v : ℕ} {n : List ℕ} {us : Ts}
      → Change ((s "-=" at q) ∷ (number n at r) ∷ (s ";" at v) ∷ us) (Tree.subtract (record { digits = n; place = r })) us

plain_change : {k p : ℕ} {ts us : Ts} {e : Plain} → IsPlain ((w "c" at k) ∷ ts) p e us → Change ts e us
plain_change increment = up
plain_change decrement = down
plain_change add = up_by
plain_change subtract = down_by

-- a plain statement of a kind, whose first word stands there
pub record PlainOf (kind : Ts → Plain → Ts → Type 0) (k : ℕ) (ts : Ts) (a : Statement) (us : Ts) : Type 0 where
  pub effect : Plain
  pub is : a ≡ Tree.plain k effect
  pub derived : kind ts effect us

plain_place : {k p : ℕ} {t : Token} {ts us : Ts} {e : Plain} → IsPlain ((t at k) ∷ ts) p e us → Tree.plain p e ≡ Tree.plain k e
plain_place move_by = refl
plain_place move_back = refl
plain_place goto_lend = refl
plain_place goto_rend = refl
plain_place increment = refl
plain_place decrement = refl
plain_place add = refl
plain_place subtract = refl

pub statement_move : {k : ℕ} {ts us : Ts} {a : Statement} → IsStatement ((w "move" at k) ∷ ts) a us → PlainOf Move k ts a us
statement_move (plain d) = record { effect = _; is = plain_place d; derived = plain_move d }

pub statement_goto : {k : ℕ} {ts us : Ts} {a : Statement} → IsStatement ((w "goto" at k) ∷ ts) a us → PlainOf Goto k ts a us
statement_goto (plain d) = record { effect = _; is = plain_place d; derived = plain_goto d }

pub statement_change : {k : ℕ} {ts us : Ts} {a : Statement} → IsStatement ((w "c" at k) ∷ ts) a us → PlainOf Change k ts a us
statement_change (plain d) = record { effect = _; is = plain_place d; derived = plain_change d }

-- no plain statement begins with these
no_accept : {k p : ℕ} {ts us : Ts} {e : Plain} → IsPlain ((w "accept" at k) ∷ ts) p e us → ⊥
no_accept = elim [ ]

no_reject : {k p : ℕ} {ts us : Ts} {e : Plain} → IsPlain ((w "reject" at k) ∷ ts) p e us → ⊥
no_reject = elim [ ]

no_if : {k p : ℕ} {ts us : Ts} {e : Plain} → IsPlain ((w "if" at k) ∷ ts) p e us → ⊥
no_if = elim [ ]

no_while : {k p : ℕ} {ts us : Ts} {e : Plain} → IsPlain ((w "while" at k) ∷ ts) p e us → ⊥
no_while = elim [ ]

no_branch : {k p : ℕ} {ts us : Ts} {e : Plain} → IsPlain ((w "branch" at k) ∷ ts) p e us → ⊥
no_branch = elim [ ]

no_else_lem : {k p : ℕ} {ts us : Ts} {e : Plain} → IsPlain ((w "else" at k) ∷ ts) p e us → ⊥
no_else_lem = elim [ ]

no_also_lem : {k p : ℕ} {ts us : Ts} {e : Plain} → IsPlain ((w "also" at k) ∷ ts) p e us → ⊥
no_also_lem = elim [ ]

no_brace : {k p : ℕ} {ts us : Ts} {e : Plain} → IsPlain ((s "}" at k) ∷ ts) p e us → ⊥
no_brace = elim [ ]

-- `accept` and `reject` are followed by a semicolon
pub data Stop (is : Statement) : Ts → Statement → Ts → Type 0 where
  stops : {v : ℕ} {us : Ts} → Stop is ((s ";" at v) ∷ us) is us

pub statement_accept : {k : ℕ} {ts us : Ts} {a : Statement} → IsStatement ((w "accept" at k) ∷ ts) a us → Stop (Tree.accept k) ts a us
statement_accept accept = stops
statement_accept (plain d) = absurd (no_accept d)

pub statement_reject : {k : ℕ} {ts us : Ts} {a : Statement} → IsStatement ((w "reject" at k) ∷ ts) a us → Stop (Tree.reject k) ts a us
statement_reject reject = stops
statement_reject (plain d) = absurd (no_reject d)

-- behind `if`
pub data If (k : ℕ) : Ts → Statement → Ts → Type 0 where
  asks : {q r o : ℕ} {ts us vs xs : Ts} {c : Condition} {b : Statements} {e : Rest}
      → IsCondition loosest ts c ((s ")" at r) ∷ us)
      → IsBlock us o b vs
      → IsRest vs e xs
      → If k ((s "(" at q) ∷ ts) (Tree.if k c o b e) xs

pub statement_if : {k : ℕ} {ts us : Ts} {a : Statement} → IsStatement ((w "if" at k) ∷ ts) a us → If k ts a us
statement_if (if c b e) = If.asks c b e
statement_if (plain d) = absurd (no_if d)

-- behind `while`
pub data While (k : ℕ) : Ts → Statement → Ts → Type 0 where
  asks : {q r o : ℕ} {ts us vs : Ts} {c : Condition} {b : Statements}
      → IsCondition loosest ts c ((s ")" at r) ∷ us)
      → IsBlock us o b vs
      → While k ((s "(" at q) ∷ ts) (Tree.while k c o b) vs
  chooses : {q o : ℕ} {ts us : Ts} {b : Statements} → IsBlock ts o b us → While k ((w "choose" at q) ∷ ts) (Tree.choose k o b) us

pub statement_while : {k : ℕ} {ts us : Ts} {a : Statement} → IsStatement ((w "while" at k) ∷ ts) a us → While k ts a us
statement_while (while c b) = asks c b
statement_while (choose b) = chooses b
statement_while (plain d) = absurd (no_while d)

-- behind `branch`
pub data Branch (k : ℕ) : Ts → Statement → Ts → Type 0 where
  arms : {o : ℕ} {ts us vs : Ts} {b : Statements} {a : Arms} → IsBlock ts o b us → IsArms us a vs → Branch k ts (Tree.branch k o b a) vs

pub statement_branch : {k : ℕ} {ts us : Ts} {a : Statement} → IsStatement ((w "branch" at k) ∷ ts) a us → Branch k ts a us
statement_branch (branch b a) = arms b a
statement_branch (plain d) = absurd (no_branch d)

-- behind `also`
pub data Arm : Ts → Arms → Ts → Type 0 where
  lone : {k o : ℕ} {ts us : Ts} {b : Statements} → IsBlock ts o b us → Arm ts (Tree.last_arm k o b) us
  and_more : {k o : ℕ} {ts us vs : Ts} {b : Statements} {a : Arms} → IsBlock ts o b us → IsArms us a vs → Arm ts (Tree.more_arms k o b a) vs

pub behind-also : {k : ℕ} {ts us : Ts} {a : Arms} → IsArms ((w "also" at k) ∷ ts) a us → Arm ts a us
behind-also (last_arm b) = lone b
behind-also (more_arms b a) = and_more b a

-- no statement begins with these
statement_else : {k : ℕ} {ts us : Ts} {a : Statement} → IsStatement ((w "else" at k) ∷ ts) a us → ⊥
statement_else (plain d) = no_else_lem d

statement_also : {k : ℕ} {ts us : Ts} {a : Statement} → IsStatement ((w "also" at k) ∷ ts) a us → ⊥
statement_also (plain d) = no_also_lem d

pub statement_brace : {k : ℕ} {ts us : Ts} {a : Statement} → IsStatement ((s "}" at k) ∷ ts) a us → ⊥
statement_brace (plain d) = no_brace d

-- so nor do a block's statements up to its brace
pub rest_else : {k q : ℕ} {ts us : Ts} {b : Statements} → IsStatements ((w "else" at k) ∷ ts) b ((s "}" at q) ∷ us) → ⊥
rest_else (next a b) = statement_else a

pub rest_also : {k q : ℕ} {ts us : Ts} {b : Statements} → IsStatements ((w "also" at k) ∷ ts) b ((s "}" at q) ∷ us) → ⊥
rest_also (next a b) = statement_also a

-- up to its brace there is nothing where the brace stands
pub data Closed : Ts → Statements → Ts → Type 0 where
  closed : {k : ℕ} {us : Ts} → Closed ((s "}" at k) ∷ us) Tree.done us

pub rest_brace : {k q : ℕ} {ts us : Ts} {b : Statements} → IsStatements ((s "}" at k) ∷ ts) b ((s "}" at q) ∷ us) → Closed ((s "}" at k) ∷ ts) b us
rest_brace none = closed
rest_brace (next a b) = absurd (statement_brace a)
