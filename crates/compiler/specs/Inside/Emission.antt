-- What the emitter's functions promise each other: which part of the table each writes for which tokens. No caller relies on any of it.
use Rattle.std.specs.Prelude.{ℕ, ◌+◌, ◌≤◌, ◌<◌, ◌≡◌, Bool, true, false, not, List, [], ◌∷◌, ◌++◌, length}
use Rattle.text.specs.Token.{Token, w, s}
use Rattle.text.specs.Tokens.{◌at◌}
use Rattle.table.specs.Table.{Row}
use Rattle.rule.specs.Tree.{Atom, Condition, Statement, Rest, Statements, Arms}
use Rattle.rule.specs.Grammar.{
  Ts,
  IsAtom,
  Binding,
  loosest,
  middle,
  tightest,
  IsCondition,
  IsStatement,
  IsRest,
  IsArms,
  IsBlock,
  IsStatements,
}
use Rattle.rule.specs.Inside.Within.{AtomWithin, ConditionWithin, StatementWithin, RestWithin, StatementsWithin, ArmsWithin}
use Rattle.table.specs.Form.{any_symbol, either_counter}
use Rattle.construction.specs.Construction.{
  free,
  atom_rows,
  Added,
  walk,
  Part,
  test,
  statement_part,
  rest_part,
  statements_part,
  arms_part,
}
use Rattle.compiler.specs.Inside.Writing.{Sheet, Filled, Writes}
use Rattle.compiler.specs.Inside.Seeing.{Here, GoesPast}
use Rattle.compiler.specs.Inside.Place.{Place, place_of}
use Rattle.compiler.specs.declared.Emitter.{Emitter}
use Rattle.compiler.specs.declared.write.Image.{Image}
use Rattle.std.specs.Borrow.{MutBor}
use Rattle.compiler.specs.declared.walk.Course.{Course}

-- the emitter stands at a place: so much is written, these states are meant, and these tokens are ahead
pub record At (text out : List ℕ) (place : Place) (h : Sheet) (accepting : List ℕ) (rows : List Row) (p next : ℕ) (ts : Ts) : Type 0 where
  pub here : Here text place.at ts
  pub filled : Filled h accepting rows out place.row
  pub state : place.state ≡ p
  pub takes : place.next ≡ next
  pub taken : p < next

-- what there is to emit over an alphabet: from a state on, with this next state to be taken, from these tokens up to those, a part
abbrev pub Task : Type 1
Task = List ℕ → ℕ → ℕ → Ts → Ts → Part → Type 0

-- the same image, in the same buffer
pub record Same (i r : MutBor Image) : Type 0 where
  pub name : r.ghost_name ≡ i.ghost_name
  pub out : r.now.out.ghost_name ≡ i.now.out.ghost_name

-- a task that can be done here: there are states and rows enough for it
pub record Doing (task : Task) (text out : List ℕ) (place : Place) (h : Sheet) (accepting : List ℕ) (rows : List Row) (p next : ℕ) (ts us : Ts) (part : Part) : Type 0 where
  pub stands : At text out place h accepting rows p next ts
  pub is : task h.alphabet p next ts us part
  pub states : part.next ≤ 128
  pub fits : length rows + length part.rows ≤ h.count

pub record Ready (task : Task) (e : Emitter) : Type 0 where
  pub sheet : Sheet
  pub accepting : List ℕ
  pub rows : List Row
  pub from : ℕ
  pub next : ℕ
  pub ts : Ts
  pub us : Ts
  pub part : Part
  pub doing : Doing task e.cursor.text.now e.image.now.out.now (place_of e) sheet accepting rows from next ts us part

-- it is done: the text goes on behind it, and its part is written behind what stood there
pub record Emitted (text out : List ℕ) (place : Place) (h : Sheet) (accepting : List ℕ) (rows : List Row) (us : Ts) (part : Part) : Type 0 where
  pub stands : At text out place h (accepting ++ part.accepting) (rows ++ part.rows) part.exit part.next us

-- whatever the task was, in the same text and the same buffer
pub record Emits (task : Task) (e r : Emitter) : Type 0 where
  pub emits : {h : Sheet} {accepting : List ℕ} {rows : List Row} {p next : ℕ} {ts us : Ts} {part : Part}
      → Doing task e.cursor.text.now e.image.now.out.now (place_of e) h accepting rows p next ts us part
      → Emitted e.cursor.text.now r.image.now.out.now (place_of r) h accepting rows us part
  pub onward : e.cursor.at ≤ r.cursor.at
  pub text : r.cursor.text.now ≡ e.cursor.text.now
  pub same : Same e.image r.image

-- rows alone, which leave the state as it is
abbrev pub rows_part : List Row → ℕ → ℕ → Part
rows_part rows p next = record { rows = rows; accepting = []; exit = p; next = next }

abbrev pub added_part : Added → ℕ → Part
added_part a p = rows_part a.rows p a.next

-- an atom, walked with a sign from p to a state
pub data AtomTask (to : ℕ) (sign : Bool) (alphabet : List ℕ) (p next : ℕ) : Ts → Ts → Part → Type 0 where
  an_atom : {k : ℕ} {ts us : Ts} {a : Atom}
      → IsAtom ts k a us
      → AtomWithin alphabet a
      → to < next
      → AtomTask to sign alphabet p next ts us (rows_part (atom_rows alphabet sign a p to) p next)

-- what may stand behind a condition that binds so
pub data Closes : Binding → Ts → Type 0 where
  by_paren : {b : Binding} {q : ℕ} {us : Ts} → Closes b ((s ")" at q) ∷ us)
  by_or : {q : ℕ} {us : Ts} → Closes middle ((s "||" at q) ∷ us)
  by_any : {us : Ts} → Closes tightest us

-- a condition, walked so
pub data WalkTask (level : Binding) (to : ℕ) (sign : Bool) (alphabet : List ℕ) (p next : ℕ) : Ts → Ts → Part → Type 0 where
  walks : {ts us : Ts} {c : Condition}
      → IsCondition level ts c us
      → Closes level us
      → ConditionWithin alphabet c
      → to < next
      → WalkTask level to sign alphabet p next ts us (added_part (walk alphabet c sign p to next) p)

-- what `||` joins, or `&&`, and what it joins there
abbrev pub joins : Bool → Binding
joins true = loosest
joins false = middle

abbrev pub joined : Bool → Binding
joined true = middle
joined false = tightest

-- an operator takes a state under one of the two signs: `&&` where the condition is to hold, `||` where it is to fail
abbrev pub takes : Bool → Bool → Bool
takes true sign = not sign
takes false sign = sign

-- then what it joins is walked one after the other by way of that state, and else both the same way
abbrev pub via_to : Bool → ℕ → ℕ → ℕ
via_to true to next = next
via_to false to next = to

abbrev pub via_from : Bool → ℕ → ℕ → ℕ
via_from true p next = next
via_from false p next = p

abbrev pub via_next : Bool → ℕ → ℕ
via_next true next = next + 1
via_next false next = next

pub record Leads (taking : Bool) (to state next : ℕ) (course : Course) : Type 0 where
  pub first : course.to ≡ via_to taking to next
  pub second : course.from ≡ via_from taking state next
  pub takes : course.next ≡ via_next taking next

-- a condition in its own parentheses, both ways
pub data TestTask (yes no : ℕ) (alphabet : List ℕ) (p next : ℕ) : Ts → Ts → Part → Type 0 where
  tests : {q r : ℕ} {ts us : Ts} {c : Condition}
      → IsCondition loosest ts c ((s ")" at r) ∷ us)
      → ConditionWithin alphabet c
      → yes < next
      → no < next
      → TestTask yes no alphabet p next ((s "(" at q) ∷ ts) us (added_part (test alphabet c p yes no next) p)

-- what stands between `while` and the block
pub data EntryTask (into over : ℕ) (alphabet : List ℕ) (p next : ℕ) : Ts → Ts → Part → Type 0 where
  chooses : {q : ℕ} {ts : Ts}
      → into < next
      → over < next
      → EntryTask into over alphabet p next ((w "choose" at q) ∷ ts) ts (rows_part (free p into ∷ free p over ∷ []) p next)
  asks : {ts us : Ts} {part : Part} → TestTask into over alphabet p next ts us part → EntryTask into over alphabet p next ts us part

-- no `else` and no `also` stands here, as behind a whole statement
pub record Follows (us : Ts) : Type 0 where
  pub no_else : (p : ℕ) (vs : Ts) → ¬ (us ≡ (w "else" at p) ∷ vs)
  pub no_also : (p : ℕ) (vs : Ts) → ¬ (us ≡ (w "also" at p) ∷ vs)

pub data StatementTask (alphabet : List ℕ) (p next : ℕ) : Ts → Ts → Part → Type 0 where
  a_statement : {ts us : Ts} {a : Statement}
      → IsStatement ts a us
      → Follows us
      → StatementWithin alphabet a
      → StatementTask alphabet p next ts us (statement_part alphabet a p next)

-- one that begins with this word, behind the word
pub data HeadedTask (head : Token) (alphabet : List ℕ) (p next : ℕ) : Ts → Ts → Part → Type 0 where
  headed : {k : ℕ} {ts us : Ts} {part : Part}
      → StatementTask alphabet p next ((head at k) ∷ ts) us part
      → HeadedTask head alphabet p next ts us part

-- a plain statement's row, and the part that it is
abbrev pub step_row : ℕ → ℕ → ℕ → ℕ → Row
step_row motion change p q =
    record { from = p; symbol = any_symbol; test = either_counter; move = motion; change = change; to = q }

-- it is written, and the text goes on behind so many tokens
pub record Steps (e r : Emitter) (motion change many : ℕ) : Type 0 where
  pub passes : GoesPast e.cursor.text.now e.cursor.at many r.cursor.at
  pub state : r.state ≡ e.next
  pub takes : r.next ≡ e.next + 1
  pub writes : Writes e.image.now.out.now r.image.now.out.now e.image.now.row r.image.now.row (λ _. step_row motion change e.state e.next ∷ [])
  pub text : r.cursor.text.now ≡ e.cursor.text.now
  pub same : Same e.image r.image

-- a state is taken without a row
pub record Stops (e r : Emitter) : Type 0 where
  pub passes : GoesPast e.cursor.text.now e.cursor.at 1 r.cursor.at
  pub state : r.state ≡ e.next
  pub takes : r.next ≡ e.next + 1
  pub text : r.cursor.text.now ≡ e.cursor.text.now
  pub image : r.image ≡ e.image

-- what is left of a block
pub data RestTask (alphabet : List ℕ) (p next : ℕ) : Ts → Ts → Part → Type 0 where
  the_rest : {q : ℕ} {ts us : Ts} {b : Statements}
      → IsStatements ts b ((s "}" at q) ∷ us)
      → StatementsWithin alphabet b
      → RestTask alphabet p next ts us (statements_part alphabet b p next)

-- a part, and then a free row from its exit
abbrev pub closed_part : Part → ℕ → Part
closed_part part to =
    record {
      rows = part.rows ++ (free part.exit to ∷ []);
      accepting = part.accepting;
      exit = to;
      next = part.next;
    }

-- a block and a free row
pub data BodyTask (to : ℕ) (alphabet : List ℕ) (p next : ℕ) : Ts → Ts → Part → Type 0 where
  a_body : {o : ℕ} {ts us : Ts} {b : Statements}
      → IsBlock ts o b us
      → StatementsWithin alphabet b
      → to < next
      → BodyTask to alphabet p next ts us (closed_part (statements_part alphabet b p next) to)

-- `else` and its block, or nothing; then a free row
pub data ElseTask (to : ℕ) (alphabet : List ℕ) (p next : ℕ) : Ts → Ts → Part → Type 0 where
  an_else : {ts us : Ts} {e : Rest}
      → IsRest ts e us
      → Follows us
      → RestWithin alphabet e
      → to < next
      → ElseTask to alphabet p next ts us (closed_part (rest_part alphabet e p next) to)

-- arms, behind the word before the first of them
pub data ArmsTask (to : ℕ) (alphabet : List ℕ) (p next : ℕ) : Ts → Ts → Part → Type 0 where
  the_arms : {k : ℕ} {ts us : Ts} {a : Arms}
      → IsArms ((w "also" at k) ∷ ts) a us
      → Follows us
      → ArmsWithin alphabet a
      → to < next
      → ArmsTask to alphabet p next ts us (arms_part alphabet a p to next)
