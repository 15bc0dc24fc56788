-- The tree of a program. It keeps the places of the tokens that something speaks of: of those that limits are for, letters,
-- numbers, `{`, `(`, `!` and `also`; of the first of each statement and of each atom; and of the word `true` or `false`.
use Rattle.std.specs.Prelude.{ℕ, Bool, List, [], ◌∷◌}

-- a number's digits as written, and its place
pub record Number : Type 0 where
  pub digits : List ℕ
  pub place : ℕ

-- a letter of the alphabet or of a condition, and its place
pub record Letter : Type 0 where
  pub byte : ℕ
  pub place : ℕ

-- what `read` is compared with
pub data SymbolName : Type 0 where
  letter : Letter → SymbolName
  lend : SymbolName
  rend : SymbolName

pub data Atom : Type 0 where
  read_is : SymbolName → Atom
  read_is_not : SymbolName → Atom
  counter_is : Number → Atom
  counter_is_not : Number → Atom

-- an atom with the place of its `read` or `c`; parentheses and `!` with their places
pub data Condition : Type 0 where
  atom : ℕ → Atom → Condition
  parens : ℕ → Condition → Condition
  negation : ℕ → Condition → Condition
  both : Condition → Condition → Condition
  either : Condition → Condition → Condition

-- the plain statements: move(n), move(-n), goto(lend), goto(rend), c++, c--, c += n, c -= n
pub data Plain : Type 0 where
  move_by : Number → Plain
  move_back : Number → Plain
  goto_lend : Plain
  goto_rend : Plain
  increment : Plain
  decrement : Plain
  add : Number → Plain
  subtract : Number → Plain

-- a statement begins with the place of its first token; a block is the place of its `{` and its statements; an arm after the
-- first has the place of its `also` too
infixr 30 ◌then◌
mutual
  pub data Statement : Type 0 where
    plain : ℕ → Plain → Statement
    accept : ℕ → Statement
    reject : ℕ → Statement
    if : ℕ → Condition → ℕ → Statements → Rest → Statement
    while : ℕ → Condition → ℕ → Statements → Statement
    choose : ℕ → ℕ → Statements → Statement
    branch : ℕ → ℕ → Statements → Arms → Statement

  -- what stands behind an if's block: nothing, or `else` and a block
  pub data Rest : Type 0 where
    nothing : Rest
    else : ℕ → Statements → Rest

  pub data Statements : Type 0 where
    done : Statements
    ◌then◌ : Statement → Statements → Statements

  pub data Arms : Type 0 where
    last_arm : ℕ → ℕ → Statements → Arms
    more_arms : ℕ → ℕ → Statements → Arms → Arms

-- which of the two settings stands first
pub data Order : Type 0 where
  alphabet_first : Order
  decrement_first : Order

pub record Program : Type 0 where
  pub first : Order
  pub alphabet : List Letter
  -- decr_on_zero, and the place of its word `true` or `false`
  pub decr_on_zero : Bool
  pub truth : ℕ
  pub brace : ℕ
  pub body : Statements

unfoldable pub letter_bytes : List Letter → List ℕ
letter_bytes [] = []
letter_bytes (l ∷ ls) = l.byte ∷ letter_bytes ls
