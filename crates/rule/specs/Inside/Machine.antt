-- A machine with a stack of expected symbols, one move for each token: the go-between of the readers and the grammar.
-- A move also says how the trees of what it pushes make the tree of its symbol; `run` does not look at that.
use Rattle.std.specs.Prelude.{ℕ, suc, ◌+◌, Bool, true, false, not, ◌&&◌, ◌||◌, List, [], ◌∷◌, ◌++◌, map, length, leb}
use Rattle.std.proofs.Math.Option.{Option, none, some}
use Rattle.text.specs.Tokens.{Placed, ◌at◌, Ending, ends, broken}
use Rattle.text.specs.Inside.Scan.{scan}
use Rattle.text.specs.Inside.Same.{same_token}
use Rattle.rule.specs.Tree as Tree
use Rattle.rule.specs.Tree.{Number, Letter, SymbolName, Atom, Condition, Plain, Statement, Rest, Statements, Arms, Program, done, ◌then◌}
use Rattle.rule.specs.Limits.{is_in, in_form, value_from}
use Rattle.rule.specs.Inside.Class.{Fixed, spell, Class, mark, classify}

-- what is expected; each symbol takes at least one token
pub data Expected : Type 0 where
  -- this token
  exact : Fixed → Expected
  program : Expected
  -- `alphabet = [ letters ] ;` and `decr_on_zero = true ;`
  alphabet : Expected
  decrement : Expected
  -- letters up to `]`; what may follow a letter; `true ;` or `false ;`
  letters : Expected
  more_letters : Expected
  truth : Expected
  -- `twoc ( string )` and a block
  body : Expected
  -- a block, so many blocks being open around it
  block : ℕ → Expected
  -- statements up to `}`, so many blocks being open
  statements : ℕ → Expected
  -- what may follow a block of an `if`: an else, or not, and then statements
  or_else : ℕ → Expected
  -- one `also` at least behind so many arms, and then statements; an `also`, or not, and then statements
  arms : ℕ → ℕ → Expected
  or_also : ℕ → ℕ → Expected
  -- after `while`; after `move (`; after `goto (`; after `c`
  loop : ℕ → Expected
  distance : Expected
  end : Expected
  change : Expected
  -- a number up to this
  number : ℕ → Expected
  -- one operand of a condition, so many `(` and `!` being open; what may follow it, up to `)`
  operand : ℕ → Expected
  tail : ℕ → Expected
  -- after `read`, and after `c`, in a condition; what `read` is compared with
  read_test : Expected
  counter_test : Expected
  symbol_name : Expected

abbrev pub Stack : Type 0
Stack = List Expected

-- what a symbol's tokens give. What may follow something says what becomes of that: behind an `also` and its block, the arms;
-- behind an operand, the conjunction and then the whole condition. Behind `while` its place is still to come
abbrev pub Value : Expected → Type 0
Value (exact m) = Unit {0}
Value program = Program
Value alphabet = List Letter
Value decrement = Bool × ℕ
Value letters = List Letter
Value more_letters = List Letter
Value truth = Bool × ℕ
Value body = ℕ × Statements
Value (block d) = ℕ × Statements
Value (statements d) = Statements
Value (or_else d) = Rest × Statements
Value (arms d n) = Arms × Statements
Value (or_also d n) = (ℕ → ℕ → Statements → Arms) × Statements
Value (loop d) = ℕ → Statement
Value distance = Plain
Value end = Plain
Value change = Plain
Value (number g) = Number
Value (operand n) = Condition
Value (tail n) = (Condition → Condition) × (Condition → Condition)
Value read_test = Atom
Value counter_test = Atom
Value symbol_name = SymbolName

abbrev pub Values : Stack → Type 0
Values [] = Unit {0}
Values (x ∷ st) = Value x × Values st

-- the letters of the alphabet so far, and the states and rows so far
pub record Totals : Type 0 where
  pub alphabet : List ℕ
  pub states : ℕ
  pub rows : ℕ

-- state 0 is the start
abbrev pub start : Totals
start = record { alphabet = []; states = 1; rows = 0 }

abbrev pub counted : ℕ → ℕ → Totals → Totals
counted states rows t = record { alphabet = t.alphabet; states = t.states + states; rows = t.rows + rows }

abbrev pub with_letter : ℕ → Totals → Totals
with_letter b t = record { alphabet = t.alphabet ++ (b ∷ []); states = t.states; rows = t.rows }

-- a move: whether the token breaks a limit and the limit's number, what is expected in place of the symbol, and the totals
pub record Move (A : Type 0) : Type 0 where
  pub breaks : Bool
  pub fault : ℕ
  pub push : Stack
  pub totals : Totals
  pub makes : (st : Stack) → Values (push ++ st) → A × Values st

-- a move by a token that no limit speaks of
abbrev free : {A : Type 0} → Totals → (push : Stack) → ((st : Stack) → Values (push ++ st) → A × Values st) → Move A
free t push makes = record { breaks = false; fault = 0; push = push; totals = t; makes = makes }

-- what a token may be, and the move that it makes
pub data Choice (A : Type 0) : Type 0 where
  on : Fixed → Move A → Choice A
  on_number : (List ℕ → Move A) → Choice A
  on_letter : (ℕ → Move A) → Choice A

abbrev pub along : {A B : Type 0} → (A → B) → Move A → Move B
along f m =
    record {
      breaks = m.breaks;
      fault = m.fault;
      push = m.push;
      totals = m.totals;
      makes = λ st vs. let (a, rest) = m.makes st vs in (f a, rest);
    }

abbrev pub along_choice : {A B : Type 0} → (A → B) → Choice A → Choice B
along_choice f (on m r) = on m (along f r)
along_choice f (on_number r) = on_number (λ n. along f (r n))
along_choice f (on_letter r) = on_letter (λ b. along f (r b))

-- a number out of its form, or above the greatest that may stand there
abbrev pub outside : ℕ → List ℕ → Bool
outside greatest n = not (in_form n && leb (value_from 0 n) greatest)

-- a letter that stands before already, or a 17th
abbrev pub excess : ℕ → List ℕ → Bool
excess b before = is_in b before || leb 16 (length before)

abbrev number_of : List ℕ → ℕ → Number
number_of n p = record { digits = n; place = p }

-- the choices at a place, with these totals
module _ (t : Totals) (p : ℕ) where
  -- an `also` behind so many arms
  abbrev pub also : ℕ → ℕ → Move (Arms × Statements)
  also d n =
      record {
        breaks = leb 8 n;
        fault = 9;
        push = block d ∷ or_also d (suc n) ∷ [];
        totals = counted 1 2 t;
        makes = λ st ((o, b), ((f, c), vs)). ((f p o b, c), vs);
      }

  -- one more `(` or `!`, so many being open
  abbrev deeper : {A : Type 0} → ℕ → (push : Stack) → ((st : Stack) → Values (push ++ st) → A × Values st) → Move A
  deeper opened push makes = record { breaks = leb 16 opened; fault = 8; push = push; totals = t; makes = makes }

  abbrev a_number : {A : Type 0} → ℕ → (push : Stack) → (Number → (st : Stack) → Values (push ++ st) → A × Values st) → Choice A
  a_number greatest push makes =
      on_number (λ n. record { breaks = outside greatest n; fault = 7; push = push; totals = t; makes = makes (number_of n p) })

  abbrev pub statement_choices : ℕ → List (Choice Statements)
  statement_choices d =
      on Fixed.ends (free t [] (λ st vs. (done, vs)))
      ∷ on
      Fixed.move
      (free
      (counted 1 1 t)
      (exact Fixed.opens ∷ distance ∷ statements d ∷ [])
      (λ st (_, (e, (b, vs))). (Tree.plain p e then b, vs)))
      ∷ on
      Fixed.goto
      (free (counted 1 1 t) (exact Fixed.opens ∷ end ∷ statements d ∷ []) (λ st (_, (e, (b, vs))). (Tree.plain p e then b, vs)))
      ∷ on Fixed.c (free (counted 1 1 t) (change ∷ statements d ∷ []) (λ st (e, (b, vs)). (Tree.plain p e then b, vs)))
      ∷ on
      Fixed.accept
      (free (counted 1 0 t) (exact Fixed.semicolon ∷ statements d ∷ []) (λ st (_, (b, vs)). (Tree.accept p then b, vs)))
      ∷ on
      Fixed.reject
      (free (counted 1 0 t) (exact Fixed.semicolon ∷ statements d ∷ []) (λ st (_, (b, vs)). (Tree.reject p then b, vs)))
      ∷ on
      Fixed.if
      (free
      (counted 3 2 t)
      (exact Fixed.opens ∷ operand 0 ∷ tail 0 ∷ block d ∷ or_else d ∷ [])
      (λ st (_, (c, ((f, g), ((o, b), ((e, a), vs))))). (Tree.if p (g (f c)) o b e then a, vs)))
      ∷ on Fixed.while (free t (loop d ∷ statements d ∷ []) (λ st (a, (b, vs)). (a p then b, vs)))
      ∷ on
      Fixed.branch
      (free (counted 2 2 t) (block d ∷ arms d 1 ∷ []) (λ st ((o, b), ((a, c), vs)). (Tree.branch p o b a then c, vs)))
      ∷ []

  abbrev pub choices : (x : Expected) → List (Choice (Value x))
  choices (exact m) = on m (free t [] (λ st vs. (tt, vs))) ∷ []
  choices program =
      on
      Fixed.alphabet
      (free
      t
      (exact Fixed.equals ∷ exact Fixed.open_list ∷ letters ∷ exact Fixed.semicolon ∷ decrement ∷ body ∷ [])
      (λ st (_, (_, (l, (_, ((d, r), ((o, b), vs)))))).
      (record { first = Tree.alphabet_first; alphabet = l; decr_on_zero = d; truth = r; brace = o; body = b }, vs)))
      ∷ on
      Fixed.decr_on_zero
      (free
      t
      (exact Fixed.equals ∷ truth ∷ alphabet ∷ body ∷ [])
      (λ st (_, ((d, r), (l, ((o, b), vs)))).
      (record { first = Tree.decrement_first; alphabet = l; decr_on_zero = d; truth = r; brace = o; body = b }, vs)))
      ∷ []
  choices alphabet =
      on
      Fixed.alphabet
      (free
      t
      (exact Fixed.equals ∷ exact Fixed.open_list ∷ letters ∷ exact Fixed.semicolon ∷ [])
      (λ st (_, (_, (l, (_, vs)))). (l, vs)))
      ∷ []
  choices decrement = on Fixed.decr_on_zero (free t (exact Fixed.equals ∷ truth ∷ []) (λ st (_, (d, vs)). (d, vs))) ∷ []
  choices letters =
      on_letter
      (λ b.
      record {
        breaks = excess b t.alphabet;
        fault = 5;
        push = more_letters ∷ [];
        totals = with_letter b t;
        makes = λ st (l, vs). (record { byte = b; place = p } ∷ l, vs);
      })
      ∷ []
  choices more_letters =
      on Fixed.close_list (free t [] (λ st vs. ([], vs)))
      ∷ on Fixed.comma (free t (letters ∷ []) (λ st vs. vs))
      ∷ []
  choices truth =
      on Fixed.is_true (free t (exact Fixed.semicolon ∷ []) (λ st (_, vs). ((true, p), vs)))
      ∷ on Fixed.is_false (free t (exact Fixed.semicolon ∷ []) (λ st (_, vs). ((false, p), vs)))
      ∷ []
  choices body =
      on
      Fixed.twoc
      (free
      t
      (exact Fixed.opens ∷ exact Fixed.string ∷ exact Fixed.closes ∷ block 0 ∷ [])
      (λ st (_, (_, (_, (b, vs)))). (b, vs)))
      ∷ []
  choices (block d) = on Fixed.begins (deeper d (statements (suc d) ∷ []) (λ st (b, vs). ((p, b), vs))) ∷ []
  choices (statements d) = statement_choices d
  choices (or_else d) =
      on
      Fixed.else
      (free t (block d ∷ statements d ∷ []) (λ st ((o, b), (a, vs)). ((Tree.else o b, a), vs)))
      ∷ map (along_choice (λ a. (Tree.nothing, a))) (statement_choices d)
  choices (arms d n) = on Fixed.also (also d n) ∷ []
  choices (or_also d n) =
      on Fixed.also (along (λ (a, b). ((λ q o c. Tree.more_arms q o c a), b)) (also d n))
      ∷ map (along_choice (λ b. (Tree.last_arm, b))) (statement_choices d)
  choices (loop d) =
      on
      Fixed.opens
      (free
      (counted 2 1 t)
      (operand 0 ∷ tail 0 ∷ block d ∷ [])
      (λ st (c, ((f, g), ((o, b), vs))). ((λ q. Tree.while q (g (f c)) o b), vs)))
      ∷ on Fixed.choose (free (counted 2 3 t) (block d ∷ []) (λ st ((o, b), vs). ((λ q. Tree.choose q o b), vs)))
      ∷ []
  choices distance =
      a_number 63 (exact Fixed.closes ∷ exact Fixed.semicolon ∷ []) (λ n st (_, (_, vs)). (Tree.move_by n, vs))
      ∷ on
      Fixed.minus
      (free
      t
      (number 63 ∷ exact Fixed.closes ∷ exact Fixed.semicolon ∷ [])
      (λ st (n, (_, (_, vs))). (Tree.move_back n, vs)))
      ∷ []
  choices end =
      on Fixed.lend (free t (exact Fixed.closes ∷ exact Fixed.semicolon ∷ []) (λ st (_, (_, vs)). (Tree.goto_lend, vs)))
      ∷ on Fixed.rend (free t (exact Fixed.closes ∷ exact Fixed.semicolon ∷ []) (λ st (_, (_, vs)). (Tree.goto_rend, vs)))
      ∷ []
  choices change =
      on Fixed.plus_plus (free t (exact Fixed.semicolon ∷ []) (λ st (_, vs). (Tree.increment, vs)))
      ∷ on Fixed.minus_minus (free t (exact Fixed.semicolon ∷ []) (λ st (_, vs). (Tree.decrement, vs)))
      ∷ on Fixed.plus_equals (free t (number 31 ∷ exact Fixed.semicolon ∷ []) (λ st (n, (_, vs)). (Tree.add n, vs)))
      ∷ on Fixed.minus_equals (free t (number 31 ∷ exact Fixed.semicolon ∷ []) (λ st (n, (_, vs)). (Tree.subtract n, vs)))
      ∷ []
  choices (number greatest) = a_number greatest [] (λ n st vs. (n, vs)) ∷ []
  choices (operand n) =
      on Fixed.read (free (counted 0 (length t.alphabet + 2) t) (read_test ∷ []) (λ st (a, vs). (Tree.atom p a, vs)))
      ∷ on Fixed.c (free (counted 0 2 t) (counter_test ∷ []) (λ st (a, vs). (Tree.atom p a, vs)))
      ∷ on
      Fixed.opens
      (deeper n (operand (suc n) ∷ tail (suc n) ∷ []) (λ st (c, ((f, g), vs)). (Tree.parens p (g (f c)), vs)))
      ∷ on Fixed.not (deeper n (operand (suc n) ∷ []) (λ st (c, vs). (Tree.negation p c, vs)))
      ∷ []
  choices (tail n) =
      on Fixed.closes (free t [] (λ st vs. (((λ c. c), (λ c. c)), vs)))
      ∷ on
      Fixed.and
      (free
      (counted 1 0 t)
      (operand n ∷ tail n ∷ [])
      (λ st (d, ((f, g), vs)). (((λ c. Tree.both c (f d)), g), vs)))
      ∷ on
      Fixed.or
      (free
      (counted 1 0 t)
      (operand n ∷ tail n ∷ [])
      (λ st (d, ((f, g), vs)). (((λ c. c), (λ c. Tree.either c (g (f d)))), vs)))
      ∷ []
  choices read_test =
      on Fixed.same (free t (symbol_name ∷ []) (λ st (x, vs). (Tree.read_is x, vs)))
      ∷ on Fixed.differs (free t (symbol_name ∷ []) (λ st (x, vs). (Tree.read_is_not x, vs)))
      ∷ []
  choices counter_test =
      on Fixed.same (free t (number 0 ∷ []) (λ st (n, vs). (Tree.counter_is n, vs)))
      ∷ on Fixed.differs (free t (number 0 ∷ []) (λ st (n, vs). (Tree.counter_is_not n, vs)))
      ∷ []
  choices symbol_name =
      on_letter
      (λ b.
      record {
        breaks = not (is_in b t.alphabet);
        fault = 6;
        push = [];
        totals = t;
        makes = λ st vs. (Tree.letter (record { byte = b; place = p }), vs);
      })
      ∷ on Fixed.lend (free t [] (λ st vs. (Tree.lend, vs)))
      ∷ on Fixed.rend (free t [] (λ st vs. (Tree.rend, vs)))
      ∷ []

-- the move of the first choice that a token of this class is
abbrev pub take : {A : Type 0} → Choice A → Class → Option (Move A)
take (on m r) (mark k) = elim (same_token (spell k) (spell m)) [ true ↦ some r | false ↦ none ]
take (on m r) (Class.number n) = none
take (on m r) (Class.letter b) = none
take (on m r) (Class.other u) = none
take (on_number r) (mark k) = none
take (on_number r) (Class.number n) = some (r n)
take (on_number r) (Class.letter b) = none
take (on_number r) (Class.other u) = none
take (on_letter r) (mark k) = none
take (on_letter r) (Class.number n) = none
take (on_letter r) (Class.letter b) = some (r b)
take (on_letter r) (Class.other u) = none

abbrev pub pick : {A : Type 0} → List (Choice A) → Class → Option (Move A)
pick [] k = none
pick (r ∷ rs) k = elim (take r k) [ some m ↦ some m | none ↦ pick rs k ]

unfoldable pub move : (x : Expected) → Totals → Placed → Option (Move (Value x))
move x t (u at p) = pick (choices t p x) (classify u)

-- what comes of the tokens: all taken, with so many states and rows, or a refusal's number and place
pub data Outcome : Type 0 where
  taken : ℕ → ℕ → Outcome
  refused : ℕ → ℕ → Outcome

abbrev pub at_end : Stack → Totals → Ending → Outcome
at_end [] t (ends p) = taken t.states t.rows
at_end (x ∷ st) t (ends p) = refused 4 p
at_end st t (broken p) = refused 3 p

unfoldable pub run : Stack → Totals → List Placed → Ending → Outcome
unfolding move
run st t [] e = at_end st t e
run [] t ((u at p) ∷ us) e = refused 4 p
run (x ∷ st) t ((u at p) ∷ us) e =
    elim (move x t (u at p)) [
      | none ↦ refused 4 p
      | some m ↦ elim m.breaks [ true ↦ refused m.fault p | false ↦ run (m.push ++ st) m.totals us e ]
    ]

-- what comes of a text
unfoldable pub outcome : List ℕ → Outcome
unfolding run scan
outcome text = run (program ∷ []) start (scan text).tokens (scan text).ending
