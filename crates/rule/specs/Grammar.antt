-- The grammar, a constructor for each production and no limit in it. Each relation is between tokens, the tree with which they begin, and the tokens after it.
use Rattle.std.specs.Prelude.{ℕ, Bool, true, false, List, [], ◌∷◌}
use Rattle.text.specs.Token.{Token, w, s}
use Rattle.text.specs.Tokens.{Placed, ◌at◌}
use Rattle.rule.specs.Tree as Tree
use Rattle.rule.specs.Tree.{Letter, SymbolName, Atom, Condition, Plain, Statement, Rest, Statements, Arms, Order, Program, done, ◌then◌}

abbrev pub Ts : Type 0
Ts = List Placed

pub data IsSymbolName : Ts → SymbolName → Ts → Type 0 where
  a_letter : {p b : ℕ} {ts : Ts} → IsSymbolName ((Token.letter b at p) ∷ ts) (Tree.letter (record { byte = b; place = p })) ts
  lend : {p : ℕ} {ts : Ts} → IsSymbolName ((w "lend" at p) ∷ ts) Tree.lend ts
  rend : {p : ℕ} {ts : Ts} → IsSymbolName ((w "rend" at p) ∷ ts) Tree.rend ts

-- an atom, with the place of its first word
pub data IsAtom : Ts → ℕ → Atom → Ts → Type 0 where
  read_is : {p q : ℕ} {ts us : Ts} {x : SymbolName}
      → IsSymbolName ts x us
      → IsAtom ((w "read" at p) ∷ (s "==" at q) ∷ ts) p (Tree.read_is x) us
  read_is_not : {p q : ℕ} {ts us : Ts} {x : SymbolName}
      → IsSymbolName ts x us
      → IsAtom ((w "read" at p) ∷ (s "!=" at q) ∷ ts) p (Tree.read_is_not x) us
  counter_is : {p q r : ℕ} {n : List ℕ} {ts : Ts}
      → IsAtom ((w "c" at p) ∷ (s "==" at q) ∷ (Token.number n at r) ∷ ts) p (Tree.counter_is (record { digits = n; place = r })) ts
  counter_is_not : {p q r : ℕ} {n : List ℕ} {ts : Ts}
      → IsAtom ((w "c" at p) ∷ (s "!=" at q) ∷ (Token.number n at r) ∷ ts) p (Tree.counter_is_not (record { digits = n; place = r })) ts

-- how tightly a condition binds: `||` loosest, then `&&`, then `!`
pub data Binding : Type 0 where
  loosest : Binding
  middle : Binding
  tightest : Binding

pub data IsCondition : Binding → Ts → Condition → Ts → Type 0 where
  atom : {p : ℕ} {ts us : Ts} {a : Atom} → IsAtom ts p a us → IsCondition tightest ts (Tree.atom p a) us
  parens : {p q : ℕ} {ts us : Ts} {c : Condition}
      → IsCondition loosest ts c ((s ")" at q) ∷ us)
      → IsCondition tightest ((s "(" at p) ∷ ts) (Tree.parens p c) us
  negation : {p : ℕ} {ts us : Ts} {c : Condition}
      → IsCondition tightest ts c us
      → IsCondition tightest ((s "!" at p) ∷ ts) (Tree.negation p c) us
  tighter : {ts us : Ts} {c : Condition} → IsCondition tightest ts c us → IsCondition middle ts c us
  both : {p : ℕ} {ts us vs : Ts} {c d : Condition}
      → IsCondition tightest ts c ((s "&&" at p) ∷ us)
      → IsCondition middle us d vs
      → IsCondition middle ts (Tree.both c d) vs
  tight : {ts us : Ts} {c : Condition} → IsCondition middle ts c us → IsCondition loosest ts c us
  either : {p : ℕ} {ts us vs : Ts} {c d : Condition}
      → IsCondition middle ts c ((s "||" at p) ∷ us)
      → IsCondition loosest us d vs
      → IsCondition loosest ts (Tree.either c d) vs

-- a plain statement, with the place of its first word
pub data IsPlain : Ts → ℕ → Plain → Ts → Type 0 where
  move_by : {p q r u v : ℕ} {n : List ℕ} {ts : Ts}
      → IsPlain
      ((w "move" at p) ∷ (s "(" at q) ∷ (Token.number n at r) ∷ (s ")" at u) ∷ (s ";" at v) ∷ ts)
      p
      (Tree.move_by (record { digits = n; place = r }))
      ts
  move_back : {p q o r u v : ℕ} {n : List ℕ} {ts : Ts}
      → IsPlain
      ((w "move" at p) ∷ (s "(" at q) ∷ (s "-" at o) ∷ (Token.number n at r) ∷ (s ")" at u) ∷ (s ";" at v) ∷ ts)
      p
      (Tree.move_back (record { digits = n; place = r }))
      ts
  goto_lend : {p q r u v : ℕ} {ts : Ts}
      → IsPlain ((w "goto" at p) ∷ (s "(" at q) ∷ (w "lend" at r) ∷ (s ")" at u) ∷ (s ";" at v) ∷ ts) p Tree.goto_lend ts
  goto_rend : {p q r u v : ℕ} {ts : Ts}
      → IsPlain ((w "goto" at p) ∷ (s "(" at q) ∷ (w "rend" at r) ∷ (s ")" at u) ∷ (s ";" at v) ∷ ts) p Tree.goto_rend ts
  increment : {p q v : ℕ} {ts : Ts} → IsPlain ((w "c" at p) ∷ (s "++" at q) ∷ (s ";" at v) ∷ ts) p Tree.increment ts
  decrement : {p q v : ℕ} {ts : Ts} → IsPlain ((w "c" at p) ∷ (s "--" at q) ∷ (s ";" at v) ∷ ts) p Tree.decrement ts
  add : {p q r v : ℕ} {n : List ℕ} {ts : Ts}
      → IsPlain
      ((w "c" at p) ∷ (s "+=" at q) ∷ (Token.number n at r) ∷ (s ";" at v) ∷ ts)
      p
      (Tree.add (record { digits = n; place = r }))
      ts
  subtract : {p q r v : ℕ} {n : List ℕ} {ts : Ts}
      → IsPlain
      ((w "c" at p) ∷ (s "-=" at q) ∷ (Token.number n at r) ∷ (s ";" at v) ∷ ts)
      p
      (Tree.subtract (record { digits = n; place = r }))
      ts

mutual
  pub data IsStatement : Ts → Statement → Ts → Type 0 where
    plain : {p : ℕ} {ts us : Ts} {e : Plain} → IsPlain ts p e us → IsStatement ts (Tree.plain p e) us
    accept : {p v : ℕ} {ts : Ts} → IsStatement ((w "accept" at p) ∷ (s ";" at v) ∷ ts) (Tree.accept p) ts
    reject : {p v : ℕ} {ts : Ts} → IsStatement ((w "reject" at p) ∷ (s ";" at v) ∷ ts) (Tree.reject p) ts
    if : {p q r o : ℕ} {ts us vs xs : Ts} {c : Condition} {b : Statements} {e : Rest}
        → IsCondition loosest ts c ((s ")" at r) ∷ us)
        → IsBlock us o b vs
        → IsRest vs e xs
        → IsStatement ((w "if" at p) ∷ (s "(" at q) ∷ ts) (Tree.if p c o b e) xs
    while : {p q r o : ℕ} {ts us vs : Ts} {c : Condition} {b : Statements}
        → IsCondition loosest ts c ((s ")" at r) ∷ us)
        → IsBlock us o b vs
        → IsStatement ((w "while" at p) ∷ (s "(" at q) ∷ ts) (Tree.while p c o b) vs
    choose : {p q o : ℕ} {ts us : Ts} {b : Statements}
        → IsBlock ts o b us
        → IsStatement ((w "while" at p) ∷ (w "choose" at q) ∷ ts) (Tree.choose p o b) us
    branch : {p o : ℕ} {ts us vs : Ts} {b : Statements} {a : Arms}
        → IsBlock ts o b us
        → IsArms us a vs
        → IsStatement ((w "branch" at p) ∷ ts) (Tree.branch p o b a) vs

  -- an `else` is optional
  pub data IsRest : Ts → Rest → Ts → Type 0 where
    nothing : {ts : Ts} → IsRest ts Tree.nothing ts
    else : {t o : ℕ} {ts us : Ts} {b : Statements}
        → IsBlock ts o b us
        → IsRest ((w "else" at t) ∷ ts) (Tree.else o b) us

  pub data IsArms : Ts → Arms → Ts → Type 0 where
    last_arm : {p o : ℕ} {ts us : Ts} {b : Statements}
        → IsBlock ts o b us
        → IsArms ((w "also" at p) ∷ ts) (Tree.last_arm p o b) us
    more_arms : {p o : ℕ} {ts us vs : Ts} {b : Statements} {a : Arms}
        → IsBlock ts o b us
        → IsArms us a vs
        → IsArms ((w "also" at p) ∷ ts) (Tree.more_arms p o b a) vs

  pub data IsBlock : Ts → ℕ → Statements → Ts → Type 0 where
    block : {p q : ℕ} {ts us : Ts} {b : Statements}
        → IsStatements ts b ((s "}" at q) ∷ us)
        → IsBlock ((s "{" at p) ∷ ts) p b us

  pub data IsStatements : Ts → Statements → Ts → Type 0 where
    none : {ts : Ts} → IsStatements ts done ts
    next : {ts us vs : Ts} {a : Statement} {b : Statements}
        → IsStatement ts a us
        → IsStatements us b vs
        → IsStatements ts (a then b) vs

pub data IsLetters : Ts → List Letter → Ts → Type 0 where
  one : {p b : ℕ} {ts : Ts} → IsLetters ((Token.letter b at p) ∷ ts) (record { byte = b; place = p } ∷ []) ts
  more : {p q b : ℕ} {ts us : Ts} {l : List Letter}
      → IsLetters ts l us
      → IsLetters ((Token.letter b at p) ∷ (s "," at q) ∷ ts) (record { byte = b; place = p } ∷ l) us

pub data IsAlphabet : Ts → List Letter → Ts → Type 0 where
  alphabet : {p q r u v : ℕ} {ts us : Ts} {l : List Letter}
      → IsLetters ts l ((s "]" at u) ∷ (s ";" at v) ∷ us)
      → IsAlphabet ((w "alphabet" at p) ∷ (s "=" at q) ∷ (s "[" at r) ∷ ts) l us

-- true or false, with the place of that word
pub data IsDecrement : Ts → Bool → ℕ → Ts → Type 0 where
  is_true : {p q r v : ℕ} {ts : Ts}
      → IsDecrement ((w "decr_on_zero" at p) ∷ (s "=" at q) ∷ (w "true" at r) ∷ (s ";" at v) ∷ ts) true r ts
  is_false : {p q r v : ℕ} {ts : Ts}
      → IsDecrement ((w "decr_on_zero" at p) ∷ (s "=" at q) ∷ (w "false" at r) ∷ (s ";" at v) ∷ ts) false r ts

-- the two settings, each once, in either order
pub data IsSettings : Ts → Order → List Letter → Bool → ℕ → Ts → Type 0 where
  alphabet_first : {p : ℕ} {ts us vs : Ts} {l : List Letter} {d : Bool}
      → IsAlphabet ts l us
      → IsDecrement us d p vs
      → IsSettings ts Tree.alphabet_first l d p vs
  decrement_first : {p : ℕ} {ts us vs : Ts} {l : List Letter} {d : Bool}
      → IsDecrement ts d p us
      → IsAlphabet us l vs
      → IsSettings ts Tree.decrement_first l d p vs

-- the tokens, all of them, are this program
pub data IsProgram : Ts → Program → Type 0 where
  program : {p q r t o v : ℕ} {ts us : Ts} {f : Order} {l : List Letter} {d : Bool} {b : Statements}
      → IsSettings ts f l d v ((w "twoc" at p) ∷ (s "(" at q) ∷ (w "string" at r) ∷ (s ")" at t) ∷ us)
      → IsBlock us o b []
      → IsProgram ts (record { first = f; alphabet = l; decr_on_zero = d; truth = v; brace = o; body = b })
