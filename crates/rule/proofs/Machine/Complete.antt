-- The machine takes whatever is derived, sees the faults of its tree and no others, and makes that very tree.
use Prim.Native.Nat.{ℕ, suc}
use mathlib.Core.Path.{◌≡◌, refl, sym, ◌∙◌, ap}
use mathlib.Core.Bool.{Bool}
use mathlib.Core.Option.{Option, none, some, some-injective}
use mathlib.Core.List.{List, [], ◌∷◌}
use lib.Dec.{T, leb}
use Rattle.text.specs.Token.{Token, s}
use Rattle.text.specs.Tokens.{◌at◌}
use Rattle.rule.specs.Tree as Tree
use Rattle.rule.specs.Tree.{Letter, SymbolName, Atom, Condition, Plain, Statement, Rest, Statements, Arms, Order, Program, done, ◌then◌}
use Rattle.rule.specs.Grammar as Grammar
use Rattle.rule.specs.Grammar.{
  IsSymbolName,
  IsAtom,
  Binding,
  loosest,
  middle,
  tightest,
  IsCondition,
  IsPlain,
  IsStatement,
  IsRest,
  IsArms,
  IsBlock,
  IsStatements,
  IsLetters,
  IsAlphabet,
  IsDecrement,
  IsSettings,
  IsProgram,
}
use Rattle.rule.specs.Inside.Class.{Fixed, classify}
use Rattle.rule.specs.Inside.Machine as Machine
use Rattle.rule.specs.Inside.Machine.{Expected, Stack, Value, Values, operand, tail, block, statements, or_else, arms, or_also}
use Rattle.rule.proofs.Machine.Steps.{Ts, Is, is, Far, State, state, begin, eat}
use Rattle.rule.proofs.Machine.Follow.{unlike, eat_no_else, eat_no_also}
use Rattle.rule.proofs.Machine.Far.{
  counts,
  notes,
  sought_far,
  atom_far,
  condition_far,
  plain_far,
  statement_far,
  rest_far,
  statements_far,
  arms_far,
  letters_far,
  truth_far,
  settings_far,
  program_far,
}

-- the symbol takes the tokens up to these, gives this, and comes so far
abbrev pub Eats : (x : Expected) → Ts → Value x → (Far → Far) → Ts → Type 0
Eats x ts v f us =
    (st : Stack) (a : Far) (k : Values (x ∷ st) → Program)
    → eat (state (x ∷ st) a k) ts ≡ eat (state st (f a) (λ vs. k (v, vs))) us

sought_eats : {ts us : Ts} {x : SymbolName} → IsSymbolName ts x us → Eats Machine.symbol_name ts x (sought_far x) us
unfolding eat sought_far
sought_eats Grammar.a_letter st a k = refl
sought_eats Grammar.lend st a k = refl
sought_eats Grammar.rend st a k = refl

atom_eats : {p : ℕ} {ts us : Ts} {x : Atom} (n : ℕ) → IsAtom ts p x us → Eats (operand n) ts (Tree.atom p x) (atom_far x) us
unfolding eat atom_far
atom_eats n (Grammar.read_is x) st a k = sought_eats x st _ _
atom_eats n (Grammar.read_is_not x) st a k = sought_eats x st _ _
atom_eats n Grammar.counter_is st a k = refl
atom_eats n Grammar.counter_is_not st a k = refl

-- a conjunction with its last operand changed so
unfoldable extended : Condition → (Condition → Condition) → Condition
extended (Tree.atom p a) f = f (Tree.atom p a)
extended (Tree.parens p c) f = f (Tree.parens p c)
extended (Tree.negation p c) f = f (Tree.negation p c)
extended (Tree.both c d) f = Tree.both c (extended d f)
extended (Tree.either c d) f = f (Tree.either c d)

extended_same : (c : Condition) → extended c (λ d. d) ≡ c
unfolding extended
extended_same (Tree.atom p a) = refl
extended_same (Tree.parens p c) = refl
extended_same (Tree.negation p c) = refl
extended_same (Tree.both c d) = ap (Tree.both c) (extended_same d)
extended_same (Tree.either c d) = refl

extended_tightest : {ts us : Ts} {c : Condition} (f : Condition → Condition) → IsCondition tightest ts c us → extended c f ≡ f c
unfolding extended
extended_tightest f (Grammar.atom d) = refl
extended_tightest f (Grammar.parens d) = refl
extended_tightest f (Grammar.negation d) = refl

-- what the machine does over a condition: an operand; operands joined by `&&`; all up to `)`
abbrev Eaten : Binding → Ts → Condition → Ts → Type 0
Eaten tightest ts c us = (n : ℕ) → Eats (operand n) ts c (condition_far n c) us
Eaten middle ts c us =
    (n : ℕ) (st : Stack) (a : Far) (k : Condition → (Condition → Condition) → Values st → Program)
    → eat (state (operand n ∷ tail n ∷ st) a (λ (x, ((f, g), vs)). k (f x) g vs)) ts
    ≡ eat (state (tail n ∷ st) (condition_far n c a) (λ ((f, g), vs). k (extended c f) g vs)) us
Eaten loosest ts c us =
    (n : ℕ) (vs : Ts) (st : Stack) (a : Far) (k : Condition → Values st → Program)
    → Is (s ")") us vs
    → eat (state (operand n ∷ tail n ∷ st) a (λ (x, ((f, g), vs)). k (g (f x)) vs)) ts
    ≡ eat (state st (condition_far n c a) (k c)) vs

tail_closes : {us vs : Ts} (n : ℕ) → Is (s ")") us vs → Eats (tail n) us ((λ c. c), (λ c. c)) (λ a. a) vs
unfolding eat
tail_closes n is st a k = refl

-- behind a `!` stands an operand, and no more
negation_eats : (p : ℕ) (ts us : Ts) (c : Condition) → Eaten tightest ts c us → Eaten tightest ((s "!" at p) ∷ ts) (Tree.negation p c) us
unfolding eat condition_far
negation_eats p ts us c d = λ n st a k. d (suc n) st _ (λ (x, vs). k (Tree.negation p x, vs))

condition_eats : {b : Binding} {ts us : Ts} {c : Condition} → IsCondition b ts c us → Eaten b ts c us
unfolding eat condition_far extended
condition_eats (Grammar.atom x) = λ n st a k. atom_eats n x st a k
condition_eats (Grammar.parens {p = p} d) = λ n st a k. condition_eats d (suc n) _ st _ (λ c vs. k (Tree.parens p c, vs)) is
condition_eats (Grammar.negation {p = p} {ts = ts} {us = us} {c = c} d) = negation_eats p ts us c (condition_eats d)
condition_eats {us = us} {c = c} (Grammar.tighter d) =
    λ n st a k.
    condition_eats d n (tail n ∷ st) a (λ (x, ((f, g), vs)). k (f x) g vs)
    ∙ (λ i.
    eat (state (tail n ∷ st) (condition_far n c a) (λ ((f, g), vs). k (sym (extended_tightest f d) i) g vs)) us)
condition_eats (Grammar.both {c = c} d e) =
    λ n st a k.
    condition_eats d n (tail n ∷ st) a (λ (x, ((f, g), vs)). k (f x) g vs)
    ∙ condition_eats e n st _ (λ x g vs. k (Tree.both c x) g vs)
condition_eats {c = c} (Grammar.tight d) =
    λ n vs st a k i.
    condition_eats d n st a (λ x g vs. k (g x) vs)
    ∙ tail_closes n i st _ _
    ∙ ap (λ (x : Condition). eat (state st (condition_far n c a) (k x)) vs) (extended_same c)
condition_eats (Grammar.either {c = c} {d = c'} d e) =
    λ n vs st a k i.
    condition_eats d n st a (λ x g vs. k (g x) vs)
    ∙ condition_eats e n vs st _ (λ x vs. k (Tree.either (extended c (λ y. y)) x) vs) i
    ∙ ap (λ (x : Condition). eat (state st (condition_far n (Tree.either c c') a) (k (Tree.either x c'))) vs) (extended_same c)

plain_eats : {p : ℕ} {ts us : Ts} {x : Plain} → IsPlain ts p x us
    → (d : ℕ) (st : Stack) (a : Far) (k : Values (statements d ∷ st) → Program)
    → eat (state (statements d ∷ st) a k) ts
    ≡ eat (state (statements d ∷ st) (plain_far x (counts 1 1 a)) (λ (b, vs). k (Tree.plain p x then b, vs))) us
unfolding eat plain_far
plain_eats Grammar.move_by d st a k = refl
plain_eats Grammar.move_back d st a k = refl
plain_eats Grammar.goto_lend d st a k = refl
plain_eats Grammar.goto_rend d st a k = refl
plain_eats Grammar.increment d st a k = refl
plain_eats Grammar.decrement d st a k = refl
plain_eats Grammar.add d st a k = refl
plain_eats Grammar.subtract d st a k = refl

-- the tokens begin with neither `else` nor `also`, as statements up to `}` do
data Starts : Ts → Type 0 where
  starts : {u : Token} {p : ℕ} {ts : Ts}
      → T (unlike Fixed.else (classify u))
      → T (unlike Fixed.also (classify u))
      → Starts ((u at p) ∷ ts)

statements_start : {ts us vs : Ts} {b : Statements} → IsStatements ts b us → Is (s "}") us vs → Starts ts
statements_start Grammar.none is = starts tt tt
statements_start (Grammar.next (Grammar.plain Grammar.move_by) b) i = starts tt tt
statements_start (Grammar.next (Grammar.plain Grammar.move_back) b) i = starts tt tt
statements_start (Grammar.next (Grammar.plain Grammar.goto_lend) b) i = starts tt tt
statements_start (Grammar.next (Grammar.plain Grammar.goto_rend) b) i = starts tt tt
statements_start (Grammar.next (Grammar.plain Grammar.increment) b) i = starts tt tt
statements_start (Grammar.next (Grammar.plain Grammar.decrement) b) i = starts tt tt
statements_start (Grammar.next (Grammar.plain Grammar.add) b) i = starts tt tt
statements_start (Grammar.next (Grammar.plain Grammar.subtract) b) i = starts tt tt
statements_start (Grammar.next Grammar.accept b) i = starts tt tt
statements_start (Grammar.next Grammar.reject b) i = starts tt tt
statements_start (Grammar.next (Grammar.if c d e) b) i = starts tt tt
statements_start (Grammar.next (Grammar.while c d) b) i = starts tt tt
statements_start (Grammar.next (Grammar.choose d) b) i = starts tt tt
statements_start (Grammar.next (Grammar.branch d a) b) i = starts tt tt

-- before statements no `else` is taken, and no `also`
no_else_lem : {ts : Ts} → Starts ts
    → (d : ℕ) (st : Stack) (a : Far) (k : Values (or_else d ∷ st) → Program)
    → eat (state (or_else d ∷ st) a k) ts
    ≡ eat (state (statements d ∷ st) a (λ (b, vs). k ((Tree.nothing, b), vs))) ts
no_else_lem (starts h g) d st a k = eat_no_else d st a k _ _ _ h

no_also_lem : {ts : Ts} → Starts ts
    → (d n : ℕ) (st : Stack) (a : Far) (k : Values (or_also d n ∷ st) → Program)
    → eat (state (or_also d n ∷ st) a k) ts ≡ eat (state (statements d ∷ st) a (λ (b, vs). k ((Tree.last_arm, b), vs))) ts
no_also_lem (starts h g) d n st a k = eat_no_also d n st a k _ _ _ g

-- before arms an `also` is taken
an_also : {ts us : Ts} {x : Arms} → IsArms ts x us
    → (d n : ℕ) (st : Stack) (a : Far) (k : Values (or_also d n ∷ st) → Program)
    → eat (state (or_also d n ∷ st) a k) ts
    ≡ eat (state (arms d n ∷ st) a (λ ((y, b), vs). k (((λ p o e. Tree.more_arms p o e y), b), vs))) ts
unfolding eat
an_also (Grammar.last_arm b) d n st a k = refl
an_also (Grammar.more_arms b x) d n st a k = refl

end_eats : {ts us : Ts} → Is (s "}") ts us → (d : ℕ) → Eats (statements d) ts done (λ a. a) us
unfolding eat
end_eats is d st a k = refl

mutual
  unfolding eat statement_far

  statement_eats : {ts us : Ts} {x : Statement} → IsStatement ts x us → Starts us
      → (d : ℕ) (st : Stack) (a : Far) (k : Values (statements d ∷ st) → Program)
      → eat (state (statements d ∷ st) a k) ts
      ≡ eat (state (statements d ∷ st) (statement_far d x a) (λ (b, vs). k (x then b, vs))) us
  statement_eats (Grammar.plain e) f d st a k = plain_eats e d st a k
  statement_eats Grammar.accept f d st a k = refl
  statement_eats Grammar.reject f d st a k = refl
  statement_eats (Grammar.if {p = p} c b e) f d st a k =
      condition_eats c 0 _ _ _ (λ x ((o, y), ((z, r), vs)). k (Tree.if p x o y z then r, vs)) is
      ∙ block_eats b d _ _ _
      ∙ rest_eats e f d st _ _
  statement_eats (Grammar.while {p = p} c b) f d st a k =
      condition_eats c 0 _ _ _ (λ x ((o, y), (e, vs)). k (Tree.while p x o y then e, vs)) is ∙ block_eats b d _ _ _
  statement_eats (Grammar.choose b) f d st a k = block_eats b d _ _ _
  statement_eats (Grammar.branch b x) f d st a k = block_eats b d _ _ _ ∙ arms_eats x f d 1 st _ _

  rest_eats : {ts us : Ts} {x : Rest} → IsRest ts x us → Starts us
      → (d : ℕ) (st : Stack) (a : Far) (k : Values (or_else d ∷ st) → Program)
      → eat (state (or_else d ∷ st) a k) ts
      ≡ eat (state (statements d ∷ st) (rest_far d x a) (λ (b, vs). k ((x, b), vs))) us
  rest_eats Grammar.nothing f d st a k = no_else_lem f d st a k
  rest_eats (Grammar.else b) f d st a k = block_eats b d _ _ _

  arms_eats : {ts us : Ts} {x : Arms} → IsArms ts x us → Starts us
      → (d n : ℕ) (st : Stack) (a : Far) (k : Values (arms d n ∷ st) → Program)
      → eat (state (arms d n ∷ st) a k) ts
      ≡ eat (state (statements d ∷ st) (arms_far d n x a) (λ (b, vs). k ((x, b), vs))) us
  arms_eats (Grammar.last_arm b) f d n st a k = block_eats b d _ _ _ ∙ no_also_lem f d (suc n) st _ _
  arms_eats (Grammar.more_arms b x) f d n st a k = block_eats b d _ _ _ ∙ an_also x d (suc n) st _ _ ∙ arms_eats x f d (suc n) st _ _

  block_eats : {ts us : Ts} {o : ℕ} {b : Statements} → IsBlock ts o b us
      → (d : ℕ)
      → Eats (block d) ts (o, b) (λ a. statements_far (suc d) b (notes (leb 16 d) 8 o a)) us
  block_eats (Grammar.block b) d st a k = statements_eats b is (suc d) st _ _

  statements_eats : {ts us vs : Ts} {b : Statements} → IsStatements ts b us → Is (s "}") us vs
      → (d : ℕ)
      → Eats (statements d) ts b (statements_far d b) vs
  statements_eats Grammar.none i d st a k = end_eats i d st a k
  statements_eats (Grammar.next x b) i d st a k = statement_eats x (statements_start b i) d st a k ∙ statements_eats b i d st _ _

letters_eats : {ts us vs : Ts} {l : List Letter} → IsLetters ts l us → Is (s "]") us vs → Eats Machine.letters ts l (letters_far l) vs
unfolding eat letters_far
letters_eats Grammar.one is st a k = refl
letters_eats (Grammar.more l) i st a k = letters_eats l i st _ _

alphabet_eats : {ts us : Ts} {l : List Letter} → IsAlphabet ts l us → Eats Machine.alphabet ts l (letters_far l) us
unfolding eat
alphabet_eats (Grammar.alphabet l) st a k = letters_eats l is _ _ _

decrement_eats : {p : ℕ} {ts us : Ts} {d : Bool} → IsDecrement ts d p us → Eats Machine.decrement ts (d, p) (truth_far d p) us
unfolding eat truth_far
decrement_eats Grammar.is_true st a k = refl
decrement_eats Grammar.is_false st a k = refl

settings_eats : {p : ℕ} {ts us : Ts} {f : Order} {l : List Letter} {d : Bool} → IsSettings ts f l d p us
    → (st : Stack) (a : Far) (k : Values (Machine.program ∷ st) → Program)
    → eat (state (Machine.program ∷ st) a k) ts
    ≡ eat
    (state
    (Machine.body ∷ st)
    (settings_far f l d p a)
    (λ ((o, b), vs). k (record { first = f; alphabet = l; decr_on_zero = d; truth = p; brace = o; body = b }, vs)))
    us
unfolding eat settings_far
settings_eats (Grammar.alphabet_first (Grammar.alphabet l) d) st a k = letters_eats l is _ _ _ ∙ decrement_eats d _ _ _
settings_eats (Grammar.decrement_first Grammar.is_true l) st a k = alphabet_eats l _ _ _
settings_eats (Grammar.decrement_first Grammar.is_false l) st a k = alphabet_eats l _ _ _

-- the machine takes a program's tokens and makes that program
pub program_eats : {ts : Ts} {x : Program} → IsProgram ts x
    → (a : Far) (k : Values (Machine.program ∷ []) → Program)
    → eat (state (Machine.program ∷ []) a k) ts ≡ some (state [] (program_far x a) (λ vs. k (x, vs)))
unfolding eat program_far
program_eats (Grammar.program h b) a k = settings_eats h [] a k ∙ block_eats b 0 [] _ _

abbrev pub built_on : (st : Stack) → (Values st → Program) → Option Program
built_on [] k = some (k tt)
built_on (x ∷ st) k = none

-- the program that is made, where nothing more is expected
abbrev pub built : Option State → Option Program
built none = none
built (some x) = built_on x.stack x.build

-- tokens are one program at most
pub program_once : {ts : Ts} {x y : Program} → IsProgram ts x → IsProgram ts y → x ≡ y
program_once {x = x} {y = y} d e =
    some-injective x y (ap built (sym (program_eats d begin.far begin.build) ∙ program_eats e begin.far begin.build))
