-- What the machine takes is derived: each symbol has a meaning in the grammar, and each move keeps it.
use Prim.Native.Nat.{ℕ}
use mathlib.Core.Path.{◌≡◌, refl, sym, subst}
use mathlib.Core.Bool.{Bool, true, false}
use mathlib.Core.Option.{Option, none, some}
use mathlib.Core.List.{List, [], ◌∷◌, ◌++◌, map, cons≢nil}
use lib.Dec.{T}
use Rattle.text.specs.Token.{Token, w, s}
use Rattle.text.specs.Tokens.{◌at◌}
use Rattle.text.proofs.Same.{same_token_lem}
use Rattle.text.specs.Inside.Same.{same_token}
use Rattle.rule.specs.Tree as Tree
use Rattle.rule.specs.Tree.{Number, Letter, Condition, Plain, Statement, Rest, Statements, Order, Program, ◌then◌}
use Rattle.rule.specs.Grammar as Grammar
use Rattle.rule.specs.Grammar.{IsSymbolName, IsAtom, loosest, middle, tightest, IsCondition, IsPlain, IsStatement, IsRest, IsArms, IsBlock, IsStatements, IsLetters, IsAlphabet, IsDecrement, IsSettings, IsProgram}
use Rattle.rule.specs.Inside.Class.{Fixed, spell, Class, mark, number, letter, other, token_of, classify}
use Rattle.rule.proofs.Machine.Class.{token_of_class}
use Rattle.rule.specs.Inside.Machine as Machine
use Rattle.rule.specs.Inside.Machine.{Expected, Stack, Value, Values, Totals, Move, Choice, on, on_number, on_letter, along, along_choice, also, statement_choices, choices, take, pick, move}
use Rattle.rule.proofs.Machine.Steps.{Ts, Is, is, Far, State, state, begin, follow, eat, ◌>>=◌}

data IsNumber : Ts → Number → Ts → Type 0 where
  is_number : {n : List ℕ} {p : ℕ} {ts : Ts} → IsNumber ((Token.number n at p) ∷ ts) (record { digits = n; place = p }) ts

data IsBody : Ts → ℕ → Statements → Ts → Type 0 where
  body : {p q r t o : ℕ} {ts us : Ts} {b : Statements}
      → IsBlock ts o b us
      → IsBody ((w "twoc" at p) ∷ (s "(" at q) ∷ (w "string" at r) ∷ (s ")" at t) ∷ ts) o b us

-- statements up to `}`
abbrev Closed : Ts → Statements → Ts → Type 0
Closed ts b us = (q : ℕ) × IsStatements ts b ((s "}" at q) ∷ us)

-- the tokens of a symbol, what they give, and the tokens after it. What may follow something is said by what becomes of that
abbrev Means : (x : Expected) → Ts → Value x → Ts → Type 0
Means (Machine.exact m) ts v us = Is (spell m) ts us
Means Machine.program ts v us = (ms : Ts) × IsSettings ts v.first v.alphabet v.decr_on_zero v.truth ms × IsBody ms v.brace v.body us
Means Machine.alphabet ts l us = IsAlphabet ts l us
Means Machine.decrement ts v us = IsDecrement ts v.0 v.1 us
Means Machine.letters ts l us = (q : ℕ) × IsLetters ts l ((s "]" at q) ∷ us)
Means Machine.more_letters ts l us =
    (q : ℕ) × ((p b : ℕ) → IsLetters ((Token.letter b at p) ∷ ts) (record { byte = b; place = p } ∷ l) ((s "]" at q) ∷ us))
Means Machine.truth ts v us = (p q : ℕ) → IsDecrement ((w "decr_on_zero" at p) ∷ (s "=" at q) ∷ ts) v.0 v.1 us
Means Machine.body ts v us = IsBody ts v.0 v.1 us
Means (Machine.block d) ts v us = IsBlock ts v.0 v.1 us
Means (Machine.statements d) ts b us = Closed ts b us
Means (Machine.or_else d) ts v us = (ms : Ts) × IsRest ts v.0 ms × Closed ms v.1 us
Means (Machine.arms d n) ts v us = (ms : Ts) × IsArms ts v.0 ms × Closed ms v.1 us
Means (Machine.or_also d n) ts v us =
    (ms : Ts)
    × ((p o : ℕ) (t : Ts) (b : Statements) → IsBlock t o b ts → IsArms ((w "also" at p) ∷ t) (v.0 p o b) ms)
    × Closed ms v.1 us
Means (Machine.loop d) ts a us = (p : ℕ) → IsStatement ((w "while" at p) ∷ ts) (a p) us
Means Machine.distance ts e us = (p q : ℕ) → IsPlain ((w "move" at p) ∷ (s "(" at q) ∷ ts) p e us
Means Machine.end ts e us = (p q : ℕ) → IsPlain ((w "goto" at p) ∷ (s "(" at q) ∷ ts) p e us
Means Machine.change ts e us = (p : ℕ) → IsPlain ((w "c" at p) ∷ ts) p e us
Means (Machine.number greatest) ts n us = IsNumber ts n us
Means (Machine.operand n) ts c us = IsCondition tightest ts c us
Means (Machine.tail n) ts v us =
    (ms : Ts)
    × ((t : Ts) (c : Condition) → IsCondition tightest t c ts → IsCondition middle t (v.0 c) ms)
    × ((q : ℕ) × ((t : Ts) (c : Condition) → IsCondition middle t c ms → IsCondition loosest t (v.1 c) ((s ")" at q) ∷ us)))
Means Machine.read_test ts a us = (p : ℕ) → IsAtom ((w "read" at p) ∷ ts) p a us
Means Machine.counter_test ts a us = (p : ℕ) → IsAtom ((w "c" at p) ∷ ts) p a us
Means Machine.symbol_name ts x us = IsSymbolName ts x us

data Over : Ts → Type 0 where
  over : Over []

-- all the tokens are those of the symbols of a stack
abbrev MeansAll : (st : Stack) → Ts → Values st → Type 0
MeansAll [] ts vs = Over ts
MeansAll (x ∷ st) ts vs = (us : Ts) × Means x ts vs.0 us × MeansAll st us vs.1

-- a move by this token keeps the meaning
abbrev Keeps : {A : Type 0} → (Ts → A → Ts → Type 0) → Token → ℕ → Move A → Type 0
Keeps M t p m =
    (st : Stack) (ts : Ts) (vs : Values (m.push ++ st))
    → MeansAll (m.push ++ st) ts vs
    → (us : Ts) × M ((t at p) ∷ ts) (m.makes st vs).0 us × MeansAll st us (m.makes st vs).1

abbrev KeepsChoice : {A : Type 0} → (Ts → A → Ts → Type 0) → ℕ → Choice A → Type 0
KeepsChoice M p (on m r) = Keeps M (spell m) p r
KeepsChoice M p (on_number r) = (n : List ℕ) → Keeps M (Token.number n) p (r n)
KeepsChoice M p (on_letter r) = (b : ℕ) → Keeps M (Token.letter b) p (r b)

-- so does each choice, one proof behind another
abbrev KeepsAll : {A : Type 0} → (Ts → A → Ts → Type 0) → ℕ → List (Choice A) → Type 0
KeepsAll M p [] = Unit {0}
KeepsAll M p (r ∷ rs) = KeepsChoice M p r × KeepsAll M p rs

infixr 20 ◌&◌
abbrev ◌&◌ : {A B : Type 0} → A → B → A × B
a & b = (a, b)

-- a condition up to `)`
condition : {ts us vs : Ts} {c : Condition} {f g : Condition → Condition}
    → IsCondition tightest ts c us
    → Means (Machine.tail 0) us (f, g) vs
    → (q : ℕ) × IsCondition loosest ts (g (f c)) ((s ")" at q) ∷ vs)
condition c t = (t.2.0, t.2.1 _ _ (t.1 _ _ c))

then_closed : {ts us vs : Ts} {a : Statement} {b : Statements} → IsStatement ts a us → Closed us b vs → Closed ts (a then b) vs
then_closed a b = (b.0, Grammar.next a b.1)

-- statements by their first tokens
move_keeps : {p : ℕ} {ts us vs : Ts} {e : Plain} → Is (s "(") ts us → Means Machine.distance us e vs → IsStatement ((w "move" at p) ∷ ts) (Tree.plain p e) vs
move_keeps is e = Grammar.plain (e _ _)

goto_keeps : {p : ℕ} {ts us vs : Ts} {e : Plain} → Is (s "(") ts us → Means Machine.end us e vs → IsStatement ((w "goto" at p) ∷ ts) (Tree.plain p e) vs
goto_keeps is e = Grammar.plain (e _ _)

accept_keeps : {p : ℕ} {ts us : Ts} → Is (s ";") ts us → IsStatement ((w "accept" at p) ∷ ts) (Tree.accept p) us
accept_keeps is = Grammar.accept

reject_keeps : {p : ℕ} {ts us : Ts} → Is (s ";") ts us → IsStatement ((w "reject" at p) ∷ ts) (Tree.reject p) us
reject_keeps is = Grammar.reject

if_keeps : {p o : ℕ} {ts us vs ws xs ys : Ts} {c : Condition} {f g : Condition → Condition} {b : Statements} {e : Rest}
    → Is (s "(") ts us
    → IsCondition tightest us c vs
    → Means (Machine.tail 0) vs (f, g) ws
    → IsBlock ws o b xs
    → IsRest xs e ys
    → IsStatement ((w "if" at p) ∷ ts) (Tree.if p (g (f c)) o b e) ys
if_keeps is c t b e = Grammar.if (condition c t).1 b e

statements_keep : (t : Totals) (p d : ℕ) → KeepsAll Closed p (statement_choices t p d)
statements_keep t p d =
    (λ st ts vs r. (ts, (p, Grammar.none), r))
    & (λ st ts vs (_, i, (_, e, (us, b, r))). (us, then_closed (move_keeps i e) b, r))
    & (λ st ts vs (_, i, (_, e, (us, b, r))). (us, then_closed (goto_keeps i e) b, r))
    & (λ st ts vs (_, e, (us, b, r)). (us, then_closed (Grammar.plain (e p)) b, r))
    & (λ st ts vs (_, i, (us, b, r)). (us, then_closed (accept_keeps i) b, r))
    & (λ st ts vs (_, i, (us, b, r)). (us, then_closed (reject_keeps i) b, r))
    & (λ st ts vs (_, i, (_, c, (_, f, (_, b, (us, (_, e, a), r))))). (us, then_closed (if_keeps i c f b e) a, r))
    & (λ st ts vs (_, a, (us, b, r)). (us, then_closed (a p) b, r))
    & (λ st ts vs (_, b, (us, (_, a, c), r)). (us, then_closed (Grammar.branch b a) c, r))
    & tt

-- a choice seen as one of another symbol
module _ {A B : Type 0} (f : A → B) (M : Ts → A → Ts → Type 0) (N : Ts → B → Ts → Type 0)
    (turn : (ts : Ts) (a : A) (us : Ts) → M ts a us → N ts (f a) us) (p : ℕ) where
  along_keeps : (t : Token) (m : Move A) → Keeps M t p m → Keeps N t p (along f m)
  along_keeps t m h st ts vs r = ((h st ts vs r).0, turn _ _ _ (h st ts vs r).1, (h st ts vs r).2)

  choice_keeps : (r : Choice A) → KeepsChoice M p r → KeepsChoice N p (along_choice f r)
  choice_keeps (on m r) h = along_keeps (spell m) r h
  choice_keeps (on_number r) h = λ n. along_keeps (Token.number n) (r n) (h n)
  choice_keeps (on_letter r) h = λ b. along_keeps (Token.letter b) (r b) (h b)

  all_keep : (rs : List (Choice A)) → KeepsAll M p rs → KeepsAll N p (map (along_choice f) rs)
  all_keep [] h = tt
  all_keep (r ∷ rs) h = (choice_keeps r h.0, all_keep rs h.1)

-- settings
alphabet_keeps : {p : ℕ} {ts us vs ws xs : Ts} {l : List Letter}
    → Is (s "=") ts us
    → Is (s "[") us vs
    → Means Machine.letters vs l ws
    → Is (s ";") ws xs
    → IsAlphabet ((w "alphabet" at p) ∷ ts) l xs
alphabet_keeps is is l is = Grammar.alphabet l.1

decrement_keeps : {p : ℕ} {ts us vs : Ts} {d : Bool} {r : ℕ} → Is (s "=") ts us → Means Machine.truth us (d, r) vs → IsDecrement ((w "decr_on_zero" at p) ∷ ts) d r vs
decrement_keeps is d = d _ _

true_keeps : {ts us : Ts} → Is (s ";") ts us → (r p q : ℕ) → IsDecrement ((w "decr_on_zero" at p) ∷ (s "=" at q) ∷ (w "true" at r) ∷ ts) true r us
true_keeps is r p q = Grammar.is_true

false_keeps : {ts us : Ts} → Is (s ";") ts us → (r p q : ℕ) → IsDecrement ((w "decr_on_zero" at p) ∷ (s "=" at q) ∷ (w "false" at r) ∷ ts) false r us
false_keeps is r p q = Grammar.is_false

body_keeps : {p o : ℕ} {ts us vs ws xs : Ts} {b : Statements}
    → Is (s "(") ts us
    → Is (w "string") us vs
    → Is (s ")") vs ws
    → IsBlock ws o b xs
    → IsBody ((w "twoc" at p) ∷ ts) o b xs
body_keeps is is is b = body b

-- plain statements
move_by_keeps : {r : ℕ} {n : List ℕ} {ts us vs : Ts} → Is (s ")") ts us → Is (s ";") us vs
    → Means Machine.distance ((Token.number n at r) ∷ ts) (Tree.move_by (record { digits = n; place = r })) vs
move_by_keeps is is p q = Grammar.move_by

move_back_keeps : {o : ℕ} {n : Number} {ts us vs ws : Ts} → IsNumber ts n us → Is (s ")") us vs → Is (s ";") vs ws
    → Means Machine.distance ((s "-" at o) ∷ ts) (Tree.move_back n) ws
move_back_keeps is_number is is p q = Grammar.move_back

lend_keeps : {r : ℕ} {ts us vs : Ts} → Is (s ")") ts us → Is (s ";") us vs → Means Machine.end ((w "lend" at r) ∷ ts) Tree.goto_lend vs
lend_keeps is is p q = Grammar.goto_lend

rend_keeps : {r : ℕ} {ts us vs : Ts} → Is (s ")") ts us → Is (s ";") us vs → Means Machine.end ((w "rend" at r) ∷ ts) Tree.goto_rend vs
rend_keeps is is p q = Grammar.goto_rend

plus_plus_keeps : {q : ℕ} {ts us : Ts} → Is (s ";") ts us → Means Machine.change ((s "++" at q) ∷ ts) Tree.increment us
plus_plus_keeps is p = Grammar.increment

minus_minus_keeps : {q : ℕ} {ts us : Ts} → Is (s ";") ts us → Means Machine.change ((s "--" at q) ∷ ts) Tree.decrement us
minus_minus_keeps is p = Grammar.decrement

plus_equals_keeps : {q : ℕ} {n : Number} {ts us vs : Ts} → IsNumber ts n us → Is (s ";") us vs → Means Machine.change ((s "+=" at q) ∷ ts) (Tree.add n) vs
plus_equals_keeps is_number is p = Grammar.add

minus_equals_keeps : {q : ℕ} {n : Number} {ts us vs : Ts} → IsNumber ts n us → Is (s ";") us vs → Means Machine.change ((s "-=" at q) ∷ ts) (Tree.subtract n) vs
minus_equals_keeps is_number is p = Grammar.subtract

-- atoms
counter_is_keeps : {q : ℕ} {n : Number} {ts us : Ts} → IsNumber ts n us → Means Machine.counter_test ((s "==" at q) ∷ ts) (Tree.counter_is n) us
counter_is_keeps is_number p = Grammar.counter_is

counter_is_not_keeps : {q : ℕ} {n : Number} {ts us : Ts} → IsNumber ts n us → Means Machine.counter_test ((s "!=" at q) ∷ ts) (Tree.counter_is_not n) us
counter_is_not_keeps is_number p = Grammar.counter_is_not

-- arms
also_keeps : (t : Totals) (p d n : ℕ) → Keeps (Means (Machine.arms d n)) (w "also") p (also t p d n)
also_keeps t p d n st ts vs (_, b, (us, (_, f, c), r)) = (us, (_, f p _ _ _ b, c), r)

choices_keep : (t : Totals) (p : ℕ) (x : Expected) → KeepsAll (Means x) p (choices t p x)
choices_keep t p (Machine.exact m) = (λ st ts vs r. (ts, is, r)) & tt
choices_keep t p Machine.program =
    (λ st ts vs (_, i, (_, j, (_, l, (_, k, (_, d, (us, b, r)))))). (us, (_, Grammar.alphabet_first (alphabet_keeps i j l k) d, b), r))
    & (λ st ts vs (_, i, (_, d, (_, l, (us, b, r)))). (us, (_, Grammar.decrement_first (decrement_keeps i d) l, b), r))
    & tt
choices_keep t p Machine.alphabet = (λ st ts vs (_, i, (_, j, (_, l, (us, k, r)))). (us, alphabet_keeps i j l k, r)) & tt
choices_keep t p Machine.decrement = (λ st ts vs (_, i, (us, d, r)). (us, decrement_keeps i d, r)) & tt
choices_keep t p Machine.letters = (λ b st ts vs (us, l, r). (us, (l.0, l.1 p b), r)) & tt
choices_keep t p Machine.more_letters =
    (λ st ts vs r. (ts, (p, λ q b. Grammar.one), r))
    & (λ st ts vs (us, l, r). (us, (l.0, λ q b. Grammar.more l.1), r))
    & tt
choices_keep t p Machine.truth =
    (λ st ts vs (us, i, r). (us, true_keeps i p, r)) & (λ st ts vs (us, i, r). (us, false_keeps i p, r)) & tt
choices_keep t p Machine.body = (λ st ts vs (_, i, (_, j, (_, k, (us, b, r)))). (us, body_keeps i j k b, r)) & tt
choices_keep t p (Machine.block d) = (λ st ts vs (us, b, r). (us, Grammar.block b.1, r)) & tt
choices_keep t p (Machine.statements d) = statements_keep t p d
choices_keep t p (Machine.or_else d) =
    (λ st ts vs (_, b, (us, a, r)). (us, (_, Grammar.else b, a), r))
    & all_keep
    _
    Closed
    (Means (Machine.or_else d))
    (λ ts a us h. (ts, Grammar.nothing, h))
    p
    (statement_choices t p d)
    (statements_keep t p d)
choices_keep t p (Machine.arms d n) = also_keeps t p d n & tt
choices_keep t p (Machine.or_also d n) =
    along_keeps
    _
    (Means (Machine.arms d n))
    (Means (Machine.or_also d n))
    (λ ts a us (ms, x, c). (ms, (λ q o u b k. Grammar.more_arms k x), c))
    p
    (w "also")
    (also t p d n)
    (also_keeps t p d n)
    & all_keep
    _
    Closed
    (Means (Machine.or_also d n))
    (λ ts a us h. (ts, (λ q o u b k. Grammar.last_arm k), h))
    p
    (statement_choices t p d)
    (statements_keep t p d)
choices_keep t p (Machine.loop d) =
    (λ st ts vs (_, c, (_, f, (us, b, r))). (us, (λ q. Grammar.while (condition c f).1 b), r))
    & (λ st ts vs (us, b, r). (us, (λ q. Grammar.choose b), r))
    & tt
choices_keep t p Machine.distance =
    (λ n st ts vs (_, i, (us, j, r)). (us, move_by_keeps i j, r))
    & (λ st ts vs (_, n, (_, i, (us, j, r))). (us, move_back_keeps n i j, r))
    & tt
choices_keep t p Machine.end =
    (λ st ts vs (_, i, (us, j, r)). (us, lend_keeps i j, r)) & (λ st ts vs (_, i, (us, j, r)). (us, rend_keeps i j, r)) & tt
choices_keep t p Machine.change =
    (λ st ts vs (us, i, r). (us, plus_plus_keeps i, r))
    & (λ st ts vs (us, i, r). (us, minus_minus_keeps i, r))
    & (λ st ts vs (_, n, (us, i, r)). (us, plus_equals_keeps n i, r))
    & (λ st ts vs (_, n, (us, i, r)). (us, minus_equals_keeps n i, r))
    & tt
choices_keep t p (Machine.number greatest) = (λ n st ts vs r. (ts, is_number, r)) & tt
choices_keep t p (Machine.operand n) =
    (λ st ts vs (us, a, r). (us, Grammar.atom (a p), r))
    & (λ st ts vs (us, a, r). (us, Grammar.atom (a p), r))
    & (λ st ts vs (_, c, (us, f, r)). (us, Grammar.parens (condition c f).1, r))
    & (λ st ts vs (us, c, r). (us, Grammar.negation c, r))
    & tt
choices_keep t p (Machine.tail n) =
    (λ st ts vs r. (ts, (_, (λ u c d. Grammar.tighter d), (p, λ u c d. Grammar.tight d)), r))
    & (λ st ts vs (_, d, (us, f, r)). (us, (f.0, (λ u c e. Grammar.both e (f.1 _ _ d)), f.2), r))
    & (λ st ts vs (_, d, (us, f, r)).
    (us, (_, (λ u c e. Grammar.tighter e), ((condition d f).0, λ u c e. Grammar.either e (condition d f).1)), r))
    & tt
choices_keep t p Machine.read_test =
    (λ st ts vs (us, x, r). (us, (λ q. Grammar.read_is x), r)) & (λ st ts vs (us, x, r). (us, (λ q. Grammar.read_is_not x), r)) & tt
choices_keep t p Machine.counter_test =
    (λ st ts vs (us, n, r). (us, counter_is_keeps n, r)) & (λ st ts vs (us, n, r). (us, counter_is_not_keeps n, r)) & tt
choices_keep t p Machine.symbol_name =
    (λ b st ts vs r. (ts, Grammar.a_letter, r)) & (λ st ts vs r. (ts, Grammar.lend, r)) & (λ st ts vs r. (ts, Grammar.rend, r)) & tt

-- the move that is picked for a token, if one is, keeps the meaning
abbrev KeepsIf : {A : Type 0} → (Ts → A → Ts → Type 0) → Token → ℕ → Option (Move A) → Type 0
KeepsIf M t p none = Unit {0}
KeepsIf M t p (some m) = Keeps M t p m

module _ {A : Type 0} (M : Ts → A → Ts → Type 0) (p : ℕ) where
  mark_keeps : (m k : Fixed) (r : Move A)
      → Keeps M (spell m) p r
      → (b : Bool)
      → same_token (spell k) (spell m) ≡ b
      → KeepsIf M (spell k) p (elim b [ true ↦ some r | false ↦ none ])
  mark_keeps m k r h true e = subst (λ (t : Token). Keeps M t p r) (sym (same_token_lem (spell k) (spell m) (subst T (sym e) tt))) h
  mark_keeps m k r h false e = tt

  take_keeps : (r : Choice A) → KeepsChoice M p r → (k : Class) → KeepsIf M (token_of k) p (take r k)
  take_keeps (on m r) h (mark k) = mark_keeps m k r h (same_token (spell k) (spell m)) refl
  take_keeps (on m r) h (number n) = tt
  take_keeps (on m r) h (letter b) = tt
  take_keeps (on m r) h (other u) = tt
  take_keeps (on_number r) h (mark k) = tt
  take_keeps (on_number r) h (number n) = h n
  take_keeps (on_number r) h (letter b) = tt
  take_keeps (on_number r) h (other u) = tt
  take_keeps (on_letter r) h (mark k) = tt
  take_keeps (on_letter r) h (number n) = tt
  take_keeps (on_letter r) h (letter b) = h b
  take_keeps (on_letter r) h (other u) = tt

  first_keeps : (t : Token) (o o' : Option (Move A)) → KeepsIf M t p o → KeepsIf M t p o' → KeepsIf M t p (elim o [ some m ↦ some m | none ↦ o' ])
  first_keeps t none o' h h' = h'
  first_keeps t (some m) o' h h' = h

  pick_keeps : (rs : List (Choice A)) → KeepsAll M p rs → (k : Class) → KeepsIf M (token_of k) p (pick rs k)
  pick_keeps [] h k = tt
  pick_keeps (r ∷ rs) h k = first_keeps (token_of k) (take r k) (pick rs k) (take_keeps r h.0 k) (pick_keeps rs h.1 k)

move_means : (x : Expected) (t : Totals) (u : Token) (p : ℕ) → KeepsIf (Means x) u p (move x t (u at p))
unfolding move
move_means x t u p =
    subst
    (λ (v : Token). KeepsIf (Means x) v p (pick (choices t p x) (classify u)))
    (token_of_class u)
    (pick_keeps (Means x) p (choices t p x) (choices_keep t p x) (classify u))

-- nothing more is expected
abbrev pub Ended : Option State → Type 0
Ended none = ⊥
Ended (some x) = x.stack ≡ []

-- what the machine takes to its end has the meaning of what was expected
eat_means : (ts : Ts) (st : Stack) (a : Far) (k : Values st → Program) → Ended (eat (state st a k) ts) → (vs : Values st) × MeansAll st ts vs
unfolding eat
eat_means [] [] a k h = (tt, over)
eat_means [] (x ∷ st) a k h = absurd (cons≢nil h)
eat_means ((u at p) ∷ ts) [] a k h = absurd h
eat_means ((u at p) ∷ ts) (x ∷ st) a k h =
    by_cases (move x a.totals (u at p)) (move_means x a.totals u p) (λ st b l. eat_means ts st b l) h
  where
    by_cases : (o : Option (Move (Value x)))
        → KeepsIf (Means x) u p o
        → ((st : Stack) (b : Far) (l : Values st → Program) → Ended (eat (state st b l) ts) → (vs : Values st) × MeansAll st ts vs)
        → Ended ((o >>= λ m. some (follow x st a k p m)) >>= λ y. eat y ts)
        → (vs : Values (x ∷ st)) × MeansAll (x ∷ st) ((u at p) ∷ ts) vs
    by_cases none m rest h = absurd h
    by_cases (some z) m rest h =
        let (vs, r) = rest (z.push ++ st) _ _ h in
        (z.makes st vs, m st ts vs r)

program_of : {ts us vs : Ts} {f : Order} {l : List Letter} {d : Bool} {r o : ℕ} {b : Statements}
    → IsSettings ts f l d r us
    → IsBody us o b vs
    → Over vs
    → IsProgram ts (record { first = f; alphabet = l; decr_on_zero = d; truth = r; brace = o; body = b })
program_of h (body b) over = Grammar.program h b

-- what the machine takes to its end is a program
pub eaten_program : (ts : Ts) → Ended (eat begin ts) → (x : Program) × IsProgram ts x
eaten_program ts h =
    let (vs, (_, (_, d, b), o)) = eat_means ts begin.stack begin.far begin.build h in
    (vs.0, program_of d b o)
