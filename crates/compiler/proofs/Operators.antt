-- Whether an operator comes next: what each token says of it, that a condition hides the operators inside it, and so by which
-- production a condition is derived.
use Prim.Native.Nat.{ℕ, zero, suc, ◌+◌, ◌-◌, ◌≤◌, ◌<◌}
use native.Mathlib.Omega.{arith}
use native.Mathlib.Numerals.{add-one}
use mathlib.Core.Path.{◌≡◌, refl, sym, ◌∙◌, ap, subst}
use mathlib.Core.Bool.{Bool, true, false, not, true≢false}
use mathlib.Core.List.{List, [], ◌∷◌}
use lib.Dec.{T}
use Rattle.text.specs.Token as Spec
use Rattle.text.specs.Token.{sign, w, s}
use Rattle.text.specs.Tokens.{Placed, ◌at◌}
use Rattle.text.specs.First.{written}
use Rattle.text.specs.declared.Word.{Word}
use Rattle.text.specs.declared.Sign.{Sign}
use Rattle.rule.specs.Tree as Tree
use Rattle.rule.specs.Tree.{Condition}
use Rattle.rule.specs.Grammar.{
  Ts,
  IsSymbolName,
  a_letter,
  lend,
  rend,
  IsAtom,
  read_is,
  read_is_not,
  counter_is,
  counter_is_not,
  Binding,
  loosest,
  middle,
  tightest,
  IsCondition,
  atom,
  parens,
  negation,
  tighter,
  both,
  tight,
  either,
}
use Rattle.compiler.specs.Inside.Seeing.{Here}
use Rattle.compiler.specs.Inside.Operators.{is_or, Bracketing, opening, closing, and, or, other, look_at, mark_of, marked, onward, ahead}
use Rattle.compiler.specs.Inside.Emission.{Closes, by_paren, by_or, joins, joined}
use Rattle.std.specs.declared.ops.ControlFlow.{ControlFlow}
use Rattle.std.specs.declared.ops.ControlFlow.TheVariants.{Continue, Break}
use Rattle.compiler.specs.declared.ahead.Operator.{Operator}
use Rattle.compiler.specs.contracts.ahead.Operator.{the_type as operator_type}
use denote.Enum.Bare.{sameb}
use Rattle.std.specs.Prelude.{Some, None}
use Rattle.text.specs.First.{FirstToken}
use Rattle.text.specs.declared.Token.{Token}
use Rattle.compiler.specs.Inside.Seeing.{end_of}
use Rattle.compiler.proofs.Seeing.{SeenAs, seen_a_word, seen_a_number, seen_a_letter, seen_a_sign, seen_nothing, sign_in, seen_behind, first_seen, first_falls, end_some, end_none}

-- what the code finds at a sign, by the sign and the depth
module _ (depth : ℕ) (sought : Bool) where
  pub look_opening : Continue (depth + 1) ≡ look_at opening depth sought
  unfolding look_at
  look_opening = ap Continue (add-one depth)

  pub look_other : Continue depth ≡ look_at other depth sought
  unfolding look_at
  look_other = refl

  pub look_closing : depth ≡ 0 → Break false ≡ look_at closing depth sought
  unfolding look_at
  look_closing e = sym (ap (λ (n : ℕ). look_at closing n sought) e)

  pub look_or : depth ≡ 0 → Break sought ≡ look_at or depth sought
  unfolding look_at
  look_or e = sym (ap (λ (n : ℕ). look_at or n sought) e)

  pub look_and : depth ≡ 0 → sought ≡ false → Break true ≡ look_at and depth sought
  unfolding look_at
  look_and e f = sym ((λ i. look_at and (e i) (f i)))

  pub look_past_and : depth ≡ 0 → sought ≡ true → Continue depth ≡ look_at and depth sought
  unfolding look_at
  look_past_and e f = ap Continue e ∙ sym (λ i. look_at and (e i) (f i))

pub look_closed : (depth : ℕ) (sought : Bool) → (depth ≡ 0 → ⊥) → Continue (depth - 1) ≡ look_at closing depth sought
unfolding look_at
look_closed zero sought n = absurd (n refl)
look_closed (suc depth) sought n = let same : suc depth - 1 ≡ depth = omega arith in ap Continue same

pub look_deep_or : (depth : ℕ) (sought : Bool) → (depth ≡ 0 → ⊥) → Continue depth ≡ look_at or depth sought
unfolding look_at
look_deep_or zero sought n = absurd (n refl)
look_deep_or (suc depth) sought n = refl

pub look_deep_and : (depth : ℕ) (sought : Bool) → (depth ≡ 0 → ⊥) → Continue depth ≡ look_at and depth sought
unfolding look_at
look_deep_and zero sought n = absurd (n refl)
look_deep_and (suc depth) sought n = refl

-- which operator is sought, as the code asks
pub or_told : (o : Operator) → sameb operator_type o Operator.Or ≡ is_or o
or_told Operator.And = refl
or_told Operator.Or = refl

pub and_told : (o : Operator) → sameb operator_type o Operator.And ≡ not (is_or o)
and_told Operator.And = refl
and_told Operator.Or = refl

-- a sign that is none of these counts for nothing
pub other_mark : (x : Sign)
    → ¬ (x ≡ Sign.OpenParen)
    → ¬ (x ≡ Sign.CloseParen)
    → ¬ (x ≡ Sign.Or)
    → ¬ (x ≡ Sign.And)
    → mark_of x ≡ other
other_mark Sign.Becomes a b c d = refl
other_mark Sign.Equals a b c d = refl
other_mark Sign.Differs a b c d = refl
other_mark Sign.Not a b c d = refl
other_mark Sign.And a b c d = absurd (d refl)
other_mark Sign.Or a b c d = absurd (c refl)
other_mark Sign.Increment a b c d = refl
other_mark Sign.Decrement a b c d = refl
other_mark Sign.Add a b c d = refl
other_mark Sign.Subtract a b c d = refl
other_mark Sign.Minus a b c d = refl
other_mark Sign.OpenParen a b c d = absurd (a refl)
other_mark Sign.CloseParen a b c d = absurd (b refl)
other_mark Sign.OpenBrace a b c d = refl
other_mark Sign.CloseBrace a b c d = refl
other_mark Sign.OpenBracket a b c d = refl
other_mark Sign.CloseBracket a b c d = refl
other_mark Sign.Comma a b c d = refl
other_mark Sign.Semicolon a b c d = refl

written_mark : (x : Sign) → mark_of x ≡ marked (sign (written x))
written_mark Sign.Becomes = refl
written_mark Sign.Equals = refl
written_mark Sign.Differs = refl
written_mark Sign.Not = refl
written_mark Sign.And = refl
written_mark Sign.Or = refl
written_mark Sign.Increment = refl
written_mark Sign.Decrement = refl
written_mark Sign.Add = refl
written_mark Sign.Subtract = refl
written_mark Sign.Minus = refl
written_mark Sign.OpenParen = refl
written_mark Sign.CloseParen = refl
written_mark Sign.OpenBrace = refl
written_mark Sign.CloseBrace = refl
written_mark Sign.OpenBracket = refl
written_mark Sign.CloseBracket = refl
written_mark Sign.Comma = refl
written_mark Sign.Semicolon = refl

-- a token counts as what is seen of it
pub seen_mark : {text : List ℕ} {from p e b q : ℕ} {t : Spec.Token} {us : List Placed} {x : Word} {g : Sign}
    → SeenAs text from ((t at q) ∷ us) x g b p e
    → mark_of g ≡ marked t
seen_mark (seen_a_word w h) = refl
seen_mark (seen_a_number n d o h) = refl
seen_mark (seen_a_letter b h) = refl
seen_mark (seen_a_sign {x = x} e h) = written_mark x ∙ ap (λ (l : List ℕ). marked (sign l)) (sym e)

-- where an operator inside a condition is not the one that comes next: below the outermost level, or where it binds tighter
abbrev hidden : Binding → Bool → ℕ → Bool
hidden tightest sought depth = true
hidden middle true depth = true
hidden middle false zero = false
hidden middle false (suc depth) = true
hidden loosest sought zero = false
hidden loosest sought (suc depth) = true

hidden_or : (sought : Bool) (depth : ℕ) → T (hidden loosest sought depth) → T (hidden middle sought depth)
hidden_or sought zero t = absurd t
hidden_or true (suc depth) t = tt
hidden_or false (suc depth) t = tt

past_and : (sought : Bool) (depth p : ℕ) (ts : Ts) → T (hidden middle sought depth) → ahead sought depth ((s "&&" at p) ∷ ts) ≡ ahead sought depth ts
unfolding ahead look_at
past_and true zero p ts t = refl
past_and false zero p ts t = absurd t
past_and sought (suc depth) p ts t = refl

past_or : (sought : Bool) (depth p : ℕ) (ts : Ts) → T (hidden loosest sought depth) → ahead sought depth ((s "||" at p) ∷ ts) ≡ ahead sought depth ts
unfolding ahead look_at
past_or sought zero p ts t = absurd t
past_or sought (suc depth) p ts t = refl

past_sought : {ts us : Ts} {x : Tree.SymbolName} (sought : Bool) (depth : ℕ) → IsSymbolName ts x us → ahead sought depth ts ≡ ahead sought depth us
unfolding ahead look_at
past_sought sought depth a_letter = refl
past_sought sought depth lend = refl
past_sought sought depth rend = refl

past_atom : {k : ℕ} {ts us : Ts} {a : Tree.Atom} (sought : Bool) (depth : ℕ) → IsAtom ts k a us → ahead sought depth ts ≡ ahead sought depth us
unfolding ahead look_at
past_atom sought depth (read_is x) = past_sought sought depth x
past_atom sought depth (read_is_not x) = past_sought sought depth x
past_atom sought depth counter_is = refl
past_atom sought depth counter_is_not = refl

-- a condition hides what stands in it
past_condition : {b : Binding} {ts us : Ts} {c : Condition} (sought : Bool) (depth : ℕ)
    → IsCondition b ts c us
    → T (hidden b sought depth)
    → ahead sought depth ts ≡ ahead sought depth us
unfolding ahead look_at
past_condition sought depth (atom a) t = past_atom sought depth a
past_condition sought depth (parens c) t = past_condition sought (suc depth) c tt
past_condition sought depth (negation c) t = past_condition sought depth c tt
past_condition sought depth (tighter c) t = past_condition sought depth c tt
past_condition sought depth (both {p = p} {us = us} c d) t =
    past_condition sought depth c tt ∙ past_and sought depth p us t ∙ past_condition sought depth d t
past_condition sought depth (tight c) t = past_condition sought depth c (hidden_or sought depth t)
past_condition sought depth (either {p = p} {us = us} c d) t =
    past_condition sought depth c (hidden_or sought depth t) ∙ past_or sought depth p us t ∙ past_condition sought depth d t

-- the operator, and the two joined by it
abbrev pub operator : Bool → Spec.Token
operator true = s "||"
operator false = s "&&"

abbrev pub join : Bool → Condition → Condition → Condition
join true = Tree.either
join false = Tree.both

-- a condition with its operator
pub record Operands (sought : Bool) (ts us : Ts) (c : Condition) : Type 0 where
  pub first : Condition
  pub second : Condition
  pub place : ℕ
  pub behind : Ts
  pub before : IsCondition (joined sought) ts first ((operator sought at place) ∷ behind)
  pub after : IsCondition (joins sought) behind second us
  pub is : c ≡ join sought first second

none_middle : {us : Ts} → Closes middle us → ahead false 0 us ≡ false
unfolding ahead look_at
none_middle by_paren = refl
none_middle by_or = refl

none_loosest : {us : Ts} → Closes loosest us → ahead true 0 us ≡ false
unfolding ahead look_at
none_loosest by_paren = refl

-- where no operator comes next there is none
pub no_operator : (sought : Bool) {ts us : Ts} {c : Condition}
    → IsCondition (joins sought) ts c us
    → ahead sought 0 ts ≡ false
    → IsCondition (joined sought) ts c us
unfolding ahead look_at
no_operator true (tight c) e = c
no_operator true (either c d) e = absurd (true≢false (sym (past_condition true 0 c tt) ∙ e))
no_operator false (tighter c) e = c
no_operator false (both c d) e = absurd (true≢false (sym (past_condition false 0 c tt) ∙ e))

-- and where one comes next it is there
pub one_operator : (sought : Bool) {ts us : Ts} {c : Condition}
    → IsCondition (joins sought) ts c us
    → Closes (joins sought) us
    → ahead sought 0 ts ≡ true
    → Operands sought ts us c
one_operator true (tight c) closes e = absurd (true≢false (sym e ∙ past_condition true 0 c tt ∙ none_loosest closes))
one_operator true (either c d) closes e = record { first = _; second = _; place = _; behind = _; before = c; after = d; is = refl }
one_operator false (tighter c) closes e = absurd (true≢false (sym e ∙ past_condition false 0 c tt ∙ none_middle closes))
one_operator false (both c d) closes e = record { first = _; second = _; place = _; behind = _; before = c; after = d; is = refl }

-- what is left to look at says as much as all of it
pub record Looking (text : List ℕ) (sought : Bool) (all : List Placed) (place depth : ℕ) : Type 0 where
  pub rest : List Placed
  pub here : Here text place rest
  pub same : ahead sought 0 all ≡ ahead sought depth rest

module _ (sought : Bool) (depth : ℕ) where
  seen_out : {text : List ℕ} {rest : List Placed} {place p e b : ℕ} {x : Word} {g : Sign}
      → SeenAs text place rest x g b p e
      → e ≤ place
      → ahead sought depth rest ≡ false
  unfolding ahead
  seen_out (seen_a_word k h) none = absurd (omega (arith, h.onward))
  seen_out (seen_a_number n d o h) none = absurd (omega (arith, h.onward))
  seen_out (seen_a_letter b h) none = absurd (omega (arith, h.onward))
  seen_out (seen_a_sign k h) none = absurd (omega (arith, h.onward))
  seen_out seen_nothing none = refl

  -- a token more
  look_token : {text : List ℕ} {us : List Placed} {place p e b q : ℕ} {t : Spec.Token} {x : Word} {g : Sign} {r : ControlFlow Bool ℕ}
      → SeenAs text place ((t at q) ∷ us) x g b p e
      → look_at (mark_of g) depth sought ≡ r
      → ahead sought depth ((t at q) ∷ us) ≡ onward r (λ n. ahead sought n us)
  unfolding ahead
  look_token {us = us} seen is =
      ap (λ (m : Bracketing). onward (look_at m depth sought) (λ n. ahead sought n us)) (sym (seen_mark seen))
      ∙ ap (λ (l : ControlFlow Bool ℕ). onward l (λ n. ahead sought n us)) is

  seen_answer : {text : List ℕ} {place p e b : ℕ} {x : Word} {g : Sign} (rest : List Placed) (found : Bool)
      → SeenAs text place rest x g b p e
      → place < e
      → look_at (mark_of g) depth sought ≡ Break found
      → ahead sought depth rest ≡ found
  seen_answer [] found seen_nothing some is = absurd (omega arith)
  seen_answer ((t at q) ∷ us) found seen some is = look_token seen is

  seen_on : {text : List ℕ} {place p e b : ℕ} {x : Word} {g : Sign} (all rest : List Placed) (more : ℕ)
      → ahead sought 0 all ≡ ahead sought depth rest
      → SeenAs text place rest x g b p e
      → place < e
      → look_at (mark_of g) depth sought ≡ Continue more
      → Looking text sought all e more
  seen_on all [] more same seen_nothing some is = absurd (omega arith)
  seen_on all ((t at q) ∷ us) more same seen some is =
      record { rest = us; here = (seen_behind seen).here; same = same ∙ look_token seen is }

module _ {text : List ℕ} (sought : Bool) (all : List Placed) {place : ℕ} (depth : ℕ) {p e b : ℕ} {x : Word} {g : Sign} where
  module _ (l : Looking text sought all place depth) (seen : SeenAs text place l.rest x g b p e) where
    -- with nothing to look at there is no operator
    pub looked_out : e ≤ place → false ≡ ahead sought 0 all
    looked_out none = sym (l.same ∙ seen_out sought depth seen none)

    -- an answer is the answer
    pub looked_answer : (found : Bool) → place < e → look_at (mark_of g) depth sought ≡ Break found → found ≡ ahead sought 0 all
    looked_answer found some is = sym (l.same ∙ seen_answer sought depth l.rest found seen some is)

    -- else it is looked on
    pub looked_on : (more : ℕ) → place < e → look_at (mark_of g) depth sought ≡ Continue more → Looking text sought all e more
    looked_on more some is = seen_on sought depth all l.rest more l.same seen some is

-- and past a token that is no sign
pub looked_past : {text : List ℕ} (sought : Bool) (all : List Placed) {place : ℕ} (depth : ℕ) {e : ℕ} {r : Token}
    → Looking text sought all place depth
    → FirstToken text place r
    → sign_in r ≡ Sign.Semicolon
    → end_of r ≡ Some e
    → Looking text sought all e depth
looked_past {text} sought all {place} depth {r = r} l first none end =
    let falls = first_falls r first end in
    let is = end_some place r end in
    subst (λ (n : ℕ). Looking text sought all n depth) is
    (looked_on sought all depth l (first_seen r first refl _ l.here) depth (omega (arith, falls, is))
    (ap (λ (g : Sign). look_at (mark_of g) depth sought) none ∙ sym (look_other depth sought)))

-- with no token left there is no operator
pub looked_end : {text : List ℕ} (sought : Bool) (all : List Placed) {place : ℕ} (depth : ℕ) {r : Token}
    → Looking text sought all place depth
    → FirstToken text place r
    → end_of r ≡ None
    → false ≡ ahead sought 0 all
looked_end sought all {place} depth {r = r} l first none =
    looked_out sought all depth l (first_seen r first refl _ l.here) (omega (arith, end_none place r none))

-- and not deeper than by one
pub looked_deeper : (m : Bracketing) (depth : ℕ) (sought : Bool) (more : ℕ) → look_at m depth sought ≡ Continue more → more ≤ depth + 1
unfolding look_at
looked_deeper opening depth sought more e = let same : suc depth ≡ more = cc in omega arith
looked_deeper closing zero sought more e = absurd (let z : ◌≡◌ {A = ℕ} 0 1 = cc in omega arith)
looked_deeper closing (suc depth) sought more e = let same : depth ≡ more = cc in omega arith
looked_deeper or zero sought more e = absurd (let z : ◌≡◌ {A = ℕ} 0 1 = cc in omega arith)
looked_deeper or (suc depth) sought more e = let same : suc depth ≡ more = cc in omega arith
looked_deeper and zero true more e = let same : 0 ≡ more = cc in omega arith
looked_deeper and zero false more e = absurd (let z : ◌≡◌ {A = ℕ} 0 1 = cc in omega arith)
looked_deeper and (suc depth) sought more e = let same : suc depth ≡ more = cc in omega arith
looked_deeper other depth sought more e = let same : depth ≡ more = cc in omega arith
