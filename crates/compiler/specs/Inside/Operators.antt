-- Whether an operator comes next, which the condition walker has to know before it walks what stands before the operator.
-- No caller relies on any of it.
use Rattle.std.specs.Prelude.{ℕ, zero, suc, ◌≡◌, Bool, true, false, List, [], ◌∷◌}
use Rattle.text.specs.Token.{Token, s}
use Rattle.text.specs.Tokens.{Placed, ◌at◌}
use Rattle.text.specs.declared.Sign.{Sign}
use Rattle.text.specs.Inside.Same.{same_token}
use Rattle.compiler.specs.Inside.Seeing.{Here}
use Rattle.std.specs.declared.ops.ControlFlow.{ControlFlow}
use Rattle.std.specs.declared.ops.ControlFlow.TheVariants.{Continue, Break}
use Rattle.compiler.specs.declared.ahead.Operator.{Operator}

-- what counts: parentheses and operators
pub data Bracketing : Type 0 where
  opening closing and or other : Bracketing

-- the operator sought is `||`, or else `&&`
abbrev pub is_or : Operator → Bool
is_or Operator.And = false
is_or Operator.Or = true

-- what a mark says of the operator sought, `||` or else `&&`, with so many parentheses open
unfoldable pub look_at : Bracketing → ℕ → Bool → ControlFlow Bool ℕ
look_at opening depth sought = Continue (suc depth)
look_at closing zero sought = Break false
look_at closing (suc depth) sought = Continue depth
look_at or zero sought = Break sought
look_at or (suc depth) sought = Continue (suc depth)
look_at and zero true = Continue zero
look_at and zero false = Break true
look_at and (suc depth) sought = Continue (suc depth)
look_at other depth sought = Continue depth

abbrev pub mark_of : Sign → Bracketing
mark_of Sign.Becomes = other
mark_of Sign.Equals = other
mark_of Sign.Differs = other
mark_of Sign.Not = other
mark_of Sign.And = and
mark_of Sign.Or = or
mark_of Sign.Increment = other
mark_of Sign.Decrement = other
mark_of Sign.Add = other
mark_of Sign.Subtract = other
mark_of Sign.Minus = other
mark_of Sign.OpenParen = opening
mark_of Sign.CloseParen = closing
mark_of Sign.OpenBrace = other
mark_of Sign.CloseBrace = other
mark_of Sign.OpenBracket = other
mark_of Sign.CloseBracket = other
mark_of Sign.Comma = other
mark_of Sign.Semicolon = other

abbrev pub marked : Token → Bracketing
marked t =
    elim (same_token t (s "(")) [
      | true ↦ opening
      | false ↦ elim (same_token t (s ")")) [
        | true ↦ closing
        | false ↦ elim (same_token t (s "&&")) [ true ↦ and | false ↦ elim (same_token t (s "||")) [ true ↦ or | false ↦ other ] ]
      ]
    ]

-- go on, or answer
abbrev pub onward : ControlFlow Bool ℕ → (ℕ → Bool) → Bool
onward (Break found) more = found
onward (Continue depth) more = more depth

-- whether the operator comes next, before the parenthesis that closes what stands here
unfoldable pub ahead : Bool → ℕ → List Placed → Bool
ahead sought depth [] = false
ahead sought depth ((t at p) ∷ ts) = onward (look_at (marked t) depth sought) (λ n. ahead sought n ts)

pub record Ahead (text : List ℕ) (from : ℕ) (sought found : Bool) : Type 0 where
  pub finds : (ts : List Placed) → Here text from ts → found ≡ ahead sought 0 ts
