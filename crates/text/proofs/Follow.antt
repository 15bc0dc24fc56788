-- What a reader relies on that goes through a text from token to token.
use Prim.Native.Nat.{ℕ, ◌+◌, ◌≤◌, ◌<◌}
use native.Mathlib.Omega.{arith}
use mathlib.Core.Path.{◌≡◌, ap, subst}
use mathlib.Core.List.{List, [], ◌∷◌}
use lib.ListN.{length, drop, length-drop}
use Rattle.text.specs.Tokens.{Placed, ◌at◌, Ending, ends, broken, Tokens}
use Rattle.text.specs.Tokens as Of
use Rattle.text.specs.First.{Begins, FirstToken}
use Rattle.text.specs.declared.Token.{Token}
use Rattle.text.proofs.Once.{comes}
use Rattle.text.proofs.Ending.{EndsAt, ends_from}

-- the tokens from a byte on begin with what is answered there, once it is matched
pub follows : {text : List ℕ} {p : ℕ} {r s : Token} {ts : List Placed} {e : Ending}
    → Tokens p (drop p text) ts e
    → FirstToken text p r
    → r ≡ s
    → Begins text ts e s
follows {text} {p} h f e = comes h (subst (FirstToken text p) e f)

-- where an answer stands
abbrev pub place_of : Token → ℕ
place_of (Token.Word p q x) = p
place_of (Token.Number p q) = p
place_of (Token.Letter p q b) = p
place_of (Token.Sign p q x) = p
place_of (Token.End p) = p
place_of (Token.Broken p) = p

-- where the first of some tokens stands, or they end
abbrev first_place : List Placed → Ending → ℕ
first_place [] (ends p) = p
first_place [] (broken p) = p
first_place ((t at p) ∷ ts) e = p

tokens_onward : {p : ℕ} {bytes : List ℕ} {ts : List Placed} {e : Ending} → Tokens p bytes ts e → p ≤ first_place ts e
tokens_onward Of.end = omega arith
tokens_onward (Of.blank {p = p} {n = n} b g) = omega (arith, tokens_onward g)
tokens_onward (Of.token l g) = omega arith
tokens_onward (Of.none x y) = omega arith

module _ (text : List ℕ) (ts : List Placed) (e : Ending) where
  begins_place : (r : Token) → Begins text ts e r → first_place ts e ≡ place_of r
  begins_place (Token.Word p q x) b = ap (λ (us : List Placed). first_place us e) b.next.first
  begins_place (Token.Number p q) b = ap (λ (us : List Placed). first_place us e) b.first
  begins_place (Token.Letter p q c) b = ap (λ (us : List Placed). first_place us e) b.first
  begins_place (Token.Sign p q x) b = ap (λ (us : List Placed). first_place us e) b.first
  begins_place (Token.End p) b = rw (b.none, b.ended)
  begins_place (Token.Broken p) b = rw (b.none, b.ended)

-- no answer stands before the byte from which it was asked for, so a reader goes on
pub first_onward : {text : List ℕ} {p : ℕ} {r : Token} → FirstToken text p r → p ≤ place_of r
first_onward {text} {r = r} f = omega (arith, tokens_onward f.all, begins_place text f.tokens f.ending r f.begins)

-- tokens that are left end with the text
first_ends : {text : List ℕ} {p : ℕ} {r : Token} (e : Ending) (f : FirstToken text p r) → f.ending ≡ e → EndsAt e (p + length (drop p text))
first_ends {text} {p} e f same = subst (λ (g : Ending). EndsAt g (p + length (drop p text))) same (ends_from f.all)

-- a broken token stands within the text
pub broken_at : {text : List ℕ} {p q : ℕ} → FirstToken text p (Token.Broken q) → q < length text
broken_at {text} {p} {q} f = omega (arith, first_ends (broken q) f f.begins.ended, first_onward f, length-drop p text)
