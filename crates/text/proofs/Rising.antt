-- The places of a text's tokens rise.
use Prim.Native.Nat.{ℕ, ◌+◌, ◌≤◌, ◌<◌}
use native.Mathlib.Omega.{arith}
use mathlib.Core.List.{List, [], ◌∷◌}
use lib.ListN.{length}
use Rattle.text.specs.Token.{Token}
use Rattle.text.specs.Tokens.{Placed, ◌at◌, Ending, Tokens, TokensOf, Rising, empty, single, rises}
use Rattle.text.proofs.Front.{longest_found}
use Rattle.text.proofs.Tokens.{found_some}

-- the first token stands at this place or after it
abbrev NotBefore : ℕ → List Placed → Type 0
NotBefore p [] = Unit {0}
NotBefore p ((t at q) ∷ ts) = p ≤ q

not-before : {p : ℕ} (q : ℕ) (ts : List Placed) → p ≤ q → NotBefore q ts → NotBefore p ts
not-before q [] h n = tt
not-before q ((t at r) ∷ ts) h n = omega arith

tokens_after : {p : ℕ} {bytes : List ℕ} {ts : List Placed} {e : Ending} → Tokens p bytes ts e → NotBefore p ts
tokens_after Tokens.end = tt
tokens_after (Tokens.blank {p = p} {n = n} {ts = ts} b g) = not-before (p + n) ts (omega arith) (tokens_after g)
tokens_after (Tokens.token l g) = omega arith
tokens_after (Tokens.none x y) = tt

rising_cons : (t : Token) {p : ℕ} (q : ℕ) (ts : List Placed) → p < q → NotBefore q ts → Rising ts → Rising ((t at p) ∷ ts)
rising_cons t q [] h n r = single
rising_cons t {p} q ((u at k) ∷ ts) h n r = let i : p < k = omega arith in rises i r

tokens_rise : {p : ℕ} {bytes : List ℕ} {ts : List Placed} {e : Ending} → Tokens p bytes ts e → Rising ts
tokens_rise Tokens.end = empty
tokens_rise (Tokens.blank b g) = tokens_rise g
tokens_rise (Tokens.token {p = p} {lexeme = lexeme} {t = t} {ts = ts} l g) =
    rising_cons t (p + length lexeme) ts (omega (arith, found_some (longest_found l).0)) (tokens_after g) (tokens_rise g)
tokens_rise (Tokens.none x y) = empty

-- the places of a text's tokens rise
pub rising : {text : List ℕ} {ts : List Placed} {e : Ending} → TokensOf text ts e → Rising ts
rising h = tokens_rise h
