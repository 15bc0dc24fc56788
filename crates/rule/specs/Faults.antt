-- The first fault of a text, 3 to 9, by what programs there are, limits aside, and what 10 and 11 are given for: no reader is
-- mentioned in it.
use Rattle.std.specs.Prelude.{ℕ, ◌<◌, ◌≡◌, length}
use mathlib.Core.List.{List, [], ◌∷◌, ◌++◌, Memᴰ}
use Rattle.text.specs.Token.{Token}
use Rattle.text.specs.Tokens.{Placed, ◌at◌, Ending, ends, broken, TokensOf, Rising}
use Rattle.rule.specs.Tree.{Program}
use Rattle.rule.specs.Grammar.{IsProgram}
use Rattle.rule.specs.Limits.{Fault, fault, faults}

-- some program, limits aside, begins with these tokens
pub record GoesOn (ts : List Placed) : Type 0 where
  pub after : List Placed
  pub program : Program
  pub rising : Rising (ts ++ after)
  pub derived : IsProgram (ts ++ after) program

-- some program, limits aside, begins with these tokens and breaks no limit within them
pub record Clean (ts : List Placed) : Type 0 where
  pub goes_on : GoesOn ts
  pub within : (n p : ℕ) (t : Token) → Memᴰ (fault n p) (faults goes_on.program) → ¬ Memᴰ (t at p) ts

-- some program, limits aside, begins with these tokens, and the first limit that it breaks is this
pub record Breaks (ts : List Placed) (f : Fault) : Type 0 where
  pub goes_on : GoesOn ts
  pub others : List Fault
  pub first : faults goes_on.program ≡ f ∷ others

pub data FirstFault (text : List ℕ) : ℕ → ℕ → Type 0 where
  -- no token starts here, or it is broken
  no_token : {p : ℕ} (ts : List Placed) → TokensOf text ts (broken p) → Clean ts → FirstFault text 3 p
  -- a token no program can have here, limits aside
  not_here : {p : ℕ} (ts us : List Placed) (t : Token) {e : Ending}
      → TokensOf text (ts ++ ((t at p) ∷ us)) e
      → Clean ts
      → ¬ GoesOn (ts ++ ((t at p) ∷ []))
      → FirstFault text 4 p
  -- the text ends early
  early : {p : ℕ} (ts : List Placed)
      → TokensOf text ts (ends p)
      → Clean ts
      → ((q : Program) → ¬ IsProgram ts q)
      → FirstFault text 4 p
  -- a token that the grammar allows here, and a limit does not
  limit : {n p : ℕ} (ts us : List Placed) (t : Token) {e : Ending}
      → TokensOf text (ts ++ ((t at p) ∷ us)) e
      → Clean ts
      → Breaks (ts ++ ((t at p) ∷ [])) (fault n p)
      → FirstFault text n p

-- the text is this program, and no token of it breaks a limit
pub record Reads (text : List ℕ) (p : Program) : Type 0 where
  pub tokens : List Placed
  pub place : ℕ
  pub of_text : TokensOf text tokens (ends place)
  pub derived : IsProgram tokens p
  pub faultless : faults p ≡ []

-- a whole program without faults that has more than the most that may be: of states, or of rows
pub record TooMany (text : List ℕ) (size : Program → ℕ) (most place : ℕ) : Type 0 where
  pub program : Program
  pub reads : Reads text program
  pub over : most < size program
  pub at_end : place ≡ length text
