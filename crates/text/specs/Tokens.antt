-- The tokens of a text, longest first, each with the place of its first byte, up to the text's end or a broken token.
use Rattle.std.specs.Prelude.{ℕ, ◌+◌, ◌≤◌, ◌<◌, ◌≡◌, Bool, not, ◌||◌, List, [], ◌∷◌, ◌++◌, length, T, eqb}
use Rattle.text.specs.Token.{Token, Spells, every}

infix 40 ◌at◌
pub data Placed : Type 0 where
  ◌at◌ : Token → ℕ → Placed

-- white space: space, tab, line feed, carriage return
abbrev pub is_white : ℕ → Bool
is_white b = eqb b 32 || (eqb b 9 || (eqb b 10 || eqb b 13))

abbrev pub line_feed : ℕ
line_feed = 10

abbrev pub slash : ℕ
slash = 47

-- a comment runs up to here: a line feed, or the end of the text
pub data CommentEnds : List ℕ → Type 0 where
  at_end : CommentEnds []
  at_line_feed : {rest : List ℕ} → CommentEnds (line_feed ∷ rest)

-- the longest token with which the bytes begin, and what follows it
pub record Longest (bytes lexeme rest : List ℕ) (t : Token) : Type 0 where
  pub begins : bytes ≡ lexeme ++ rest
  pub spells : Spells lexeme t
  pub longest : (l r : List ℕ) (u : Token) → bytes ≡ l ++ r → Spells l u → length l ≤ length lexeme

-- no token starts here: none of the bytes' beginnings is one
abbrev pub NoToken : List ℕ → Type 0
NoToken bytes = (l r : List ℕ) (u : Token) → bytes ≡ l ++ r → ¬ Spells l u

-- how the tokens end: with the text, or at a place where no token starts or one is broken
pub data Ending : Type 0 where
  ends : ℕ → Ending
  broken : ℕ → Ending

-- the bytes begin with white space or a comment, so many bytes long, and go on with these
pub data Blank : List ℕ → ℕ → List ℕ → Type 0 where
  white : {b : ℕ} {rest : List ℕ} → T (is_white b) → Blank (b ∷ rest) 1 rest
  comment : {bytes rest : List ℕ} (body : List ℕ)
      → bytes ≡ slash ∷ slash ∷ (body ++ rest)
      → T (every (λ b. not (eqb b line_feed)) body)
      → CommentEnds rest
      → Blank bytes (length body + 2) rest

-- the bytes from a place on have these tokens and this ending
pub data Tokens : ℕ → List ℕ → List Placed → Ending → Type 0 where
  end : {p : ℕ} → Tokens p [] [] (ends p)
  blank : {p n : ℕ} {bytes rest : List ℕ} {ts : List Placed} {e : Ending}
      → Blank bytes n rest
      → Tokens (p + n) rest ts e
      → Tokens p bytes ts e
  token : {p : ℕ} {bytes lexeme rest : List ℕ} {t : Token} {ts : List Placed} {e : Ending}
      → Longest bytes lexeme rest t
      → Tokens (p + length lexeme) rest ts e
      → Tokens p bytes ((t at p) ∷ ts) e
  none : {p b : ℕ} {bs : List ℕ}
      → ((n : ℕ) (rest : List ℕ) → ¬ Blank (b ∷ bs) n rest)
      → NoToken (b ∷ bs)
      → Tokens p (b ∷ bs) [] (broken p)

-- a text's places are counted from 0
abbrev pub TokensOf : List ℕ → List Placed → Ending → Type 0
TokensOf text = Tokens 0 text

-- the places of the tokens rise, as those of a text's tokens do
pub data Rising : List Placed → Type 0 where
  empty : Rising []
  single : {t : Placed} → Rising (t ∷ [])
  rises : {t u : Token} {p q : ℕ} {ts : List Placed} → p < q → Rising ((u at q) ∷ ts) → Rising ((t at p) ∷ (u at q) ∷ ts)
