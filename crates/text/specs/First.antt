-- What comes first in a text from a byte on: a token, the text's end, or a byte at which no token starts.
use Rattle.std.specs.Prelude.{ℕ, ◌<◌, ◌≤◌, ◌-◌, ◌≡◌, List, [], ◌∷◌, length, take, drop}
use Rattle.bits.specs.Byte.{spelling}
use Rattle.text.specs.Token.{word, number, letter, sign, Spells}
use Rattle.text.specs.Token as Spec
use Rattle.text.specs.Tokens.{Placed, ◌at◌, Ending, ends, broken, Tokens}
use Rattle.text.specs.declared.Word.{Word}
use Rattle.text.specs.declared.Sign.{Sign}
use Rattle.text.specs.declared.Token.{Token}

-- how a word may be written: in one way, if it is reserved, or in any other
pub data Name : Type 0 where
  reserved : List ℕ → Name
  unreserved : Name

-- how each word is written
abbrev pub name : Word → Name
name Word.Alphabet = reserved (spelling "alphabet")
name Word.DecrOnZero = reserved (spelling "decr_on_zero")
name Word.True = reserved (spelling "true")
name Word.False = reserved (spelling "false")
name Word.Twoc = reserved (spelling "twoc")
name Word.String = reserved (spelling "string")
name Word.Move = reserved (spelling "move")
name Word.Goto = reserved (spelling "goto")
name Word.Lend = reserved (spelling "lend")
name Word.Rend = reserved (spelling "rend")
name Word.C = reserved (spelling "c")
name Word.Accept = reserved (spelling "accept")
name Word.Reject = reserved (spelling "reject")
name Word.If = reserved (spelling "if")
name Word.Else = reserved (spelling "else")
name Word.While = reserved (spelling "while")
name Word.Choose = reserved (spelling "choose")
name Word.Branch = reserved (spelling "branch")
name Word.Also = reserved (spelling "also")
name Word.Read = reserved (spelling "read")
name Word.Other = unreserved

-- these bytes are written so; as no reserved word, if it is not one
abbrev pub IsNamed : Name → List ℕ → Type 0
IsNamed (reserved bytes) l = l ≡ bytes
IsNamed unreserved l = (x : Word) → ¬ (name x ≡ reserved l)

-- these bytes are this word: written as it is, or, for Other, as no reserved word is
abbrev pub IsWord : Word → List ℕ → Type 0
IsWord x l = IsNamed (name x) l

-- how a sign is written
abbrev pub written : Sign → List ℕ
written Sign.Becomes = spelling "="
written Sign.Equals = spelling "=="
written Sign.Differs = spelling "!="
written Sign.Not = spelling "!"
written Sign.And = spelling "&&"
written Sign.Or = spelling "||"
written Sign.Increment = spelling "++"
written Sign.Decrement = spelling "--"
written Sign.Add = spelling "+="
written Sign.Subtract = spelling "-="
written Sign.Minus = spelling "-"
written Sign.OpenParen = spelling "("
written Sign.CloseParen = spelling ")"
written Sign.OpenBrace = spelling "{"
written Sign.CloseBrace = spelling "}"
written Sign.OpenBracket = spelling "["
written Sign.CloseBracket = spelling "]"
written Sign.Comma = spelling ","
written Sign.Semicolon = spelling ";"

-- the bytes from a place up to another
abbrev pub part : List ℕ → ℕ → ℕ → List ℕ
part text from to = take (to - from) (drop from text)

-- the tokens begin with this one, whose bytes stand from its place up to its end, and go on from there
pub record Next (text : List ℕ) (place end : ℕ) (t : Spec.Token) (tokens : List Placed) (ending : Ending) : Type 0 where
  pub after : List Placed
  pub first : tokens ≡ (t at place) ∷ after
  pub bytes : Spells (part text place end) t
  pub some : place < end
  pub within : end ≤ length text
  pub rest : Tokens end (drop end text) after ending

-- the same of a word, which is this one
pub record NextWord (text : List ℕ) (place end : ℕ) (x : Word) (tokens : List Placed) (ending : Ending) : Type 0 where
  pub next : Next text place end (word (part text place end)) tokens ending
  pub which : IsWord x (part text place end)

-- no token is left, and this is the ending
pub record Last (tokens : List Placed) (ending : Ending) (e : Ending) : Type 0 where
  pub none : tokens ≡ []
  pub ended : ending ≡ e

-- these tokens and this ending begin with what is answered
abbrev pub Begins : List ℕ → List Placed → Ending → Token → Type 0
Begins text ts e (Token.Word place end x) = NextWord text place end x ts e
Begins text ts e (Token.Number place end) = Next text place end (number (part text place end)) ts e
Begins text ts e (Token.Letter place end b) = Next text place end (letter b) ts e
Begins text ts e (Token.Sign place end s) = Next text place end (sign (written s)) ts e
Begins text ts e (Token.End place) = Last ts e (ends place)
Begins text ts e (Token.Broken place) = Last ts e (broken place)

-- what comes first in a text from a byte on: the text has tokens from there, and they begin with it
pub record FirstToken (text : List ℕ) (from : ℕ) (r : Token) : Type 0 where
  pub tokens : List Placed
  pub ending : Ending
  pub all : Tokens from (drop from text) tokens ending
  pub begins : Begins text tokens ending r
