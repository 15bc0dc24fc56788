-- Which bytes are a token: a word, a number, a letter in quotes, or a sign.
use Rattle.std.specs.Prelude.{ℕ, Bool, true, ◌&&◌, ◌||◌, T, eqb}
use Prim.Native.String.{String}
use mathlib.Core.List.{List, [], ◌∷◌, Memᴰ}
use Rattle.bits.specs.Byte.{is_digit, is_alphabetic, is_letter, spelling}

pub data Token : Type 0 where
  word : List ℕ → Token
  number : List ℕ → Token
  letter : ℕ → Token
  sign : List ℕ → Token

-- a letter or underscore, with which a word begins
abbrev pub begins_word : ℕ → Bool
begins_word b = is_alphabetic b || eqb b 95

-- letters, digits and underscores, with which it goes on
abbrev pub in_word : ℕ → Bool
in_word b = begins_word b || is_digit b

abbrev pub every : (ℕ → Bool) → List ℕ → Bool
every test [] = true
every test (b ∷ bs) = test b && every test bs

abbrev pub signs : List (List ℕ)
signs =
    spelling "="
    ∷ spelling "=="
    ∷ spelling "!="
    ∷ spelling "!"
    ∷ spelling "&&"
    ∷ spelling "||"
    ∷ spelling "++"
    ∷ spelling "--"
    ∷ spelling "+="
    ∷ spelling "-="
    ∷ spelling "-"
    ∷ spelling "("
    ∷ spelling ")"
    ∷ spelling "{"
    ∷ spelling "}"
    ∷ spelling "["
    ∷ spelling "]"
    ∷ spelling ","
    ∷ spelling ";"
    ∷ []

-- the quote, '
abbrev pub quote : ℕ
quote = 39

-- these bytes are this token
pub data Spells : List ℕ → Token → Type 0 where
  a_word : {b : ℕ} {bs : List ℕ} → T (begins_word b) → T (every in_word bs) → Spells (b ∷ bs) (word (b ∷ bs))
  a_number : {b : ℕ} {bs : List ℕ} → T (is_digit b) → T (every is_digit bs) → Spells (b ∷ bs) (number (b ∷ bs))
  a_letter : {b : ℕ} → T (is_letter b) → Spells (quote ∷ b ∷ quote ∷ []) (letter b)
  a_sign : {s : List ℕ} → Memᴰ s signs → Spells s (sign s)

-- a reserved word and a sign by how they are written
abbrev pub w : String → Token
w text = word (spelling text)

abbrev pub s : String → Token
s text = sign (spelling text)
