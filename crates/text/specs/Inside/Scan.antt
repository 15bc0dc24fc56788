-- The tokeniser as a function that computes: what stands at the front of the bytes, and with that all the tokens of a text. No public promise
-- reaches it: the laws say that it finds what `Tokens` defines.
use Rattle.std.specs.Prelude.{ℕ, zero, suc, ◌+◌, max, Bool, true, false, not, cond, ◌&&◌, List, [], ◌∷◌, length, take, drop, get_or, eqb}
use Rattle.bits.specs.Byte.{is_digit, is_letter}
use Rattle.text.specs.Token.{Token, word, number, letter, sign, begins_word, in_word, signs, quote}
use Rattle.text.specs.Tokens.{Placed, ◌at◌, Ending, ends, broken, is_white, line_feed, slash}

-- the sorts of tokens
pub data Sort : Type 0 where
  of_word of_number of_letter of_sign : Sort

-- what a byte may be the first of
pub data Kind : Type 0 where
  for_token : Sort → Kind
  for_white for_comment : Kind

-- the first of these tests that passes says the kind: begins a word, digit, quote, white, slash
abbrev pub sorted : Bool → Bool → Bool → Bool → Bool → Kind
sorted true is_number is_quote white is_slash = for_token of_word
sorted false true is_quote white is_slash = for_token of_number
sorted false false true white is_slash = for_token of_letter
sorted false false false true is_slash = for_white
sorted false false false false true = for_comment
sorted false false false false false = for_token of_sign

-- the kind of a byte
unfoldable pub kind : ℕ → Kind
kind b = sorted (begins_word b) (is_digit b) (eqb b quote) (is_white b) (eqb b slash)

-- how many bytes at the front pass the test
unfoldable pub run : (ℕ → Bool) → List ℕ → ℕ
run test [] = 0
run test (b ∷ bs) = elim (test b) [ true ↦ suc (run test bs) | false ↦ 0 ]

-- a comment goes on with any byte but a line feed
abbrev pub in_comment : ℕ → Bool
in_comment b = not (eqb b line_feed)

-- the bytes begin with these
unfoldable pub starts : List ℕ → List ℕ → Bool
starts [] bytes = true
starts (c ∷ cs) [] = false
starts (c ∷ cs) (b ∷ bs) = eqb b c && starts cs bs

-- the length of the longest of these lists with which the bytes begin, or 0
unfoldable pub longest_of : List (List ℕ) → List ℕ → ℕ
unfolding starts
longest_of [] bytes = 0
longest_of (l ∷ ls) bytes = max (cond (starts l bytes) (length l) 0) (longest_of ls bytes)

-- the length of a letter in quotes, by what follows its first quote, or 0
unfoldable pub letter_reach : List ℕ → ℕ
letter_reach [] = 0
letter_reach (b ∷ []) = 0
letter_reach (b ∷ c ∷ bs) = cond (is_letter b && eqb c quote) 3 0

-- the length of the longest token of a sort that begins with this byte and goes on in these, or 0
unfoldable pub reach : Sort → ℕ → List ℕ → ℕ
unfolding run letter_reach longest_of
reach of_word b bs = suc (run in_word bs)
reach of_number b bs = suc (run is_digit bs)
reach of_letter b bs = letter_reach bs
reach of_sign b bs = longest_of signs (b ∷ bs)

-- the token of a sort that these bytes are
unfoldable pub made : Sort → List ℕ → Token
made of_word l = word l
made of_number l = number l
made of_letter l = letter (get_or l 1 0)
made of_sign l = sign l

-- what stands at the front: the end of the text, white space or a comment of so many bytes, a token of so many bytes, or nothing that can stand there
pub data Lexed : Type 0 where
  over : Lexed
  skip : ℕ → Lexed
  found : ℕ → Token → Lexed
  bad : Lexed

-- what stands at a slash, by what follows it
unfoldable pub lex_comment : List ℕ → Lexed
unfolding run
lex_comment [] = bad
lex_comment (b ∷ bs) = elim (eqb b slash) [ true ↦ skip (run in_comment bs + 2) | false ↦ bad ]

-- a token of so many bytes, or none
unfoldable pub lex_token : ℕ → Sort → List ℕ → Lexed
unfolding made
lex_token zero k bytes = bad
lex_token (suc n) k bytes = found (suc n) (made k (take (suc n) bytes))

-- what stands at a byte of this kind
unfoldable pub lex_as : Kind → ℕ → List ℕ → Lexed
unfolding lex_token reach lex_comment
lex_as (for_token k) b bs = lex_token (reach k b bs) k (b ∷ bs)
lex_as for_white b bs = skip 1
lex_as for_comment b bs = lex_comment bs

-- what stands at the front of the bytes
unfoldable pub lex : List ℕ → Lexed
unfolding kind lex_as
lex [] = over
lex (b ∷ bs) = lex_as (kind b) b bs

-- the tokens of a text and how they end
pub record Scanned : Type 0 where
  pub tokens : List Placed
  pub ending : Ending

-- this token, then those
unfoldable pub before : Placed → Scanned → Scanned
before t r = record { tokens = t ∷ r.tokens; ending = r.ending }

-- what stands at a place, and then what follows it
unfoldable pub step : Lexed → ℕ → (ℕ → Scanned) → Scanned
unfolding before
step over place after = record { tokens = []; ending = ends place }
step (skip n) place after = after n
step (found n t) place after = before (t at place) (after n)
step bad place after = record { tokens = []; ending = broken place }

-- the tokens of the bytes from a place on; the first number is larger than the number of bytes
unfoldable pub scan_from : ℕ → ℕ → List ℕ → Scanned
unfolding step lex
scan_from zero place bytes = record { tokens = []; ending = broken place }
scan_from (suc fuel) place bytes = step (lex bytes) place (λ n. scan_from fuel (place + n) (drop n bytes))

-- the tokens of a text
unfoldable pub scan : List ℕ → Scanned
unfolding scan_from
scan text = scan_from (suc (length text)) 0 text
