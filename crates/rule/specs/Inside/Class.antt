-- Tokens by class: each reserved word and each sign is a mark of its own, and the rest are numbers, letters and others.
-- A move goes by a token's class, so that what the bytes are is settled here.
use Rattle.std.specs.Prelude.{ℕ, true, false, List, [], ◌∷◌}
use Rattle.text.specs.Token.{Token, word, sign, w, s}
use Rattle.text.specs.Inside.Same.{same_token}

-- the reserved words, and then the signs
pub data Fixed : Type 0 where
  alphabet decr_on_zero is_true is_false twoc string : Fixed
  move goto lend rend c accept reject if else while choose branch also read : Fixed
  equals same differs not and or plus_plus minus_minus plus_equals minus_equals minus : Fixed
  opens closes begins ends open_list close_list comma semicolon : Fixed

abbrev pub spell : Fixed → Token
spell alphabet = w "alphabet"
spell decr_on_zero = w "decr_on_zero"
spell is_true = w "true"
spell is_false = w "false"
spell twoc = w "twoc"
spell string = w "string"
spell move = w "move"
spell goto = w "goto"
spell lend = w "lend"
spell rend = w "rend"
spell c = w "c"
spell accept = w "accept"
spell reject = w "reject"
spell if = w "if"
spell else = w "else"
spell while = w "while"
spell choose = w "choose"
spell branch = w "branch"
spell also = w "also"
spell read = w "read"
spell equals = s "="
spell same = s "=="
spell differs = s "!="
spell not = s "!"
spell and = s "&&"
spell or = s "||"
spell plus_plus = s "++"
spell minus_minus = s "--"
spell plus_equals = s "+="
spell minus_equals = s "-="
spell minus = s "-"
spell opens = s "("
spell closes = s ")"
spell begins = s "{"
spell ends = s "}"
spell open_list = s "["
spell close_list = s "]"
spell comma = s ","
spell semicolon = s ";"

abbrev pub words : List Fixed
words =
    alphabet
    ∷ decr_on_zero
    ∷ is_true
    ∷ is_false
    ∷ twoc
    ∷ string
    ∷ move
    ∷ goto
    ∷ lend
    ∷ rend
    ∷ c
    ∷ accept
    ∷ reject
    ∷ if
    ∷ else
    ∷ while
    ∷ choose
    ∷ branch
    ∷ also
    ∷ read
    ∷ []

abbrev pub signs : List Fixed
signs =
    equals
    ∷ same
    ∷ differs
    ∷ not
    ∷ and
    ∷ or
    ∷ plus_plus
    ∷ minus_minus
    ∷ plus_equals
    ∷ minus_equals
    ∷ minus
    ∷ opens
    ∷ closes
    ∷ begins
    ∷ ends
    ∷ open_list
    ∷ close_list
    ∷ comma
    ∷ semicolon
    ∷ []

pub data Class : Type 0 where
  mark : Fixed → Class
  number : List ℕ → Class
  letter : ℕ → Class
  other : Token → Class

abbrev pub token_of : Class → Token
token_of (mark m) = spell m
token_of (number n) = Token.number n
token_of (letter b) = Token.letter b
token_of (other t) = t

-- the mark among these that is written so
abbrev pub find : Token → List Fixed → Class
find t [] = other t
find t (m ∷ ms) = elim (same_token t (spell m)) [ true ↦ mark m | false ↦ find t ms ]

abbrev pub classify : Token → Class
classify (word a) = find (word a) words
classify (Token.number n) = number n
classify (Token.letter b) = letter b
classify (sign a) = find (sign a) signs
