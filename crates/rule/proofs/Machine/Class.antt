-- A token's class says which token it is, and a fixed token is of its own class.
use Prim.Native.Nat.{ℕ}
use mathlib.Core.Path.{◌≡◌, refl, sym, subst}
use mathlib.Core.Bool.{Bool, true, false}
use mathlib.Core.List.{List, [], ◌∷◌}
use lib.Dec.{T, eqb, eqb_refl}
use Rattle.bits.specs.Inside.Same.{same_list}
use Rattle.bits.proofs.Tests.{and_of}
use Rattle.text.specs.Token.{Token, word, sign}
use Rattle.text.specs.Inside.Same.{same_token}
use Rattle.text.proofs.Same.{same_token_lem}
use Rattle.rule.specs.Inside.Class.{Fixed, alphabet, decr_on_zero, is_true, is_false, twoc, string, move, goto, lend, rend, c, accept, reject, if, else, while, choose, branch, also, read, equals, same, differs, not, and, or, plus_plus, minus_minus, plus_equals, minus_equals, minus, opens, closes, begins, ends, open_list, close_list, comma, semicolon, mark, spell, words, signs, token_of, find, classify}

find_token : (t : Token) (ms : List Fixed) → token_of (find t ms) ≡ t
find_token t [] = refl
find_token t (m ∷ ms) = by_cases (same_token t (spell m)) refl (find_token t ms)
  where
    by_cases : (b : Bool) → same_token t (spell m) ≡ b → token_of (find t ms) ≡ t → token_of (elim b [ true ↦ mark m | false ↦ find t ms ]) ≡ t
    by_cases true e h = sym (same_token_lem t (spell m) (subst T (sym e) tt))
    by_cases false e h = h

-- a token's class says which token it is
pub token_of_class : (t : Token) → token_of (classify t) ≡ t
token_of_class (word a) = find_token (word a) words
token_of_class (Token.number n) = refl
token_of_class (Token.letter b) = refl
token_of_class (sign a) = find_token (sign a) signs

-- a mark, as it is written, is of its own class
pub class_of_mark : (m : Fixed) → classify (spell m) ≡ mark m
class_of_mark alphabet = refl
class_of_mark decr_on_zero = refl
class_of_mark is_true = refl
class_of_mark is_false = refl
class_of_mark twoc = refl
class_of_mark string = refl
class_of_mark move = refl
class_of_mark goto = refl
class_of_mark lend = refl
class_of_mark rend = refl
class_of_mark c = refl
class_of_mark accept = refl
class_of_mark reject = refl
class_of_mark if = refl
class_of_mark else = refl
class_of_mark while = refl
class_of_mark choose = refl
class_of_mark branch = refl
class_of_mark also = refl
class_of_mark read = refl
class_of_mark equals = refl
class_of_mark same = refl
class_of_mark differs = refl
class_of_mark not = refl
class_of_mark and = refl
class_of_mark or = refl
class_of_mark plus_plus = refl
class_of_mark minus_minus = refl
class_of_mark plus_equals = refl
class_of_mark minus_equals = refl
class_of_mark minus = refl
class_of_mark opens = refl
class_of_mark closes = refl
class_of_mark begins = refl
class_of_mark ends = refl
class_of_mark open_list = refl
class_of_mark close_list = refl
class_of_mark comma = refl
class_of_mark semicolon = refl

same_list_self : (l : List ℕ) → T (same_list l l)
same_list_self [] = tt
same_list_self (b ∷ l) = and_of (eqb b b) (same_list l l) (eqb_refl b) (same_list_self l)

-- a token is the same as itself
pub same_self : (t : Token) → T (same_token t t)
same_self (word a) = same_list_self a
same_self (Token.number n) = same_list_self n
same_self (Token.letter b) = eqb_refl b
same_self (sign a) = same_list_self a
