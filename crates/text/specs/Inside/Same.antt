-- Whether two tokens are the same, by a test that computes. No public promise reaches it.
use Rattle.std.specs.Prelude.{Bool, false, eqb}
use Rattle.bits.specs.Inside.Same.{same_list}
use Rattle.text.specs.Token.{Token, word, number, letter, sign}

abbrev pub same_token : Token → Token → Bool
same_token (word a) (word b) = same_list a b
same_token (word a) (number b) = false
same_token (word a) (letter b) = false
same_token (word a) (sign b) = false
same_token (number a) (word b) = false
same_token (number a) (number b) = same_list a b
same_token (number a) (letter b) = false
same_token (number a) (sign b) = false
same_token (letter a) (word b) = false
same_token (letter a) (number b) = false
same_token (letter a) (letter b) = eqb a b
same_token (letter a) (sign b) = false
same_token (sign a) (word b) = false
same_token (sign a) (number b) = false
same_token (sign a) (letter b) = false
same_token (sign a) (sign b) = same_list a b
