-- The test whether two tokens are the same is right.
use mathlib.Core.Path.{◌≡◌, ap}
use lib.Dec.{T, eqb→eq}
use Rattle.bits.proofs.Tests.{same_list_lem}
use Rattle.text.specs.Token.{Token, word, number, letter, sign}
use Rattle.text.specs.Inside.Same.{same_token}

pub same_token_lem : (t u : Token) → T (same_token t u) → t ≡ u
same_token_lem (word a) (word b) t = ap word (same_list_lem a b t)
same_token_lem (word a) (number b) t = absurd t
same_token_lem (word a) (letter b) t = absurd t
same_token_lem (word a) (sign b) t = absurd t
same_token_lem (number a) (word b) t = absurd t
same_token_lem (number a) (number b) t = ap number (same_list_lem a b t)
same_token_lem (number a) (letter b) t = absurd t
same_token_lem (number a) (sign b) t = absurd t
same_token_lem (letter a) (word b) t = absurd t
same_token_lem (letter a) (number b) t = absurd t
same_token_lem (letter a) (letter b) t = ap letter (eqb→eq a b t)
same_token_lem (letter a) (sign b) t = absurd t
same_token_lem (sign a) (word b) t = absurd t
same_token_lem (sign a) (number b) t = absurd t
same_token_lem (sign a) (letter b) t = absurd t
same_token_lem (sign a) (sign b) t = ap sign (same_list_lem a b t)
