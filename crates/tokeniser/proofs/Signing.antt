-- Bytes that are written as no sign of the code are none of the signs.
use Prim.Native.Nat.{ℕ}
use mathlib.Core.Path.{◌≡◌, sym}
use mathlib.Core.List.{List, [], ◌∷◌, Memᴰ, map}
use Rattle.text.specs.Token.{signs}
use Rattle.text.specs.First.{written}
use Rattle.text.specs.declared.Sign.{Sign}

-- the signs of the code, in the order of those that document 01 lists
abbrev all_signs : List Sign
all_signs =
    Sign.Becomes
    ∷ Sign.Equals
    ∷ Sign.Differs
    ∷ Sign.Not
    ∷ Sign.And
    ∷ Sign.Or
    ∷ Sign.Increment
    ∷ Sign.Decrement
    ∷ Sign.Add
    ∷ Sign.Subtract
    ∷ Sign.Minus
    ∷ Sign.OpenParen
    ∷ Sign.CloseParen
    ∷ Sign.OpenBrace
    ∷ Sign.CloseBrace
    ∷ Sign.OpenBracket
    ∷ Sign.CloseBracket
    ∷ Sign.Comma
    ∷ Sign.Semicolon
    ∷ []

none_written : (xs : List Sign) (l : List ℕ) → ((x : Sign) → ¬ (written x ≡ l)) → ¬ Memᴰ l (map written xs)
none_written [] l h m = elim m [ ]
none_written (x ∷ xs) l h (Memᴰ.head e) = h x (sym e)
none_written (x ∷ xs) l h (Memᴰ.tail m) = none_written xs l h m

pub no_sign : {l : List ℕ} → ((x : Sign) → ¬ (written x ≡ l)) → ¬ Memᴰ l signs
no_sign {l} h m = none_written all_signs l h m
