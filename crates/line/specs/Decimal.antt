-- A number's decimal digits.
use Rattle.std.specs.Prelude.{ℕ, zero, suc, ◌+◌, ◌/◌, ◌%◌, true, false, List, [], ◌∷◌, ltb}

-- the last digits of a number, at most so many and no leading zero, before what follows
unfoldable pub digits : ℕ → ℕ → List ℕ → List ℕ
digits zero n rest = rest
digits (suc most) n rest =
    elim (ltb n 10) [ true ↦ (n + 48) ∷ rest | false ↦ digits most (n / 10) ((n % 10 + 48) ∷ rest) ]

-- a number of up to twenty digits
abbrev pub decimal : ℕ → List ℕ
decimal n = digits 20 n []
