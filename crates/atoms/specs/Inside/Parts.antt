-- What the readers of an atom's second and third token answer. No public promise reaches it.
use Rattle.std.specs.Prelude.{ℕ, ◌≡◌, Bool, true, false, ◌&&◌, List, leb, Result, Ok, Err}
use Rattle.text.specs.First.{part}
use Rattle.text.specs.declared.Token.{Token}
use Rattle.table.specs.declared.reason.Reason.TheVariants as Reason
use Rattle.table.specs.declared.reason.Refusal.{Refusal}
use Rattle.rule.specs.Limits.{value_from, in_form}
use Rattle.atoms.specs.Atom.{Case, IsCompared, IsObject, Numeral, IsNumeral}
use Rattle.atoms.specs.declared.Symbol.{Symbol}

-- whether for being equal, and the byte behind the sign
abbrev pub ComparisonSays : Token → Result (Bool × ℕ) Refusal → Type 0
ComparisonSays = Case IsCompared (λ c r. r ≡ Ok (c.equal, c.end))

-- what `read` is compared with, and the byte behind it
abbrev pub SymbolSays : Token → Result (Symbol × ℕ) Refusal → Type 0
SymbolSays = Case IsObject (λ x r. r ≡ Ok (x.symbol, x.end))

-- the byte behind a 0
abbrev pub behind_zero : Numeral → Bool → Result ℕ Refusal
behind_zero n true = Ok n.end
behind_zero n false = Err (record { reason = Reason.Number; place = n.place })

abbrev pub is_zero : List ℕ → Bool
is_zero digits = in_form digits && leb (value_from 0 digits) 0

abbrev pub ZeroSays : List ℕ → Token → Result ℕ Refusal → Type 0
ZeroSays text = Case IsNumeral (λ n r. r ≡ behind_zero n (is_zero (part text n.place n.end)))
