-- What reading an atom of a condition promises, wherever it is looked for: the atom that three tokens are, or the refusal of the
-- first of them that no atom has. Which letters the alphabet has is not asked.
use Rattle.std.specs.Prelude.{ℕ, ◌≡◌, Bool, true, false, ◌&&◌, List, leb, Result, Ok, Err}
use Rattle.text.specs.First.{part, FirstToken}
use Rattle.text.specs.declared.Word.TheVariants as Word
use Rattle.text.specs.declared.Sign.TheVariants as Sign
use Rattle.text.specs.declared.Token.{Token}
use Rattle.table.specs.declared.reason.Reason.TheVariants as Reason
use Rattle.table.specs.declared.reason.Refusal.{Refusal}
use Rattle.rule.specs.Limits.{value_from, in_form}
use Rattle.atoms.specs.declared.Symbol.{Symbol}
use Rattle.atoms.specs.declared.Atom.{Atom}
use Rattle.atoms.specs.declared.AtomRead.{AtomRead}

-- the refusal of a token with which no program goes on: misplaced, or no token where it is broken
abbrev pub refusal_of : Token → Refusal
refusal_of (Token.Word place end x) = record { reason = Reason.Misplaced; place = place }
refusal_of (Token.Number place end) = record { reason = Reason.Misplaced; place = place }
refusal_of (Token.Letter place end b) = record { reason = Reason.Misplaced; place = place }
refusal_of (Token.Sign place end x) = record { reason = Reason.Misplaced; place = place }
refusal_of (Token.End place) = record { reason = Reason.Misplaced; place = place }
refusal_of (Token.Broken place) = record { reason = Reason.NoToken; place = place }

-- what comes of reading an atom
abbrev pub Read : Type 0
Read = Result AtomRead Refusal

-- what comes first from a byte on, and what is said by it
pub record Next (text : List ℕ) (from : ℕ) (Says : Token → Type 0) : Type 0 where
  pub token : Token
  pub first : FirstToken text from token
  pub says : Says token

-- a token that stands for something says what follows from that; any other is refused
pub data Case {A R : Type 0} (StandsFor : Token → A → Type 0) (Says : A → Result R Refusal → Type 0) : Token → Result R Refusal → Type 0 where
  stands : {t : Token} {a : A} {r : Result R Refusal} → StandsFor t a → Says a r → Case StandsFor Says t r
  other : {t : Token} → ((a : A) → ¬ StandsFor t a) → Case StandsFor Says t (Err (refusal_of t))

-- what is tested, and the byte behind that word
pub data Tested : Type 0 where
  letter_read : ℕ → Tested
  counter : ℕ → Tested

pub data IsTested : Token → Tested → Type 0 where
  by_read : {p e : ℕ} → IsTested (Token.Word p e Word.Read) (letter_read e)
  by_c : {p e : ℕ} → IsTested (Token.Word p e Word.C) (counter e)

-- whether for being equal, and the byte behind the sign
pub record Compared : Type 0 where
  pub equal : Bool
  pub end : ℕ

pub data IsCompared : Token → Compared → Type 0 where
  same : {p e : ℕ} → IsCompared (Token.Sign p e Sign.Equals) (record { equal = true; end = e })
  differs : {p e : ℕ} → IsCompared (Token.Sign p e Sign.Differs) (record { equal = false; end = e })

-- what `read` is compared with: a letter, lend or rend
pub record Object : Type 0 where
  pub symbol : Symbol
  pub end : ℕ

pub data IsObject : Token → Object → Type 0 where
  a_letter : {p e b : ℕ} → IsObject (Token.Letter p e b) (record { symbol = Symbol.Letter b p; end = e })
  lend : {p e : ℕ} → IsObject (Token.Word p e Word.Lend) (record { symbol = Symbol.Lend; end = e })
  rend : {p e : ℕ} → IsObject (Token.Word p e Word.Rend) (record { symbol = Symbol.Rend; end = e })

-- what `c` is compared with: a number
pub record Numeral : Type 0 where
  pub place : ℕ
  pub end : ℕ

pub data IsNumeral : Token → Numeral → Type 0 where
  a_number : {p e : ℕ} → IsNumeral (Token.Number p e) (record { place = p; end = e })

-- an atom that is found, and the byte behind it
abbrev pub found : Atom → ℕ → Read
found atom at = Ok (record { atom = atom; at = at })

-- 0 only, and else 7: by whether the digits are 0
abbrev pub zero_found : Bool → Numeral → Bool → Read
zero_found equal n true = found (Atom.Counter equal) n.end
zero_found equal n false = Err (record { reason = Reason.Number; place = n.place })

abbrev pub zero_read : Bool → List ℕ → Numeral → Read
zero_read equal digits n = zero_found equal n (in_form digits && leb (value_from 0 digits) 0)

-- the third token, behind `read` and a comparison, or behind `c` and one
abbrev pub ObjectSays : Bool → Token → Read → Type 0
ObjectSays equal = Case IsObject (λ x r. r ≡ found (Atom.Read equal x.symbol) x.end)

module _ (text : List ℕ) where
  abbrev pub NumeralSays : Bool → Token → Read → Type 0
  NumeralSays equal = Case IsNumeral (λ n r. r ≡ zero_read equal (part text n.place n.end) n)

  -- the second, with what the third then says
  abbrev pub ComparedSays : (Bool → Token → Read → Type 0) → Token → Read → Type 0
  ComparedSays third = Case IsCompared (λ c r. Next text c.end (λ t. third c.equal t r))

  -- the first
  abbrev pub TestedSays : Tested → Read → Type 0
  TestedSays (letter_read end) r = Next text end (λ t. ComparedSays ObjectSays t r)
  TestedSays (counter end) r = Next text end (λ t. ComparedSays NumeralSays t r)

-- the answer of reading an atom from a byte on
pub record AtomAt (text : List ℕ) (from : ℕ) (r : Read) : Type 0 where
  pub right : Next text from (λ t. Case IsTested (TestedSays text) t r)
