-- Refusals: each has a number and a place. An entry has reasons to refuse, in an order, and gives the first that holds.
use Rattle.std.specs.Prelude.{ℕ, ◌+◌, ◌*◌, ◌≡◌, ◌⊎◌, List, [], ◌∷◌}
use Rattle.table.specs.declared.reason.Reason.{Reason as Named}

-- which numbers and places a reason gives
abbrev pub Reason : Type 1
Reason = ℕ → ℕ → Type 0

-- a reason with one number
abbrev pub because : ℕ → (ℕ → Type 0) → Reason
because n P number place = (number ≡ n) × P place

-- a reason with one number and place 0
abbrev pub at_zero : ℕ → Type 0 → Reason
at_zero n P = because n (λ place. (place ≡ 0) × P)

-- the first reason that holds gives this number and place, and no earlier one gives any
unfoldable pub First : List Reason → ℕ → ℕ → Type 0
First [] number place = ⊥
First (r ∷ rs) number place = r number place ⊎ (((n p : ℕ) → ¬ r n p) × First rs number place)

-- a refusal as one number
abbrev pub refusal : ℕ → ℕ → ℕ
refusal number place = number * 1000000 + place

-- the number of each reason that has a name in code
abbrev pub number_of : Named → ℕ
number_of Named.LongText = 1
number_of Named.ShortImage = 2
number_of Named.NoToken = 3
number_of Named.Misplaced = 4
number_of Named.Alphabet = 5
number_of Named.OutsideAlphabet = 6
number_of Named.Number = 7
number_of Named.Depth = 8
number_of Named.Arms = 9
number_of Named.States = 10
number_of Named.Rows = 11
number_of Named.Malformed = 21
number_of Named.LongWord = 22
number_of Named.OtherLetter = 23
number_of Named.HighLimit = 24
number_of Named.MarkBytes = 25
