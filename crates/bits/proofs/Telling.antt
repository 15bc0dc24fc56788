-- When a test tells whether something holds.
use mathlib.Core.Path.{◌≡◌, refl, sym, ◌∙◌}
use mathlib.Core.Bool.{Bool, true, false, true≢false}
use Rattle.bits.specs.Tells.{Tells}

-- a result that is known
pub tells_yes : {r : Bool} {P : Type 0} → r ≡ true → P → Tells r P
tells_yes known p = record { holds = λ e. p; fails = λ e. absurd (true≢false (sym known ∙ e)) }

pub tells_no : {r : Bool} {P : Type 0} → r ≡ false → ¬ P → Tells r P
tells_no known n = record { holds = λ e. absurd (true≢false (sym e ∙ known)); fails = λ e. n }

-- and there is no second result
pub tells_once : {a b : Bool} {P : Type 0} → Tells a P → Tells b P → a ≡ b
tells_once {a} {b} {P} one other = by_cases a b one other
  where
    by_cases : (a b : Bool) → Tells a P → Tells b P → a ≡ b
    by_cases true true one other = refl
    by_cases true false one other = absurd (other.fails refl (one.holds refl))
    by_cases false true one other = absurd (one.fails refl (other.holds refl))
    by_cases false false one other = refl

-- what tells the one tells the other, if each follows from the other
pub tells_as : {r : Bool} {P Q : Type 0} → Tells r P → (P → Q) → (Q → P) → Tells r Q
tells_as told there back = record { holds = λ e. there (told.holds e); fails = λ e q. told.fails e (back q) }

pub kept : {r : Bool} {P : Type 0} → Tells r P → r ≡ true → P
kept told passed = told.holds passed
