-- Decisions that compute: what is found comes with its proof, so that a line of samples is proved by computing it.
use Prim.Native.Nat.{ℕ, ◌≤◌}
use mathlib.Core.Path.{◌≡◌, refl}
use mathlib.Core.Bool.{Bool, true, false}
use mathlib.Core.Option.{Option, none, some}
use mathlib.Core.List.{List, [], ◌∷◌}
use lib.Dec.{T, leb, eqb, leb→le, eqb→eq}
use Rattle.bits.proofs.Tests.{same_list_lem}
use Rattle.bits.specs.Inside.Same.{same_list}

infixl 10 ◌>>=◌
abbrev pub ◌>>=◌ : {A B : Type 0} → Option A → (A → Option B) → Option B
◌>>=◌ none f = none
◌>>=◌ (some a) f = f a

abbrev pub found : {A : Type 0} → Option A → Bool
found none = false
found (some a) = true

-- what was found
abbrev pub it : {A : Type 0} (o : Option A) → T (found o) → A
it none t = absurd t
it (some a) t = a

-- a test that passed, as a fact
abbrev pub passed : {A : Type 0} (b : Bool) → (T b → A) → Option A
passed true f = some (f tt)
passed false f = none

abbrev pub equal : (m n : ℕ) → Option (m ≡ n)
equal m n = passed (eqb m n) (eqb→eq m n)

abbrev pub at_most : (m n : ℕ) → Option (m ≤ n)
at_most m n = passed (leb m n) (leb→le m n)

abbrev pub equal_lists : (xs ys : List ℕ) → Option (xs ≡ ys)
equal_lists xs ys = passed (same_list xs ys) (same_list_lem xs ys)

abbrev pub empty : {A : Type 0} (xs : List A) → Option (xs ≡ [])
empty [] = some refl
empty (x ∷ xs) = none
