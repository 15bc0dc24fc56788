-- A property of every element of a list.
use mathlib.Core.Path.{◌≡◌}
use mathlib.Core.Logic.{⊎_elim}
use mathlib.Core.List.Memᴰ
use mathlib.Core.List.{
  List,
  [],
  ◌∷◌,
  ◌++◌,
  Memᴰ,
}

-- every element has a property
pub record Every {A : Type 0} (P : A → Type 0) (l : List A) : Type 0 where
  pub at : (x : A) → Memᴰ x l → P x

module _ {A : Type 0} {P : A → Type 0} where
  -- in an empty list
  pub every-nil : Every P []
  every-nil = record { at = λ x m. absurd (Memᴰ.not-nil m) }

  -- in a list with one more
  pub every-cons : {y : A} {ys : List A} → P y → Every P ys → Every P (y ∷ ys)
  every-cons {y} {ys} here rest =
      record { at = λ x m. ⊎_elim (λ (e : x ≡ y). rw e here) (rest.at x) (Memᴰ.cases_cons m) }

  -- in two lists together
  pub every_append : (xs : List A) {ys : List A} → Every P xs → Every P ys → Every P (xs ++ ys)
  every_append xs f g = record { at = λ x m. ⊎_elim (f.at x) (g.at x) (Memᴰ.append_cases xs m) }
