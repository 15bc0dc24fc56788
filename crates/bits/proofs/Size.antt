-- A property has one size, and its size is at most the length of any list that holds all that have it.
use Prim.Native.Nat.{ℕ, zero, suc, ◌≤◌, ◌<◌, zero-le}
use native.Mathlib.Nat.{eq-or-lt_of_le, le_of_suc-le-suc}
use native.Mathlib.Omega.{arith}
use mathlib.Core.Path.{◌≡◌, refl, sym, ap, ◌∙◌}
use mathlib.Core.Logic.{⊎_elim}
use mathlib.Core.List.Memᴰ
use mathlib.Core.List.{List, [], ◌∷◌, map, Memᴰ}
use mathlib.Core.List.Pairwise
use mathlib.Core.List.{Nodup}
use lib.ListN.{length, length-map}
use Rattle.bits.specs.Size.{Size}

-- the numbers below n
below : ℕ → List ℕ
below zero = []
below (suc n) = n ∷ below n

-- they are n
length-below : (n : ℕ) → length (below n) ≡ n
unfolding below
length-below zero = refl
length-below (suc n) = ap suc (length-below n)

-- each of them is listed
in_below : (n i : ℕ) → i < n → Memᴰ i (below n)
unfolding below
in_below zero i low = absurd (omega arith)
in_below (suc n) i low =
    ⊎_elim (λ (e : i ≡ n). Memᴰ.head e) (λ (l : i < n). Memᴰ.tail (in_below n i l)) (eq-or-lt_of_le (le_of_suc-le-suc low))

module _ {A : Type 0} where
  -- a list without the element that stands at a place of it
  without : {x : A} {ys : List A} → Memᴰ x ys → List A
  without (Memᴰ.head {xs = xs} e) = xs
  without (Memᴰ.tail {x = y} m) = y ∷ without m

  -- it is shorter by one
  length_without : {x : A} {ys : List A} (m : Memᴰ x ys) → suc (length (without m)) ≡ length ys
  unfolding without
  length_without (Memᴰ.head e) = refl
  length_without (Memᴰ.tail m) = ap suc (length_without m)

  -- every other element still stands in it
  still_within : {x z : A} {ys : List A} (m : Memᴰ x ys) → ¬ (x ≡ z) → Memᴰ z ys → Memᴰ z (without m)
  unfolding without
  still_within (Memᴰ.head e) other (Memᴰ.head f) = absurd (other (e ∙ sym f))
  still_within (Memᴰ.head e) other (Memᴰ.tail k) = k
  still_within (Memᴰ.tail m) other (Memᴰ.head f) = Memᴰ.head f
  still_within (Memᴰ.tail m) other (Memᴰ.tail k) = Memᴰ.tail (still_within m other k)

  -- a list of different elements is no longer than a list that holds them all
  pub inside_shorter : {xs ys : List A} → Nodup xs → ((x : A) → Memᴰ x xs → Memᴰ x ys) → length xs ≤ length ys
  inside_shorter Pairwise.nil within = zero-le
  inside_shorter (Pairwise.cons {a = x} apart once) within =
      let here = within x (Memᴰ.head refl) in
      let others = inside_shorter {ys = without here} once (λ z m. still_within here (apart z ∣ m ∣₁) (within z (Memᴰ.tail m))) in
      omega (arith, length_without here)

  -- a size is at most the length of a list that holds everything that has the property
  pub size_at_most : {P : A → Type 0} {n : ℕ} → Size P n → (ys : List A) → ((x : A) → P x → Memᴰ x ys) → n ≤ length ys
  size_at_most a ys within = rw (← a.many) (inside_shorter a.once (λ x m. within x (a.only x m)))

  -- a property has one size
  pub size_once : {P : A → Type 0} {m n : ℕ} → Size P m → Size P n → m ≡ n
  size_once a b = omega (arith, size_at_most a b.listed b.each, size_at_most b a.listed a.each)

  -- a size is at most m where all that have the property are among m numbered things
  pub size_numbered
      : {P : A → Type 0} {n : ℕ} → Size P n → (m : ℕ) (nth : ℕ → A) → ((x : A) → P x → (i : ℕ) × (i < m) × (nth i ≡ x)) → n ≤ m
  size_numbered {P} a m nth found =
      rw (length-map (below m) nth ∙ length-below m) at (size_at_most a (map nth (below m)) listed)
    where
      listed : (x : A) → P x → Memᴰ x (map nth (below m))
      listed x p = let f = found x p in Memᴰ.cast (sym f.2) (Memᴰ.map nth (in_below m f.0 f.1))
