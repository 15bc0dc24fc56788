-- Laws of tests that compute: of `&&` and `||`, of equal lists, and of a test of every element.
use Prim.Native.Nat.{ℕ}
use mathlib.Core.Path.{◌≡◌, refl, sym, ap₂, subst}
use mathlib.Core.Logic.{◌⊎◌, inl, inr}
use mathlib.Core.Bool.{Bool, true, false, ◌&&◌, ◌||◌}
use mathlib.Core.List.{List, [], ◌∷◌, Memᴰ}
use lib.Dec.{T, eqb, eqb→eq}
use Rattle.bits.specs.Inside.Same.{same_list}

pub and_left : (a b : Bool) → T (a && b) → T a
and_left true b t = tt
and_left false b t = absurd t

pub and_right : (a b : Bool) → T (a && b) → T b
and_right true b t = t
and_right false b t = absurd t

pub and_of : (a b : Bool) → T a → T b → T (a && b)
and_of true b t u = u
and_of false b t u = t

pub or_left : (a b : Bool) → T a → T (a || b)
or_left true b t = tt
or_left false b t = absurd t

pub or_right : (a b : Bool) → T b → T (a || b)
or_right true b t = tt
or_right false b t = t

pub or_cases : (a b : Bool) → T (a || b) → T a ⊎ T b
or_cases true b t = inl tt
or_cases false b t = inr t

-- a test that says that two lists are the same is right
pub same_list_lem : (xs ys : List ℕ) → T (same_list xs ys) → xs ≡ ys
same_list_lem [] [] t = refl
same_list_lem [] (y ∷ ys) t = absurd t
same_list_lem (x ∷ xs) [] t = absurd t
same_list_lem (x ∷ xs) (y ∷ ys) t =
    ap₂
    (λ (a : ℕ) (l : List ℕ). a ∷ l)
    (eqb→eq x y (and_left (eqb x y) (same_list xs ys) t))
    (same_list_lem xs ys (and_right (eqb x y) (same_list xs ys) t))

-- a test of every element, and what it says of one
abbrev pub every : {A : Type 0} → (A → Bool) → List A → Bool
every test [] = true
every test (x ∷ xs) = test x && every test xs

pub every_at : {A : Type 0} (test : A → Bool) {x : A} {xs : List A} → Memᴰ x xs → T (every test xs) → T (test x)
every_at test (Memᴰ.head {x = y} {xs = ys} e) t =
    subst (λ (a : _). T (test a)) (sym e) (and_left (test y) (every test ys) t)
every_at test (Memᴰ.tail {x = y} {xs = ys} m) t = every_at test m (and_right (test y) (every test ys) t)
