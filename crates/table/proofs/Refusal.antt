-- A refusal is one: of reasons that give at most one number and place each, the first that holds gives one number and place. Where the
-- reasons' numbers rise, it is the least number of those that hold.
use Prim.Native.Nat.{ℕ, ◌≤◌, ◌<◌}
use native.Mathlib.Omega.{arith}
use mathlib.Core.Path.{◌≡◌, sym, ◌∙◌}
use mathlib.Core.Logic.{◌⊎◌, inl, inr}
use mathlib.Core.List.{List, [], ◌∷◌, ◌++◌}
use Rattle.table.specs.Refusal.{Reason, because, at_zero, First}

-- a reason gives at most one number and place
pub record Single (r : Reason) : Type 0 where
  pub number : {n m p q : ℕ} → r n p → r m q → n ≡ m
  pub place : {n m p q : ℕ} → r n p → r m q → p ≡ q

-- whatever number and place a reason gives has Q
abbrev pub Gives : (ℕ → ℕ → Type 0) → Reason → Type 0
Gives Q r = (n p : ℕ) → r n p → Q n p

-- each reason of the list has P
abbrev pub Each : (Reason → Type 0) → List Reason → Type 0
Each P [] = Unit {0}
Each P (r ∷ rs) = P r × Each P rs

-- a reason with one number is single if at most one place has what it asks
pub single_because : {n : ℕ} {P : ℕ → Type 0} → ((p q : ℕ) → P p → P q → p ≡ q) → Single (because n P)
single_because one = record {
  number = λ a b. a.0 ∙ sym b.0;
  place = λ a b. one _ _ a.1 b.1;
}

-- a reason with place 0 is single
pub single_at_zero : {n : ℕ} {P : Type 0} → Single (at_zero n P)
single_at_zero = single_because (λ p q a b. a.0 ∙ sym b.0)

-- the first of single reasons gives one number and place
pub first_once : {n m p q : ℕ} (rs : List Reason) → Each Single rs → First rs n p → First rs m q → (n ≡ m) × (p ≡ q)
unfolding First
first_once {n = n} {m = m} {p = p} {q = q} [] one x3 _ = elim x3 [ ]
first_once (r ∷ rs) one (inl a) (inl b) = (one.0.number a b, one.0.place a b)
first_once (r ∷ rs) one (inl a) (inr b) = absurd (b.0 _ _ a)
first_once (r ∷ rs) one (inr a) (inl b) = absurd (a.0 _ _ b)
first_once (r ∷ rs) one (inr a) (inr b) = first_once rs one.1 a.1 b.1

-- what each of the reasons gives has Q, so what the first that holds gives has it
pub first_has : (Q : ℕ → ℕ → Type 0) {n p : ℕ} (rs : List Reason) → Each (Gives Q) rs → First rs n p → Q n p
unfolding First
first_has Q {n = n} {p = p} [] each x'' = elim x'' [ ]
first_has Q (r ∷ rs) each (inl a) = each.0 _ _ a
first_has Q (r ∷ rs) each (inr a) = first_has Q rs each.1 a.1

-- no reason of the list gives any number and place
abbrev pub None : List Reason → Type 0
None = Each (Gives (λ n p. ⊥))

-- where none holds, there is no first
pub first-none : (n p : ℕ) (rs : List Reason) → None rs → ¬ First rs n p
first-none n p rs none = first_has (λ n p. ⊥) rs none

-- A list of reasons may go on with another.

pub each_append : (P : Reason → Type 0) (rs qs : List Reason) → Each P rs → Each P qs → Each P (rs ++ qs)
each_append P [] qs front behind = behind
each_append P (r ∷ rs) qs front behind = (front.0, each_append P rs qs front.1 behind)

-- a first reason of the front is the first of both
pub first_front : (n p : ℕ) (rs qs : List Reason) → First rs n p → First (rs ++ qs) n p
unfolding First
first_front n p [] qs x' = elim x' [ ]
first_front n p (r ∷ rs) qs (inl a) = inl a
first_front n p (r ∷ rs) qs (inr a) = inr (a.0, first_front n p rs qs a.1)

-- and where none of the front holds, the first behind it
pub first_behind : (n p : ℕ) (rs qs : List Reason) → None rs → First qs n p → First (rs ++ qs) n p
unfolding First
first_behind n p [] qs none first = first
first_behind n p (r ∷ rs) qs none first = inr (none.0, first_behind n p rs qs none.1 first)

-- the first of both is one of the two
pub first_split : (n p : ℕ) (rs qs : List Reason) → First (rs ++ qs) n p → First rs n p ⊎ (None rs × First qs n p)
unfolding First
first_split n p [] qs first = inr (tt, first)
first_split n p (r ∷ rs) qs (inl a) = inl (inl a)
first_split n p (r ∷ rs) qs (inr a) = by_cases (first_split n p rs qs a.1)
  where
    by_cases : First rs n p ⊎ (None rs × First qs n p) → First (r ∷ rs) n p ⊎ (None (r ∷ rs) × First qs n p)
    by_cases (inl front) = inl (inr (a.0, front))
    by_cases (inr behind) = inr ((a.0, behind.0), behind.1)

-- some reason of the list gives this number and place
abbrev pub Some : List Reason → ℕ → ℕ → Type 0
Some [] number place = ⊥
Some (r ∷ rs) number place = r number place ⊎ Some rs number place

-- the numbers rise: what a reason gives is below what each after it gives
abbrev pub NumbersRise : List Reason → Type 0
NumbersRise [] = Unit {0}
NumbersRise (r ∷ rs) = Each (Gives (λ m q. (n p : ℕ) → r n p → n < m)) rs × NumbersRise rs

-- what a reason of the list gives has Q, if each does
some_has : (Q : ℕ → ℕ → Type 0) {n p : ℕ} (rs : List Reason) → Each (Gives Q) rs → Some rs n p → Q n p
some_has Q {n = n} {p = p} [] each x'' = elim x'' [ ]
some_has Q (r ∷ rs) each (inl a) = each.0 _ _ a
some_has Q (r ∷ rs) each (inr a) = some_has Q rs each.1 a

-- so the number that is given is the least of those that hold
pub first_least
    : (n m p q : ℕ) (rs : List Reason) → Each Single rs → NumbersRise rs → First rs n p → Some rs m q → n ≤ m
unfolding First
first_least n m p q [] one rise x4 _ = elim x4 [ ]
first_least n m p q (r ∷ rs) one rise (inl a) (inl b) = omega (arith, one.0.number a b)
first_least n m p q (r ∷ rs) one rise (inl a) (inr b) =
    omega (arith, some_has (λ m q. (n p : ℕ) → r n p → n < m) rs rise.0 b n p a)
first_least n m p q (r ∷ rs) one rise (inr a) (inl b) = absurd (a.0 m q b)
first_least n m p q (r ∷ rs) one rise (inr a) (inr b) = first_least n m p q rs one.1 rise.1 a.1 b
