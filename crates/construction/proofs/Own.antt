-- A part's own states, and rows that start from such states with none from an accepting one.
use Prim.Native.Nat.{ℕ, ◌≤◌, ◌<◌}
use native.Mathlib.Omega.{arith}
use mathlib.Core.Path.{◌≡◌, refl, sym, ◌∙◌, subst}
use mathlib.Core.Logic.{◌≢◌, ◌⊎◌, inl, inr, ⊎_elim}
use mathlib.Core.List.Memᴰ
use mathlib.Core.List.{List, [], ◌++◌, Memᴰ}
use Rattle.table.specs.Table.{Row}
use Rattle.construction.proofs.Every.{Every, every-nil, every_append}

-- a part's own states: where it starts, and those that it takes
pub data Own (p next after s : ℕ) : Type 0 where
  start : s ≡ p → Own p next after s
  taken : next ≤ s → s < after → Own p next after s

-- none of them is above those taken
pub own_below : {p next after s limit : ℕ} → Own p next after s → p < limit → after ≤ limit → s < limit
own_below (start e) h k = omega arith
own_below (taken a b) h k = omega arith

-- the own states of a part of a part
pub record Inside (p next after p' next' after' : ℕ) : Type 0 where
  pub begins : Own p' next' after' p
  pub low : next' ≤ next
  pub high : after ≤ after'

-- what is own to a part is own to the larger one
pub own_inside :
    {p next after p' next' after' s : ℕ}
    → Inside p next after p' next' after'
    → Own p next after s
    → Own p' next' after' s
own_inside i (start e) = rw e i.begins
own_inside i (taken c d) = taken (omega arith) (omega arith)

-- a part that starts where the larger one starts
pub same_start : {p next after next' after' : ℕ} → (next' ≤ next) × (after ≤ after') → Inside p next after p next' after'
same_start h = record { begins = start refl; low = h.0; high = h.1 }

-- and one that starts at a state that the larger one takes
pub fresh_start :
    {p next after p' next' after' : ℕ}
    → (next' ≤ p) × (p < after') × (next' ≤ next) × (after ≤ after')
    → Inside p next after p' next' after'
fresh_start h = record { begins = taken h.0 h.1; low = h.2; high = h.3 }

-- own states of two parts, as those of a larger one
pub own-append :
    {A : Type 0} (f : A → ℕ) {p next after p' next' after' P N B : ℕ} {xs ys : List A}
    → Every (λ (x : A). Own p next after (f x)) xs
    → Every (λ (x : A). Own p' next' after' (f x)) ys
    → Inside p next after P N B
    → Inside p' next' after' P N B
    → Every (λ (x : A). Own P N B (f x)) (xs ++ ys)
own-append f {xs = xs} g h i j =
    every_append xs
    (record { at = λ x m. own_inside i (g.at x m) })
    (record { at = λ x m. own_inside j (h.at x m) })

-- two parts, the second taking its states after the first, and neither starting in the other
pub record Apart (p next after p' next' : ℕ) : Type 0 where
  pub starts : p ≢ p'
  pub first : p < next'
  pub second : next ≤ p' → p' < after → ⊥
  pub later : after ≤ next'

-- they share no state
pub own_apart :
    {p next after p' next' after' s : ℕ} → Apart p next after p' next' → Own p next after s → Own p' next' after' s → ⊥
own_apart a (start e) (start f) = a.starts (sym e ∙ f)
own_apart a (start e) (taken h k) = omega arith
own_apart a (taken h k) (start f) = a.second (omega arith) (omega arith)
own_apart a (taken h k) (taken c d) = omega arith

-- a set of states
abbrev pub Region : Type 1
Region = ℕ → Type 0

infixl 40 ◌∪◌
infix 30 ◌⊆◌
-- two together
abbrev pub ◌∪◌ : Region → Region → Region
◌∪◌ R Q s = R s ⊎ Q s

-- one in another
abbrev pub ◌⊆◌ : Region → Region → Type 0
◌⊆◌ R Q = (s : ℕ) → R s → Q s

-- two that share no state
abbrev pub Disjoint : Region → Region → Type 0
Disjoint R Q = (s : ℕ) → R s → Q s → ⊥

-- rows that start from states in one set, and accepting states in another, with no row from any of these
pub record Laid (R A : Region) (rows : List Row) (accepting : List ℕ) : Type 0 where
  pub from : Every (λ (r : Row). R r.from) rows
  pub accepts : Every A accepting
  pub apart : (r : Row) (s : ℕ) → Memᴰ r rows → Memᴰ s accepting → r.from ≢ s

-- rows alone
pub laid_rows : {R A : Region} {rows : List Row} → Every (λ (r : Row). R r.from) rows → Laid R A rows []
laid_rows f = record { from = f; accepts = every-nil; apart = λ r s m n. absurd (Memᴰ.not-nil n) }

-- in larger sets
pub laid_in :
    {R A Q B : Region} {rows : List Row} {accepting : List ℕ} → R ⊆ Q → A ⊆ B → Laid R A rows accepting → Laid Q B rows accepting
laid_in i j f =
    record {
      from = record { at = λ r m. i r.from (f.from.at r m) };
      accepts = record { at = λ s m. j s (f.accepts.at s m) };
      apart = f.apart;
    }

-- both in the same
pub laid_same :
    {R Q : Region} {rows : List Row} {accepting : List ℕ} → R ⊆ Q → Laid R R rows accepting → Laid Q Q rows accepting
laid_same i f = laid_in i i f

-- some rows and accepting states, and then others
pub laid_append :
    {R A R' A' : Region} {rows rows' : List Row} {accepting accepting' : List ℕ}
    → Laid R A rows accepting
    → Laid R' A' rows' accepting'
    → Disjoint R A'
    → Disjoint A R'
    → Laid (R ∪ R') (A ∪ A') (rows ++ rows') (accepting ++ accepting')
laid_append {R} {A} {R'} {A'} {rows} {rows'} {accepting} {accepting'} f g x y =
    record {
      from =
          every_append rows
          (record { at = λ r m. inl (f.from.at r m) })
          (record { at = λ r m. inr (g.from.at r m) });
      accepts =
          every_append accepting
          (record { at = λ s m. inl (f.accepts.at s m) })
          (record { at = λ s m. inr (g.accepts.at s m) });
      apart = λ r s m n. by_cases r s (Memᴰ.append_cases rows m) (Memᴰ.append_cases accepting n);
    }
  where
    by_cases : (r : Row) (s : ℕ)
        → Memᴰ r rows ⊎ Memᴰ r rows'
        → Memᴰ s accepting ⊎ Memᴰ s accepting'
        → r.from ≢ s
    by_cases r s (inl m) (inl n) e = f.apart r s m n e
    by_cases r s (inl m) (inr n) e = x s (subst R e (f.from.at r m)) (g.accepts.at s n)
    by_cases r s (inr m) (inl n) e = y s (f.accepts.at s n) (subst R' e (g.from.at r m))
    by_cases r s (inr m) (inr n) e = g.apart r s m n e

-- two parts' own, inside a larger part
pub laid_own :
    {p next after p' next' after' P N B : ℕ} {rows rows' : List Row} {accepting accepting' : List ℕ}
    → Laid (Own p next after) (Own p next after) rows accepting
    → Laid (Own p' next' after') (Own p' next' after') rows' accepting'
    → Apart p next after p' next'
    → Inside p next after P N B
    → Inside p' next' after' P N B
    → Laid (Own P N B) (Own P N B) (rows ++ rows') (accepting ++ accepting')
laid_own f g x i j =
    laid_same (λ s. ⊎_elim (own_inside i) (own_inside j)) (laid_append f g (λ s. own_apart x) (λ s. own_apart x))
