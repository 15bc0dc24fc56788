-- The faults of a program are listed in the text's order, whichever setting comes first: their places rise.
use Prim.Native.Nat.{ℕ, suc, ◌≤◌}
use native.Mathlib.Omega.{arith}
use mathlib.Core.Path.{◌≡◌, sym, ◌∙◌, ap, subst}
use mathlib.Core.Option.{Option, none, some, none-ne-some, some-injective}
use mathlib.Core.List.{List, [], ◌∷◌, ◌++◌, append-nil, append_assoc}
use Rattle.text.specs.Token.{Token}
use Rattle.text.specs.Tokens.{◌at◌, Rising, empty, single, rises}
use Rattle.rule.specs.Tree.{Program}
use Rattle.rule.specs.Grammar.{IsProgram}
use Rattle.rule.specs.Limits.{Fault, fault, faults}
use Rattle.rule.proofs.Machine.Steps.{Ts, State, begin, step, eat, ◌>>=◌, View, passes, breaks, view}
use Rattle.rule.proofs.Outcomes.{final, eats_program}

-- the places of faults rise from this one on
pub data Rise : ℕ → List Fault → Type 0 where
  over : {n : ℕ} → Rise n []
  then : {n : ℕ} {f : Fault} {fs : List Fault} → n ≤ f.place → Rise (suc f.place) fs → Rise n (f ∷ fs)

rise_before : {n m : ℕ} {fs : List Fault} → n ≤ m → Rise m fs → Rise n fs
rise_before h over = over
rise_before {n} h (then {f = f} g r) = let low : n ≤ f.place = omega arith in then low r

-- so do those of tokens
data From : ℕ → Ts → Type 0 where
  over : {n : ℕ} → From n []
  then : {n p : ℕ} {u : Token} {ts : Ts} → n ≤ p → From (suc p) ts → From n ((u at p) ∷ ts)

rising_from : {n p : ℕ} {u : Token} {ts : Ts} → n ≤ p → Rising ((u at p) ∷ ts) → From n ((u at p) ∷ ts)
rising_from h single = From.then h From.over
rising_from h (rises g r) = From.then h (rising_from g r)

from_start : {ts : Ts} → Rising ts → From 0 ts
from_start empty = From.over
from_start (single {t = t at p}) = rising_from (omega arith) single
from_start (rises h r) = rising_from (omega arith) (rises h r)

-- what tokens from a place on add to the faults seen
record Grows (n : ℕ) (x y : State) : Type 0 where
  pub new : List Fault
  pub seen : y.far.seen ≡ x.far.seen ++ new
  pub rise : Rise n new

eat_grows : (x y : State) (ts : Ts) {n : ℕ} → From n ts → eat x ts ≡ some y → Grows n x y
unfolding eat
eat_grows x y [] {n} r e =
    subst
    (λ (z : State). Grows n x z)
    (some-injective x y e)
    (record { new = []; seen = sym (append-nil x.far.seen); rise = over })
eat_grows x y ((u at p) ∷ ts) {n} (From.then h r) e = by_cases (step x (u at p)) (view x u p) (λ z. eat_grows z y ts r) e
  where
    by_cases : (o : Option State)
        → View x u p o
        → ((z : State) → eat z ts ≡ some y → Grows (suc p) z y)
        → (o >>= λ z. eat z ts) ≡ some y
        → Grows n x y
    by_cases none v rest e = absurd (none-ne-some y e)
    by_cases (some z) (passes g s) rest e =
        let a = rest z e in
        record {
          new = a.new;
          seen = a.seen ∙ ap (λ (l : List Fault). l ++ a.new) g;
          rise = rise_before (omega arith) a.rise;
        }
    by_cases (some z) (breaks m g s) rest e =
        let a = rest z e in
        record {
          new = fault m p ∷ a.new;
          seen = a.seen ∙ ap (λ (l : List Fault). l ++ a.new) g ∙ append_assoc x.far.seen (fault m p ∷ []) a.new;
          rise = then h a.rise;
        }

pub faults_rise : {ts : Ts} {x : Program} → Rising ts → IsProgram ts x → Rise 0 (faults x)
faults_rise {ts} {x} r d =
    let a = eat_grows begin (final x) ts (from_start r) (eats_program d) in
    subst (Rise 0) (sym a.seen) a.rise
