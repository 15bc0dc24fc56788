-- What both directions need of conditions: the truth values of `!`, `&&` and `||` by those of their parts, what a row that
-- only tests leaves as it is, and that an atom's rows are such rows.
use Prim.Native.Nat.{ℕ, ◌≤◌}
use native.Mathlib.Omega.{arith}
use mathlib.Core.Path.{◌≡◌, refl, ap}
use mathlib.Core.Logic.{◌↔◌, ◌⊎◌, inl, inr, ⊎_elim}
use mathlib.Core.Bool.{Bool, true, false, not, ◌&&◌, ◌||◌, true≢false, false≢true}
use mathlib.Core.Option.{some}
use mathlib.Core.List.{List}
use borrow.Author.Tests.{not-true, not-false}
use Rattle.table.specs.Table.{Row}
use Rattle.cells.specs.Cell.{last, moved}
use Rattle.machine.specs.Step.{changed}
use Rattle.rule.specs.Tree.{Atom, atom}
use Rattle.rule.specs.Inside.Within.{AtomWithin, ConditionWithin}
use Rattle.construction.specs.Construction.{atom_rows, walk}
use Rattle.construction.proofs.Every.{Every}
use Rattle.construction.proofs.Own.{Own, start, taken}
use Rattle.construction.proofs.Parts.{leads_walk}
use Rattle.construction.proofs.Effects.{stays, keeps, Still, walk_still}

-- a negation has the other truth value
pub turned : (b sign : Bool) → (not b ≡ sign) ↔ (b ≡ not sign)
turned b true = (not-true b, ap not)
turned b false = (not-false b, ap not)

-- `&&` is true where both are
pub both_true : (a b : Bool) → ((a && b) ≡ true) ↔ ((a ≡ true) × (b ≡ true))
both_true true b = (λ e. (refl, e), λ e. e.1)
both_true false b = (λ e. absurd (false≢true e), λ e. e.0)

-- and false where one is
pub one_false : (a b : Bool) → ((a && b) ≡ false) ↔ ((a ≡ false) ⊎ (b ≡ false))
one_false true b = (inr, ⊎_elim (λ e. absurd (true≢false e)) (λ e. e))
one_false false b = (λ e. inl refl, λ e. refl)

-- `||` is true where one is
pub one_true : (a b : Bool) → ((a || b) ≡ true) ↔ ((a ≡ true) ⊎ (b ≡ true))
one_true true b = (λ e. inl refl, λ e. refl)
one_true false b = (inr, ⊎_elim (λ e. absurd (false≢true e)) (λ e. e))

-- and false where both are
pub both_false : (a b : Bool) → ((a || b) ≡ false) ↔ ((a ≡ false) × (b ≡ false))
both_false true b = (λ e. absurd (true≢false e), λ e. e.0)
both_false false b = (λ e. (refl, e), λ e. e.1)

-- a row that only tests leaves the cell and the counter as they are
pub still_moves : {r : Row} (word : List ℕ) (cell : ℕ) → Still r → cell ≤ last word → moved word r.move cell ≡ cell
still_moves word cell still inside = rw still.move (stays word cell inside)

pub still_changes : {r : Row} (decr_on_zero : Bool) (counter : ℕ) → Still r → changed decr_on_zero r.change counter ≡ some counter
still_changes decr_on_zero counter still = rw still.change (keeps decr_on_zero counter)

-- a row from p to q that only tests
pub record Between (p q : ℕ) (r : Row) : Type 0 where
  pub from : r.from ≡ p
  pub to : r.to ≡ q
  pub still : Still r

-- where no state is taken, the only own state is the start
no_other : {p n s : ℕ} → Own p n n s → s ≡ p
no_other (start e) = e
no_other (taken h k) = absurd (omega arith)

-- an atom's rows are such rows
pub atom_between :
    (alphabet : List ℕ) (a : Atom) (sign : Bool) (p q : ℕ)
    → AtomWithin alphabet a
    → Every (Between p q) (atom_rows alphabet sign a p q)
unfolding walk ConditionWithin
atom_between alphabet a sign p q within =
    let leads = leads_walk alphabet (atom 0 a) sign p q 0 in
    record {
      at =
          λ r m.
          record {
            from = no_other (leads.from.at r m);
            to = no_other (leads.to.at r m);
            still = (walk_still alphabet (atom 0 a) sign p q 0 within).at r m;
          };
    }
