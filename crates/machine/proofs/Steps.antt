-- A row takes a situation to at most one other, and its step comes to one outcome.
use Prim.Native.Nat.{ℕ, ◌≤◌}
use native.Mathlib.Omega.{arith}
use mathlib.Core.Path.{◌≡◌, refl, sym, ap, ap₂, ◌∙◌}
use mathlib.Core.Bool.{Bool, true, false, cond, true≢false}
use mathlib.Core.Option.{Option, none, some, some-injective, none-ne-some}
use mathlib.Core.List.{List}
use native.Mathlib.Decide.{dec_le}
use lib.Dec.{leb}
use borrow.Author.Tests.{le-leb, lt-leb, eq-eqb}
use Rattle.table.specs.Table.{Row, Table}
use Rattle.cells.specs.Cell.{symbol_on, moved}
use Rattle.machine.specs.Step.{Situation, symbol_fits, counter_fits, changed, row_fits, Takes}
use Rattle.machine.specs.declared.Outcome.{Outcome}
use Rattle.machine.specs.declared.Outcome.TheVariants.{Goes, Blocked, OverLimit}
use Rattle.machine.specs.Outcome.{step_from, step_to, OutcomeRight, Steps}
use Rattle.machine.specs.Inside.Change.{outcome_of}

module _ {t : Table} {w : List ℕ} {r : Row} {s : Situation} where
  -- a row takes a situation to one situation
  pub takes_once : {u v : Situation} → Takes t w r s u → Takes t w r s v → u ≡ v
  takes_once {u} {v} a b =
      let state : u.state ≡ v.state = a.state ∙ sym b.state in
      let cell : u.cell ≡ v.cell = a.cell ∙ sym b.cell in
      let counter : u.counter ≡ v.counter = some-injective u.counter v.counter (sym a.counter ∙ b.counter) in
      λ i. record { state = state i; cell = cell i; counter = counter i }

  -- so the counter after it is one
  pub same_counter : {u v : Situation} → Takes t w r s u → Takes t w r s v → u.counter ≡ v.counter
  same_counter a b = ap (λ (x : Situation). x.counter) (takes_once a b)

module _ (t : Table) (w : List ℕ) (r : Row) (L : ℕ) (s : Situation) where
  -- two right outcomes are equal
  right_once : (a b : Outcome) → OutcomeRight t w r L s a → OutcomeRight t w r L s b → a ≡ b
  right_once (Goes cell counter) (Goes cell' counter') x y =
      ap₂ Goes (ap (λ (u : Situation). u.cell) (takes_once x.0 y.0)) (same_counter x.0 y.0)
  right_once (Goes cell counter) Blocked x y = absurd (y (step_to r cell counter) x.0)
  right_once (Goes cell counter) OverLimit x y = absurd (omega (arith, x.1, y.2, same_counter x.0 y.1))
  right_once Blocked (Goes cell counter) x y = absurd (x (step_to r cell counter) y.0)
  right_once Blocked Blocked x y = refl
  right_once Blocked OverLimit x y = absurd (x y.0 y.1)
  right_once OverLimit (Goes cell counter) x y = absurd (omega (arith, y.1, x.2, same_counter x.1 y.0))
  right_once OverLimit Blocked x y = absurd (y x.0 x.1)
  right_once OverLimit OverLimit x y = refl

-- a step comes to one outcome
pub steps_once : {t : Table} {w : List ℕ} {r : Row} {L : ℕ} {s : Situation} {a b : Outcome} → Steps t w r L s a → Steps t w r L s b → a ≡ b
steps_once {t} {w} {r} {L} {s} {a} {b} x y = right_once t w r L s a b x.right y.right

module _ (t : Table) (w : List ℕ) (r : Row) (L cell counter : ℕ) where
  -- a row that fits comes to what its change of the counter does
  taken
      : row_fits t w r (step_from r cell counter) ≡ true → (o : Option ℕ) → changed t.decr_on_zero r.change counter ≡ o
      → OutcomeRight t w r L (step_from r cell counter) (outcome_of L (moved w r.move cell) o)
  unfolding outcome_of
  taken fits none e = λ u takes. none-ne-some u.counter (sym e ∙ takes.counter)
  taken fits (some n) e = by_cases (dec_le n L)
    where
      takes : Takes t w r (step_from r cell counter) (step_to r (moved w r.move cell) n)
      takes = record { fits = fits; state = refl; cell = refl; counter = e }

      by_cases : Dec (n ≤ L) → OutcomeRight t w r L (step_from r cell counter) (cond (leb n L) (Goes (moved w r.move cell) n) OverLimit)
      by_cases (yes low) = rw (le-leb n L low) (takes, low)
      by_cases (no high) = rw (lt-leb n L (omega arith)) (step_to r (moved w r.move cell) n, takes, omega arith)

  -- both tests fit
  pub steps_on
      : symbol_fits t.alphabet r.symbol (symbol_on w cell) ≡ true → counter_fits r.test counter ≡ true
      → (next : ℕ) (decr_on_zero : Bool) (result : Outcome) → next ≡ moved w r.move cell → decr_on_zero ≡ t.decr_on_zero
      → result ≡ outcome_of L next (changed decr_on_zero r.change counter) → Steps t w r L (step_from r cell counter) result
  unfolding row_fits
  steps_on symbol test next decr_on_zero result there how is = rw (is, there, how) (record {
    right = taken (rw (eq-eqb r.from r.from refl, symbol, test) refl) (changed t.decr_on_zero r.change counter) refl;
  })

  -- one of them does not
  blocked : ¬ (row_fits t w r (step_from r cell counter) ≡ true) → Steps t w r L (step_from r cell counter) Blocked
  blocked other = record { right = λ u takes. other takes.fits }

  pub blocked_symbol : symbol_fits t.alphabet r.symbol (symbol_on w cell) ≡ false → Steps t w r L (step_from r cell counter) Blocked
  unfolding row_fits
  blocked_symbol other = blocked (λ fits. true≢false (sym fits ∙ rw (eq-eqb r.from r.from refl, other) refl))

  pub blocked_test
      : symbol_fits t.alphabet r.symbol (symbol_on w cell) ≡ true → counter_fits r.test counter ≡ false
      → Steps t w r L (step_from r cell counter) Blocked
  unfolding row_fits
  blocked_test symbol other = blocked (λ fits. true≢false (sym fits ∙ rw (eq-eqb r.from r.from refl, symbol, other) refl))
