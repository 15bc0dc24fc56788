-- A table, a word and a limit have one verdict, and no more situations are reached than there are.
use Prim.Native.Nat.{ℕ, ◌+◌, ◌*◌, ◌≤◌}
use native.Mathlib.Omega.{arith}
use mathlib.Core.Path.{◌≡◌, refl, sym, ap, ◌∙◌}
use mathlib.Core.Bool.{cond}
use mathlib.Core.List.{List}
use lib.ListN.{length}
use lib.Dec.{eqb}
use Rattle.bits.specs.Size.{Size}
use Rattle.bits.proofs.Size.{size_numbered}
use Rattle.table.specs.Table.{Table}
use Rattle.table.specs.WellFormed.{InRange}
use Rattle.machine.specs.Step.{Situation}
use Rattle.machine.specs.Run.{Reach}
use Rattle.machine.proofs.Run.{reach_within}
use Rattle.judgement.specs.declared.answer.Verdict.{Verdict}
use Rattle.judgement.specs.declared.answer.Verdict.TheVariants.{Yes, No, LimitMet}
use Rattle.judgement.specs.Verdict.{verdict_number, IsVerdict}
use Rattle.judgement.proofs.Number.{Among, number_of, situation_at, number_below, at_number}

-- two verdicts on the same table, word and limit are equal
pub verdict_once : (t : Table) (w : List ℕ) (L : ℕ) (a b : Verdict) → IsVerdict t w L a → IsVerdict t w L b → a ≡ b
verdict_once t w L Yes Yes x y = refl
verdict_once t w L Yes No x y = absurd (y.0 x)
verdict_once t w L Yes LimitMet x y = absurd (y.0 x)
verdict_once t w L No Yes x y = absurd (x.0 y)
verdict_once t w L No No x y = refl
verdict_once t w L No LimitMet x y = absurd (x.1 y.1)
verdict_once t w L LimitMet Yes x y = absurd (x.0 y)
verdict_once t w L LimitMet No x y = absurd (y.1 x.1)
verdict_once t w L LimitMet LimitMet x y = refl

-- a verdict's number is at least 1
pub verdict_never_zero : (v : Verdict) → 1 ≤ verdict_number v
unfolding verdict_number
verdict_never_zero Yes = omega arith
verdict_never_zero No = omega arith
verdict_never_zero LimitMet = omega arith

-- and at most 3
pub verdict_low : (v : Verdict) → verdict_number v ≤ 3
unfolding verdict_number
verdict_low Yes = omega arith
verdict_low No = omega arith
verdict_low LimitMet = omega arith

-- the verdict with a number
numbered : ℕ → Verdict
numbered n = cond (eqb n 1) Yes (cond (eqb n 2) No LimitMet)

number_of_lem : (v : Verdict) → numbered (verdict_number v) ≡ v
unfolding verdict_number numbered
number_of_lem Yes = refl
number_of_lem No = refl
number_of_lem LimitMet = refl

-- verdicts with the same number are equal
pub verdict_number_once : {a b : Verdict} → verdict_number a ≡ verdict_number b → a ≡ b
verdict_number_once {a} {b} same = sym (number_of_lem a) ∙ ap numbered same ∙ number_of_lem b

module _ {t : Table} {w : List ℕ} {L : ℕ} where
  -- what is reached is among the situations of the table's states, the word's cells and the counter values up to the limit
  pub reach_among : InRange t → {s : Situation} → Reach t w L s → Among t.states (length w + 2) (L + 1) s
  reach_among range r = let within = reach_within range r in record {
    state = within.0;
    cell = omega arith;
    counter = omega arith;
  }

  -- no more situations are reached than there are states, times cells, times counter values
  pub count_at_most : {c : ℕ} → InRange t → Size (Reach t w L) c → c ≤ t.states * (length w + 2) * (L + 1)
  count_at_most range size =
      size_numbered size (t.states * (length w + 2) * (L + 1)) (situation_at (length w + 2) (L + 1))
      λ s r. let among = reach_among range r in (number_of (length w + 2) (L + 1) s, number_below among, at_number among)
