-- The ones of the first half of the marks are as many as the situations that are reached, so the count that the judge gives is both.
use Prim.Native.Nat.{ℕ, ◌%◌, ◌≤◌, ◌<◌}
use native.Mathlib.Omega.{arith}
use mathlib.Core.Path.{◌≡◌, sym, ◌∙◌}
use mathlib.Core.List.{List}
use lib.ListN.{length, take}
use Rattle.bits.specs.Bit.{bit}
use Rattle.bits.specs.Size.{Size}
use Rattle.bits.proofs.Along.{size_along}
use Rattle.bits.proofs.Change.{bit-take, bit-take_low}
use Rattle.table.specs.Table.{Table}
use Rattle.table.specs.WellFormed.{InRange}
use Rattle.machine.specs.Step.{Situation}
use Rattle.machine.specs.Run.{Reach}
use Rattle.judgement.specs.Marks.{first_half, mark_of, Marks}
use Rattle.judgement.specs.Judge.{Judges}
use Rattle.judgement.proofs.Number.{situation_at}
use Rattle.judgement.proofs.Marks.{reached_has_mark, marked, mark_at, mark_below, mark_of_lem}
use Rattle.judgement.proofs.Says.{below_refusals}

module _ {t : Table} {w : List ℕ} {L : ℕ} {m : List ℕ} (range : InRange t) (short : length w ≤ 62) (low : L ≤ 31) (marks : Marks t w L m) where
  -- a one of the first half is the bit of something reached
  one_reached : (i : ℕ) → bit (take first_half m) i ≡ 1 → Reach t w L (situation_at 64 32 i)
  one_reached i one =
      let inside = bit-take_low m first_half i one in
      (marks.reached (situation_at 64 32 i) (marked (omega arith))).0
      (rw (mark_at i) (sym (bit-take m first_half i inside) ∙ one))

  -- and the bit of what is reached is one of them
  reached_one : (s : Situation) → Reach t w L s → bit (take first_half m) (mark_of s) ≡ 1
  reached_one s reached =
      let has = reached_has_mark range short low reached in
      bit-take m first_half (mark_of s) (omega (arith, mark_below has)) ∙ (marks.reached s has).1 reached

  pub ones_reached : {c : ℕ} → Size (λ (i : ℕ). bit (take first_half m) i ≡ 1) c → Size (Reach t w L) c
  ones_reached =
      size_along (situation_at 64 32) mark_of one_reached reached_one (λ i one. mark_at i)
      (λ s reached. mark_of_lem (reached_has_mark range short low reached))

  pub reached_ones : {c : ℕ} → Size (Reach t w L) c → Size (λ (i : ℕ). bit (take first_half m) i ≡ 1) c
  reached_ones =
      size_along mark_of (situation_at 64 32) reached_one one_reached (λ s reached. mark_of_lem (reached_has_mark range short low reached))
      (λ i one. mark_at i)

-- the last six digits of a verdict's number are the number of ones in the first 32,768 bytes that the judge left
pub count_is_ones
    : {image word : List ℕ} {limit : ℕ} {before after : List ℕ} {r : ℕ} → Judges image word limit before after r → r < 4000000
    → Size (λ (i : ℕ). bit (take first_half after) i ≡ 1) (r % 1000000)
count_is_ones j low =
    let g = below_refusals j low in
    let fit = g.judged.judgeable in
    rw g.counts (reached_ones fit.admitted.is_image.in_range fit.admitted.short fit.admitted.low g.judged.marks g.judged.count)
