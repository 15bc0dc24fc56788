-- What a search that is over has found: the marks, the verdict and the count.
use Prim.Native.Nat.{ℕ, ◌+◌, ◌/◌, ◌≤◌, ◌<◌}
use native.Mathlib.Nat.{zero-div}
use native.Mathlib.Omega.{arith}
use mathlib.Core.Path.{◌≡◌, refl, sym, subst}
use mathlib.Core.Bool.{Bool, true, false, true≢false}
use mathlib.Core.List.{List}
use lib.ListN.{length, take, replicate}
use lib.Seq.{length-take-le, take_all}
use Rattle.bits.specs.Bit.{bit, Bytes}
use Rattle.bits.specs.Size.{Size}
use Rattle.ones.specs.Ones.{Ones}
use Rattle.bits.proofs.Change.{bit_zeros}
use Rattle.table.specs.Table.{Table, Accepting}
use Rattle.bits.specs.Tells.{Tells}
use Rattle.table.specs.declared.source.Source.{Source}
use Rattle.machine.specs.Step.{Situation, Takes, Step}
use Rattle.machine.specs.Run.{Reach, begins, goes, Accepts, Passes}
use Rattle.judgement.specs.declared.answer.Verdict.{Verdict}
use Rattle.judgement.specs.Verdict.{IsVerdict}
use Rattle.judgement.specs.Marks.{mark_bytes, first_half, HasMark, mark_of, Marks}
use Rattle.judge.specs.Inside.Search.{situations, situation_of, Searched, MarkedAccepts}
use Rattle.judge.specs.Inside.Inner.{verdict_of, Unmarked, Undecided, Decided}
use Rattle.judgement.proofs.Marks.{reached_has_mark, mark_below, mark_of_lem}
use Rattle.judgement.proofs.Counted.{ones_reached}

module _ {t : Table} {w : List ℕ} {L : ℕ} {m : List ℕ} {over : Bool} (found : Searched t w L m over) where
  -- nothing is pending
  none_pending : (i : ℕ) → bit m (i + situations) ≡ 0
  unfolding bit
  none_pending i = rw (found.rest ((i + situations) / 8) (omega arith), zero-div) refl

  has_mark : {s : Situation} → Reach t w L s → HasMark s
  has_mark = reached_has_mark found.between.ready.range found.between.ready.short found.between.ready.low

  -- every row of a reached situation is done with
  row_of : {s u : Situation} → Reach t w L s → bit m (mark_of s) ≡ 1 → Step t w s u
      → (u.counter ≤ L → bit m (mark_of u) ≡ 1) × (L < u.counter → over ≡ true)
  row_of {s} {u} reached one step =
      let has = has_mark reached in
      let done = found.between.followed (mark_of s) step.row (mark_below has) (record { reached = one; not_pending = none_pending (mark_of s) }) step.listed (λ e. absurd (omega (arith, mark_below has))) in
      let takes : Takes t w step.row (situation_of (mark_of s)) u = rw (mark_of_lem has) step.takes in
      (done.within u takes, done.above u takes)

  -- whatever is reached is marked
  pub reached_marked : {s : Situation} → Reach t w L s → bit m (mark_of s) ≡ 1
  unfolding mark_of
  reached_marked begins = found.between.begun
  reached_marked (goes before step low) = (row_of before (reached_marked before) step).0 low

  -- and whatever is marked is reached
  pub marked_reached : (s : Situation) → HasMark s → bit m (mark_of s) ≡ 1 → Reach t w L s
  marked_reached s has one = subst (Reach t w L) (mark_of_lem has) (found.between.sound (mark_of s) (mark_below has) one)

  -- so these are the marks
  pub found_marks : Bytes m → Marks t w L m
  found_marks bytes = record {
    size = found.between.room;
    bytes = bytes;
    reached = λ s has. (marked_reached s has, reached_marked);
    rest = found.rest;
  }

  -- a step above the limit was noted
  passes_noted : Passes t w L → over ≡ true
  passes_noted p = (row_of p.reached (reached_marked p.reached) p.step).1 p.above

  -- a marked situation that accepts is a run that does
  accepts_found : MarkedAccepts t m → Accepts t w L
  accepts_found a = record {
    situation = situation_of a.mark;
    reached = found.between.sound a.mark a.low a.set;
    accepting = a.accepting;
  }

  found_accepts : Accepts t w L → MarkedAccepts t m
  found_accepts a = let has = has_mark a.reached in record {
    mark = mark_of a.situation;
    low = mark_below has;
    set = reached_marked a.reached;
    accepting = subst (λ (s : Situation). Accepting t s.state) (sym (mark_of_lem has)) a.accepting;
  }

  -- its ones are as many as what is reached
  pub found_count : {c : ℕ} → Bytes m → Ones (take first_half m) c → Size (Reach t w L) c
  found_count bytes ones =
      let ready = found.between.ready in
      ones_reached ready.range ready.short ready.low (found_marks bytes) ones.size

-- the two questions give the verdict
pub found_verdict
    : {t : Table} {w : List ℕ} {L : ℕ} {m : List ℕ} (yes over : Bool) → Tells yes (MarkedAccepts t m) → Searched t w L m over
    → IsVerdict t w L (verdict_of yes over)
unfolding verdict_of
found_verdict true over tells found = accepts_found found (tells.holds refl)
found_verdict false true tells found = (λ a. tells.fails refl (found_accepts found a), found.between.passed refl)
found_verdict false false tells found =
    (λ a. tells.fails refl (found_accepts found a), λ p. true≢false (sym (passes_noted found p)))

-- marks that were cleared hold no bit
pub cleared_unmarked
    : {t : Table} {rows : List ℕ} {source : Source} {w : List ℕ} {L : ℕ} (m : List ℕ) {m' : List ℕ} → Undecided t rows source w L → m' ≡ replicate (length m) 0
    → Unmarked t rows source w L m'
cleared_unmarked m undecided cleared =
    rw cleared (record { ready = undecided.ready; sources = undecided.sources; empty = bit_zeros (length m) })

module _ {t : Table} {w : List ℕ} {L : ℕ} {m : List ℕ} {over : Bool} (found : Searched t w L m over) where
  -- the first half is as long as it should be
  pub half_length : length (take first_half m) ≡ first_half
  half_length = length-take-le first_half m (omega (arith, found.between.room))

  -- and is counted whole
  half_whole : {c : ℕ} → Ones (take mark_bytes (take first_half m)) c → Ones (take first_half m) c
  half_whole {c} = subst (λ (l : List ℕ). Ones l c) (take_all mark_bytes (take first_half m) (omega (arith, half_length)))

  -- the verdict, the count and the marks
  pub found_decided
      : {yes : Bool} {count : ℕ} {verdict : Verdict} → Tells yes (MarkedAccepts t m) → Ones (take mark_bytes (take first_half m)) count → Bytes m
      → verdict ≡ verdict_of yes over → Decided t w L m (record { verdict = verdict; count = count })
  found_decided {yes} tells ones bytes is =
      rw is (record { right = found_verdict yes over tells found; count = found_count found bytes (half_whole ones); marks = found_marks found bytes })
