-- The search, step by step: from a start marked on empty marks, by following the rows of pending situations one after the other.
use Prim.Native.Nat.{ℕ, ◌+◌, ◌≤◌, ◌<◌}
use native.Mathlib.Decide.{ℕ_discrete}
use native.Mathlib.Omega.{arith}
use mathlib.Core.Path.{◌≡◌, refl, sym, ◌∙◌, subst}
use mathlib.Core.Bool.{Bool, true, false, true≢false}
use mathlib.Core.Logic.{◌⊎◌, inl, inr, ⊎_elim}
use mathlib.Core.List.{List, Memᴰ}
use lib.ListN.{length}
use borrow.Author.Tests.{ne_eqb}
use Rattle.bits.specs.Bit.{bit, without_bit}
use Rattle.bits.proofs.Change.{bit_cleared, bit_cleared_other, length-without_bit}
use Rattle.table.specs.Table.{Row, Table}
use Rattle.machine.specs.Step.{Situation, row_fits, Takes, Step}
use Rattle.machine.specs.Run.{Reach, begins, goes, Passes}
use Rattle.machine.proofs.Steps.{takes_once, same_counter}
use Rattle.judgement.specs.Marks.{mark_bytes, HasMark, mark_of}
use Rattle.judge.specs.Inside.Search.{situations, situation_of, marked, Followed, RowDone, Ready, Searching, Between, Keeps}
use Rattle.judgement.proofs.Marks.{reached_has_mark, mark_below, mark_of_lem}
use Rattle.judge.proofs.Marking.{length_marked, marked_kept, marked_only, marked_only_pending, marked-set, marked_followed-before}

-- a row that is done with stays so while marks are added
done_kept
    : {t : Table} {w : List ℕ} {L : ℕ} {m m' : List ℕ} {over : Bool} {s : Situation} {r : Row}
    → ((j : ℕ) → bit m j ≡ 1 → bit m' j ≡ 1) → RowDone t w L m over s r → RowDone t w L m' over s r
done_kept kept d = record {
  within = λ u takes low. kept _ (d.within u takes low);
  above = d.above;
}

-- and when a step above the limit is noted
done_noted
    : {t : Table} {w : List ℕ} {L : ℕ} {m : List ℕ} {over : Bool} {s : Situation} {r : Row} → RowDone t w L m over s r → RowDone t w L m true s r
done_noted d = record { within = d.within; above = λ u takes high. refl }

-- a row that can't be taken is done with
done_never
    : {t : Table} {w : List ℕ} {L : ℕ} {m : List ℕ} {over : Bool} {s : Situation} {r : Row} → ((u : Situation) → ¬ Takes t w r s u) → RowDone t w L m over s r
done_never never = record { within = λ u takes low. absurd (never u takes); above = λ u takes high. absurd (never u takes) }

-- a row out of another state can't
pub other_state : {t : Table} {w : List ℕ} {r : Row} {s : Situation} → ¬ (r.from ≡ s.state) → (u : Situation) → ¬ Takes t w r s u
unfolding row_fits
other_state {t} {w} {r} {s} other u takes =
    true≢false (sym takes.fits ∙ rw (ne_eqb r.from s.state other) refl)

module _ {t : Table} {w : List ℕ} {L : ℕ} {m : List ℕ} {over : Bool} {current : ℕ} {Past : Row → Type 0} (at : Searching t w L m over current Past) where
  -- a reached situation may be marked
  pub mark_reached
      : (i : ℕ) → i < situations → Reach t w L (situation_of i) → Searching t w L (marked m i) over current Past
  mark_reached i low reached = record {
    ready = at.ready;
    room = length_marked m i ∙ at.room;
    begun = marked_kept m i 0 at.begun;
    sound = λ j lowj one. ⊎_elim (λ (e : j ≡ i). rw e reached) (at.sound j lowj) (marked_only m i j lowj one);
    pending = λ j lowj one.
        ⊎_elim (λ (e : j ≡ i). rw e (marked-set m i low at.room)) (λ old. marked_kept m i j (at.pending j lowj old)) (marked_only_pending m i low j one);
    followed = λ j r lowj f listed rest.
        done_kept (marked_kept m i) (at.followed j r lowj (marked_followed-before m i low at.room j lowj f) listed rest);
    passed = at.passed;
  }

  -- one row more of the current situation is done with
  row_done
      : {Next : Row → Type 0} (r : Row) → ((q : Row) → Next q → Past q ⊎ (q ≡ r)) → RowDone t w L m over (situation_of current) r
      → Searching t w L m over current Next
  row_done {Next} r one done = record {
    ready = at.ready;
    room = at.room;
    begun = at.begun;
    sound = at.sound;
    pending = at.pending;
    followed = λ j q lowj f listed rest. by_cases j q lowj f listed rest (ℕ_discrete j current);
    passed = at.passed;
  }
    where
      this : (j : ℕ) (q : Row) → j < situations → Followed m j → Memᴰ q t.rows → j ≡ current → Past q ⊎ (q ≡ r)
          → RowDone t w L m over (situation_of j) q
      this j q lowj f listed e (inl past) = at.followed j q lowj f listed (λ e'. past)
      this j q lowj f listed e (inr same) = rw (e, same) done

      by_cases : (j : ℕ) (q : Row) → j < situations → Followed m j → Memᴰ q t.rows → (j ≡ current → Next q)
          → Dec (j ≡ current) → RowDone t w L m over (situation_of j) q
      by_cases j q lowj f listed rest (yes e) = this j q lowj f listed e (one q (rest e))
      by_cases j q lowj f listed rest (no k) = at.followed j q lowj f listed (λ e. absurd (k e))

  -- a step above the limit may be noted
  noted : Passes t w L → Searching t w L m true current Past
  noted passes = record {
    ready = at.ready;
    room = at.room;
    begun = at.begun;
    sound = at.sound;
    pending = at.pending;
    followed = λ j r low f listed rest. done_noted (at.followed j r low f listed rest);
    passed = λ e. passes;
  }

  -- a row that can't be taken does nothing
  pub row_blocked
      : {Next : Row → Type 0} (r : Row) → ((q : Row) → Next q → Past q ⊎ (q ≡ r)) → ((u : Situation) → ¬ Takes t w r (situation_of current) u)
      → Searching t w L m over current Next
  row_blocked r one never = row_done r one (done_never never)

  -- where every row out of the current situation's state is passed, the search is between two situations
  pub rows_done : ((r : Row) → Memᴰ r t.rows → r.from ≡ (situation_of current).state → Past r) → Between t w L m over
  rows_done all = record {
    ready = at.ready;
    room = at.room;
    begun = at.begun;
    sound = at.sound;
    pending = at.pending;
    followed = λ j r low f listed rest. by_cases j r low f listed (ℕ_discrete r.from (situation_of current).state) (ℕ_discrete j current);
    passed = at.passed;
  }
    where
      by_cases : (j : ℕ) (r : Row) → j < situations → Followed m j → Memᴰ r t.rows → Dec (r.from ≡ (situation_of current).state)
          → Dec (j ≡ current) → RowDone t w L m over (situation_of j) r
      by_cases j r low f listed (yes here) d = at.followed j r low f listed (λ e. all r listed here)
      by_cases j r low f listed (no other) (yes e) = rw e (done_never (other_state other))
      by_cases j r low f listed (no other) (no k) = at.followed j r low f listed (λ e. absurd (k e))

module _ {t : Table} {w : List ℕ} {L : ℕ} {m : List ℕ} {over : Bool} {current i : ℕ} {Past : Row → Type 0} {r : Row}
    (at : Searching t w L m over current Past) (low : i < situations) (reached : bit m i ≡ 1) (listed : Memᴰ r t.rows)
    {u : Situation} (takes : Takes t w r (situation_of i) u) where
  -- a row that is taken is a step
  step_of : Step t w (situation_of i) u
  step_of = record { row = r; listed = listed; takes = takes }

  -- what it leads to within the limit is reached, and has a mark
  run_of : u.counter ≤ L → Reach t w L u
  run_of fine = goes (at.sound i low reached) step_of fine

  pub mark_for : u.counter ≤ L → HasMark u
  mark_for fine = reached_has_mark at.ready.range at.ready.short at.ready.low (run_of fine)

module _ {t : Table} {w : List ℕ} {L : ℕ} {m : List ℕ} {over : Bool} {current : ℕ} {Past Next : Row → Type 0} {r : Row}
    (at : Searching t w L m over current Past) (low : current < situations) (reached : bit m current ≡ 1) (listed : Memᴰ r t.rows)
    (one : (q : Row) → Next q → Past q ⊎ (q ≡ r)) {u : Situation} (takes : Takes t w r (situation_of current) u) where
  -- a row that would pass the limit is noted
  pub row_above : L < u.counter → Searching t w L m true current Next
  row_above high =
      row_done
      (noted at (record { before = situation_of current; after = u; reached = at.sound current low reached; step = step_of at low reached listed takes; above = high }))
      r
      one
      (record { within = λ v takes' fine. absurd (omega (arith, same_counter takes takes')); above = λ v takes' above. refl })

  -- what a row leads to within the limit is marked
  pub row_within : u.counter ≤ L → Searching t w L (marked m (mark_of u)) over current Next
  row_within fine =
      let has = mark_for at low reached listed takes fine in
      row_done
      (mark_reached at (mark_of u) (mark_below has) (rw (mark_of_lem has) (run_of at low reached listed takes fine)))
      r
      one
      (record {
        within = λ v takes' fine'.
            subst (λ (x : Situation). bit (marked m (mark_of u)) (mark_of x) ≡ 1) (takes_once takes takes') (marked-set m (mark_of u) (mark_below has) at.room);
        above = λ v takes' above. absurd (omega (arith, same_counter takes takes'));
      })

-- the search begins with the start marked on empty marks
pub search_begins
    : {t : Table} {w : List ℕ} {L : ℕ} (m : List ℕ) → Ready t w L → length m ≡ mark_bytes → ((i : ℕ) → bit m i ≡ 0) → Between t w L (marked m 0) false
search_begins m ready room empty = record {
  ready = ready;
  room = length_marked m 0 ∙ room;
  begun = marked-set m 0 (omega arith) room;
  sound = λ i low one. ⊎_elim (λ (e : i ≡ 0). rw e begins) (λ old. absurd (omega (arith, empty i))) (marked_only m 0 i low one);
  pending = λ i low one.
      ⊎_elim (λ (e : i ≡ 0). rw e (marked-set m 0 (omega arith) room)) (λ old. absurd (omega (arith, empty (i + situations)))) (marked_only_pending m 0 (omega arith) i one);
  followed = λ i r low f listed rest. absurd (never i (marked_followed-before m 0 (omega arith) room i low f));
  passed = λ e. absurd (true≢false (sym e));
}
  where
    never : (i : ℕ) → ¬ Followed m i
    never i f = omega (arith, empty i, f.reached)

module _ {t : Table} {w : List ℕ} {L : ℕ} {m : List ℕ} {over : Bool} (at : Between t w L m over) (i : ℕ) (low : i < situations)
    (waits : bit m (i + situations) ≡ 1) where
  -- a situation that is no longer pending is followed
  pub begun_followed : Followed (without_bit m (i + situations)) i
  begun_followed = record {
    reached = bit_cleared_other m (i + situations) i (omega arith) ∙ at.pending i low waits;
    not_pending = bit_cleared m (i + situations);
  }

  -- no other bit has changed
  unchanged : (j : ℕ) → ¬ (j ≡ i + situations) → bit (without_bit m (i + situations)) j ≡ bit m j
  unchanged = bit_cleared_other m (i + situations)

  -- so what was followed is
  pub begun_keeps : Keeps m (without_bit m (i + situations))
  begun_keeps j lowj f =
      let other : ¬ (j ≡ i) = λ e. omega (arith, f.not_pending, subst (λ (k : ℕ). bit m (k + situations) ≡ 1) (sym e) waits) in
      record {
        reached = unchanged j (omega arith) ∙ f.reached;
        not_pending = unchanged (j + situations) (λ e. other (omega arith)) ∙ f.not_pending;
      }

  -- a situation stops being pending, and its rows are to be followed, none of them passed yet
  pub rows_begin : {Past : Row → Type 0} → ((r : Row) → ¬ Past r) → Searching t w L (without_bit m (i + situations)) over i Past
  rows_begin {Past} none = record {
    ready = at.ready;
    room = length-without_bit m (i + situations) ∙ at.room;
    begun = unchanged 0 (omega arith) ∙ at.begun;
    sound = λ j lowj one. at.sound j lowj (sym (unchanged j (omega arith)) ∙ one);
    pending = λ j lowj one. unchanged j (omega arith) ∙ old j lowj one (ℕ_discrete j i);
    followed = λ j r lowj f listed rest. done j r lowj f listed rest (ℕ_discrete j i);
    passed = at.passed;
  }
    where
      old : (j : ℕ) → j < situations → bit (without_bit m (i + situations)) (j + situations) ≡ 1 → Dec (j ≡ i) → bit m j ≡ 1
      old j lowj one (yes e) = rw e (at.pending i low waits)
      old j lowj one (no k) = at.pending j lowj (sym (unchanged (j + situations) (λ e. k (omega arith))) ∙ one)

      done : (j : ℕ) (r : Row) → j < situations → Followed (without_bit m (i + situations)) j → Memᴰ r t.rows → (j ≡ i → Past r)
          → Dec (j ≡ i) → RowDone t w L (without_bit m (i + situations)) over (situation_of j) r
      done j r lowj f listed rest (yes e) = absurd (none r (rest e))
      done j r lowj f listed rest (no k) =
          let before : Followed m j = record {
            reached = sym (unchanged j (omega arith)) ∙ f.reached;
            not_pending = sym (unchanged (j + situations) (λ e. k (omega arith))) ∙ f.not_pending;
          } in
          let was = at.followed j r lowj before listed (λ e. absurd (omega arith)) in
          record {
            within = λ u takes fine.
                let small = mark_below (mark_for at lowj before.reached listed takes fine) in
                unchanged (mark_of u) (omega arith) ∙ was.within u takes fine;
            above = was.above;
          }
