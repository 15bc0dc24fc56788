-- What the search keeps in the marks. Bit i of the first half says that situation i is reached, and bit i of the second half that it is
-- pending: reached, and its rows still to be followed. A reached situation that is not pending is followed.
use Rattle.std.specs.Prelude.{ℕ, ◌+◌, ◌/◌, ◌%◌, ◌≤◌, ◌<◌, ◌≡◌, Bool, true, cond, length, get_or, eqb}
use mathlib.Core.List.{List, Memᴰ}
use Rattle.bits.specs.Bit.{bit, with_bit}
use Rattle.table.specs.Table.{Row, Table, Accepting}
use Rattle.table.specs.WellFormed.{InRange}
use Rattle.machine.specs.Step.{Situation, Takes}
use Rattle.machine.specs.Run.{Reach, Passes}
use Rattle.judgement.specs.Marks.{mark_bytes, first_half, mark_of}

-- how many situations have a bit
abbrev pub situations : ℕ
situations = 262144

-- the situation that has this bit
abbrev pub situation_of : ℕ → Situation
situation_of i = record { state = i / 32 / 64; cell = i / 32 % 64; counter = i % 32 }

-- the marks with situation i reached; where it was not reached before, it is pending
unfoldable pub marked : List ℕ → ℕ → List ℕ
marked m i = cond (eqb (bit m i) 1) m (with_bit (with_bit m i) (i + situations))

pub record Followed (m : List ℕ) (i : ℕ) : Type 0 where
  pub reached : bit m i ≡ 1
  pub not_pending : bit m (i + situations) ≡ 0

-- a row is done with in a situation: what it leads to within the limit is marked, and if it leads above it, that was noted
pub record RowDone (t : Table) (w : List ℕ) (L : ℕ) (m : List ℕ) (over : Bool) (s : Situation) (r : Row) : Type 0 where
  pub within : (u : Situation) → Takes t w r s u → u.counter ≤ L → bit m (mark_of u) ≡ 1
  pub above : (u : Situation) → Takes t w r s u → L < u.counter → over ≡ true

-- what is searched: a table within its ranges, a short word and a low limit
pub record Ready (t : Table) (w : List ℕ) (L : ℕ) : Type 0 where
  pub range : InRange t
  pub short : length w ≤ 62
  pub low : L ≤ 31

-- the marks and what was noted, in the midst of the search: every row of a followed situation is done with, but of situation `current`
-- (of none, where that is no situation's number) only those that have been passed
pub record Searching (t : Table) (w : List ℕ) (L : ℕ) (m : List ℕ) (over : Bool) (current : ℕ) (Past : Row → Type 0) : Type 0 where
  pub ready : Ready t w L
  pub room : length m ≡ mark_bytes
  pub begun : bit m 0 ≡ 1
  pub sound : (i : ℕ) → i < situations → bit m i ≡ 1 → Reach t w L (situation_of i)
  pub pending : (i : ℕ) → i < situations → bit m (i + situations) ≡ 1 → bit m i ≡ 1
  pub followed
      : (i : ℕ) (r : Row) → i < situations → Followed m i → Memᴰ r t.rows → (i ≡ current → Past r)
      → RowDone t w L m over (situation_of i) r
  pub passed : over ≡ true → Passes t w L

-- the search is between two situations
abbrev pub Between : Table → List ℕ → ℕ → List ℕ → Bool → Type 0
Between t w L m over = Searching t w L m over situations (λ r. ⊥)

-- what is followed stays followed
abbrev pub Keeps : List ℕ → List ℕ → Type 0
Keeps m m' = (i : ℕ) → i < situations → Followed m i → Followed m' i

-- the search is over: nothing is pending
pub record Searched (t : Table) (w : List ℕ) (L : ℕ) (m : List ℕ) (over : Bool) : Type 0 where
  pub between : Between t w L m over
  pub rest : (i : ℕ) → first_half ≤ i → get_or m i 0 ≡ 0

-- a marked situation whose state accepts
pub record MarkedAccepts (t : Table) (m : List ℕ) : Type 0 where
  pub mark : ℕ
  pub low : mark < situations
  pub set : bit m mark ≡ 1
  pub accepting : Accepting t (situation_of mark).state
