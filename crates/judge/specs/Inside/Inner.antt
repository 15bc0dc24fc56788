-- What the judge's own functions promise one another.
use Rattle.std.specs.Prelude.{ℕ, ◌+◌, ◌*◌, ◌/◌, ◌%◌, ◌≤◌, ◌<◌, ◌≡◌, Bool, true, false, List, get_or, Option, Some, None}
use Rattle.bits.specs.Bit.{bit}
use Rattle.bits.specs.Size.{Size}
use Rattle.ones.specs.Blank.{Blank}
use Rattle.table.specs.Table.{Row, Table, Accepting}
use Rattle.table.specs.Fields.{row_from}
use Rattle.table.specs.Inside.Showing.{place_in, row_in, Shows, Sources}
use Rattle.table.specs.declared.source.Range.{Range}
use Rattle.table.specs.declared.source.Source.{Source}
use Rattle.cells.specs.Cell.{Symbol, symbol_on}
use Rattle.machine.specs.Run.{Reach}
use Rattle.judgement.specs.declared.answer.Verdict.{Verdict}
use Rattle.judgement.specs.declared.answer.Verdict.TheVariants.{Yes, No, LimitMet}
use Rattle.judgement.specs.Verdict.{IsVerdict}
use Rattle.judgement.specs.Marks.{first_half, Marks}
use Rattle.judge.specs.Inside.Search.{situations, situation_of, Followed, Ready, Searching, Between, Keeps}
use Rattle.judgement.specs.declared.answer.Judged.{Judged}
use Rattle.judge.specs.declared.pending.Try.{Try}
use Rattle.judge.specs.declared.pending.Try.TheVariants.{Found, Stale, Nothing}

-- a bit that is set in the bytes from one place up to another
pub record SetIn (m : List ℕ) (from to bit_number : ℕ) : Type 0 where
  pub low : from * 8 ≤ bit_number
  pub high : bit_number < to * 8
  pub set : bit m bit_number ≡ 1

-- the first one, or none
abbrev pub FirstSet : List ℕ → ℕ → ℕ → Option ℕ → Type 0
FirstSet m from to (Some r) = SetIn m from to r
FirstSet m from to None = Blank m from to

-- situation i is pending
pub record Pending (m : List ℕ) (i : ℕ) : Type 0 where
  pub low : i < situations
  pub waits : bit m (i + situations) ≡ 1

-- a guess at a pending situation
abbrev pub Guess : List ℕ → Option ℕ → Type 0
Guess m (Some i) = Pending m i
Guess m None = Unit {0}

-- what following a hint comes to
abbrev pub TryRight : List ℕ → Try → Type 0
TryRight m (Found i) = Pending m i
TryRight m Stale = Unit {0}
TryRight m Nothing = Unit {0}

-- a pending situation, or that none is
abbrev pub Picked : List ℕ → Option ℕ → Type 0
Picked m (Some i) = Pending m i
Picked m None = (k : ℕ) → first_half ≤ k → get_or m k 0 ≡ 0

-- a row is one of those before the next that a range of rows shows
pub record Shown (rows : List ℕ) (range : Range) (next : ℕ) (r : Row) : Type 0 where
  pub number : ℕ
  pub low : number < next
  pub is : r ≡ row_in rows range number

-- row j of those that are shown for situation i stands here, and is to be followed
pub record RowOpen (t : Table) (rows w : List ℕ) (L : ℕ) (m : List ℕ) (over : Bool) (i : ℕ) (range : Range) (j at : ℕ) : Type 0 where
  pub search : Searching t w L m over i (Shown rows range j)
  pub low : i < situations
  pub followed : Followed m i
  pub shows : Shows t rows (i / 32 / 64) range
  pub few : j < range.many
  pub place : at ≡ place_in range j

-- and this is what is seen
pub record RowHere (t : Table) (rows w : List ℕ) (L : ℕ) (m : List ℕ) (over : Bool) (i : ℕ) (range : Range) (j at : ℕ) (seen : Symbol) : Type 0 where
  pub row : RowOpen t rows w L m over i range j at
  pub sees : seen ≡ symbol_on w (i / 32 % 64)

-- and it leaves the situation's state
pub record RowLeaves (t : Table) (rows w : List ℕ) (L : ℕ) (m : List ℕ) (over : Bool) (i : ℕ) (range : Range) (j at : ℕ) (seen : Symbol) : Type 0 where
  pub here : RowHere t rows w L m over i range j at seen
  pub leaves : (row_from rows at).from ≡ i / 32 / 64

-- and was followed
pub record RowFollowed (t : Table) (rows w : List ℕ) (L : ℕ) (m m' : List ℕ) (over : Bool) (i : ℕ) (range : Range) (j : ℕ) : Type 0 where
  pub search : Searching t w L m' over i (Shown rows range (j + 1))
  pub keeps : Keeps m m'

-- situation i is to be followed, by the rows of a source
pub record Waiting (t : Table) (rows : List ℕ) (source : Source) (w : List ℕ) (L : ℕ) (m : List ℕ) (over : Bool) (i : ℕ) : Type 0 where
  pub sources : Sources t source rows
  pub between : Between t w L m over
  pub low : i < situations
  pub waits : bit m (i + situations) ≡ 1

-- and was
pub record Expanded (t : Table) (w : List ℕ) (L : ℕ) (m m' : List ℕ) (over : Bool) (i : ℕ) : Type 0 where
  pub between : Between t w L m' over
  pub keeps : Keeps m m'
  pub done : Followed m' i

-- nothing is marked yet
pub record Unmarked (t : Table) (rows : List ℕ) (source : Source) (w : List ℕ) (L : ℕ) (m : List ℕ) : Type 0 where
  pub ready : Ready t w L
  pub sources : Sources t source rows
  pub empty : (i : ℕ) → bit m i ≡ 0

-- a state accepts, and a situation in it is marked
pub record AcceptsIn (t : Table) (m : List ℕ) (state : ℕ) : Type 0 where
  pub mark : ℕ
  pub low : mark < situations
  pub here : (situation_of mark).state ≡ state
  pub set : bit m mark ≡ 1
  pub accepting : Accepting t state

-- the verdict that the two questions give: whether a run accepts, and whether one meets the limit
unfoldable pub verdict_of : Bool → Bool → Verdict
verdict_of true over = Yes
verdict_of false true = LimitMet
verdict_of false false = No

-- what is judged, by the rows of a source
pub record Undecided (t : Table) (rows : List ℕ) (source : Source) (w : List ℕ) (L : ℕ) : Type 0 where
  pub ready : Ready t w L
  pub sources : Sources t source rows

-- the answer on it
pub record Decided (t : Table) (w : List ℕ) (L : ℕ) (m : List ℕ) (answer : Judged) : Type 0 where
  pub right : IsVerdict t w L answer.verdict
  pub count : Size (Reach t w L) answer.count
  pub marks : Marks t w L m
