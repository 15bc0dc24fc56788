-- The law of a source of rows. No public promise reaches it.
use Rattle.std.specs.Prelude.{ℕ, zero, suc, ◌+◌, ◌≤◌, ◌<◌, ◌≡◌, length}
use mathlib.Core.List.{List, Memᴰ}
use Rattle.table.specs.Table.{Row, Table}
use Rattle.table.specs.Fields.{row_from}
use Rattle.table.specs.Source.{range_of}
use Rattle.table.specs.declared.source.Range.{Range}
use Rattle.table.specs.declared.source.Source.{Source}

-- where the row after j others stands
unfoldable pub place_in : Range → ℕ → ℕ
place_in range zero = range.first
place_in range (suc j) = place_in range j + range.apart

abbrev pub row_in : List ℕ → Range → ℕ → Row
row_in rows range j = row_from rows (place_in range j)

-- The law of a source: these bytes show in this range the rows of a table that leave a state.
pub record Shows (t : Table) (rows : List ℕ) (state : ℕ) (range : Range) : Type 0 where
  -- every row that leaves it is shown
  pub every : (r : Row) → Memᴰ r t.rows → r.from ≡ state → (j : ℕ) × (j < range.many) × (r ≡ row_in rows range j)
  -- what is shown and leaves it is a row
  pub only : (j : ℕ) → j < range.many → (row_in rows range j).from ≡ state → Memᴰ (row_in rows range j) t.rows
  -- and stands in the bytes
  pub inside : (j : ℕ) → j < range.many → place_in range j + range.apart ≤ length rows

-- and it holds for every state: 128 is as many as a table has
pub record Sources (t : Table) (source : Source) (rows : List ℕ) : Type 0 where
  pub shows : (state : ℕ) → state < 128 → Shows t rows state (range_of source rows state)
