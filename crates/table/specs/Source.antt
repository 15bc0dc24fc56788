-- Where a search finds the rows that leave a state. A source is bytes that hold rows, and says for each state from which place on they
-- stand, how many, and how far apart. The search knows nothing else of it.
use Rattle.std.specs.Prelude.{ℕ, List}
use Rattle.table.specs.Form.{rows_place, wide}
use Rattle.table.specs.Fields.{letters_of, width_of, row_count}
use Rattle.table.specs.declared.source.Range.{Range}
use Rattle.table.specs.declared.source.Source.{Source}
use Rattle.table.specs.declared.source.Source.TheVariants.{Image}

-- an image shows all its rows, whatever the state
unfoldable pub range_of : Source → List ℕ → ℕ → Range
range_of Image image state =
    record { first = rows_place (letters_of image); many = row_count image; apart = wide (width_of image) }
