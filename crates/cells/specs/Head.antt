-- What moving a head comes to.
use Rattle.std.specs.Prelude.{ℕ, ◌≡◌}
use Rattle.cells.specs.declared.head.Head.{Head}
use Rattle.cells.specs.Cell.{moved}

-- the word as it was, and the cell moved by a row's move code
abbrev pub Moves : ℕ → Head → Head → Type 0
Moves code before after = (after.word ≡ before.word) × (after.cell ≡ moved before.word.now code before.cell)
