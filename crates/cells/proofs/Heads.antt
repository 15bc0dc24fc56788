-- A head is what its word and its cell are.
use mathlib.Core.Path.{◌≡◌}
use Rattle.cells.specs.declared.head.Head.{Head}

-- a promise of a head's word and cell leaves no second head
pub head_once : {a b : Head} → a.word ≡ b.word → a.cell ≡ b.cell → a ≡ b
head_once same_word same_cell = λ i. record { word = same_word i; cell = same_cell i }
