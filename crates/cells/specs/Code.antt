-- The code's symbols as the definitions' symbols.
use Rattle.cells.specs.declared.Symbol as Code
use Rattle.cells.specs.declared.Symbol.TheVariants as Variants
use Rattle.cells.specs.Cell.{Symbol, left_mark, letter, right_mark}

unfoldable pub symbol_is : Code.Symbol → Symbol
symbol_is Variants.LeftMark = left_mark
symbol_is (Variants.Letter b) = letter b
symbol_is Variants.RightMark = right_mark
