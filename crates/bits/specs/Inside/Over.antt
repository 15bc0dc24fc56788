-- Bytes that are put over others, as functions that write say it of each other. No caller relies on it.
use Rattle.std.specs.Prelude.{ℕ, ◌+◌, List, ◌++◌, length, take, drop}

-- a list with other elements from a place on
abbrev pub over : List ℕ → ℕ → List ℕ → List ℕ
over l at new = take at l ++ (new ++ drop (at + length new) l)
