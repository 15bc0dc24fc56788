-- What a program says on standard error of what failed.
use Rattle.std.specs.Prelude.{ℕ, List, [], ◌∷◌, ◌++◌}

-- a line: a name, a colon and a blank, and what is wrong
abbrev pub told : List ℕ → List ℕ → List ℕ
told name what = name ++ (58 ∷ 32 ∷ []) ++ what ++ (10 ∷ [])
