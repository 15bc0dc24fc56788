-- The names of a file that is saved: its own, and that of the new file beside it in which it is written first.
use Rattle.std.specs.Prelude.{ℕ, Bool, ◌&&◌, ltb}

-- a name of so many bytes is not empty, and leaves room for five bytes more and a 0 in the 4,096 that a path may have
abbrev pub nameable : ℕ → Bool
nameable n = ltb 0 n && ltb n 4091
