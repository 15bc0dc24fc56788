-- An alphabet has a letter at least.
use Prim.Native.Nat.{ℕ, ◌≤◌}
use native.Mathlib.Omega.{arith}
use mathlib.Core.Bool.{Bool}
use mathlib.Core.List.{List}
use lib.ListN.{length}
use Rattle.rule.specs.Tree.{Letter, Order, Program}
use Rattle.rule.specs.Grammar.{Ts, IsLetters, one, more, alphabet, IsSettings, alphabet_first, decrement_first, IsProgram, program}

-- there is a letter at least
pub some_letter_lem : {ts us : Ts} {l : List Letter} → IsLetters ts l us → 1 ≤ length l
some_letter_lem one = omega arith
some_letter_lem (more m) = omega arith

settings_letter : {p : ℕ} {ts us : Ts} {f : Order} {l : List Letter} {d : Bool} → IsSettings ts f l d p us → 1 ≤ length l
settings_letter (alphabet_first (alphabet m) d) = some_letter_lem m
settings_letter (decrement_first d (alphabet m)) = some_letter_lem m

-- so a program has one
pub program_letter : {ts : Ts} {p : Program} → IsProgram ts p → 1 ≤ length p.alphabet
program_letter (program settings b) = settings_letter settings
