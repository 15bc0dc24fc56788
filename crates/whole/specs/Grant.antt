-- A dock's yes, and what deserves it.
use Rattle.std.specs.Prelude.{ℕ, ◌/◌, ◌≤◌, ◌<◌, ◌≡◌, length, get_or}
use mathlib.Core.List.{List, Memᴰ}
use Rattle.judgement.specs.Marks.{mark_bytes}
use Rattle.rule.specs.Tree.{Program, letter_bytes}
use Rattle.rule.specs.Meaning.{ProgramAccepts}

-- an answer grants: it is verdict x 1,000,000 + count, and the verdict is 1
abbrev pub Grants : ℕ → Type 0
Grants result = result / 1000000 ≡ 1

-- it says no: the verdict is 2
abbrev pub SaysNo : ℕ → Type 0
SaysNo result = result / 1000000 ≡ 2

-- it says that the limit was met: the verdict is 3
abbrev pub SaysLimitMet : ℕ → Type 0
SaysLimitMet result = result / 1000000 ≡ 3

-- a rule can be asked: a record of up to 62 of its letters, a limit 0 to 31 and 65,536 mark bytes
pub record Asks (p : Program) (word : List ℕ) (limit : ℕ) (marks : List ℕ) : Type 0 where
  pub short : length word ≤ 62
  pub letters : (i : ℕ) → i < length word → Memᴰ (get_or word i 0) (letter_bytes p.alphabet)
  pub low : limit ≤ 31
  pub room : length marks ≡ mark_bytes

-- and some run of the rule within the limit accepts
pub record Deserves (p : Program) (word : List ℕ) (limit : ℕ) (marks : List ℕ) : Type 0 where
  pub asks : Asks p word limit marks
  pub accepts : ProgramAccepts p word limit
