-- A program and its table accept the same words within the same limits.
use Rattle.std.specs.Prelude.{ℕ, ◌<◌, ◌↔◌, length, get_or}
use mathlib.Core.List.{List, Memᴰ}
use Rattle.machine.specs.Run.{Accepts}
use Rattle.rule.specs.Tree.{Program}
use Rattle.rule.specs.Meaning.{ProgramAccepts}
use Rattle.construction.specs.Construction.{construct}

-- table and program agree: for every word of its letters and every limit, one has an accepting run within it exactly when the other has
abbrev pub Agree : Program → Type 0
Agree p =
    (word : List ℕ) (limit : ℕ)
    → ((i : ℕ) → i < length word → Memᴰ (get_or word i 0) (construct p).alphabet)
    → Accepts (construct p) word limit ↔ ProgramAccepts p word limit
