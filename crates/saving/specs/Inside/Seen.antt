-- What stands at a name, as the system tells it, and whether an image may be put there, as functions that save say it of each other.
-- No caller relies on it.
use Rattle.std.specs.Prelude.{ℕ, ◌/◌, Bool, true, false, ◌&&◌, not, cond, eqb, Option, Some, None}
use Rattle.saving.specs.declared.seen.Seen.{Seen}
use Rattle.saving.specs.declared.seen.Stands.{Stands}
use Rattle.saving.specs.declared.seen.Stands.TheVariants.{File, Folder, Link, Other}

-- by a mode's four highest bits, which POSIX calls S_IFMT
abbrev pub stands_of : ℕ → Stands
stands_of mode = cond (eqb (mode / 4096) 8) File (cond (eqb (mode / 4096) 4) Folder (cond (eqb (mode / 4096) 10) Link Other))

-- one file: on one device, and of one number there
abbrev pub same_file : Seen → Seen → Bool
same_file a b = eqb a.which.device b.which.device && eqb a.which.number b.which.number

-- where nothing stands, or a file that is not the one that was read
abbrev pub replaceable : Option Stands → Bool → Bool
replaceable None same = true
replaceable (Some File) same = not same
replaceable (Some Folder) same = false
replaceable (Some Link) same = false
replaceable (Some Other) same = false
