-- What the functions of this crate promise one another; no public promise reaches it.
use Rattle.std.specs.Prelude.{ℕ, ◌<◌, length, get_or, Option, Some, None}
use mathlib.Core.List.{List, Memᴰ}
use Rattle.table.specs.Fields.{table_of}

-- the first byte that is no letter stands here
pub record OtherAt (image word : List ℕ) (at : ℕ) : Type 0 where
  pub inside : at < length word
  pub outside : ¬ Memᴰ (get_or word at 0) (table_of image).alphabet
  pub before : (i : ℕ) → i < at → Memᴰ (get_or word i 0) (table_of image).alphabet

-- where the first byte that is no letter stands, or none does
abbrev pub FirstOther : List ℕ → List ℕ → Option ℕ → Type 0
FirstOther image word (Some at) = OtherAt image word at
FirstOther image word None = (i : ℕ) → i < length word → Memᴰ (get_or word i 0) (table_of image).alphabet
