-- The reasons to refuse an image, a word and a limit, which every entry that judges has first, and what is admitted where none holds.
use Rattle.std.specs.Prelude.{ℕ, ◌≤◌, ◌<◌, length, get_or}
use mathlib.Core.List.{List, [], ◌∷◌, Memᴰ}
use Rattle.table.specs.Table.{Table}
use Rattle.table.specs.WellFormed.{IsImage, WellFormed}
use Rattle.table.specs.Refusal.{Reason, because, at_zero}

-- the first byte of the word that is no letter of the image's table stands at this index
pub record FirstOutside (image word : List ℕ) (index : ℕ) : Type 0 where
  pub table : Table
  pub is_image : IsImage table image
  pub inside : index < length word
  pub outside : ¬ Memᴰ (get_or word index 0) table.alphabet
  pub before : (i : ℕ) → i < index → Memᴰ (get_or word i 0) table.alphabet

-- 21 to 24, in number order
abbrev pub input_reasons : List ℕ → List ℕ → ℕ → List {1} Reason
input_reasons image word limit =
    at_zero 21 (¬ WellFormed image)
    ∷ at_zero 22 (62 < length word)
    ∷ because 23 (FirstOutside image word)
    ∷ at_zero 24 (31 < limit)
    ∷ []

-- what is admitted: a well-formed table, a word of up to 62 of its letters and a limit 0 to 31
pub record Admitted (t : Table) (image word : List ℕ) (limit : ℕ) : Type 0 where
  pub is_image : IsImage t image
  pub short : length word ≤ 62
  pub letters : (i : ℕ) → i < length word → Memᴰ (get_or word i 0) t.alphabet
  pub low : limit ≤ 31
