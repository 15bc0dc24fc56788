-- How many things have a property: the length of a list that has each of them once and nothing else.
use Rattle.std.specs.Prelude.{ℕ, ◌≡◌, length}
use mathlib.Core.List.{List, Memᴰ, Nodup}

pub record Size {A : Type 0} (P : A → Type 0) (n : ℕ) : Type 0 where
  pub listed : List A
  pub once : Nodup listed
  pub each : (x : A) → P x → Memᴰ x listed
  pub only : (x : A) → Memᴰ x listed → P x
  pub many : length listed ≡ n
