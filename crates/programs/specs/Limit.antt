-- The limit that the verdict program is given: one to three digits say it.
use Rattle.std.specs.Prelude.{ℕ, ◌≤◌, ◌≡◌, List, length, T, Option, Some, None}
use Rattle.bits.specs.Byte.{is_digit}
use Rattle.text.specs.Token.{every}
use Rattle.rule.specs.Limits.{value_from}

pub record SaysLimit (digits : List ℕ) (limit : ℕ) : Type 0 where
  pub some : 1 ≤ length digits
  pub few : length digits ≤ 3
  pub each : T (every is_digit digits)
  pub value : limit ≡ value_from 0 digits

abbrev pub Says : List ℕ → Option ℕ → Type 0
Says digits (Some limit) = SaysLimit digits limit
Says digits None = (limit : ℕ) → ¬ SaysLimit digits limit
