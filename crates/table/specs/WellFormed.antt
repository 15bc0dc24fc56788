-- Which tables are within their ranges, and which bytes are a well-formed image. It need not come from the compiler.
use Rattle.std.specs.Prelude.{ℕ, ◌≤◌, ◌<◌, ◌≡◌, ◌⊎◌, length, T}
use mathlib.Core.List.{List, Memᴰ, Nodup}
use Rattle.bits.specs.Bit.{bit, Bytes}
use Rattle.bits.specs.Byte.{is_letter}
use Rattle.table.specs.Form.{left_mark, any_symbol, either_counter, to_right, most_change, accepting_bytes}
use Rattle.table.specs.Table.{Row, Table, Accepting}
use Rattle.table.specs.Image.{encode}

-- with k letters: a letter, or a mark or any
abbrev pub SymbolCode : ℕ → ℕ → Type 0
SymbolCode k code = (code < k) ⊎ ((left_mark ≤ code) × (code ≤ any_symbol))

pub record RowInRange (t : Table) (r : Row) : Type 0 where
  pub from : r.from < t.states
  pub not_accepting : ¬ Accepting t r.from
  pub symbol : SymbolCode (length t.alphabet) r.symbol
  pub test : r.test ≤ either_counter
  pub move : r.move ≤ to_right
  pub change : r.change ≤ most_change
  pub to : r.to < t.states

pub record InRange (t : Table) : Type 0 where
  pub some_letter : 1 ≤ length t.alphabet
  pub few_letters : length t.alphabet ≤ 16
  pub letters : (b : ℕ) → Memᴰ b t.alphabet → T (is_letter b)
  pub different : Nodup t.alphabet
  pub some_state : 1 ≤ t.states
  pub few_states : t.states ≤ 128
  pub sixteen : length t.accepting ≡ accepting_bytes
  pub bytes : Bytes t.accepting
  pub no_other_bit : (s : ℕ) → t.states ≤ s → bit t.accepting s ≡ 0
  pub few_rows : length t.rows ≤ 1024
  pub rows : (r : Row) → Memᴰ r t.rows → RowInRange t r

pub record IsImage (t : Table) (image : List ℕ) : Type 0 where
  pub in_range : InRange t
  pub encoded : image ≡ encode t

abbrev pub WellFormed : List ℕ → Type 0
WellFormed image = (t : Table) × IsImage t image
