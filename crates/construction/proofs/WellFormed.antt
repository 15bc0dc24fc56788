-- The table of a faultless program, within 128 states and 1,024 rows, is within its ranges.
use Prim.Native.Nat.{ℕ, ◌≤◌, ◌<◌}
use native.Mathlib.Omega.{arith}
use native.Mathlib.Nat.{le_refl}
use mathlib.Core.Path.{◌≡◌, refl}
use mathlib.Core.List.{[], append-nil, Memᴰ}
use lib.ListN.{length, replicate, length-replicate}
use lib.Dec.{T}
use Rattle.bits.specs.Byte.{is_letter}
use Rattle.table.specs.Form.{accepting_bytes}
use Rattle.table.specs.Table.{Row, Accepting}
use Rattle.table.specs.WellFormed.{RowInRange, InRange}
use Rattle.rule.specs.Tree.{Program, letter_bytes}
use Rattle.rule.specs.Limits.{faults}
use Rattle.rule.proofs.Within.{program_within, length-letter_bytes}
use Rattle.construction.specs.Construction.{program_part, construct}
use Rattle.construction.proofs.Every.{Every, every-nil}
use Rattle.construction.proofs.Own.{Own, own_below, Laid}
use Rattle.construction.proofs.Parts.{statements_series}
use Rattle.construction.proofs.Codes.{Fine, statements_fine}
use Rattle.construction.proofs.SetBit.{bits_in, bits_only, bits_zero, length-with_bits, bytes_with_bits}
use Rattle.bits.proofs.Change.{bytes_zeros}

-- where a program's rows start and where it accepts
pub program_laid :
    (p : Program)
    → Laid
    (Own 0 1 (program_part p).next)
    (Own 0 1 (program_part p).next)
    (program_part p).rows
    (program_part p).accepting
unfolding program_part
program_laid p =
    rw append-nil at ((statements_series (letter_bytes p.alphabet) p.body 0 1 (omega arith)).laid [] every-nil)

-- some state is taken
pub program_grows : (p : Program) → 1 ≤ (program_part p).next
unfolding program_part
program_grows p = (statements_series (letter_bytes p.alphabet) p.body 0 1 (omega arith)).grows

accepting_below : (p : Program) (s : ℕ) → Memᴰ s (program_part p).accepting → s < (program_part p).next
accepting_below p s m = own_below ((program_laid p).accepts.at s m) (program_grows p) (le_refl _)

from_below : (p : Program) (r : Row) → Memᴰ r (construct p).rows → r.from < (construct p).states
unfolding construct
from_below p r m = own_below ((program_laid p).from.at r m) (program_grows p) (le_refl _)

-- a state that accepts in the table is one that the construction makes accepting
pub accepts_listed : (p : Program) (s : ℕ) → Accepting (construct p) s → Memᴰ s (program_part p).accepting
unfolding construct
accepts_listed p s one = bits_only (program_part p).accepting accepting_bytes s one

-- and each of those accepts
pub listed_accepts :
    (p : Program) (s : ℕ) → (construct p).states ≤ 128 → Memᴰ s (program_part p).accepting → Accepting (construct p) s
unfolding construct
listed_accepts p s few m =
    let below = accepting_below p s m in
    bits_in (program_part p).accepting (replicate accepting_bytes 0) s (simp length-replicate (omega arith)) m

-- no row starts from an accepting state
pub no_row_accepts : (p : Program) (r : Row) → Memᴰ r (construct p).rows → ¬ Accepting (construct p) r.from
unfolding construct
no_row_accepts p r m one = (program_laid p).apart r r.from m (accepts_listed p r.from one) refl

module _ (p : Program) (none : faults p ≡ []) where
  rows_fine :
      Every (Fine (length (construct p).alphabet) (construct p).states) (construct p).rows
  unfolding construct program_part
  rows_fine =
      statements_fine (letter_bytes p.alphabet) (program_part p).next p.body 0 1 (program_within p none).body (omega arith) (le_refl _)

  -- every row of a faultless program's table is in its ranges
  pub row_in_range : (r : Row) → Memᴰ r (construct p).rows → RowInRange (construct p) r
  row_in_range r m =
      let fine = rows_fine.at r m in
      record {
        from = from_below p r m;
        not_accepting = no_row_accepts p r m;
        symbol = fine.codes.symbol;
        test = fine.codes.test;
        move = fine.codes.move;
        change = fine.codes.change;
        to = fine.to;
      }

  -- the table of a faultless program is within its ranges
  pub constructed_in_range :
      ((b : ℕ) → Memᴰ b (letter_bytes p.alphabet) → T (is_letter b))
      → 1 ≤ length p.alphabet
      → (construct p).states ≤ 128
      → length (construct p).rows ≤ 1024
      → InRange (construct p)
  unfolding construct
  constructed_in_range letters some states rows =
      let within = program_within p none in
      record {
        some_letter = omega (arith, length-letter_bytes p.alphabet);
        few_letters = within.few;
        letters = letters;
        different = within.different;
        some_state = program_grows p;
        few_states = states;
        sixteen = length-with_bits (program_part p).accepting (replicate accepting_bytes 0);
        bytes = bytes_with_bits (program_part p).accepting (replicate accepting_bytes 0) (bytes_zeros accepting_bytes);
        no_other_bit = λ s h. bits_zero (program_part p).accepting accepting_bytes s (λ m. omega (arith, accepting_below p s m));
        few_rows = rows;
        rows = row_in_range;
      }
