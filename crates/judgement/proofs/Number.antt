-- The situations of a states, b cells and c counter values by number, from 0 to a * b * c - 1.
use Prim.Native.Nat.{ℕ, ◌+◌, ◌*◌, ◌/◌, ◌%◌, ◌≤◌, ◌<◌}
use native.Mathlib.Nat.{div-add-mod', div-lt_iff_lt-mul, mod-lt}
use mathlib.Core.Path.{◌≡◌}
use lib.Arith.{digits_lt, digits_div, digits_mod}
use Rattle.machine.specs.Step.{Situation}

-- the situation is among those of a states, b cells and c counter values
pub record Among (a b c : ℕ) (s : Situation) : Type 0 where
  pub state : s.state < a
  pub cell : s.cell < b
  pub counter : s.counter < c

-- a situation's number
abbrev pub number_of : ℕ → ℕ → Situation → ℕ
number_of b c s = (s.state * b + s.cell) * c + s.counter

-- the situation with a number
abbrev pub situation_at : ℕ → ℕ → ℕ → Situation
situation_at b c i = record { state = i / c / b; cell = i / c % b; counter = i % c }

module _ {a b c : ℕ} where
  -- a situation's number is below a * b * c
  pub number_below : {s : Situation} → Among a b c s → number_of b c s < a * b * c
  number_below fits = digits_lt (digits_lt fits.state fits.cell) fits.counter

  -- a situation is the one with its number
  pub at_number : {s : Situation} → Among a b c s → situation_at b c (number_of b c s) ≡ s
  at_number {s} fits = simp (digits_div, digits_mod, fits.cell, fits.counter)

  -- a situation with a number below a * b * c is among them
  pub at_among : {i : ℕ} → 1 ≤ b → 1 ≤ c → i < a * b * c → Among a b c (situation_at b c i)
  at_among some_cell some_counter low = record {
    state = (div-lt_iff_lt-mul some_cell).1 ((div-lt_iff_lt-mul some_counter).1 low);
    cell = mod-lt _ some_cell;
    counter = mod-lt _ some_counter;
  }

-- a situation with a number has that number
pub number_at : (b c i : ℕ) → number_of b c (situation_at b c i) ≡ i
number_at b c i = rw (div-add-mod' (i / c) b, div-add-mod' i c)
