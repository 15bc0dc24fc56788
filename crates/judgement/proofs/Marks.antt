-- The mark bytes after a verdict are settled by what is reached: a bit of the first half is 1 if its situation is, the rest is 0.
use Prim.Native.Nat.{ℕ, ◌*◌, ◌/◌, ◌≤◌, ◌<◌}
use native.Mathlib.Nat.{zero-div}
use native.Mathlib.Decide.{dec_lt, ℕ_discrete}
use native.Mathlib.Omega.{arith}
use mathlib.Core.Path.{◌≡◌, sym, ◌∙◌}
use mathlib.Core.Logic.{◌↔◌}
use mathlib.Core.List.{List}
use lib.ListN.{length}
use Rattle.bits.specs.Bit.{bit}
use Rattle.bits.proofs.Bits.{bit-zero_or_one, same_bits}
use Rattle.table.specs.Table.{Table}
use Rattle.table.specs.WellFormed.{InRange}
use Rattle.machine.specs.Step.{Situation}
use Rattle.machine.specs.Run.{Reach}
use Rattle.machine.proofs.Run.{reach_within}
use Rattle.judgement.specs.Marks.{HasMark, mark_of, Marks}
use Rattle.judgement.proofs.Number.{Among, situation_at, number_below, at_number, at_among, number_at}

-- two bits of which each is 1 where the other is are equal
same_bit : {a b : ℕ} → a < 2 → b < 2 → (a ≡ 1) ↔ (b ≡ 1) → a ≡ b
same_bit {a} {b} la lb iff = by_cases (ℕ_discrete a 1) (ℕ_discrete b 1)
  where
    by_cases : Dec (a ≡ 1) → Dec (b ≡ 1) → a ≡ b
    by_cases (yes p) q = p ∙ sym (iff.0 p)
    by_cases (no n) (yes q) = absurd (n (iff.1 q))
    by_cases (no n) (no m) = omega arith

-- how many bits are a situation's: 128 states, 64 cells and 32 counter values
abbrev situations : ℕ
situations = 128 * 64 * 32

-- the situation of each bit below has a bit
pub marked : {i : ℕ} → i < situations → HasMark (situation_at 64 32 i)
marked low =
    let among = at_among {a = 128} {b = 64} {c = 32} (omega arith) (omega arith) low in
    record { state = among.state; cell = among.cell; counter = among.counter }

-- and its bit is that one
pub mark_at : (i : ℕ) → mark_of (situation_at 64 32 i) ≡ i
unfolding mark_of
mark_at i = number_at 64 32 i

-- a situation that has a bit is among those
has_among : {s : Situation} → HasMark s → Among 128 64 32 s
has_among h = record { state = h.state; cell = h.cell; counter = h.counter }

-- a situation's bit is among the first
pub mark_below : {s : Situation} → HasMark s → mark_of s < situations
unfolding mark_of
mark_below h = number_below (has_among h)

-- and the situation of that bit is it
pub mark_of_lem : {s : Situation} → HasMark s → situation_at 64 32 (mark_of s) ≡ s
unfolding mark_of
mark_of_lem h = at_number (has_among h)

module _ {t : Table} {w : List ℕ} {L : ℕ} where
  -- what is reached on a word of up to 62 letters at a limit up to 31 has a bit
  pub reached_has_mark : {s : Situation} → InRange t → length w ≤ 62 → L ≤ 31 → Reach t w L s → HasMark s
  reached_has_mark range short low r =
      let within = reach_within range r in
      let few = range.few_states in
      record { state = omega arith; cell = omega arith; counter = omega arith }

  -- a situation's bit is 1 exactly if the situation is reached
  situation_bit : {m : List ℕ} → Marks t w L m → {i : ℕ} → i < situations → (bit m i ≡ 1) ↔ Reach t w L (situation_at 64 32 i)
  situation_bit marks {i} low = rw (mark_at i) at (marks.reached (situation_at 64 32 i) (marked low))

  -- any other bit is 0
  other_bit : {m : List ℕ} → Marks t w L m → {i : ℕ} → situations ≤ i → bit m i ≡ 0
  unfolding bit
  other_bit marks {i} high = rw (marks.rest (i / 8) (omega arith), zero-div)

  -- marks of the same table, word and limit have the same bits
  bits_once : {m n : List ℕ} → Marks t w L m → Marks t w L n → (i : ℕ) → Dec (i < situations) → bit m i ≡ bit n i
  bits_once {m} {n} a b i (yes low) =
      let one = situation_bit a low in
      let other = situation_bit b low in
      same_bit (bit-zero_or_one m i) (bit-zero_or_one n i) (λ p. other.1 (one.0 p), λ p. one.1 (other.0 p))
  bits_once a b i (no high) = other_bit a (omega arith) ∙ sym (other_bit b (omega arith))

  -- marks of the same table, word and limit are equal
  pub marks_once : {m n : List ℕ} → Marks t w L m → Marks t w L n → m ≡ n
  marks_once a b = same_bits a.bytes b.bytes (a.size ∙ sym b.size) (λ i. bits_once a b i (dec_lt i situations))
