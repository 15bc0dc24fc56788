-- Bytes that are all 0, and how many bits are set: the ones of the bytes add up to the size of the set of bits that are 1.
use Prim.Native.Nat.{ℕ, zero, suc, ◌+◌, ◌-◌, ◌*◌, ◌/◌, ◌%◌, ◌^◌, ◌≤◌, ◌<◌, min}
use native.Mathlib.Nat.{eq-or-lt_of_le, le_of_suc-le-suc, pow-suc, le_refl, min_comm}
use native.Mathlib.Decide.{dec_lt}
use native.Mathlib.Omega.{arith}
use mathlib.Core.Path.{◌≡◌, refl, sym, ap, ap₂, subst, ◌∙◌}
use mathlib.Core.Logic.{◌⊎◌, inl, inr, ⊎_elim, ∥∥₁_elim}
use mathlib.Core.HLevel.{⊥_prop}
use mathlib.Core.List.Pairwise
use mathlib.Core.List.{List, [], ◌∷◌, Memᴰ, Nodup}
use lib.ListN.{length, get_or, get_or-eq_default, take, drop}
use lib.Arith.{lt-one}
use lib.Bits.{bit_or, or_add_and, and_le_l, and_le_r}
use lib.Count.{ones, ones_step}
use lib.Dec.{eqb}
use borrow.Author.Tests.{eqb-true, eqb-false}
use Rattle.std.specs.Prelude.{Bool, fold, sum_by}
use Rattle.std.proofs.lemmas.List.{get_or-take, get_or-drop, length-take, take_all, take_min}
use Rattle.std.proofs.lemmas.List.Sums.{sum_by-cons, sum_by_more}
use Rattle.bits.specs.Bit.{bit, Bytes}
use Rattle.bits.specs.Size.{Size}
use Rattle.bits.specs.Tells.{Tells}
use Rattle.bits.specs.Inside.Sum.{sum_below}
use Rattle.bits.proofs.Sum.{sum_at_most, sum_more, sum_first, sum_same}
use Rattle.bits.proofs.Bits.{bit-zero_or_one, bit_of_byte, half_bits}
use Rattle.bits.proofs.Size.{size_once}
use Rattle.bits.proofs.Change.{bit_inside}
use Rattle.ones.specs.Blank.{Blank}
use Rattle.ones.specs.Ones.{Ones}

-- bytes that are all 0
abbrev pub Zeros : List ℕ → Type 0
Zeros m = (k : ℕ) → get_or m k 0 ≡ 0

-- two numbers that are 0 together
or-zero : (a b : ℕ) → bit_or a b ≡ 0 → (a ≡ 0) × (b ≡ 0)
or-zero a b none = omega (arith, or_add_and a b, and_le_l a b, and_le_r a b)

zeros_more : {b : ℕ} (m : List ℕ) → b ≡ 0 → Zeros m → Zeros (b ∷ m)
zeros_more m first rest zero = first
zeros_more m first rest (suc k) = rest k

-- what is gathered of bytes is 0 exactly if they all are
gathered-zero : (a : ℕ) (m : List ℕ) → fold bit_or a m ≡ 0 → (a ≡ 0) × Zeros m
gathered-zero a [] none = (none, λ k. refl)
gathered-zero a (b ∷ m) none =
    let rest = gathered-zero (bit_or a b) m none in
    let both = or-zero a b rest.0 in
    (both.0, zeros_more m both.1 rest.1)

zeros_gathered : (m : List ℕ) → Zeros m → fold bit_or 0 m ≡ 0
zeros_gathered [] zeros = refl
zeros_gathered (b ∷ m) zeros = let first : b ≡ 0 = zeros 0 in rw first (zeros_gathered m (λ k. zeros (suc k)))

pub zeros_told : (m : List ℕ) (gathered : ℕ) → gathered ≡ fold bit_or 0 m → Tells (eqb gathered 0) (Zeros m)
zeros_told m gathered is = record {
  holds = λ e. (gathered-zero 0 m (sym is ∙ eqb-true gathered 0 e)).1;
  fails = λ e zeros. eqb-false gathered 0 e (is ∙ zeros_gathered m zeros);
}

part_at : (m : List ℕ) (from end k : ℕ) → from ≤ k → k < end → get_or m k 0 ≡ get_or (take (end - from) (drop from m)) (k - from) 0
part_at m from end k low inside =
    let at : from + (k - from) ≡ k = omega arith in
    let within : k - from < end - from = omega arith in
    rw (get_or-take (end - from) (drop from m) (k - from) 0 within, get_or-drop, at) refl

-- the bytes of a part are all 0 exactly if the bytes from its start up to its end are; behind the end of all there is nothing else
pub blank_told
    : {told : Bool} (m : List ℕ) (from to end : ℕ) → end ≡ min to (length m) → from < end → Tells told (Zeros (take (end - from) (drop from m)))
    → Tells told (Blank m from to)
blank_told m from to end is some tells = record {
  holds = λ e. record {
    zero = λ k low high. elim (dec_lt k end) [
      | yes inside ↦ part_at m from end k low inside ∙ tells.holds e (k - from)
      | no past ↦ get_or-eq_default m 0 (omega arith)
    ];
  };
  fails = λ e blank. tells.fails e (λ k. elim (dec_lt k (end - from)) [
    | yes inside ↦
        let at : from + k - from ≡ k = omega arith in
        rw at at (sym (part_at m from end (from + k) (omega arith) (omega arith))) ∙ blank.zero (from + k) (omega arith) (omega arith)
    | no past ↦ get_or-eq_default (take (end - from) (drop from m)) 0 (omega (arith, length-take (end - from) (drop from m)))
  ]);
}

-- no bit is set in bytes that are 0
pub zeros_ones : (m : List ℕ) → Zeros m → 0 ≡ sum_by ones m
unfolding ones
zeros_ones [] zeros = refl
zeros_ones (b ∷ m) zeros =
    let none : ones b ≡ 0 = rw (zeros 0) refl in
    omega (arith, sum_by-cons ones b m, zeros_ones m (λ k. zeros (suc k)))

-- a number before others, if its digit is 1
pick : ℕ → ℕ → List ℕ → List ℕ
pick zero n l = l
pick (suc d) n l = n ∷ l

-- the numbers below n where the function is not 0, the last first
picked : (ℕ → ℕ) → ℕ → List ℕ
picked f zero = []
picked f (suc n) = pick (f n) n (picked f n)

length-pick : (d n : ℕ) (l : List ℕ) → d < 2 → length (pick d n l) ≡ d + length l
unfolding pick
length-pick zero n l low = omega arith
length-pick (suc d) n l low = omega arith

in_pick : {x : ℕ} (d n : ℕ) (l : List ℕ) → Memᴰ x (pick d n l) → ((x ≡ n) × (1 ≤ d)) ⊎ Memᴰ x l
unfolding pick
in_pick zero n l m = inr m
in_pick (suc d) n l (Memᴰ.head e) = inl (e, omega arith)
in_pick (suc d) n l (Memᴰ.tail m) = inr m

pick_first : {d n : ℕ} (l : List ℕ) → d ≡ 1 → Memᴰ n (pick d n l)
unfolding pick
pick_first l e = rw e (Memᴰ.head refl)

pick_rest : {x : ℕ} (d n : ℕ) {l : List ℕ} → Memᴰ x l → Memᴰ x (pick d n l)
unfolding pick
pick_rest zero n m = m
pick_rest (suc d) n m = Memᴰ.tail m

not-below : {n x : ℕ} → n ≡ x → ¬ (x < n)
not-below e low = omega arith

pick_once : (d n : ℕ) {l : List ℕ} → ((x : ℕ) → Memᴰ x l → x < n) → Nodup l → Nodup (pick d n l)
unfolding pick
pick_once zero n low once = once
pick_once (suc d) n low once =
    Pairwise.cons (λ x m e. ∥∥₁_elim m ⊥_prop (λ k. not-below e (low x k))) once

module _ (f : ℕ → ℕ) (digit : (i : ℕ) → f i < 2) where
  picked_below : (n x : ℕ) → Memᴰ x (picked f n) → x < n
  unfolding picked
  picked_below zero x m = elim m [ ]
  picked_below (suc n) x m =
      ⊎_elim
      (λ (w : (x ≡ n) × (1 ≤ f n)). omega arith)
      (λ (k : Memᴰ x (picked f n)). omega (arith, picked_below n x k))
      (in_pick (f n) n (picked f n) m)

  picked_only : (n x : ℕ) → Memᴰ x (picked f n) → f x ≡ 1
  unfolding picked
  picked_only zero x m = elim m [ ]
  picked_only (suc n) x m =
      ⊎_elim
      (λ (w : (x ≡ n) × (1 ≤ f n)). rw w.0 (omega (arith, digit n)))
      (λ (k : Memᴰ x (picked f n)). picked_only n x k)
      (in_pick (f n) n (picked f n) m)

  picked_each : (n x : ℕ) → x < n → f x ≡ 1 → Memᴰ x (picked f n)
  unfolding picked
  picked_each zero x low one = absurd (omega arith)
  picked_each (suc n) x low one =
      ⊎_elim
      (λ (e : x ≡ n). rw e (pick_first (picked f n) (rw e at one)))
      (λ (l : x < n). pick_rest (f n) n (picked_each n x l one))
      (eq-or-lt_of_le (le_of_suc-le-suc low))

  picked_once : (n : ℕ) → Nodup (picked f n)
  unfolding picked
  picked_once zero = Pairwise.nil
  picked_once (suc n) = pick_once (f n) n (picked_below n) (picked_once n)

  picked_many : (n : ℕ) → length (picked f n) ≡ sum_below f n
  unfolding picked sum_below
  picked_many zero = refl
  picked_many (suc n) = length-pick (f n) n (picked f n) (digit n) ∙ ap (λ (x : ℕ). f n + x) (picked_many n)

  -- a function with values 0 and 1 that is 0 from n on is 1 as often as its sum says
  pub size_of_sum : (n : ℕ) → ((i : ℕ) → f i ≡ 1 → i < n) → Size (λ (i : ℕ). f i ≡ 1) (sum_below f n)
  size_of_sum n inside = record {
    listed = picked f n;
    once = picked_once n;
    each = λ x one. picked_each n x (inside x one) one;
    only = picked_only n;
    many = picked_many n;
  }

first : (a : ℕ) → a / 2 ^ 0 % 2 ≡ a % 2
first a = omega arith

-- the digits of a number below 2 ^ k add up to its count of ones
sum_of_digits : (k a : ℕ) → a < 2 ^ k → sum_below (λ (j : ℕ). a / 2 ^ j % 2) k ≡ ones a
unfolding sum_below ones
sum_of_digits zero a low = ap ones (sym (lt-one low))
sum_of_digits (suc k) a low =
    sum_first (λ (j : ℕ). a / 2 ^ j % 2) k
    ∙ ap₂
    (λ (x y : ℕ). x + y)
    (first a)
    (sum_same (λ (j : ℕ). a / 2 ^ suc j % 2) (λ (j : ℕ). a / 2 / 2 ^ j % 2) k (λ j l. ap (λ (x : ℕ). x % 2) (sym (half_bits a j))) ∙ sum_of_digits k (a / 2) (omega (arith, pow-suc 2 k)))
    ∙ sym (ones_step a)

-- the ones of the first bytes are those of their bits
ones_before : (m : List ℕ) → Bytes m → (k : ℕ) → k ≤ length m → sum_by ones (take k m) ≡ sum_below (bit m) (k * 8)
unfolding sum_below
ones_before m bytes zero low = refl
ones_before m bytes (suc k) low =
    let terms = sum_same (λ (j : ℕ). bit m (k * 8 + j)) (λ (j : ℕ). get_or m k 0 / 2 ^ j % 2) 8 (bit_of_byte m k) in
    let next : suc k * 8 ≡ k * 8 + 8 = omega arith in
    let one : suc k ≡ k + 1 = omega arith in
    rw (next) (rw one (omega (
      arith,
      sum_by_more ones m k 0 low,
      ones_before m bytes k (omega arith),
      sum_more (bit m) (k * 8) 8,
      terms,
      sum_of_digits 8 (get_or m k 0) (bytes k),
    )))

pub ones_bits : (m : List ℕ) → Bytes m → sum_by ones m ≡ sum_below (bit m) (length m * 8)
ones_bits m bytes = subst (λ (l : List ℕ). sum_by ones l ≡ sum_below (bit m) (length m * 8)) (take_all (length m) m (le_refl (length m))) (ones_before m bytes (length m) (le_refl (length m)))

-- no byte has none
pub ones_none : (m : List ℕ) → length m ≡ 0 → sum_by ones m ≡ 0
ones_none [] none = refl
ones_none (b ∷ m) none = absurd (omega arith)

-- there are at most eight for each byte
pub ones_at_most : (m : List ℕ) → Bytes m → sum_by ones m ≤ length m * 8
ones_at_most m bytes =
    omega (arith, ones_bits m bytes, sum_at_most (bit m) (λ j. omega (arith, bit-zero_or_one m j)) (length m * 8))

-- and as many as bits that are set
pub ones_all : {n : ℕ} (m : List ℕ) → Bytes m → n ≡ sum_by ones m → Ones m n
ones_all m bytes is =
    rw (is, ones_bits m bytes) (record { size = size_of_sum (bit m) (bit-zero_or_one m) (length m * 8) (λ j one. omega (arith, bit_inside m j one)) })

-- the first bytes are bytes, up to the end of all where that comes first
pub first_end : {end : ℕ} (n : ℕ) (m : List ℕ) → end ≡ min (length m) n → take end m ≡ take n m
first_end n m is = rw (is, min_comm (length m) n, take_min n m) refl

pub first_bytes : (m : List ℕ) → Bytes m → (n : ℕ) → Bytes (take n m)
first_bytes m bytes n i = elim (dec_lt i n) [
  | yes inside ↦ rw (get_or-take n m i 0 inside) (bytes i)
  | no past ↦ let none : get_or (take n m) i 0 ≡ 0 = get_or-eq_default (take n m) 0 (omega (arith, length-take n m)) in omega arith
]

-- so a promise of a count of ones leaves no second number
pub ones_once : {m : List ℕ} {n k : ℕ} → Ones m n → Ones m k → n ≡ k
ones_once a b = size_once a.size b.size
