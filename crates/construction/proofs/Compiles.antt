-- No second answer and no second buffer keep what compiling promises; how long an image is, which numbers and places a refusal has.
use Prim.Native.Nat.{ℕ, ◌≤◌, ◌<◌}
use native.Mathlib.Omega.{arith}
use mathlib.Core.Path.{◌≡◌, refl, sym, ◌∙◌, ap}
use mathlib.Core.Logic.{inl, inr}
use mathlib.Core.List.{List, ◌++◌}
use lib.ListN.{length, drop}
use Rattle.table.specs.Image.{encode}
use Rattle.std.specs.Prelude.{Result, Ok, Err}
use Rattle.table.specs.Refusal.{First}
use Rattle.table.specs.declared.reason.Refusal.{Refusal}
use Rattle.table.proofs.Image.{length-encode}
use Rattle.table.proofs.Reasons.{refusal_once}
use Rattle.table.proofs.Refusal.{Single, Gives, Each, single_at_zero, first_once, first_has}
use Rattle.rule.specs.Tree.{Program}
use Rattle.rule.proofs.Letters.{program_letter}
use Rattle.rule.proofs.Within.{program_within, length-letter_bytes}
use Rattle.rule.proofs.Outcomes.{reads_once}
use Rattle.rule.proofs.Bounds.{fault_bounds}
use Rattle.rule.proofs.Reasons.{single_text, no_text}
use Rattle.construction.specs.Construction.{program_part, construct}
use Rattle.construction.specs.Compile.{image_room, reasons, answer_number, Compiled, Refused, Compiles, CompilesTo}
use Rattle.construction.specs.declared.Sizes.{Sizes}
use Rattle.construction.proofs.SetBit.{length_accept}

module _ {text before after after' : List ℕ} where
  refused_once : {n m p q : ℕ} → Refused text before after n p → Refused text before after' m q → (after ≡ after') × (n ≡ m) × (p ≡ q)
  refused_once a b =
      let single : Each Single (reasons text before) = (single_at_zero, (single_at_zero, single_text text _ _)) in
      let same = first_once (reasons text before) single a.first b.first in
      (a.unchanged ∙ sym b.unchanged, same.0, same.1)

  compiled_once : {s s' : Sizes}
      → Compiled text before after s.bytes s.states s.rows
      → Compiled text before after' s'.bytes s'.states s'.rows
      → (after ≡ after') × (s ≡ s')
  compiled_once a b =
      let same = reads_once a.compilable.reads b.compilable.reads in
      let bytes = a.bytes_are ∙ ap (λ (p : Program). length (encode (construct p))) same ∙ sym b.bytes_are in
      let states = a.states_are ∙ ap (λ (p : Program). (construct p).states) same ∙ sym b.states_are in
      let rows = a.rows_are ∙ ap (λ (p : Program). length (construct p).rows) same ∙ sym b.rows_are in (
        a.image ∙ (λ i. encode (construct (same i)) ++ drop (bytes i) before) ∙ sym b.image,
        λ i. record { bytes = bytes i; states = states i; rows = rows i },
      )

  -- what is compiled is not refused
  never_both : {k s r n p : ℕ} → Compiled text before after k s r → ¬ Refused text before after' n p
  never_both a b =
      let few = a.compilable in
      let none : Each (Gives (λ n p. ⊥)) (reasons text before) = (
        λ n p h. omega (arith, h.1.1, few.short),
        (λ n p h. omega (arith, h.1.1, a.room), no_text text _ _ few.reads few.states few.rows),
      ) in
      first_has (λ n p. ⊥) (reasons text before) none b.first

-- two answers that both are right are equal, and so are the buffers that they leave
pub compiles_once : {text before after after' : List ℕ} (x y : Result Sizes Refusal)
    → Compiles text before after x
    → Compiles text before after' y
    → (after ≡ after') × (x ≡ y)
compiles_once (Ok s) (Ok s') a b = let same = compiled_once a.right b.right in (same.0, ap (λ (t : Sizes). Ok t) same.1)
compiles_once (Ok s) (Err r) a b = absurd (never_both a.right b.right)
compiles_once (Err r) (Ok s) a b = absurd (never_both b.right a.right)
compiles_once (Err r) (Err q) a b =
    let same = refused_once a.right b.right in
    (same.0, ap (λ (t : Refusal). Err t) (refusal_once same.1 same.2))

-- and so it is of the answer as one number
pub compiles_to_once : {text before after after' : List ℕ} {r r' : ℕ}
    → CompilesTo text before after r
    → CompilesTo text before after' r'
    → (after ≡ after') × (r ≡ r')
compiles_to_once a b =
    let same = compiles_once a.answer b.answer a.compiles b.compiles in
    (same.0, a.number ∙ ap answer_number same.1 ∙ sym b.number)

-- an image has 39 to 8,246 bytes
pub compiled_bytes : {text before after : List ℕ} {k s r : ℕ} → Compiled text before after k s r → (39 ≤ k) × (k ≤ image_room)
unfolding construct
compiled_bytes a =
    let p = a.program in
    let reads = a.compilable.reads in
    let long = length-encode (construct p) in
    let sixteen = length_accept (program_part p).accepting in
    let letters = length-letter_bytes p.alphabet in (
      omega (arith, a.bytes_are, long, sixteen, letters, program_letter reads.derived),
      omega (arith, a.bytes_are, long, sixteen, (program_within p reads.faultless).few, a.compilable.rows),
    )

-- a refusal's number is 1 to 11, and its place is in a text that is not too long, or at its end
abbrev Bounded : ℕ → ℕ → Type 0
Bounded n p = (1 ≤ n) × (n ≤ 11) × (p ≤ 4096)

later_bounds : (text before : List ℕ) → ¬ (4096 < length text) → Each (Gives Bounded) (drop 1 (reasons text before))
later_bounds text before short = (
  λ n p h. (omega (arith, h.0), omega (arith, h.0), omega (arith, h.1.0)),
  (
    λ n p h. let b = fault_bounds h in (omega (arith, b), omega (arith, b), omega (arith, b)),
    (
      λ n p h. (omega (arith, h.0), omega (arith, h.0), omega (arith, h.1.at_end)),
      (λ n p h. (omega (arith, h.0), omega (arith, h.0), omega (arith, h.1.at_end)), tt),
    ),
  ),
)

first_bounds : (text before : List ℕ) (n p : ℕ) → First (reasons text before) n p → Bounded n p
unfolding First
first_bounds text before n p (inl h) = (omega (arith, h.0), omega (arith, h.0), omega (arith, h.1.0))
first_bounds text before n p (inr (short, later)) =
    first_has Bounded (drop 1 (reasons text before)) (later_bounds text before (λ h. short 1 0 (refl, (refl, h)))) later

pub refused_bounds : {text before after : List ℕ} {n p : ℕ} → Refused text before after n p → (1 ≤ n) × (n ≤ 11) × (p ≤ 4096)
refused_bounds {text} {before} {n = n} {p = p} a = first_bounds text before n p a.first

-- so compiling never gives 0
answer_never_zero : {text before after : List ℕ} (x : Result Sizes Refusal) → Compiles text before after x → 1 ≤ answer_number x
unfolding answer_number
answer_never_zero (Ok s) a = omega (arith, compiled_bytes a.right)
answer_never_zero (Err r) a = omega (arith, refused_bounds a.right)

pub compiles_to_never_zero : {text before after : List ℕ} {r : ℕ} → CompilesTo text before after r → 1 ≤ r
compiles_to_never_zero a = rw a.number (answer_never_zero a.answer a.compiles)
