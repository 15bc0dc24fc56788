-- What marking a situation does to the bits of both halves.
use Prim.Native.Nat.{ℕ, ◌+◌, ◌<◌}
use native.Mathlib.Decide.{ℕ_discrete}
use native.Mathlib.Omega.{arith}
use mathlib.Core.Path.{◌≡◌, refl, sym, ap, ◌∙◌, subst}
use mathlib.Core.Logic.{◌⊎◌, inl, inr}
use mathlib.Core.List.{List}
use lib.ListN.{length}
use borrow.Author.Tests.{eq-eqb, ne_eqb}
use Rattle.bits.specs.Bit.{bit, with_bit}
use Rattle.bits.proofs.Change.{bit-set, bit-set_other, bit-set_kept, length-with_bit}
use Rattle.judgement.specs.Marks.{mark_bytes}
use Rattle.judge.specs.Inside.Search.{situations, marked, Followed}

-- marking either changes nothing, where the bit was set, or sets both bits
pub marked_same : (m : List ℕ) (i : ℕ) → bit m i ≡ 1 → marked m i ≡ m
unfolding marked
marked_same m i one = rw (eq-eqb (bit m i) 1 one) refl

marked_new : (m : List ℕ) (i : ℕ) → ¬ (bit m i ≡ 1) → marked m i ≡ with_bit (with_bit m i) (i + situations)
unfolding marked
marked_new m i zero = rw (ne_eqb (bit m i) 1 zero) refl

pub marked_both : (m n l : List ℕ) (i : ℕ) → ¬ (bit m i ≡ 1) → n ≡ with_bit m i → l ≡ with_bit n (i + situations) → l ≡ marked m i
marked_both m n l i zero one both = both ∙ ap (λ (k : List ℕ). with_bit k (i + situations)) one ∙ sym (marked_new m i zero)

-- a property of marks that both have
marking : (P : List ℕ → Type 0) (m : List ℕ) (i : ℕ) → (bit m i ≡ 1 → P m) → (¬ (bit m i ≡ 1) → P (with_bit (with_bit m i) (i + situations))) → P (marked m i)
marking P m i same new = by_cases (ℕ_discrete (bit m i) 1)
  where
    by_cases : Dec (bit m i ≡ 1) → P (marked m i)
    by_cases (yes one) = subst P (sym (marked_same m i one)) (same one)
    by_cases (no zero) = subst P (sym (marked_new m i zero)) (new zero)

module _ (m : List ℕ) (i : ℕ) where
  -- the marks stay as many
  pub length_marked : length (marked m i) ≡ length m
  length_marked =
      marking (λ l. length l ≡ length m) m i (λ one. refl) (λ zero. length-with_bit (with_bit m i) (i + situations) ∙ length-with_bit m i)

  -- a bit that is set stays set
  pub marked_kept : (j : ℕ) → bit m j ≡ 1 → bit (marked m i) j ≡ 1
  marked_kept j one =
      marking (λ l. bit l j ≡ 1) m i (λ z. one) (λ z. bit-set_kept (with_bit m i) (i + situations) j (bit-set_kept m i j one))

  -- of the first half only bit i can come to be set
  pub marked_only : (j : ℕ) → j < situations → bit (marked m i) j ≡ 1 → (j ≡ i) ⊎ (bit m j ≡ 1)
  marked_only j low = marking (λ l. bit l j ≡ 1 → (j ≡ i) ⊎ (bit m j ≡ 1)) m i (λ z one. inr one) (λ z one. new one (ℕ_discrete j i))
    where
      new : bit (with_bit (with_bit m i) (i + situations)) j ≡ 1 → Dec (j ≡ i) → (j ≡ i) ⊎ (bit m j ≡ 1)
      new one (yes e) = inl e
      new one (no n) = inr (sym (bit-set_other m i j n) ∙ sym (bit-set_other (with_bit m i) (i + situations) j (omega arith)) ∙ one)

  module _ (low : i < situations) where
    -- of the second half only bit i can
    pub marked_only_pending : (j : ℕ) → bit (marked m i) (j + situations) ≡ 1 → (j ≡ i) ⊎ (bit m (j + situations) ≡ 1)
    marked_only_pending j = marking (λ l. bit l (j + situations) ≡ 1 → (j ≡ i) ⊎ (bit m (j + situations) ≡ 1)) m i (λ z one. inr one) (λ z one. new one (ℕ_discrete j i))
      where
        new : bit (with_bit (with_bit m i) (i + situations)) (j + situations) ≡ 1 → Dec (j ≡ i) → (j ≡ i) ⊎ (bit m (j + situations) ≡ 1)
        new one (yes e) = inl e
        new one (no n) =
            inr (sym (bit-set_other m i (j + situations) (omega arith)) ∙ sym (bit-set_other (with_bit m i) (i + situations) (j + situations) (omega arith)) ∙ one)

    module _ (room : length m ≡ mark_bytes) where
      -- bit i is set afterwards
      pub marked-set : bit (marked m i) i ≡ 1
      marked-set = marking (λ l. bit l i ≡ 1) m i (λ one. one) (λ zero. bit-set_kept (with_bit m i) (i + situations) i (bit-set m i (omega arith)))

      -- the same situations are followed: one that is newly marked is pending
      pub marked_followed : (j : ℕ) → j < situations → Followed m j → Followed (marked m i) j
      marked_followed j lowj f = marking (λ l. Followed l j) m i (λ one. f) (λ zero. new zero)
        where
          new : ¬ (bit m i ≡ 1) → Followed (with_bit (with_bit m i) (i + situations)) j
          new zero =
              let other : ¬ (j ≡ i) = λ e. zero (subst (λ k. bit m k ≡ 1) e f.reached) in
              record {
                reached = bit-set_other (with_bit m i) (i + situations) j (omega arith) ∙ bit-set_other m i j other ∙ f.reached;
                not_pending =
                    bit-set_other (with_bit m i) (i + situations) (j + situations) (λ e. other (omega arith))
                    ∙ bit-set_other m i (j + situations) (omega arith) ∙ f.not_pending;
              }

      pub marked_followed-before : (j : ℕ) → j < situations → Followed (marked m i) j → Followed m j
      marked_followed-before j lowj = marking (λ l. Followed l j → Followed m j) m i (λ one f. f) (λ zero f. new f)
        where
          new : Followed (with_bit (with_bit m i) (i + situations)) j → Followed m j
          new f =
              let both = bit-set (with_bit m i) (i + situations) (omega (arith, length-with_bit m i)) in
              let other : ¬ (j ≡ i) = λ e. omega (arith, f.not_pending, subst (λ k. bit (with_bit (with_bit m i) (i + situations)) (k + situations) ≡ 1) (sym e) both) in
              record {
                reached = sym (bit-set_other m i j other) ∙ sym (bit-set_other (with_bit m i) (i + situations) j (omega arith)) ∙ f.reached;
                not_pending =
                    sym (bit-set_other m i (j + situations) (omega arith))
                    ∙ sym (bit-set_other (with_bit m i) (i + situations) (j + situations) (λ e. other (omega arith))) ∙ f.not_pending;
              }
