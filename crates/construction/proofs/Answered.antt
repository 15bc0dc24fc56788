-- What compiling gives where several reasons to refuse hold: 1, then 2, then the first fault of 3 to 9, then 10, then 11. And that
-- the length that it states is the image's, and the bytes behind it stay.
use Prim.Native.Nat.{ℕ, ◌≤◌, ◌<◌}
use native.Mathlib.Omega.{arith}
use mathlib.Core.Path.{◌≡◌, refl, ap, ◌∙◌}
use mathlib.Core.Logic.{inl, inr}
use mathlib.Core.List.{List, ◌++◌}
use lib.ListN.{length, take, drop}
use lib.Seq.{take-append_seam, drop-append_seam}
use Rattle.table.specs.Image.{encode}
use Rattle.table.specs.Refusal.{First}
use Rattle.rule.specs.Tree.{Program}
use Rattle.rule.specs.Faults.{FirstFault, Reads}
use Rattle.rule.proofs.Outcomes.{first_fault_once, reads_no-fault, reads_once}
use Rattle.construction.specs.Construction.{construct}
use Rattle.construction.specs.Compile.{reasons, Compiled}

module _ (text image : List ℕ) {n p : ℕ} where
  -- a text over 4,096 bytes is number 1, whatever the buffer is
  pub one_first : 4096 < length text → First (reasons text image) n p → (n ≡ 1) × (p ≡ 0)
  unfolding First
  one_first long (inl one) = (one.0, one.1.0)
  one_first long (inr (not1, later)) = absurd (not1 1 0 (refl, (refl, long)))

  module _ (short : length text ≤ 4096) where
    -- then a buffer under 8,246 bytes is number 2, whatever the text is
    pub two_next : length image < 8246 → First (reasons text image) n p → (n ≡ 2) × (p ≡ 0)
    unfolding First
    two_next small (inl one) = absurd (omega (arith, one.1.1))
    two_next small (inr (not1, inl two)) = (two.0, two.1.0)
    two_next small (inr (not1, inr (not2, later))) = absurd (not2 2 0 (refl, (refl, small)))

    module _ (room : 8246 ≤ length image) where
      -- then the first fault of the text
      pub fault_next : {m q : ℕ} → FirstFault text m q → First (reasons text image) n p → (n ≡ m) × (p ≡ q)
      unfolding First
      fault_next f (inl one) = absurd (omega (arith, one.1.1))
      fault_next f (inr (not1, inl two)) = absurd (omega (arith, two.1.1))
      fault_next f (inr (not1, inr (not2, inl g))) = first_fault_once g f
      fault_next f (inr (not1, inr (not2, inr (none, later)))) = absurd (none _ _ f)

      module _ {program : Program} (reads : Reads text program) where
        -- then a program with over 128 states is number 10, at the text's end
        pub ten_next : 128 < (construct program).states → First (reasons text image) n p → (n ≡ 10) × (p ≡ length text)
        unfolding First
        ten_next over (inl one) = absurd (omega (arith, one.1.1))
        ten_next over (inr (not1, inl two)) = absurd (omega (arith, two.1.1))
        ten_next over (inr (not1, inr (not2, inl g))) = absurd (reads_no-fault reads g)
        ten_next over (inr (not1, inr (not2, inr (none, inl ten)))) = (ten.0, ten.1.at_end)
        ten_next over (inr (not1, inr (not2, inr (none, inr (not10, later))))) =
            absurd (not10 10 (length text) (refl, record { program = program; reads = reads; over = over; at_end = refl }))

        -- and one with over 1,024 rows number 11
        pub eleven_last : (construct program).states ≤ 128 → First (reasons text image) n p → (n ≡ 11) × (p ≡ length text)
        unfolding First
        eleven_last few (inl one) = absurd (omega (arith, one.1.1))
        eleven_last few (inr (not1, inl two)) = absurd (omega (arith, two.1.1))
        eleven_last few (inr (not1, inr (not2, inl g))) = absurd (reads_no-fault reads g)
        eleven_last few (inr (not1, inr (not2, inr (none, inl ten)))) =
            let same = ap (λ (x : Program). (construct x).states) (reads_once reads ten.1.reads) in
            absurd (omega (arith, same, ten.1.over))
        eleven_last few (inr (not1, inr (not2, inr (none, inr (not10, inl eleven))))) = (eleven.0, eleven.1.at_end)
        eleven_last few (inr (not1, inr (not2, inr (none, inr (not10, inr (not11, nothing)))))) = absurd nothing

front : (xs ys : List ℕ) {after : List ℕ} → after ≡ xs ++ ys → take (length xs) after ≡ xs
front xs ys e = ap (take (length xs)) e ∙ take-append_seam xs ys

behind : (xs ys : List ℕ) {after : List ℕ} → after ≡ xs ++ ys → drop (length xs) after ≡ ys
behind xs ys e = ap (drop (length xs)) e ∙ drop-append_seam xs ys

module _ {text before after : List ℕ} {bytes states rows : ℕ} (c : Compiled text before after bytes states rows) where
  -- a success states the image's length: so many bytes of the buffer are the image
  pub stated_length : take bytes after ≡ encode (construct c.program)
  stated_length = ap (λ (k : ℕ). take k after) c.bytes_are ∙ front (encode (construct c.program)) _ c.image

  -- and those behind it are as they were
  pub rest_kept : drop bytes after ≡ drop bytes before
  rest_kept = ap (λ (k : ℕ). drop k after) c.bytes_are ∙ behind (encode (construct c.program)) _ c.image
