-- The reasons to refuse that lie in a text itself.
use Prim.Native.Nat.{ℕ, ◌≤◌}
use native.Mathlib.Omega.{arith}
use mathlib.Core.Path.{sym, ap, ◌∙◌}
use mathlib.Core.List.{List, [], ◌∷◌}
use Rattle.table.specs.Refusal.{because}
use Rattle.table.proofs.Refusal.{Single, Gives, Each, single_because}
use Rattle.rule.specs.Tree.{Program}
use Rattle.rule.specs.Faults.{FirstFault, Reads, TooMany}
use Rattle.rule.proofs.Outcomes.{first_fault_once, reads_no-fault, reads_once}

module _ (text : List ℕ) where
  -- the reasons that lie in the text, whatever its states and rows are counted by: each gives one number and one place
  pub single_text : (states rows : Program → ℕ)
      → Each Single (FirstFault text ∷ because 10 (TooMany text states 128) ∷ because 11 (TooMany text rows 1024) ∷ [])
  single_text states rows = (
    record {
      number = λ f g. (first_fault_once f g).0;
      place = λ f g. (first_fault_once f g).1;
    },
    (single_because (λ p q f g. f.at_end ∙ sym g.at_end), (single_because (λ p q f g. f.at_end ∙ sym g.at_end), tt)),
  )

  -- and none of them holds of a program with few states and rows
  pub no_text : {x : Program} (states rows : Program → ℕ)
      → Reads text x
      → states x ≤ 128
      → rows x ≤ 1024
      → Each (Gives (λ n p. ⊥)) (FirstFault text ∷ because 10 (TooMany text states 128) ∷ because 11 (TooMany text rows 1024) ∷ [])
  no_text states rows reads few_states few_rows = (
    λ n p h. reads_no-fault reads h,
    (
      λ n p h. omega (arith, h.1.over, few_states, ap states (reads_once reads h.1.reads)),
      (λ n p h. omega (arith, h.1.over, few_rows, ap rows (reads_once reads h.1.reads)), tt),
    ),
  )
