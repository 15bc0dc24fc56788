-- What comes of a text is what reading promises, and nothing else is.
use Prim.Native.Nat.{ℕ, ◌≤◌, ◌<◌}
use native.Mathlib.Omega.{arith}
use mathlib.Core.Path.{◌≡◌, refl, sym, ap, ◌∙◌}
use mathlib.Core.Logic.{inl, inr}
use mathlib.Core.List.{List}
use lib.ListN.{length}
use Rattle.std.specs.Prelude.{Result, Ok, Err}
use Rattle.table.specs.Refusal.{First, number_of}
use Rattle.table.specs.declared.reason.Reason.TheVariants as Reason
use Rattle.table.specs.declared.reason.Refusal.{Refusal}
use Rattle.table.proofs.Refusal.{Single, Gives, Each, single_at_zero, first_once, first_has}
use Rattle.rule.specs.Counts.{program_states, program_rows}
use Rattle.rule.specs.Faults.{FirstFault, TooMany}
use Rattle.rule.specs.Inside.Machine.{taken, refused, outcome}
use Rattle.rule.proofs.Outcomes.{refused_fault, taken_reads, reads_no-fault, reads_once}
use Rattle.rule.proofs.Reasons.{single_text, no_text}
use Rattle.reader.specs.Reading.{reasons, Whole, ReadsTo}
use Rattle.reader.specs.declared.answers.Counts.{Counts}
use Rattle.table.proofs.Reasons.{refusal_once}

module _ (text : List ℕ) where
  pub too_long : 4096 < length text → ReadsTo text (Err (record { reason = Reason.LongText; place = 0 }))
  unfolding First
  too_long h = record { right = inl (refl, (refl, h)) }

  module _ (short : length text ≤ 4096) where
    not_long : (n p : ℕ) → (n ≡ 1) × ((p ≡ 0) × (4096 < length text)) → ⊥
    not_long n p h = omega (arith, h.1.1)

    pub faulty : {r : Refusal} → outcome text ≡ refused (number_of r.reason) r.place → ReadsTo text (Err r)
    unfolding First
    faulty e = record { right = inr (not_long, inl (refused_fault e)) }

    module _ {a b : ℕ} (e : outcome text ≡ taken a b) where
      no_fault : (n p : ℕ) → ¬ FirstFault text n p
      no_fault n p = reads_no-fault (taken_reads e).1

      pub too_many_states : 128 < a → ReadsTo text (Err (record { reason = Reason.States; place = length text }))
      unfolding First
      too_many_states over =
          let (x, reads, states, rows) = taken_reads e in
          record { right = inr (not_long, inr (no_fault, inl (refl, record { program = x; reads = reads; over = omega (arith, states); at_end = refl }))) }

      few_states_lem : a ≤ 128 → (n p : ℕ) → (n ≡ 10) × TooMany text program_states 128 p → ⊥
      few_states_lem few n p h =
          let (x, reads, states, rows) = taken_reads e in
          omega (arith, few, h.1.over, states, ap program_states (reads_once reads h.1.reads))

      pub too_many_rows : a ≤ 128 → 1024 < b → ReadsTo text (Err (record { reason = Reason.Rows; place = length text }))
      unfolding First
      too_many_rows few over =
          let (x, reads, states, rows) = taken_reads e in
          record {
            right = inr (not_long, inr (no_fault, inr (few_states_lem few, inl (refl, record { program = x; reads = reads; over = omega (arith, rows); at_end = refl }))));
          }

      pub all_taken : a ≤ 128 → b ≤ 1024 → ReadsTo text (Ok (record { states = a; rows = b }))
      all_taken few_states few_rows =
          let (x, reads, states, rows) = taken_reads e in
          record {
            right =
                record {
                  program = x;
                  short = short;
                  reads = reads;
                  states_are = states;
                  rows_are = rows;
                  few_states = few_states;
                  few_rows = few_rows;
                };
          }

  single_reasons : Each Single (reasons text)
  single_reasons = (single_at_zero, single_text text program_states program_rows)

  -- none holds of a text that is taken
  no_reason : {a b : ℕ} → Whole text a b → Each (Gives (λ n p. ⊥)) (reasons text)
  no_reason w = (
    λ n p h. omega (arith, h.1.1, w.short),
    no_text text program_states program_rows w.reads (omega (arith, w.states_are, w.few_states)) (omega (arith, w.rows_are, w.few_rows)),
  )

  whole_once : {c d : Counts} → Whole text c.states c.rows → Whole text d.states d.rows → c ≡ d
  whole_once v w =
      let same = reads_once v.reads w.reads in
      let states = v.states_are ∙ ap program_states same ∙ sym w.states_are in
      let rows = v.rows_are ∙ ap program_rows same ∙ sym w.rows_are in
      λ i. record { states = states i; rows = rows i }

  -- no second answer fits
  pub reading_once : (r s : Result Counts Refusal) → ReadsTo text r → ReadsTo text s → r ≡ s
  reading_once (Ok c) (Ok d) h g = ap (λ (c : Counts). Ok c) (whole_once h.right g.right)
  reading_once (Ok c) (Err r) h g = absurd (first_has (λ i j. ⊥) (reasons text) (no_reason h.right) g.right)
  reading_once (Err r) (Ok c) h g = absurd (first_has (λ i j. ⊥) (reasons text) (no_reason g.right) h.right)
  reading_once (Err r) (Err s) h g =
      let once = first_once (reasons text) single_reasons h.right g.right in
      ap (λ (r : Refusal). Err r) (refusal_once once.0 once.1)
