-- What compiling promises is kept: by what reading says of a text and what the emitter writes.
use Prim.Native.Nat.{ℕ, ◌≤◌, ◌<◌}
use native.Mathlib.Omega.{arith}
use mathlib.Core.Path.{◌≡◌, refl, sym, ◌∙◌}
use mathlib.Core.Logic.{inl, inr}
use mathlib.Core.List.{List, [], ◌∷◌}
use lib.ListN.{length}
use Rattle.table.specs.Refusal.{because, First}
use Rattle.rule.specs.Tree.{Program}
use Rattle.rule.specs.Counts.{program_states, program_rows}
use Rattle.rule.specs.Faults.{FirstFault, Reads, TooMany}
use Rattle.reader.specs.Reading.{reasons as reading_reasons, Whole, ReadsTo}
use Rattle.reader.specs.declared.answers.Counts.{Counts}
use Rattle.construction.specs.Construction.{construct}
use Rattle.construction.specs.Compile.{image_room, reasons, Compiles}
use Rattle.compiler.specs.Inside.Setting.{Fits, Emittable, Images}
use Rattle.table.specs.declared.reason.Reason.TheVariants as Named
use Rattle.table.specs.declared.reason.Refusal.{Refusal}
use Rattle.std.specs.Prelude.{Ok, Err}
use Rattle.construction.proofs.Counts.{states_formula, rows_formula}
use Rattle.construction.proofs.Agree.{agree}

module _ (text : List ℕ) where
  -- too many by one count, so too many by another that is the same
  same_many : {size other : Program → ℕ} {most place : ℕ}
      → ((p : Program) → Reads text p → size p ≡ other p)
      → TooMany text size most place
      → TooMany text other most place
  same_many same m =
      record { program = m.program; reads = m.reads; over = omega (arith, m.over, same m.program m.reads); at_end = m.at_end }

  states_same : (p : Program) → Reads text p → program_states p ≡ (construct p).states
  states_same p reads = sym (states_formula p)

  rows_same : (p : Program) → Reads text p → program_rows p ≡ length (construct p).rows
  rows_same p reads = sym (rows_formula p reads.faultless)

  -- the reasons that lie in the text, by what is counted and by the table
  by_table : (n p : ℕ)
      → First (FirstFault text ∷ because 10 (TooMany text program_states 128) ∷ because 11 (TooMany text program_rows 1024) ∷ []) n p
      → First
      (FirstFault text
      ∷ because 10 (TooMany text (λ x. (construct x).states) 128)
      ∷ because 11 (TooMany text (λ x. length (construct x).rows) 1024)
      ∷ [])
      n
      p
  unfolding First
  by_table n p (inl fault) = inl fault
  by_table n p (inr (none, inl (is, many))) = inr (none, inl (is, same_many states_same many))
  by_table n p (inr (none, inr (few, inl (is, many)))) =
      inr (
        none,
        inr (λ m q h. few m q (h.0, same_many (λ x reads. sym (states_same x reads)) h.1), inl (is, same_many rows_same many)),
      )
  by_table n p (inr (none, inr (few, inr nothing))) = absurd nothing.1

module _ (text before : List ℕ) where
  pub too_long : 4096 < length text → Compiles text before before (Err (record { reason = Named.LongText; place = 0 }))
  unfolding First
  too_long long = record { right = record { first = inl (refl, (refl, long)); unchanged = refl } }

  module _ (short : length text ≤ 4096) where
    not_long : (n p : ℕ) → (n ≡ 1) × ((p ≡ 0) × (4096 < length text)) → ⊥
    not_long n p h = omega (arith, h.1.1)

    pub too_short : length before < image_room → Compiles text before before (Err (record { reason = Named.ShortImage; place = 0 }))
    unfolding First
    too_short little = record { right = record { first = inr (not_long, inl (refl, (refl, little))); unchanged = refl } }

    module _ (room : image_room ≤ length before) where
      not_short : (n p : ℕ) → (n ≡ 2) × ((p ≡ 0) × (length before < image_room)) → ⊥
      not_short n p h = omega (arith, h.1.1)

      -- what reading refuses is refused
      refused_first : (n p : ℕ) → First (reading_reasons text) n p → First (reasons text before) n p
      unfolding First
      refused_first n p (inl h) = absurd (not_long n p h)
      refused_first n p (inr (long, h)) = inr (not_long, inr (not_short, by_table text n p h))

      pub refused_as_read : {r : Refusal} → ReadsTo text (Err r) → Compiles text before before (Err r)
      refused_as_read reads = record { right = record { first = refused_first _ _ reads.right; unchanged = refl } }

      -- what it takes can be emitted
      module _ {counts : Counts} (reads : ReadsTo text (Ok counts)) where
        whole : Whole text counts.states counts.rows
        whole = reads.right

        fits : Fits text before counts.states counts.rows whole.program
        fits =
            record {
              reads = whole.reads;
              states_are = whole.states_are ∙ states_same text whole.program whole.reads;
              rows_are = whole.rows_are ∙ rows_same text whole.program whole.reads;
              few_states = whole.few_states;
              few_rows = whole.few_rows;
              room = room;
            }

        pub emittable_as_read : Emittable text before counts.states counts.rows
        emittable_as_read = record { program = whole.program; fits = fits }

        -- and is compiled
        pub compiled_as_read : {after : List ℕ} {bytes : ℕ} → Images text before after counts.states counts.rows bytes → Compiles text before after (Ok (record { bytes = bytes; states = counts.states; rows = counts.rows }))
        compiled_as_read images =
            let image = images.images fits in
            let few : (construct whole.program).states ≤ 128 = omega (arith, fits.states_are, fits.few_states) in
            record {
              right = record {
                program = whole.program;
                compilable = record {
                  short = short;
                  reads = whole.reads;
                  states = few;
                  rows = omega (arith, fits.rows_are, fits.few_rows);
                };
                room = room;
                bytes_are = image.long;
                states_are = fits.states_are;
                rows_are = fits.rows_are;
                image = image.written;
                agree = agree whole.program whole.reads.faultless few;
              };
            }
