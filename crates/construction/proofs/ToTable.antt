-- Program to table: whatever a run of the program comes to, a run of the table reaches a state that stands for it.
-- Each step of the program is one row or several, with the counter as it is until the last.
use Prim.Native.Nat.{ℕ, ◌+◌, ◌≤◌}
use mathlib.Core.Path.{◌≡◌, refl, sym, ◌∙◌}
use mathlib.Core.Logic.{◌⊎◌, ⊎_elim}
use mathlib.Core.Bool.{Bool, true, false, not}
use mathlib.Core.Option.{some}
use Rattle.table.specs.Table.{Row, Accepting}
use Rattle.cells.specs.Cell.{symbol_on, last}
use Rattle.machine.specs.Step.{symbol_fits, counter_fits, Takes}
use Rattle.machine.specs.Run.{Reach, begins, goes, Accepts}
use Rattle.machine.proofs.RowFits.{any_fits, either_fits, fits_row}
use Rattle.rule.specs.Tree.{
  Condition,
  atom,
  parens,
  negation,
  both,
  either,
  Plain,
  Statement,
  plain,
  accept,
  Rest,
  Statements,
  ◌then◌,
  Arms,
}
use Rattle.rule.specs.Meaning as Meaning
use Rattle.rule.specs.Meaning.{
  holds,
  cell_after,
  counter_after,
  ◌before◌,
  otherwise,
  Arm,
  last_one,
  this_one,
  another,
  Continues,
  if_holds,
  if_fails,
  while_holds,
  while_fails,
  goes_round,
  leaves_loop,
  first_arm,
  other_arm,
  ProgramSituation,
  does,
  continues,
  ProgramReach,
  ProgramAccepts,
}
use Rattle.rule.specs.Inside.Within.{ConditionWithin, PlainWithin, StatementWithin, RestWithin, StatementsWithin, ArmsWithin}
use Rattle.construction.specs.Construction.{
  free,
  plain_row,
  Walk,
  one_after_other,
  one_or_other,
  walk,
  Part,
  test,
  arm_part,
  statement_part,
  rest_part,
  statements_part,
  arms_part,
}
use Rattle.construction.proofs.Every.{Every}
use Rattle.construction.proofs.Effects.{plain_moves, plain_changes, Still}
use Rattle.construction.proofs.Atoms.{atom_pass}
use Rattle.construction.proofs.Conditions.{
  turned,
  both_true,
  one_false,
  one_true,
  both_false,
  still_moves,
  still_changes,
  atom_between,
}
use Rattle.construction.proofs.Trial.{Trial, comes_inside, comes_low}
use Rattle.construction.proofs.Fragments.{
  every_left,
  every_right,
  every_head,
  every_tail,
  IsRow,
  Has,
  HasIf,
  has_if,
  has_loop,
  has_arm,
  has_first,
  has_second,
  StandsFor,
  front,
  onward,
  block_stands,
  rest_stands,
}

module _ (x : Trial) where
  open x use {table as t, word, limit}

  -- a run of the table comes here
  abbrev At : ℕ → ℕ → ℕ → Type 0
  At s cell counter = Reach t word limit (record { state = s; cell = cell; counter = counter })

  module _ {cell counter : ℕ} (inside : cell ≤ last word) (low : counter ≤ limit) where
    -- a row that only tests is taken where it fits
    still_takes :
        (r : Row)
        → Still r
        → symbol_fits t.alphabet r.symbol (symbol_on word cell) ≡ true
        → counter_fits r.test counter ≡ true
        → Takes t word r
        (record { state = r.from; cell = cell; counter = counter })
        (record { state = r.to; cell = cell; counter = counter })
    still_takes r still e f =
        record {
          fits = fits_row (record { state = refl; symbol = e; counter = f });
          state = refl;
          cell = sym (still_moves word cell still inside);
          counter = still_changes t.decr_on_zero counter still;
        }

    -- and leads on
    still_goes :
        (r : Row)
        → IsRow t r
        → Still r
        → symbol_fits t.alphabet r.symbol (symbol_on word cell) ≡ true
        → counter_fits r.test counter ≡ true
        → At r.from cell counter
        → At r.to cell counter
    still_goes r m still e f here = goes here (record { row = r; listed = m; takes = still_takes r still e f }) low

    -- over a free row
    free_goes : (p q : ℕ) → IsRow t (free p q) → At p cell counter → At q cell counter
    free_goes p q m here =
        still_goes (free p q) m (record { move = refl; change = refl }) (any_fits t.alphabet (symbol_on word cell)) (either_fits counter) here

    -- the rows of a walk lead from p to q where this holds
    record Leads (w : Walk) (A : Type 0) : Type 0 where
      leads : (p q next : ℕ) → A → Every (IsRow t) (w p q next).rows → At p cell counter → At q cell counter

    -- and where something follows from which it does
    leads_where : {w : Walk} {A B : Type 0} → (B → A) → Leads w A → Leads w B
    leads_where f l = record { leads = λ p q next h. l.leads p q next (f h) }

    -- `a && b`: where the one and the other hold
    after_leads : {a b : Walk} {A B : Type 0} → Leads a A → Leads b B → Leads (one_after_other a b) (A × B)
    unfolding one_after_other
    after_leads {a} f g =
        record {
          leads =
              λ p q next h rows here.
              let first = a p next (next + 1) in
              g.leads next q first.next h.1 (every_right first.rows _ rows)
              (f.leads p next (next + 1) h.0 (every_left first.rows _ rows) here);
        }

    -- `a || b`: where one of them holds
    or_leads : {a b : Walk} {A B : Type 0} → Leads a A → Leads b B → Leads (one_or_other a b) (A ⊎ B)
    unfolding one_or_other
    or_leads {a} f g =
        record {
          leads =
              λ p q next h rows here.
              let first = a p q next in
              ⊎_elim
              (λ k. f.leads p q next k (every_left first.rows _ rows) here)
              (λ k. g.leads p q first.next k (every_right first.rows _ rows) here)
              h;
        }

    -- a condition's rows lead where it has the truth value of its sign
    walk_leads :
        (c : Condition) (sign : Bool)
        → ConditionWithin t.alphabet c
        → Leads (walk t.alphabet c sign) (holds (symbol_on word cell) counter c ≡ sign)
    unfolding walk holds ConditionWithin
    walk_leads (atom l a) sign within =
        record {
          leads =
              λ p q next e rows here.
              let f = atom_pass t.alphabet x.few x.different (symbol_on word cell) (x.known cell) counter p q a sign within e in
              let r = (atom_between t.alphabet a sign p q within).at f.row f.listed in
              rw r.to at
              (still_goes f.row (rows.at f.row f.listed) r.still f.symbol f.test (rw r.from here));
        }
    walk_leads (parens o c) sign within = walk_leads c sign within
    walk_leads (negation o c) sign within = leads_where (turned _ sign).0 (walk_leads c (not sign) within)
    walk_leads (both c d) true within =
        leads_where (both_true _ _).0 (after_leads (walk_leads c true within.0) (walk_leads d true within.1))
    walk_leads (both c d) false within =
        leads_where (one_false _ _).0 (or_leads (walk_leads c false within.0) (walk_leads d false within.1))
    walk_leads (either c d) true within =
        leads_where (one_true _ _).0 (or_leads (walk_leads c true within.0) (walk_leads d true within.1))
    walk_leads (either c d) false within =
        leads_where (both_false _ _).0 (after_leads (walk_leads c false within.0) (walk_leads d false within.1))

    -- where a condition holds, its test leads to the one state
    holding_leads :
        (c : Condition) (p u v next : ℕ)
        → ConditionWithin t.alphabet c
        → holds (symbol_on word cell) counter c ≡ true
        → Every (IsRow t) (test t.alphabet c p u v next).rows
        → At p cell counter
        → At u cell counter
    unfolding test
    holding_leads c p u v next within e rows =
        (walk_leads c true within).leads p u next e (every_left (walk t.alphabet c true p u next).rows _ rows)

    -- and where it fails, to the other
    failing_leads :
        (c : Condition) (p u v next : ℕ)
        → ConditionWithin t.alphabet c
        → holds (symbol_on word cell) counter c ≡ false
        → Every (IsRow t) (test t.alphabet c p u v next).rows
        → At p cell counter
        → At v cell counter
    unfolding test
    failing_leads c p u v next within e rows =
        let holding = walk t.alphabet c true p u next in
        (walk_leads c false within).leads p v holding.next e (every_right holding.rows _ rows)

  -- a run of the table comes to a state that stands for these statements
  record Arrived (k : Statements) (cell counter : ℕ) : Type 0 where
    state : ℕ
    reached : At state cell counter
    stands : StandsFor t state k

  -- a run of the table comes to the state where this statement's part starts
  record Starts (a : Statement) (rest : Statements) (cell counter : ℕ) : Type 0 where
    state : ℕ
    next : ℕ
    reached : At state cell counter
    within : StatementWithin t.alphabet a
    has : Has t (statement_part t.alphabet a state next)
    after : StandsFor t next rest

  -- that state stands for the statement and the rest
  again : {a : Statement} {rest : Statements} {cell counter : ℕ} (f : Starts a rest cell counter) → StandsFor t f.state (a then rest)
  again f = front f.next f.within f.has f.after

  module _ {cell counter : ℕ} (inside : cell ≤ last word) (low : counter ≤ limit) where
    -- over free rows to where the first statement's part starts
    settle : {s : ℕ} {a : Statement} {rest : Statements} → At s cell counter → StandsFor t s (a then rest) → Starts a rest cell counter
    settle here (front {s = s} next within has after) =
        record { state = s; next = next; reached = here; within = within; has = has; after = after }
    settle here (onward m more) = settle (free_goes inside low _ _ m here) more

    -- to a block's first state, where a free row leads from the block's exit to q
    block_arrives :
        (b : Statements) (s q next : ℕ) {k : Statements}
        → StatementsWithin t.alphabet b
        → Has t (statements_part t.alphabet b s next)
        → IsRow t (free (statements_part t.alphabet b s next).exit q)
        → StandsFor t q k
        → At s cell counter
        → Arrived (b before k) cell counter
    block_arrives b s q next within has out after here =
        record { state = s; reached = here; stands = block_stands b s next within has (onward out after) }

    -- into an arm
    arm_arrives :
        (b : Statements) (p a q next : ℕ) {rest : Statements}
        → StatementsWithin t.alphabet b
        → Has t (arm_part (statements_part t.alphabet b a next) p a q)
        → StandsFor t q rest
        → At p cell counter
        → Arrived (b before rest) cell counter
    arm_arrives b p a q next within has after here =
        let rows = has_arm has in
        block_arrives b a q next within rows.body_has rows.out after (free_goes inside low p a rows.into here)

    -- into one of several arms
    arms_arrive :
        {b : Statements} {a : Arms} (p q next : ℕ) {rest : Statements}
        → Arm b a
        → ArmsWithin t.alphabet a
        → Has t (arms_part t.alphabet a p q next)
        → StandsFor t q rest
        → At p cell counter
        → Arrived (b before rest) cell counter
    unfolding arms_part ArmsWithin
    arms_arrive p q next (last_one {b = b}) within has after here = arm_arrives b p next q (next + 1) within has after here
    arms_arrive p q next (this_one {b = b}) within has after here =
        arm_arrives b p next q (next + 1) within.0 (has_first _ _ has) after here
    arms_arrive p q next (another m) within has after here =
        arms_arrive p q _ m within.1 (has_second _ _ has) after here

    -- into the block of an if whose condition holds
    yes_arrives :
        (c : Condition) (b : Statements) (p u v q next n : ℕ) {no_part : Part} {rest : Statements}
        → ConditionWithin t.alphabet c
        → StatementsWithin t.alphabet b
        → HasIf t (test t.alphabet c p u v next) (statements_part t.alphabet b u n) no_part q
        → StandsFor t q rest
        → At p cell counter
        → holds (symbol_on word cell) counter c ≡ true
        → Arrived (b before rest) cell counter
    yes_arrives c b p u v q next n within within' rows after here e =
        block_arrives b u q n within' rows.yes_has rows.yes_free after
        (holding_leads inside low c p u v next within e rows.testing here)

    -- into the rest of an if whose condition fails
    no_arrives :
        (c : Condition) (r : Rest) (p u v q next n : ℕ) {yes_part : Part} {rest : Statements}
        → ConditionWithin t.alphabet c
        → RestWithin t.alphabet r
        → HasIf t (test t.alphabet c p u v next) yes_part (rest_part t.alphabet r v n) q
        → StandsFor t q rest
        → At p cell counter
        → holds (symbol_on word cell) counter c ≡ false
        → Arrived (otherwise r before rest) cell counter
    no_arrives c r p u v q next n within within' rows after here e =
        record {
          state = v;
          reached = failing_leads inside low c p u v next within e rows.testing here;
          stands = rest_stands r v n within' rows.no_has (onward rows.no_free after);
        }

    -- out of a loop
    out_arrives : {a : Statement} {rest : Statements} (f : Starts a rest cell counter) → At f.next cell counter → Arrived rest cell counter
    out_arrives f here = record { state = f.next; reached = here; stands = f.after }

    -- a statement turns into others: over the rows of its test, or over a free row
    turns_arrives :
        {a : Statement} {rest k : Statements}
        → Continues (symbol_on word cell) counter a rest k
        → Starts a rest cell counter
        → Arrived k cell counter
    unfolding statement_part statements_part StatementWithin StatementsWithin ◌before◌
    turns_arrives (if_holds {c = c} {b = b} e) f =
        yes_arrives c b _ _ _ _ _ _ f.within.0 f.within.1 (has_if f.has) f.after f.reached e
    turns_arrives (if_fails {c = c} {e = r} e) f =
        no_arrives c r _ _ _ _ _ _ f.within.0 f.within.2 (has_if f.has) f.after f.reached e
    turns_arrives (while_holds {c = c} {b = b} e) f =
        let rows = has_loop _ f.has in
        block_arrives b _ _ _ f.within.1 rows.body_has rows.back (again f)
        (holding_leads inside low c _ _ _ _ f.within.0 e rows.starting f.reached)
    turns_arrives (while_fails {c = c} e) f =
        let rows = has_loop _ f.has in
        out_arrives f (failing_leads inside low c _ _ _ _ f.within.0 e rows.starting f.reached)
    turns_arrives (goes_round {b = b}) f =
        let rows = has_loop _ f.has in
        block_arrives b _ _ _ f.within rows.body_has rows.back (again f)
        (free_goes inside low _ _ (every_head rows.starting) f.reached)
    turns_arrives leaves_loop f =
        let rows = has_loop _ f.has in
        out_arrives f (free_goes inside low _ _ (every_head (every_tail rows.starting)) f.reached)
    turns_arrives (first_arm {b = b}) f =
        arm_arrives b _ _ _ _ f.within.0 (has_first _ _ f.has) f.after f.reached
    turns_arrives (other_arm m) f =
        arms_arrive _ _ _ m f.within.1 (has_second _ _ f.has) f.after f.reached

    -- a plain statement's row is taken where the statement can be done
    plain_takes :
        (e : Plain) (p q counter' : ℕ)
        → PlainWithin e
        → counter_after t.decr_on_zero e counter ≡ some counter'
        → Takes t word (plain_row e p q)
        (record { state = p; cell = cell; counter = counter })
        (record { state = q; cell = cell_after word e cell; counter = counter' })
    plain_takes e p q counter' within h =
        record {
          fits =
              fits_row
              (record { state = refl; symbol = any_fits t.alphabet (symbol_on word cell); counter = either_fits counter });
          state = refl;
          cell = sym (plain_moves word e cell within inside);
          counter = plain_changes t.decr_on_zero e counter within ∙ h;
        }

    -- and leads on to the rest
    plain_arrives :
        {l : ℕ} {e : Plain} {rest : Statements} {counter' : ℕ}
        → counter_after t.decr_on_zero e counter ≡ some counter'
        → counter' ≤ limit
        → Starts (plain l e) rest cell counter
        → Arrived rest (cell_after word e cell) counter'
    unfolding statement_part StatementWithin
    plain_arrives {e} {counter' = counter'} h low' f =
        record {
          state = f.next;
          reached =
              goes f.reached
              (record {
                row = plain_row e f.state f.next;
                listed = every_head f.has.rows;
                takes = plain_takes e f.state f.next counter' f.within h;
              })
              low';
          stands = f.after;
        }

  -- where `accept` is in front, the state accepts
  accept_accepts : {l : ℕ} {rest : Statements} {cell counter : ℕ} (f : Starts (accept l) rest cell counter) → Accepting t f.state
  unfolding statement_part
  accept_accepts f = every_head f.has.accepting

  module _ (body : StandsFor t 0 x.program.body) where
    -- the table reaches what the program comes to
    comes_arrives : {s : ProgramSituation} → ProgramReach x.program word limit s → Arrived s.left s.cell s.counter
    comes_arrives Meaning.begins = record { state = 0; reached = begins; stands = body }
    comes_arrives (Meaning.goes came (does h) low) =
        let f = comes_arrives came in
        let inside = comes_inside came in
        let low' = comes_low came in
        plain_arrives inside low' (rw x.same at h) low (settle inside low' f.reached f.stands)
    comes_arrives (Meaning.goes came (continues h) low) =
        let f = comes_arrives came in
        let inside = comes_inside came in
        turns_arrives inside low h (settle inside low f.reached f.stands)

    -- where the program accepts, the table does
    pub to_table : ProgramAccepts x.program word limit → Accepts t word limit
    to_table a =
        let f = comes_arrives a.comes in
        let g = settle (comes_inside a.comes) (comes_low a.comes) f.reached f.stands in
        record { situation = _; reached = g.reached; accepting = accept_accepts g }
