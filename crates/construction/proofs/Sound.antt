-- Sound rows: where the program has come to what a state's role says, a step of the table keeps this.
-- A row is looked at where the construction adds it, so that no row need be sought by its state.
use Prim.Native.Nat.{ℕ, ◌+◌, ◌≤◌}
use mathlib.Core.Path.{◌≡◌, refl, sym, ◌∙◌}
use mathlib.Core.Logic.{◌⊎◌, inl, inr}
use mathlib.Core.Bool.{Bool, true, false, not}
use mathlib.Core.Option.{some, some-injective}
use mathlib.Core.List.{List, ◌∷◌, ◌++◌, Memᴰ}
use Rattle.table.specs.Table.{Row}
use Rattle.cells.specs.Cell.{Symbol, symbol_on, last, moved}
use Rattle.machine.specs.Step.{Situation, symbol_fits, counter_fits, changed, Takes}
use Rattle.machine.proofs.RowFits.{row_fits_lem}
use Rattle.rule.specs.Tree.{
  Atom,
  Condition,
  atom,
  parens,
  negation,
  both,
  either,
  Plain,
  Statement,
  plain,
  Statements,
  ◌then◌,
  Program,
}
use Rattle.rule.specs.Meaning.{atom_holds, holds, Continues, does, continues, ProgramReach, goes}
use Rattle.rule.specs.Inside.Within.{AtomWithin, ConditionWithin, PlainWithin}
use Rattle.construction.specs.Construction.{free, plain_row, atom_rows, Added, Walk, one_after_other, one_or_other, walk, test}
use Rattle.construction.proofs.Every.{Every, every_append}
use Rattle.construction.proofs.Effects.{plain_moves, plain_changes, Still}
use Rattle.construction.proofs.Atoms.{pass_atom}
use Rattle.construction.proofs.Conditions.{
  turned,
  both_true,
  one_false,
  one_true,
  both_false,
  still_moves,
  still_changes,
  atom_between,
}
use Rattle.construction.proofs.Trial.{Trial, comes_inside, comes_low}
use Rattle.construction.proofs.Roles.{Role, leaves, knows, walk_roles, test_roles, Given, given_first, given_rest}

-- the program has come to what a role says, on this cell with this counter
pub data Here (p : Program) (word : List ℕ) (limit : ℕ) : Role → ℕ → ℕ → Type 0 where
  comes : {k : Statements} {cell counter : ℕ}
      → ProgramReach p word limit (record { left = k; cell = cell; counter = counter })
      → Here p word limit (leaves k) cell counter
  knowing : {m : Role} {c : Condition} {sign : Bool} {cell counter : ℕ}
      → Here p word limit m cell counter
      → holds (symbol_on word cell) counter c ≡ sign
      → Here p word limit (knows m c sign) cell counter

module _ {p : Program} {word : List ℕ} {limit : ℕ} where
  -- it has come to these statements
  pub came : {k : Statements} {cell counter : ℕ}
      → Here p word limit (leaves k) cell counter
      → ProgramReach p word limit (record { left = k; cell = cell; counter = counter })
  came (comes h) = h

  -- what is known on the way through a test
  knew : {m : Role} {c : Condition} {sign : Bool} {cell counter : ℕ}
      → Here p word limit (knows m c sign) cell counter
      → Here p word limit m cell counter × (holds (symbol_on word cell) counter c ≡ sign)
  knew (knowing h e) = (h, e)

  -- and it stays on the word's cells
  here_inside : {m : Role} {cell counter : ℕ} → Here p word limit m cell counter → cell ≤ last word
  here_inside (comes h) = comes_inside h
  here_inside (knowing h e) = here_inside h

module _ (x : Trial) (role : ℕ → Role) where
  open x use {table as t, program as p, word, limit}

  -- the program has come to what this state's role says
  abbrev At : ℕ → ℕ → ℕ → Type 0
  At s cell counter = Here p word limit (role s) cell counter

  -- a row keeps this
  pub record Sound (r : Row) : Type 0 where
    pub keeping :
        (s u : Situation)
        → Takes t word r s u
        → u.counter ≤ limit
        → At s.state s.cell s.counter
        → At u.state u.cell u.counter

  -- a row is sound by what it does from its own state
  row_sound :
      (r : Row)
      → ((cell counter counter' : ℕ)
      → symbol_fits t.alphabet r.symbol (symbol_on word cell) ≡ true
      → counter_fits r.test counter ≡ true
      → changed t.decr_on_zero r.change counter ≡ some counter'
      → counter' ≤ limit
      → At r.from cell counter
      → At r.to (moved word r.move cell) counter')
      → Sound r
  row_sound r f =
      record {
        keeping =
            λ s u takes low h.
            let fits = row_fits_lem takes.fits in
            rw (takes.state, takes.cell)
            (f s.cell s.counter u.counter fits.symbol fits.counter takes.counter low (rw fits.state h));
      }

  -- a row that only tests
  still_sound :
      (r : Row)
      → Still r
      → ((cell counter : ℕ)
      → symbol_fits t.alphabet r.symbol (symbol_on word cell) ≡ true
      → counter_fits r.test counter ≡ true
      → At r.from cell counter
      → At r.to cell counter)
      → Sound r
  still_sound r still f =
      row_sound r
      (λ cell counter counter' e g change low h.
      let same = some-injective counter' counter (sym change ∙ still_changes t.decr_on_zero counter still) in
      rw (still_moves word cell still (here_inside h), same) (f cell counter e g h))

  -- a free row
  free_sound : (a b : ℕ) → ((cell counter : ℕ) → At a cell counter → At b cell counter) → Sound (free a b)
  free_sound a b f = still_sound (free a b) (record { move = refl; change = refl }) (λ cell counter e g. f cell counter)

  -- a plain statement's row
  pub plain_sound :
      {l : ℕ} (e : Plain) (a b : ℕ) (rest : Statements)
      → PlainWithin e
      → role a ≡ leaves (plain l e then rest)
      → role b ≡ leaves rest
      → Sound (plain_row e a b)
  plain_sound e a b rest within left right =
      row_sound (plain_row e a b)
      (λ cell counter counter' f g change low h.
      let after = sym (plain_changes t.decr_on_zero e counter within) ∙ change in
      rw (plain_moves word e cell within (here_inside h), right)
      (comes (goes (came (rw left at h)) (does (rw (← x.same) at after)) low)))

  -- where a statement turns into others, a state that leaves the one leads to a state that leaves the others
  turn :
      {a : Statement} {rest k : Statements} (s u : ℕ)
      → role s ≡ leaves (a then rest)
      → role u ≡ leaves k
      → (cell counter : ℕ)
      → Continues (symbol_on word cell) counter a rest k
      → At s cell counter
      → At u cell counter
  turn s u left right cell counter step h =
      let before = came (rw left at h) in
      rw right (comes (goes before (continues step) (comes_low before)))

  -- a free row over which it does
  pub turn_sound :
      {a : Statement} {rest k : Statements} (s u : ℕ)
      → role s ≡ leaves (a then rest)
      → role u ≡ leaves k
      → ((symbol : Symbol) (counter : ℕ) → Continues symbol counter a rest k)
      → Sound (free s u)
  turn_sound s u left right f =
      free_sound s u (λ cell counter. turn s u left right cell counter (f (symbol_on word cell) counter))

  -- a free row between two states with one role
  pub same_sound : (s u : ℕ) → role s ≡ role u → Sound (free s u)
  same_sound s u same = free_sound s u (λ cell counter h. rw same at h)

  -- what a test adds is sound, and the states after it have these roles
  pub record Tested (added : Added) (more : List Role) : Type 0 where
    pub rows : Every Sound added.rows
    pub given : Given role added.next more

  -- one such, and then another
  tested_append :
      {a b : Added} {more more' : List Role}
      → Tested a more'
      → Tested b more
      → Tested (record { rows = a.rows ++ b.rows; next = b.next }) more
  tested_append f g = record { rows = every_append _ f.rows g.rows; given = g.given }

  -- a walk is sound, from a state to another, if this takes what the one's role says to what the other's says
  record Walked (w : Walk) (roles : Role → List Role → List Role) (A : ℕ → ℕ → Type 0) : Type 0 where
    walked :
        (a b next : ℕ) (more : List Role)
        → Given role next (roles (role a) more)
        → ((cell counter : ℕ) → A cell counter → At a cell counter → At b cell counter)
        → Tested (w a b next) more

  -- and if something follows that does
  walked_where :
      {w : Walk} {roles : Role → List Role → List Role} {A B : ℕ → ℕ → Type 0}
      → ((cell counter : ℕ) → A cell counter → B cell counter)
      → Walked w roles A
      → Walked w roles B
  walked_where f l =
      record { walked = λ a b next more given k. l.walked a b next more given (λ cell counter e. k cell counter (f cell counter e)) }

  -- a condition has this truth value
  abbrev Truth : Condition → Bool → ℕ → ℕ → Type 0
  Truth c sign cell counter = holds (symbol_on word cell) counter c ≡ sign

  -- where it turns a statement into others, as above
  turn_by :
      {a : Statement} {rest k : Statements} {sign : Bool} (c : Condition) (s u : ℕ)
      → role s ≡ leaves (a then rest)
      → role u ≡ leaves k
      → ((symbol : Symbol) (counter : ℕ) → holds symbol counter c ≡ sign → Continues symbol counter a rest k)
      → (cell counter : ℕ)
      → Truth c sign cell counter
      → At s cell counter
      → At u cell counter
  turn_by c s u left right f cell counter e = turn s u left right cell counter (f (symbol_on word cell) counter e)

  -- in a state whose role knows it
  learnt :
      {c : Condition} {sign : Bool} {cell counter : ℕ} (s u : ℕ)
      → role u ≡ knows (role s) c sign
      → At u cell counter
      → At s cell counter × Truth c sign cell counter
  learnt s u e h = knew (rw e at h)

  -- `a && b`: between them the one is known
  after_walked :
      {a b : Walk} {ra rb : Role → List Role → List Role} {c : Condition} {sign : Bool} {B : ℕ → ℕ → Type 0}
      → Walked a ra (Truth c sign)
      → Walked b rb B
      → Walked
      (one_after_other a b)
      (λ m more. knows m c sign ∷ ra m (rb (knows m c sign) more))
      (λ cell counter. Truth c sign cell counter × B cell counter)
  unfolding one_after_other
  after_walked {a} f g =
      record {
        walked =
            λ s u next more given k.
            let middle = given_first given in
            let first = f.walked s next (next + 1) _ (given_rest given) (λ cell counter e h. rw middle (knowing h e)) in
            tested_append first
            (g.walked next u (a s next (next + 1)).next more (rw middle first.given)
            (λ cell counter e h. k cell counter ((learnt s next middle h).1, e) (learnt s next middle h).0));
      }

  -- `a || b`
  or_walked :
      {a b : Walk} {ra rb : Role → List Role → List Role} {A B : ℕ → ℕ → Type 0}
      → Walked a ra A
      → Walked b rb B
      → Walked (one_or_other a b) (λ m more. ra m (rb m more)) (λ cell counter. A cell counter ⊎ B cell counter)
  unfolding one_or_other
  or_walked f g =
      record {
        walked =
            λ s u next more given k.
            let first = f.walked s u next _ given (λ cell counter e. k cell counter (inl e)) in
            let second = g.walked s u _ more first.given (λ cell counter e. k cell counter (inr e)) in
            tested_append first second;
      }

  -- where a row of an atom passes, the atom has the truth value of its sign
  told :
      (a : Atom) (sign : Bool) (s u : ℕ) (r : Row) (cell counter : ℕ)
      → AtomWithin t.alphabet a
      → Memᴰ r (atom_rows t.alphabet sign a s u)
      → symbol_fits t.alphabet r.symbol (symbol_on word cell) ≡ true
      → counter_fits r.test counter ≡ true
      → atom_holds (symbol_on word cell) counter a ≡ sign
  told a sign s u r cell counter within m e f =
      pass_atom t.alphabet x.few x.different (symbol_on word cell) (x.known cell) counter s u a sign within
      (record { row = r; listed = m; symbol = e; test = f })

  -- so an atom's rows are sound
  atom_sound :
      (a : Atom) (sign : Bool) (s u : ℕ)
      → AtomWithin t.alphabet a
      → ((cell counter : ℕ) → atom_holds (symbol_on word cell) counter a ≡ sign → At s cell counter → At u cell counter)
      → Every Sound (atom_rows t.alphabet sign a s u)
  atom_sound a sign s u within k =
      record {
        at =
            λ r m.
            let between = (atom_between t.alphabet a sign s u within).at r m in
            still_sound r between.still
            (λ cell counter e f h.
            let before = rw between.from at h in
            rw between.to (k cell counter (told a sign s u r cell counter within m e f) before));
      }

  -- a condition's rows likewise
  walk_sound :
      (c : Condition) (sign : Bool)
      → ConditionWithin t.alphabet c
      → Walked (walk t.alphabet c sign) (walk_roles c sign) (Truth c sign)
  unfolding walk walk_roles holds ConditionWithin
  walk_sound (atom l a) sign within =
      record { walked = λ s u next more given k. record { rows = atom_sound a sign s u within k; given = given } }
  walk_sound (parens o c) sign within = walk_sound c sign within
  walk_sound (negation o c) sign within = walked_where (λ cell counter. (turned _ sign).1) (walk_sound c (not sign) within)
  walk_sound (both c d) true within =
      walked_where (λ cell counter. (both_true _ _).1) (after_walked (walk_sound c true within.0) (walk_sound d true within.1))
  walk_sound (both c d) false within =
      walked_where (λ cell counter. (one_false _ _).1) (or_walked (walk_sound c false within.0) (walk_sound d false within.1))
  walk_sound (either c d) true within =
      walked_where (λ cell counter. (one_true _ _).1) (or_walked (walk_sound c true within.0) (walk_sound d true within.1))
  walk_sound (either c d) false within =
      walked_where (λ cell counter. (both_false _ _).1) (after_walked (walk_sound c false within.0) (walk_sound d false within.1))

  -- both tests of a condition are sound, where a statement turns by it into these or those
  pub tests_sound :
      (c : Condition) (s u v next : ℕ) {a : Statement} {rest k k' : Statements} {more : List Role}
      → ConditionWithin t.alphabet c
      → role s ≡ leaves (a then rest)
      → role u ≡ leaves k
      → role v ≡ leaves k'
      → Given role next (test_roles c (leaves (a then rest)) more)
      → ((symbol : Symbol) (counter : ℕ) → holds symbol counter c ≡ true → Continues symbol counter a rest k)
      → ((symbol : Symbol) (counter : ℕ) → holds symbol counter c ≡ false → Continues symbol counter a rest k')
      → Tested (test t.alphabet c s u v next) more
  unfolding test test_roles
  tests_sound c s u v next {more = more} within left right right' given f g =
      let here = turn_by c s u left right f in
      let there = turn_by c s v left right' g in
      let holding = (walk_sound c true within).walked s u next (walk_roles c false (role s) more) (rw left given) here in
      tested_append holding ((walk_sound c false within).walked s v _ more holding.given there)
