-- All that the runs of a table on a word reach within a limit, by computing it, with the proof that this is all.
use Prim.Native.Nat.{ℕ, zero, suc, ◌≤◌, ◌<◌}
use mathlib.Core.Path.{◌≡◌, refl, sym, subst, subst₂}
use mathlib.Core.Logic.{⊎_elim, ∥∥₁_elim}
use mathlib.Core.HLevel.{⊥_prop}
use mathlib.Core.Bool.{Bool, true, false, not, ◌&&◌, ◌||◌}
use mathlib.Core.Option.{Option, none, some}
use mathlib.Core.List.Memᴰ
use mathlib.Core.List.{List, [], ◌∷◌, ◌++◌, Memᴰ, Nodup, Nodup-cons, Nodup-nil}
use lib.Dec.{T, T_not, leb, ltb, eqb, leb→le, le→leb, eqb→eq, eqb_refl, ltb→lt, lt→ltb}
use lib.ListN.{length}
use Rattle.bits.specs.Bit.{bit}
use Rattle.bits.specs.Size.{Size}
use Rattle.table.specs.Table.{Row, Table}
use Rattle.cells.specs.Cell.{moved}
use Rattle.machine.specs.Step.{Situation, Takes, row_fits, changed}
use Rattle.machine.specs.Run.{start, Reach, begins, goes, Accepts, Passes}
use Rattle.judgement.specs.declared.answer.Verdict.{Verdict}
use Rattle.judgement.specs.declared.answer.Verdict.TheVariants.{Yes, No, LimitMet}
use Rattle.judgement.specs.Verdict.{IsVerdict}
use Rattle.bits.proofs.Tests.{every, every_at, and_left, and_right, and_of, or_left, or_right, or_cases}
use Rattle.samples.proofs.Decide.{◌>>=◌, passed}

abbrev same_situation : Situation → Situation → Bool
same_situation a b = eqb a.state b.state && (eqb a.cell b.cell && eqb a.counter b.counter)

pub same_situation_lem : (a b : Situation) → T (same_situation a b) → a ≡ b
same_situation_lem a b t =
    let st : a.state ≡ b.state = eqb→eq _ _ (and_left (eqb a.state b.state) (eqb a.cell b.cell && eqb a.counter b.counter) t) in
    let rest : T (eqb a.cell b.cell && eqb a.counter b.counter) = and_right (eqb a.state b.state) (eqb a.cell b.cell && eqb a.counter b.counter) t in
    let ce : a.cell ≡ b.cell = eqb→eq _ _ (and_left (eqb a.cell b.cell) (eqb a.counter b.counter) rest) in
    let co : a.counter ≡ b.counter = eqb→eq _ _ (and_right (eqb a.cell b.cell) (eqb a.counter b.counter) rest) in
    λ i. record { state = st i; cell = ce i; counter = co i }

abbrev is_listed : Situation → List Situation → Bool
is_listed s [] = false
is_listed s (x ∷ xs) = same_situation s x || is_listed s xs

pub listed : (s : Situation) (xs : List Situation) → T (is_listed s xs) → Memᴰ s xs
listed s [] t = absurd t
listed s (x ∷ xs) t =
    ⊎_elim
    (λ h. Memᴰ.head (same_situation_lem s x h))
    (λ h. Memᴰ.tail (listed s xs h))
    (or_cases (same_situation s x) (is_listed s xs) t)

-- and the other way round
itself : (s : Situation) → T (same_situation s s)
itself s =
    and_of
    (eqb s.state s.state)
    (eqb s.cell s.cell && eqb s.counter s.counter)
    (eqb_refl s.state)
    (and_of (eqb s.cell s.cell) (eqb s.counter s.counter) (eqb_refl s.cell) (eqb_refl s.counter))

is_listed_lem : (s : Situation) (xs : List Situation) → Memᴰ s xs → T (is_listed s xs)
is_listed_lem s xs (Memᴰ.head {x = x} {xs = ys} e) =
    or_left (same_situation s x) (is_listed s ys) (subst (λ (y : Situation). T (same_situation s y)) e (itself s))
is_listed_lem s xs (Memᴰ.tail {x = x} {xs = ys} m) =
    or_right (same_situation s x) (is_listed s ys) (is_listed_lem s ys m)

abbrev different : List Situation → Bool
different [] = true
different (x ∷ xs) = not (is_listed x xs) && different xs

pub no_twice : (xs : List Situation) → T (different xs) → Nodup xs
no_twice [] t = Nodup-nil
no_twice (x ∷ xs) t =
    Nodup-cons.1 (
      λ m. ∥∥₁_elim m ⊥_prop (λ d. T_not (is_listed x xs) (and_left (not (is_listed x xs)) (different xs) t) (is_listed_lem x xs d)),
      no_twice xs (and_right (not (is_listed x xs)) (different xs) t),
    )

module _ (t : Table) (word : List ℕ) (limit : ℕ) where
  abbrev Reached : Type 0
  Reached = (s : Situation) × Reach t word limit s

  -- the situation after a row that fits, with this counter
  abbrev after : Row → Situation → ℕ → Situation
  after r s c = record { state = r.to; cell = moved word r.move s.cell; counter = c }

  pub follow : (r : Row) → Memᴰ r t.rows → (x : Reached) (c : ℕ)
      → row_fits t word r x.0 ≡ true
      → changed t.decr_on_zero r.change x.0.counter ≡ some c
      → c ≤ limit
      → Reach t word limit (after r x.0 c)
  follow r m x c fits change low =
      goes x.1 (record { row = r; listed = m; takes = record { fits = fits; state = refl; cell = refl; counter = change } }) low

  abbrev step : (r : Row) → Memᴰ r t.rows → (x : Reached) (b : Bool) → row_fits t word r x.0 ≡ b
      → (o : Option ℕ) → changed t.decr_on_zero r.change x.0.counter ≡ o → List Reached
  step r m x false e o f = []
  step r m x true e none f = []
  step r m x true e (some c) f =
      let low : Option (c ≤ limit) = passed (leb c limit) (leb→le c limit) in
      let one : c ≤ limit → List Reached = λ h. (after r x.0 c, follow r m x c e f h) ∷ [] in
      elim low [ none ↦ [] | some h ↦ one h ]

  -- what one step leads to, by these rows
  abbrev steps : (x : Reached) (rs : List Row) → ((r : Row) → Memᴰ r rs → Memᴰ r t.rows) → List Reached
  steps x [] k = []
  steps x (r ∷ rs) k =
      step r (k r (Memᴰ.head refl)) x (row_fits t word r x.0) refl (changed t.decr_on_zero r.change x.0.counter) refl
      ++ steps x rs (λ q m. k q (Memᴰ.tail m))

  abbrev situations : List Reached → List Situation
  situations [] = []
  situations (x ∷ xs) = x.0 ∷ situations xs

  -- those that are new, once each
  abbrev fresh : List Situation → List Reached → List Reached
  fresh seen [] = []
  fresh seen (x ∷ xs) =
      elim (is_listed x.0 seen) [ true ↦ fresh seen xs | false ↦ x ∷ fresh (x.0 ∷ seen) xs ]

  -- all that is reached from those in front, which are among those seen
  abbrev grow : ℕ → List Reached → List Reached → List Reached
  grow zero front seen = seen
  grow (suc fuel) [] seen = seen
  grow (suc fuel) (x ∷ front) seen =
      let found : List Reached = fresh (situations seen) (steps x t.rows (λ r m. m)) in
      grow fuel (front ++ found) (seen ++ found)

  abbrev all : List Reached
  all = grow 10000 ((start, begins) ∷ []) ((start, begins) ∷ [])

  pub all_reached : (xs : List Reached) (s : Situation) → Memᴰ s (situations xs) → Reach t word limit s
  all_reached [] s m = absurd (Memᴰ.not-nil m)
  all_reached (x ∷ xs) s m =
      ⊎_elim
      (λ e. subst (λ (y : Situation). Reach t word limit y) (sym e) x.1)
      (λ n. all_reached xs s n)
      (Memᴰ.cases_cons m)

  -- a row from a situation leads to none that is not listed
  abbrev stays : List Situation → Row → Situation → Bool → Option ℕ → Bool
  stays xs r s false o = true
  stays xs r s true none = true
  stays xs r s true (some c) = not (leb c limit) || is_listed (after r s c) xs

  abbrev row_stays : List Situation → Situation → Row → Bool
  row_stays xs s r = stays xs r s (row_fits t word r s) (changed t.decr_on_zero r.change s.counter)

  abbrev closed : List Situation → Bool
  closed xs = every (λ s. every (row_stays xs s) t.rows) xs

  within : (a b : Bool) → T (not a || b) → T a → T b
  within true b h k = h
  within false b h k = absurd k

  stays_at : (xs : List Situation) (r : Row) (s : Situation) (b : Bool) (o : Option ℕ) (c : ℕ)
      → T (stays xs r s b o) → b ≡ true → o ≡ some c → c ≤ limit → T (is_listed (after r s c) xs)
  stays_at xs r s b o c h e f low =
      within
      (leb c limit)
      (is_listed (after r s c) xs)
      (subst₂ (λ (x : Bool) (y : Option ℕ). T (stays xs r s x y)) e f h)
      (le→leb c limit low)

  -- a list that holds the start and is closed holds all that is reached
  pub holds_all : (xs : List Situation) → T (is_listed start xs) → T (closed xs) → {s : Situation} → Reach t word limit s → Memᴰ s xs
  holds_all xs b h begins = listed start xs b
  holds_all xs b h (goes {s = s} {u = u} reached st low) =
      let k : Takes t word st.row s u = st.takes in
      let r : Row = st.row in
      let inside : T (is_listed (after r s u.counter) xs) =
      stays_at
      xs
      r
      s
      (row_fits t word r s)
      (changed t.decr_on_zero r.change s.counter)
      u.counter
      (every_at (row_stays xs s) st.listed (every_at (λ x. every (row_stays xs x) t.rows) (holds_all xs b h reached) h))
      k.fits
      k.counter
      low in
      let same : after r s u.counter ≡ u = λ i. record { state = sym k.state i; cell = sym k.cell i; counter = u.counter } in
      subst (λ (x : Situation). Memᴰ x xs) same (listed (after r s u.counter) xs inside)

  -- all that is reached, each once
  pub record Explored : Type 0 where
    pub listed : List Situation
    pub once : Nodup listed
    pub each : (s : Situation) → Reach t word limit s → Memᴰ s listed
    pub only : (s : Situation) → Memᴰ s listed → Reach t word limit s

  abbrev pub explore : Option Explored
  explore =
      let xs : List Situation = situations all in
      passed
      (different xs && (is_listed start xs && closed xs))
      (λ h.
      let rest : T (is_listed start xs && closed xs) = and_right (different xs) (is_listed start xs && closed xs) h in
      record {
        listed = xs;
        once = no_twice xs (and_left (different xs) (is_listed start xs && closed xs) h);
        each =
            λ s reached.
            holds_all
            xs
            (and_left (is_listed start xs) (closed xs) rest)
            (and_right (is_listed start xs) (closed xs) rest)
            reached;
        only = all_reached all;
      })

  pub size_of : (x : Explored) → Size (Reach t word limit) (length x.listed)
  size_of x = record { listed = x.listed; once = x.once; each = x.each; only = x.only; many = refl }

  -- the two questions of a verdict, each with its answer

  abbrev is_accepting : Situation → Bool
  is_accepting s = eqb (bit t.accepting s.state) 1

  pub one_accepts : (s : Situation) → Reach t word limit s → T (is_accepting s) → Accepts t word limit
  one_accepts s reached h = record { situation = s; reached = reached; accepting = eqb→eq (bit t.accepting s.state) 1 h }

  abbrev find_accepting : (xs : List Situation) → ((s : Situation) → Memᴰ s xs → Reach t word limit s) → Option (Accepts t word limit)
  find_accepting [] k = none
  find_accepting (x ∷ xs) k =
      elim (passed (is_accepting x) (one_accepts x (k x (Memᴰ.head refl)))) [
        | none ↦ find_accepting xs (λ s m. k s (Memᴰ.tail m))
        | some a ↦ some a
      ]

  pub none_accepts : (x : Explored) → T (every (λ s. not (is_accepting s)) x.listed) → ¬ Accepts t word limit
  none_accepts x h a =
      let s : Situation = a.situation in
      T_not
      (is_accepting s)
      (every_at (λ u. not (is_accepting u)) (x.each s a.reached) h)
      (subst (λ (n : ℕ). T (eqb n 1)) (sym a.accepting) (eqb_refl 1))

  -- a row from a situation passes the limit
  abbrev over : Bool → Option ℕ → Bool
  over false o = false
  over true none = false
  over true (some c) = ltb limit c

  abbrev row_over : Situation → Row → Bool
  row_over s r = over (row_fits t word r s) (changed t.decr_on_zero r.change s.counter)

  pub over_at : (b : Bool) (o : Option ℕ) (c : ℕ) → b ≡ true → o ≡ some c → limit < c → T (over b o)
  over_at b o c e f h = subst₂ (λ (x : Bool) (y : Option ℕ). T (over x y)) (sym e) (sym f) (lt→ltb limit c h)

  pub none_passes : (x : Explored) → T (every (λ s. every (λ r. not (row_over s r)) t.rows) x.listed) → ¬ Passes t word limit
  none_passes x h p =
      let s : Situation = p.before in
      let r : Row = p.step.row in
      T_not
      (row_over s r)
      (every_at
      (λ q. not (row_over s q))
      p.step.listed
      (every_at (λ u. every (λ q. not (row_over u q)) t.rows) (x.each s p.reached) h))
      (over_at
      (row_fits t word r s)
      (changed t.decr_on_zero r.change s.counter)
      p.after.counter
      p.step.takes.fits
      p.step.takes.counter
      p.above)

  pub one_passes : (r : Row) → Memᴰ r t.rows → (s : Situation) → Reach t word limit s
      → (b : Bool) → row_fits t word r s ≡ b
      → (o : Option ℕ) → changed t.decr_on_zero r.change s.counter ≡ o
      → T (over b o)
      → Passes t word limit
  one_passes r m s reached false e o f h = absurd h
  one_passes r m s reached true e none f h = absurd h
  one_passes r m s reached true e (some c) f h =
      record {
        before = s;
        after = after r s c;
        reached = reached;
        step = record { row = r; listed = m; takes = record { fits = e; state = refl; cell = refl; counter = f } };
        above = ltb→lt limit c h;
      }

  abbrev find_row : (s : Situation) → Reach t word limit s → (rs : List Row)
      → ((r : Row) → Memᴰ r rs → Memᴰ r t.rows) → Option (Passes t word limit)
  find_row s reached [] k = none
  find_row s reached (r ∷ rs) k =
      elim (passed
      (row_over s r)
      (one_passes
      r
      (k r (Memᴰ.head refl))
      s
      reached
      (row_fits t word r s)
      refl
      (changed t.decr_on_zero r.change s.counter)
      refl)) [
        | none ↦ find_row s reached rs (λ q m. k q (Memᴰ.tail m))
        | some p ↦ some p
      ]

  abbrev find_passing : (xs : List Situation) → ((s : Situation) → Memᴰ s xs → Reach t word limit s) → Option (Passes t word limit)
  find_passing [] k = none
  find_passing (x ∷ xs) k =
      elim (find_row x (k x (Memᴰ.head refl)) t.rows (λ r m. m)) [
        | none ↦ find_passing xs (λ s m. k s (Memᴰ.tail m))
        | some p ↦ some p
      ]

  abbrev pub decide_verdict : Explored → (v : Verdict) → Option (IsVerdict t word limit v)
  decide_verdict x Yes = find_accepting x.listed x.only
  decide_verdict x No = do
    a ← passed (every (λ s. not (is_accepting s)) x.listed) (none_accepts x)
    p ← passed (every (λ s. every (λ r. not (row_over s r)) t.rows) x.listed) (none_passes x)
    some (a, p)
  decide_verdict x LimitMet = do
    a ← passed (every (λ s. not (is_accepting s)) x.listed) (none_accepts x)
    p ← find_passing x.listed x.only
    some (a, p)
