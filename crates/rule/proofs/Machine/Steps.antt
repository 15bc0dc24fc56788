-- The machine's moves as steps between states: no limit stops them, and the limits broken on the way are gathered.
-- What `run` does is said by these steps.
use Prim.Native.Nat.{ℕ}
use mathlib.Core.Path.{◌≡◌, refl, sym, ◌∙◌, ap, subst}
use mathlib.Core.Bool.{Bool, true, false}
use mathlib.Core.Option.{Option, none, some, none-ne-some, some-injective}
use mathlib.Core.List.Memᴰ
use mathlib.Core.List.{List, [], ◌∷◌, ◌++◌, append-nil, append_assoc, cons≢nil, Memᴰ}
use mathlib.Core.Logic.{⊎_elim}
use Rattle.text.specs.Token.{Token}
use Rattle.text.specs.Tokens.{Placed, ◌at◌, Ending}
use Rattle.rule.specs.Tree.{Program}
use Rattle.rule.specs.Limits.{Fault, fault}
use Rattle.rule.specs.Inside.Machine.{Expected, Stack, Value, Values, Totals, start, program, Move, move, Outcome, refused, run}

abbrev pub Ts : Type 0
Ts = List Placed

-- the tokens begin with this one, and go on with these
pub data Is (t : Token) : Ts → Ts → Type 0 where
  is : {p : ℕ} {ts : Ts} → Is t ((t at p) ∷ ts) ts

-- how far the machine has come: the totals, and the limits broken
pub record Far : Type 0 where
  pub totals : Totals
  pub seen : List Fault

-- a state: what is expected, how far it has come, and the program that the trees still to come make
pub record State : Type 0 where
  pub stack : Stack
  pub far : Far
  pub build : Values stack → Program

abbrev pub state : (st : Stack) → Far → (Values st → Program) → State
state st s k = record { stack = st; far = s; build = k }

-- where the machine begins: a program is expected
abbrev pub begin : State
begin = state (program ∷ []) (record { totals = start; seen = [] }) (λ (x, vs). x)

-- one more fault, if the limit is broken
unfoldable pub noted : Bool → ℕ → ℕ → List Fault → List Fault
noted true n p fs = fs ++ (fault n p ∷ [])
noted false n p fs = fs

-- how far it comes by a move at a place
abbrev pub moved : {A : Type 0} → Move A → ℕ → Far → Far
moved m p s = record { totals = m.totals; seen = noted m.breaks m.fault p s.seen }

infixl 10 ◌>>=◌
abbrev pub ◌>>=◌ : {A B : Type 0} → Option A → (A → Option B) → Option B
◌>>=◌ none f = none
◌>>=◌ (some a) f = f a

-- the state behind a move
abbrev pub follow : (x : Expected) (st : Stack) → Far → (Values (x ∷ st) → Program) → ℕ → Move (Value x) → State
follow x st s k p m = state (m.push ++ st) (moved m p s) (λ vs. k (m.makes st vs))

-- the state behind one token, if the token is expected
unfoldable pub step_on : (st : Stack) → Far → (Values st → Program) → Placed → Option State
unfolding move noted
step_on [] s k (u at p) = none
step_on (x ∷ st) s k (u at p) = move x s.totals (u at p) >>= λ m. some (follow x st s k p m)

unfoldable pub step : State → Placed → Option State
unfolding step_on
step x t = step_on x.stack x.far x.build t

-- the state behind tokens, if each is expected
unfoldable pub eat : State → Ts → Option State
unfolding step
eat x [] = some x
eat x (t ∷ ts) = step x t >>= λ y. eat y ts

-- `run` from a state
abbrev pub runs : State → Ts → Ending → Outcome
runs x = run x.stack x.far.totals

-- what a run does at a token, by the move there
module _ (x : Expected) (t : Totals) (u : Token) (p : ℕ) where
  -- no move: 4 here
  pub run_stops : move x t (u at p) ≡ none → (st : Stack) (us : Ts) (e : Ending) → run (x ∷ st) t ((u at p) ∷ us) e ≡ refused 4 p
  unfolding run
  run_stops h st us e = rw (h, run)

  -- a move that breaks a limit: its number here
  pub run_breaks : (m : Move (Value x))
      → move x t (u at p) ≡ some m
      → m.breaks ≡ true
      → (st : Stack) (us : Ts) (e : Ending)
      → run (x ∷ st) t ((u at p) ∷ us) e ≡ refused m.fault p
  unfolding run
  run_breaks m h b st us e = rw (h, run) (rw b refl)

  -- a move that breaks none: on with what it expects
  pub run_passes : (m : Move (Value x))
      → move x t (u at p) ≡ some m
      → m.breaks ≡ false
      → (st : Stack) (us : Ts) (e : Ending)
      → run (x ∷ st) t ((u at p) ∷ us) e ≡ run (m.push ++ st) m.totals us e
  unfolding run
  run_passes m h b st us e = rw (h, run) (rw b refl)

-- what a step says of a run: no token of the grammar, or no limit broken, or one
pub data View (x : State) (u : Token) (p : ℕ) : Option State → Type 0 where
  stops : ((us : Ts) (e : Ending) → runs x ((u at p) ∷ us) e ≡ refused 4 p) → View x u p none
  passes : {y : State}
      → y.far.seen ≡ x.far.seen
      → ((us : Ts) (e : Ending) → runs x ((u at p) ∷ us) e ≡ runs y us e)
      → View x u p (some y)
  breaks : {y : State} (n : ℕ)
      → y.far.seen ≡ x.far.seen ++ (fault n p ∷ [])
      → ((us : Ts) (e : Ending) → runs x ((u at p) ∷ us) e ≡ refused n p)
      → View x u p (some y)

view_limit : (x : Expected) (st : Stack) (s : Far) (k : Values (x ∷ st) → Program) (u : Token) (p : ℕ) (m : Move (Value x)) (b : Bool)
    → m.breaks ≡ b
    → move x s.totals (u at p) ≡ some m
    → View (state (x ∷ st) s k) u p (some (follow x st s k p m))
unfolding noted
view_limit x st s k u p m true e h = breaks {y = follow x st s k p m} m.fault (rw e refl) (run_breaks x s.totals u p m h e st)
view_limit x st s k u p m false e h = passes {y = follow x st s k p m} (rw e refl) (run_passes x s.totals u p m h e st)

view_move : (x : Expected) (st : Stack) (s : Far) (k : Values (x ∷ st) → Program) (u : Token) (p : ℕ) (o : Option (Move (Value x)))
    → move x s.totals (u at p) ≡ o
    → View (state (x ∷ st) s k) u p (o >>= λ m. some (follow x st s k p m))
view_move x st s k u p none h = stops (run_stops x s.totals u p h st)
view_move x st s k u p (some m) h = view_limit x st s k u p m m.breaks refl h

view_on : (st : Stack) (s : Far) (k : Values st → Program) (u : Token) (p : ℕ) → View (state st s k) u p (step_on st s k (u at p))
unfolding step_on run
view_on [] s k u p = stops (λ us e. refl)
view_on (x ∷ st) s k u p = view_move x st s k u p (move x s.totals (u at p)) refl

-- every step is one of the three
pub view : (x : State) (u : Token) (p : ℕ) → View x u p (step x (u at p))
unfolding step
view x u p = view_on x.stack x.far x.build u p

-- tokens behind tokens
pub eat_append : (x : State) (ts us : Ts) → eat x (ts ++ us) ≡ (eat x ts >>= λ y. eat y us)
unfolding eat
eat_append x [] us = refl
eat_append x (t ∷ ts) us = by_cases (step x t) (λ y. eat_append y ts us)
  where
    by_cases : (o : Option State)
        → ((y : State) → eat y (ts ++ us) ≡ (eat y ts >>= λ z. eat z us))
        → (o >>= λ y. eat y (ts ++ us)) ≡ ((o >>= λ y. eat y ts) >>= λ z. eat z us)
    by_cases none h = refl
    by_cases (some y) h = h y

-- from one state to another these tokens lead past new faults, each at the place of one of them
pub record Adds (x y : State) (ts : Ts) : Type 0 where
  pub new : List Fault
  pub seen : y.far.seen ≡ x.far.seen ++ new
  pub placed : (f : Fault) → Memᴰ f new → (u : Token) × Memᴰ (u at f.place) ts

-- the faults seen, behind those known to be seen before
pub grown : {x y : State} {ts : Ts} {l : List Fault} (a : Adds x y ts) → x.far.seen ≡ l → y.far.seen ≡ l ++ a.new
grown a h = a.seen ∙ ap (λ (l : List Fault). l ++ a.new) h

adds_none : (x : State) → Adds x x []
adds_none x = record { new = []; seen = sym (append-nil x.far.seen); placed = λ f m. absurd (Memᴰ.not-nil m) }

adds_first : {x y z : State} {u : Token} {p : ℕ} {ts : Ts} (fs : List Fault)
    → z.far.seen ≡ x.far.seen ++ fs
    → ((f : Fault) → Memᴰ f fs → f.place ≡ p)
    → Adds z y ts
    → Adds x y ((u at p) ∷ ts)
adds_first {x} {y} {z} {u} {p} {ts} fs h here a =
    record {
      new = fs ++ a.new;
      seen = grown a h ∙ append_assoc x.far.seen fs a.new;
      placed = λ f m.
          ⊎_elim
          (λ n. (u, Memᴰ.head (ap (λ (q : ℕ). u at q) (here f n))))
          (λ n. ((a.placed f n).0, Memᴰ.tail (a.placed f n).1))
          (Memᴰ.append_cases fs m);
    }

-- tokens add faults that stand at them
pub eat_adds : (x y : State) (ts : Ts) → eat x ts ≡ some y → Adds x y ts
unfolding eat
eat_adds x y [] e = subst (λ (z : State). Adds x z []) (some-injective x y e) (adds_none x)
eat_adds x y ((u at p) ∷ ts) e = by_cases (step x (u at p)) (view x u p) (λ z. eat_adds z y ts) e
  where
    by_cases : (o : Option State)
        → View x u p o
        → ((z : State) → eat z ts ≡ some y → Adds z y ts)
        → (o >>= λ z. eat z ts) ≡ some y
        → Adds x y ((u at p) ∷ ts)
    by_cases none v rest e = absurd (none-ne-some y e)
    by_cases (some z) (passes h r) rest e =
        adds_first [] (h ∙ sym (append-nil x.far.seen)) (λ f m. absurd (Memᴰ.not-nil m)) (rest z e)
    by_cases (some z) (breaks n h r) rest e =
        adds_first (fault n p ∷ []) h (λ f m. ap (λ (g : Fault). g.place) (Memᴰ.eq_of_singleton m)) (rest z e)

some_more : {A : Type 0} (l m : List A) (a : A) → ((l ++ (a ∷ [])) ++ m) ≡ [] → ⊥
some_more [] m a e = cons≢nil e
some_more (x ∷ l) m a e = cons≢nil e

-- where no limit is broken, a run goes the same way
pub eat_runs : (x y : State) (ts us : Ts) (e : Ending) → eat x ts ≡ some y → y.far.seen ≡ [] → runs x (ts ++ us) e ≡ runs y us e
unfolding eat
eat_runs x y [] us f e h = ap (λ (z : State). runs z us f) (some-injective x y e)
eat_runs x y ((u at p) ∷ ts) us f e h = by_cases (step x (u at p)) (view x u p) (λ z g. eat_runs z y ts us f g h) e
  where
    by_cases : (o : Option State)
        → View x u p o
        → ((z : State) → eat z ts ≡ some y → runs z (ts ++ us) f ≡ runs y us f)
        → (o >>= λ z. eat z ts) ≡ some y
        → runs x ((u at p) ∷ (ts ++ us)) f ≡ runs y us f
    by_cases none v rest e = absurd (none-ne-some y e)
    by_cases (some z) (passes g r) rest e = r (ts ++ us) f ∙ rest z e
    by_cases (some z) (breaks n g r) rest e =
        let a : Adds z y ts = eat_adds z y ts e in
        absurd (some_more x.far.seen a.new (fault n p) (sym (grown a g) ∙ h))
