-- What comes of tokens and of a text: the machine takes exactly the programs that break no limit, and refuses exactly at
-- the first fault. So a text is one program or has one first fault, and never both.
use Prim.Native.Nat.{ℕ, ◌<◌}
use native.Mathlib.Omega.{arith}
use mathlib.Core.Path.{◌≡◌, refl, sym, ◌∙◌, ap, subst}
use mathlib.Core.Logic.{◌⊎◌, inl, inr}
use mathlib.Core.Option.{Option, none, some, none-ne-some, some-injective}
use mathlib.Core.List.Memᴰ
use mathlib.Core.List.{
  List,
  [],
  ◌∷◌,
  ◌++◌,
  append_assoc,
  Memᴰ,
  head-eq_of_cons-eq,
}
use Rattle.text.specs.Token.{Token}
use Rattle.text.specs.Tokens.{Placed, ◌at◌, Ending, ends, broken, TokensOf, Rising}
use Rattle.text.specs.Inside.Scan.{scan, Scanned}
use Rattle.text.proofs.Tokens.{scan_right, tokens_scanned, tokens_once}
use Rattle.text.proofs.Rising.{rising}
use Rattle.rule.specs.Tree.{Program, letter_bytes}
use Rattle.rule.specs.Grammar.{IsProgram}
use Rattle.rule.specs.Limits.{Fault, fault, faults}
use Rattle.rule.specs.Faults.{GoesOn, Clean, Breaks, FirstFault, no_token, not_here, early, limit, Reads}
use Rattle.rule.specs.Counts.{program_states, program_rows}
use Rattle.rule.specs.Inside.Machine.{Stack, Values, program, start, at_end, Outcome, taken, refused, run, outcome}
use Rattle.rule.proofs.Machine.Steps.{
  Ts,
  State,
  state,
  begin,
  step,
  eat,
  ◌>>=◌,
  runs,
  View,
  stops,
  passes,
  breaks,
  view,
  eat_append,
  Adds,
  grown,
  eat_adds,
}
use Rattle.rule.proofs.Machine.Complete.{program_eats, built_on, built, program_once}
use Rattle.rule.proofs.Machine.Tally.{program_is}
use Rattle.rule.proofs.Machine.Sound.{Ended, eaten_program}
use Rattle.text.proofs.Written.{laid}
use Rattle.rule.proofs.Places.{past, rising-more, rising_apart, rising_front}
use Rattle.rule.proofs.Machine.Viable.{short_all, completes}
use Rattle.rule.proofs.Machine.Trace.{Passed, Trace, eat_one, passed_runs, passed_end, trace}

-- where the machine is behind a whole program
abbrev pub final : Program → State
final x =
    state
    []
    (record {
      totals = record { alphabet = letter_bytes x.alphabet; states = program_states x; rows = program_rows x };
      seen = faults x;
    })
    (λ vs. x)

-- the machine takes a program to its end
pub eats_program : {ts : Ts} {x : Program} → IsProgram ts x → eat begin ts ≡ some (final x)
eats_program {ts} {x} d = program_eats d begin.far begin.build ∙ ap (λ a. some (state [] a (λ vs. x))) (program_is x)

passed_final : {ts : Ts} {q : Program} (x : Passed ts) → IsProgram ts q → x.state ≡ final q
passed_final {q = q} x d = some-injective x.state (final q) (sym x.eaten ∙ eats_program d)

-- behind tokens that are taken
pub eat_then : (ts : Ts) {z : State} → eat begin ts ≡ some z → (us : Ts) → eat begin (ts ++ us) ≡ eat z us
eat_then ts h us = eat_append begin ts us ∙ ap (λ (o : Option State). o >>= λ y. eat y us) h

-- tokens with which a program goes on are taken
pub goes_taken : {ts : Ts} (c : GoesOn ts) → (y : State) × (eat begin ts ≡ some y)
goes_taken {ts} c = by_cases (eat begin ts) refl (sym (eat_append begin ts c.after) ∙ eats_program c.derived)
  where
    by_cases : (o : Option State)
        → eat begin ts ≡ o
        → (o >>= λ y. eat y c.after) ≡ some (final c.program)
        → (y : State) × (eat begin ts ≡ some y)
    by_cases none e h = absurd (none-ne-some (final c.program) h)
    by_cases (some y) e h = (y, e)

-- behind them the machine sees the rest of the program's faults
pub goes_adds : {ts : Ts} (c : GoesOn ts) (z : State) → eat begin ts ≡ some z → Adds z (final c.program) c.after
goes_adds {ts} c z h =
    eat_adds z (final c.program) c.after (sym (eat_then ts h c.after) ∙ eats_program c.derived)

-- and with tokens that are taken a program goes on
taken_goes : {ts : Ts} (z : State) → Rising ts → eat begin ts ≡ some z → GoesOn ts
taken_goes {ts} z r h =
    let us = laid (past ts) (short_all z.stack) in
    let (x, d) =
    eaten_program
    (ts ++ us)
    (subst Ended (sym (eat_then ts h us)) (completes z.stack z.far z.build (past ts)))
    in
    record { after = us; program = x; rising = rising-more r (short_all z.stack); derived = d }

-- what stands after tokens is not at the place of one of them
pub not_within : {ts : Ts} (c : GoesOn ts) {t u : Token} {p : ℕ} → Memᴰ (t at p) ts → ¬ Memᴰ (u at p) c.after
not_within {ts} c {p = p} m n = let h : p < p = rising_apart ts c.after c.rising m n in omega arith

-- tokens passed are clean
passed_clean : {ts : Ts} → Rising ts → Passed ts → Clean ts
passed_clean {ts} r x =
    let c = taken_goes x.state r x.eaten in
    let a = goes_adds c x.state x.eaten in
    record {
      goes_on = c;
      within = λ n p t m k.
          not_within c k (a.placed (fault n p) (subst (Memᴰ (fault n p)) (grown a x.unseen) m)).1;
    }

none_in : {A : Type 0} (l : List A) → ((a : A) → ¬ Memᴰ a l) → l ≡ []
none_in [] h = refl
none_in (a ∷ l) h = absurd (h a (Memᴰ.head refl))

-- clean tokens are passed
pub clean_passed : {ts : Ts} → Clean ts → Passed ts
clean_passed {ts} c =
    let (y, h) = goes_taken c.goes_on in
    let a = eat_adds begin y ts h in
    let b = goes_adds c.goes_on y h in
    record {
      state = y;
      eaten = h;
      unseen = none_in y.far.seen (λ f m.
          let (u, k) = a.placed f (subst (Memᴰ f) a.seen m) in
          c.within f.number f.place u (subst (Memᴰ f) (sym b.seen) (Memᴰ.append_left b.new m)) k);
    }

rising_upto : (ts us : Ts) (u : Placed) → Rising (ts ++ (u ∷ us)) → Rising (ts ++ (u ∷ []))
rising_upto ts us u r = rising_front (ts ++ (u ∷ [])) us (rw append_assoc r)

-- refusals

trace_fault : {text : List ℕ} {ts : Ts} {e : Ending} {n p : ℕ} → TokensOf text ts e → Trace ts e (refused n p) → FirstFault text n p
trace_fault h (Trace.torn {ts = ts} x) = no_token ts h (passed_clean (rising h) x)
trace_fault h (Trace.early {ts = ts} x g) =
    early ts h (passed_clean (rising h) x) (λ q d. g (ap (λ (y : State). y.stack) (passed_final x d)))
trace_fault h (Trace.stopped ts us u x g) =
    not_here ts us u h (passed_clean (rising_front ts _ (rising h)) x) (λ c.
    let (y, k) = goes_taken c in
    none-ne-some y (sym g ∙ k))
trace_fault h (Trace.limit ts us u z x g f) =
    let c = taken_goes z (rising_upto ts us _ (rising h)) g in
    let a = goes_adds c z g in
    limit
    ts
    us
    u
    h
    (passed_clean (rising_front ts _ (rising h)) x)
    (record { goes_on = c; others = a.new; first = grown a f })

-- what comes of a text is what comes of its tokens
pub outcome_is : {text : List ℕ} {ts : Ts} {e : Ending} → TokensOf text ts e → outcome text ≡ run (program ∷ []) start ts e
unfolding outcome
outcome_is h = ap (λ (r : Scanned). runs begin r.tokens r.ending) (tokens_scanned h)

text_trace : (text : List ℕ) {o : Outcome} → outcome text ≡ o → Trace (scan text).tokens (scan text).ending o
text_trace text h =
    subst
    (Trace (scan text).tokens (scan text).ending)
    (sym (outcome_is (scan_right text)) ∙ h)
    (trace (scan text).tokens (scan text).ending)

-- what the machine refuses in a text is its first fault
pub refused_fault : {text : List ℕ} {n p : ℕ} → outcome text ≡ refused n p → FirstFault text n p
refused_fault {text} h = trace_fault (scan_right text) (text_trace text h)

-- behind tokens passed, a token with which no program goes on, and one that breaks a limit
module _ {ts : Ts} (x : Passed ts) (u : Token) (p : ℕ) (us : Ts) (e : Ending) where
  not_here_lem : Rising (ts ++ ((u at p) ∷ [])) → ¬ GoesOn (ts ++ ((u at p) ∷ [])) → runs x.state ((u at p) ∷ us) e ≡ refused 4 p
  not_here_lem r never = by_cases (step x.state (u at p)) (view x.state u p) (eat_one x (u at p))
    where
      by_cases : (o : Option State)
          → View x.state u p o
          → eat begin (ts ++ ((u at p) ∷ [])) ≡ o
          → runs x.state ((u at p) ∷ us) e ≡ refused 4 p
      by_cases none (stops s) h = s us e
      by_cases (some z) s h = absurd (never (taken_goes z r h))

  over_limit : {n : ℕ} → Breaks (ts ++ ((u at p) ∷ [])) (fault n p) → runs x.state ((u at p) ∷ us) e ≡ refused n p
  over_limit {n} b = by_cases (step x.state (u at p)) (view x.state u p) (eat_one x (u at p))
    where
      by_cases : (o : Option State)
          → View x.state u p o
          → eat begin (ts ++ ((u at p) ∷ [])) ≡ o
          → runs x.state ((u at p) ∷ us) e ≡ refused n p
      by_cases none s h = let (z, k) = goes_taken b.goes_on in absurd (none-ne-some z (sym h ∙ k))
      by_cases (some y) (passes f s) h =
          let a = goes_adds b.goes_on y h in
          let same : fault n p ∷ b.others ≡ a.new = sym b.first ∙ grown a (f ∙ x.unseen) in
          let (v, k) = a.placed (fault n p) (subst (Memᴰ (fault n p)) same (Memᴰ.head refl)) in
          absurd (not_within b.goes_on (Memᴰ.append_right ts (Memᴰ.head refl)) k)
      by_cases (some y) (breaks m f s) h =
          let a = goes_adds b.goes_on y h in
          let seen : y.far.seen ≡ fault m p ∷ [] = f ∙ ap (λ (l : List Fault). l ++ (fault m p ∷ [])) x.unseen in
          let same : fault n p ∷ b.others ≡ fault m p ∷ a.new = sym b.first ∙ grown a seen in
          s us e ∙ ap (λ (g : Fault). refused g.number p) (sym (head-eq_of_cons-eq same))

early_end : {ts : Ts} (x : Passed ts) (p : ℕ)
    → ((q : Program) → ¬ IsProgram ts q)
    → at_end x.state.stack x.state.far.totals (ends p) ≡ refused 4 p
early_end {ts} x p never = by_cases x.state.stack refl
  where
    by_cases : (st : Stack) → x.state.stack ≡ st → at_end st x.state.far.totals (ends p) ≡ refused 4 p
    by_cases [] h = let (q, d) = eaten_program ts (subst Ended (sym x.eaten) h) in absurd (never q d)
    by_cases (y ∷ st) h = refl

-- a first fault of a text is what the machine refuses
pub fault_refused : {text : List ℕ} {n p : ℕ} → FirstFault text n p → outcome text ≡ refused n p
fault_refused (no_token {p = p} ts h c) = outcome_is h ∙ passed_end (clean_passed c) (broken p)
fault_refused (not_here {p = p} ts us u {e = e} h c never) =
    let x = clean_passed c in
    outcome_is h ∙ passed_runs x ((u at p) ∷ us) e ∙ not_here_lem x u p us e (rising_upto ts us _ (rising h)) never
fault_refused (early {p = p} ts h c never) =
    let x = clean_passed c in
    outcome_is h ∙ passed_end x (ends p) ∙ early_end x p never
fault_refused (limit {p = p} ts us u {e = e} h c b) =
    let x = clean_passed c in
    outcome_is h ∙ passed_runs x ((u at p) ∷ us) e ∙ over_limit x u p us e b

-- programs

-- the tokens of a program that breaks no limit are taken, with its states and rows
pub complete : {ts : Ts} {x : Program} → IsProgram ts x
    → faults x ≡ []
    → (p : ℕ)
    → run (program ∷ []) start ts (ends p) ≡ taken (program_states x) (program_rows x)
complete {x = x} d h p = passed_end (record { state = final x; eaten = eats_program d; unseen = h }) (ends p)

-- a program of these tokens that breaks no limit, with so many states and rows
pub record Taken (ts : Ts) (a b : ℕ) : Type 0 where
  pub tree : Program
  pub derived : IsProgram ts tree
  pub faultless : faults tree ≡ []
  pub states : a ≡ program_states tree
  pub rows : b ≡ program_rows tree

trace_taken : {ts : Ts} {e : Ending} {a b : ℕ} → Trace ts e (taken a b) → Taken ts a b
trace_taken (Trace.whole {ts = ts} x h) =
    let (q, d) = eaten_program ts (subst Ended (sym x.eaten) h) in
    let same = passed_final x d in
    record {
      tree = q;
      derived = d;
      faultless = sym (ap (λ (y : State). y.far.seen) same) ∙ x.unseen;
      states = ap (λ (y : State). y.far.totals.states) same;
      rows = ap (λ (y : State). y.far.totals.rows) same;
    }

-- tokens that are taken are such a program
pub sound : (ts : Ts) (e : Ending) {a b : ℕ} → run (program ∷ []) start ts e ≡ taken a b → Taken ts a b
sound ts e h = trace_taken (subst (Trace ts e) h (trace ts e))

built_ended : (o : Option State) {x : Program} → built o ≡ some x → Ended o
built_ended none {x} h = absurd (none-ne-some x h)
built_ended (some y) {x} h = by_cases y.stack y.build h
  where
    by_cases : (st : Stack) (k : Values st → Program) → built_on st k ≡ some x → st ≡ []
    by_cases [] k h = refl
    by_cases (z ∷ st) k h = absurd (none-ne-some x h)

-- the program that the machine makes of tokens is derived from them: by computing, so are samples
pub built_program : (ts : Ts) {x : Program} → built (eat begin ts) ≡ some x → IsProgram ts x
built_program ts {x} h =
    let (q, d) = eaten_program ts (built_ended (eat begin ts) h) in
    subst (IsProgram ts) (some-injective q x (sym (ap built (eats_program d)) ∙ h)) d

-- a text that is a program without faults is taken
pub reads_taken : {text : List ℕ} {x : Program} → Reads text x → outcome text ≡ taken (program_states x) (program_rows x)
reads_taken r = outcome_is r.of_text ∙ complete r.derived r.faultless r.place

trace_ends : {ts : Ts} {e : Ending} {a b : ℕ} → Trace ts e (taken a b) → (p : ℕ) × (e ≡ ends p)
trace_ends (Trace.whole {p = p} x h) = (p, refl)

-- a text that is taken is such a program
pub taken_reads : {text : List ℕ} {a b : ℕ}
    → outcome text ≡ taken a b
    → (x : Program) × Reads text x × (a ≡ program_states x) × (b ≡ program_rows x)
taken_reads {text} h =
    let t = trace_taken (text_trace text h) in
    let (p, e) = trace_ends (text_trace text h) in (
      t.tree,
      record {
        tokens = (scan text).tokens;
        place = p;
        of_text = subst (TokensOf text (scan text).tokens) e (scan_right text);
        derived = t.derived;
        faultless = t.faultless;
      },
      t.states,
      t.rows,
    )

-- a text is read in one way

abbrev numbers : Outcome → ℕ × ℕ
numbers (taken a b) = (a, b)
numbers (refused n p) = (n, p)

abbrev IsTaken : Outcome → Type 0
IsTaken (taken a b) = Unit {0}
IsTaken (refused n p) = ⊥

-- a text has one first fault at most
pub first_fault_once : {text : List ℕ} {n m p q : ℕ} → FirstFault text n p → FirstFault text m q → (n ≡ m) × (p ≡ q)
first_fault_once f g =
    let same = sym (fault_refused f) ∙ fault_refused g in
    (ap (λ (o : Outcome). (numbers o).0) same, ap (λ (o : Outcome). (numbers o).1) same)

-- a text that is a program without faults has none
pub reads_no-fault : {text : List ℕ} {x : Program} {n p : ℕ} → Reads text x → ¬ FirstFault text n p
reads_no-fault r f = subst IsTaken (sym (reads_taken r) ∙ fault_refused f) tt

-- a text is one program at most
pub reads_once : {text : List ℕ} {x y : Program} → Reads text x → Reads text y → x ≡ y
reads_once {y = y} r s =
    program_once r.derived (subst (λ (ts : Ts). IsProgram ts y) (tokens_once s.of_text r.of_text).0 s.derived)

-- every text is a program without faults or has a first fault
pub reads_or-fault : (text : List ℕ) → ((x : Program) × Reads text x) ⊎ ((n : ℕ) × (p : ℕ) × FirstFault text n p)
reads_or-fault text = by_cases (outcome text) refl
  where
    by_cases : (o : Outcome) → outcome text ≡ o → ((x : Program) × Reads text x) ⊎ ((n : ℕ) × (p : ℕ) × FirstFault text n p)
    by_cases (taken a b) h = let (x, r, _, _) = taken_reads h in inl (x, r)
    by_cases (refused n p) h = inr (n, p, refused_fault h)
