-- How a run ends, by the steps that led there: tokens passed with no limit broken, and what comes next.
use Prim.Native.Nat.{ℕ}
use mathlib.Core.Path.{◌≡◌, refl, sym, ◌∙◌, ap}
use mathlib.Core.Option.{Option, none, some}
use mathlib.Core.List.{List, [], ◌∷◌, ◌++◌, append-nil, append_assoc, cons≢nil}
use Rattle.text.specs.Token.{Token}
use Rattle.text.specs.Tokens.{Placed, ◌at◌, Ending, ends, broken}
use Rattle.rule.specs.Limits.{Fault, fault}
use Rattle.rule.specs.Inside.Machine.{Stack, at_end, Outcome, taken, refused, run}
use Rattle.rule.proofs.Machine.Steps.{
  Ts,
  State,
  begin,
  step,
  eat,
  ◌>>=◌,
  runs,
  View,
  stops,
  passes,
  breaks,
  view,
  eat_append,
  eat_runs,
}

-- the machine takes the tokens from the beginning, and none of them breaks a limit
pub record Passed (ts : Ts) : Type 0 where
  pub state : State
  pub eaten : eat begin ts ≡ some state
  pub unseen : state.far.seen ≡ []

-- how a run of tokens with this ending comes to this outcome
pub data Trace : Ts → Ending → Outcome → Type 0 where
  -- all is taken, and nothing more is expected
  whole : {p : ℕ} {ts : Ts} (x : Passed ts)
      → x.state.stack ≡ []
      → Trace ts (ends p) (taken x.state.far.totals.states x.state.far.totals.rows)
  -- all is taken, and more is expected
  early : {p : ℕ} {ts : Ts} (x : Passed ts) → ¬ (x.state.stack ≡ []) → Trace ts (ends p) (refused 4 p)
  -- no token comes next
  torn : {p : ℕ} {ts : Ts} → Passed ts → Trace ts (broken p) (refused 3 p)
  -- a token that is not expected
  stopped : {p : ℕ} {e : Ending} (ts us : Ts) (u : Token)
      → Passed ts
      → eat begin (ts ++ ((u at p) ∷ [])) ≡ none
      → Trace (ts ++ ((u at p) ∷ us)) e (refused 4 p)
  -- a token that breaks a limit
  limit : {n p : ℕ} {e : Ending} (ts us : Ts) (u : Token) (z : State)
      → Passed ts
      → eat begin (ts ++ ((u at p) ∷ [])) ≡ some z
      → z.far.seen ≡ fault n p ∷ []
      → Trace (ts ++ ((u at p) ∷ us)) e (refused n p)

-- one token more
pub eat_one : {ts : Ts} (x : Passed ts) (u : Placed) → eat begin (ts ++ (u ∷ [])) ≡ step x.state u
unfolding eat
eat_one {ts} x u = eat_append begin ts (u ∷ []) ∙ ap (λ (o : Option State). o >>= λ y. eat y (u ∷ [])) x.eaten ∙ last (step x.state u)
  where
    last : (o : Option State) → (o >>= λ y. some y) ≡ o
    last none = refl
    last (some y) = refl

-- a run goes on behind the tokens passed
pub passed_runs : {ts : Ts} (x : Passed ts) (us : Ts) (e : Ending) → runs begin (ts ++ us) e ≡ runs x.state us e
passed_runs {ts} x us e = eat_runs begin x.state ts us e x.eaten x.unseen

-- and ends as its state there says
pub passed_end : {ts : Ts} (x : Passed ts) (e : Ending) → runs begin ts e ≡ at_end x.state.stack x.state.far.totals e
unfolding run
passed_end {ts} x e = ap (λ (l : Ts). runs begin l e) (sym (append-nil ts)) ∙ passed_runs x [] e

end_trace : {ts : Ts} (x : Passed ts) (e : Ending) → Trace ts e (runs x.state [] e)
unfolding run
end_trace x (broken p) = torn x
end_trace {ts} x (ends p) = by_cases x.state.stack refl
  where
    by_cases : (st : Stack) → x.state.stack ≡ st → Trace ts (ends p) (at_end st x.state.far.totals (ends p))
    by_cases [] h = whole x h
    by_cases (y ∷ st) h = early x (λ g. cons≢nil (sym h ∙ g))

trace_from : {ts : Ts} (x : Passed ts) (us : Ts) (e : Ending) → Trace (ts ++ us) e (runs x.state us e)
trace_from {ts} x [] e = rw (append-nil ts) (end_trace x e)
trace_from {ts} x ((u at p) ∷ us) e = by_cases (step x.state (u at p)) (view x.state u p) (eat_one x (u at p)) (λ x'. trace_from x' us e)
  where
    by_cases : (o : Option State)
        → View x.state u p o
        → eat begin (ts ++ ((u at p) ∷ [])) ≡ o
        → ((x' : Passed (ts ++ ((u at p) ∷ []))) → Trace ((ts ++ ((u at p) ∷ [])) ++ us) e (runs x'.state us e))
        → Trace (ts ++ ((u at p) ∷ us)) e (runs x.state ((u at p) ∷ us) e)
    by_cases none (stops r) h rest = rw (r us e) (stopped ts us u x h)
    by_cases (some z) (breaks n g r) h rest =
        rw (r us e) (limit ts us u z x h (g ∙ ap (λ (l : List Fault). l ++ (fault n p ∷ [])) x.unseen))
    by_cases (some z) (passes g r) h rest =
        rw (r us e) (rw append_assoc at (rest (record { state = z; eaten = h; unseen = g ∙ x.unseen })))

-- every run ends in one of these ways
pub trace : (ts : Ts) (e : Ending) → Trace ts e (runs begin ts e)
unfolding eat
trace ts e = trace_from {ts = []} (record { state = begin; eaten = refl; unseen = refl }) ts e
