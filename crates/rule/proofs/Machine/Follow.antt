-- A symbol that does as another but for one mark: where no `else` or `also` comes, what may follow a block is statements.
use Prim.Native.Nat.{ℕ}
use mathlib.Core.Path.{◌≡◌, refl, sym, ◌∙◌, ap}
use mathlib.Core.Bool.{Bool, true, false, not}
use mathlib.Core.Option.{Option, none, some}
use mathlib.Core.List.{List, [], ◌∷◌, map}
use lib.Dec.{T}
use Rattle.text.specs.Token.{Token}
use Rattle.text.specs.Tokens.{◌at◌, Ending, ends, broken}
use Rattle.text.specs.Inside.Same.{same_token}
use Rattle.rule.specs.Tree as Tree
use Rattle.rule.specs.Tree.{Program}
use Rattle.rule.specs.Inside.Class.{Fixed, spell, Class, mark, number, letter, other, classify}
use Rattle.rule.specs.Inside.Machine.{
  Expected,
  statements,
  or_else,
  or_also,
  Stack,
  Value,
  Values,
  Totals,
  Move,
  Choice,
  on,
  on_number,
  on_letter,
  along,
  along_choice,
  choices,
  take,
  pick,
  move,
  run,
}
use Rattle.rule.proofs.Machine.Steps.{Ts, Far, state, follow, eat, ◌>>=◌, run_stops, run_breaks, run_passes}

-- a token of this class is not the mark
abbrev pub unlike : Fixed → Class → Bool
unlike m (mark k) = not (same_token (spell k) (spell m))
unlike m (number n) = true
unlike m (letter b) = true
unlike m (other u) = true

-- the first of the tokens, if there is one, is not the mark
abbrev pub not_first : Fixed → Ts → Bool
not_first m [] = true
not_first m ((u at p) ∷ us) = unlike m (classify u)

take_unlike : {A : Type 0} (m : Fixed) (r : Move A) (k : Class) → T (unlike m k) → take (on m r) k ≡ none
take_unlike {A} m r (mark k) h = by_cases (same_token (spell k) (spell m)) h
  where
    by_cases : (b : Bool) → T (not b) → ◌≡◌ {A = Option (Move A)} (elim b [ true ↦ some r | false ↦ none ]) none
    by_cases true h = absurd h
    by_cases false h = refl
take_unlike m r (number n) h = refl
take_unlike m r (letter b) h = refl
take_unlike m r (other u) h = refl

-- the first that there is, as `pick` has it
abbrev first_of : {A : Type 0} → Option A → Option A → Option A
first_of o o' = elim o [ some m ↦ some m | none ↦ o' ]

module _ {A B : Type 0} (f : A → B) where
  abbrev turned : Option (Move A) → Option (Move B)
  turned o = o >>= λ m. some (along f m)

  take-along : (r : Choice A) (k : Class) → take (along_choice f r) k ≡ turned (take r k)
  take-along (on m r) (mark k) = by_cases (same_token (spell k) (spell m))
    where
      by_cases : (b : Bool) → elim b [ true ↦ some (along f r) | false ↦ none ] ≡ turned (elim b [ true ↦ some r | false ↦ none ])
      by_cases true = refl
      by_cases false = refl
  take-along (on m r) (number n) = refl
  take-along (on m r) (letter b) = refl
  take-along (on m r) (other u) = refl
  take-along (on_number r) (mark k) = refl
  take-along (on_number r) (number n) = refl
  take-along (on_number r) (letter b) = refl
  take-along (on_number r) (other u) = refl
  take-along (on_letter r) (mark k) = refl
  take-along (on_letter r) (number n) = refl
  take-along (on_letter r) (letter b) = refl
  take-along (on_letter r) (other u) = refl

  pick-along : (rs : List (Choice A)) (k : Class) → pick (map (along_choice f) rs) k ≡ turned (pick rs k)
  pick-along [] k = refl
  pick-along (r ∷ rs) k =
      ap (λ (o : Option (Move B)). first_of o (pick (map (along_choice f) rs) k)) (take-along r k) ∙ by_cases (take r k) (pick-along rs k)
    where
      by_cases : (o : Option (Move A))
          → pick (map (along_choice f) rs) k ≡ turned (pick rs k)
          → first_of (turned o) (pick (map (along_choice f) rs) k) ≡ turned (first_of o (pick rs k))
      by_cases none h = h
      by_cases (some m) h = refl

-- a symbol with the choices of another, each turned so, and one more in front
module _ (x y : Expected) (f : Value y → Value x) (m : Fixed)
    (alike : (t : Totals) (p : ℕ) → (r : Move (Value x)) × (choices t p x ≡ on m r ∷ map (along_choice f) (choices t p y))) where
  move_alike : (t : Totals) (u : Token) (p : ℕ) → T (unlike m (classify u)) → move x t (u at p) ≡ turned f (move y t (u at p))
  unfolding move
  move_alike t u p h =
      let (r, e) = alike t p in
      ap (λ (rs : List (Choice (Value x))). pick rs (classify u)) e
      ∙ ap (λ (o : Option (Move (Value x))). first_of o (pick (map (along_choice f) (choices t p y)) (classify u))) (take_unlike m r (classify u) h)
      ∙ pick-along f (choices t p y) (classify u)

  step_alike : (st : Stack) (t : Totals) (u : Token) (p : ℕ) (ts : Ts) (e : Ending) (o : Option (Move (Value y)))
      → move y t (u at p) ≡ o
      → move x t (u at p) ≡ turned f o
      → run (x ∷ st) t ((u at p) ∷ ts) e ≡ run (y ∷ st) t ((u at p) ∷ ts) e
  step_alike st t u p ts e none h g = run_stops x t u p g st ts e ∙ sym (run_stops y t u p h st ts e)
  step_alike st t u p ts e (some z) h g = by_cases z.breaks refl
    where
      by_cases : (b : Bool) → z.breaks ≡ b → run (x ∷ st) t ((u at p) ∷ ts) e ≡ run (y ∷ st) t ((u at p) ∷ ts) e
      by_cases true b = run_breaks x t u p (along f z) g b st ts e ∙ sym (run_breaks y t u p z h b st ts e)
      by_cases false b = run_passes x t u p (along f z) g b st ts e ∙ sym (run_passes y t u p z h b st ts e)

  run_alike : (st : Stack) (t : Totals) (ts : Ts) (e : Ending) → T (not_first m ts) → run (x ∷ st) t ts e ≡ run (y ∷ st) t ts e
  unfolding run
  run_alike st t [] (ends p) h = refl
  run_alike st t [] (broken p) h = refl
  run_alike st t ((u at p) ∷ ts) e h = step_alike st t u p ts e (move y t (u at p)) refl (move_alike t u p h)

  eat_alike : (st : Stack) (a : Far) (k : Values (x ∷ st) → Program) (u : Token) (p : ℕ) (ts : Ts)
      → T (unlike m (classify u))
      → eat (state (x ∷ st) a k) ((u at p) ∷ ts) ≡ eat (state (y ∷ st) a (λ (v, vs). k (f v, vs))) ((u at p) ∷ ts)
  unfolding eat
  eat_alike st a k u p ts h =
      ap
      (λ (o : Option (Move (Value x))). (o >>= λ z. some (follow x st a k p z)) >>= λ s. eat s ts)
      (move_alike a.totals u p h)
      ∙ by_cases (move y a.totals (u at p))
    where
      by_cases : (o : Option (Move (Value y)))
          → ((turned f o >>= λ z. some (follow x st a k p z)) >>= λ s. eat s ts)
          ≡ ((o >>= λ z. some (follow y st a (λ (v, vs). k (f v, vs)) p z)) >>= λ s. eat s ts)
      by_cases none = refl
      by_cases (some z) = refl

-- where no `else` comes first, statements are expected
pub run_no_else : (d : ℕ) (st : Stack) (t : Totals) (ts : Ts) (e : Ending) → T (not_first Fixed.else ts) → run (or_else d ∷ st) t ts e ≡ run (statements d ∷ st) t ts e
run_no_else d = run_alike (or_else d) (statements d) (λ a. (Tree.nothing, a)) Fixed.else (λ t p. (_, refl))

-- where no `also` comes first, statements are expected
pub run_no-also : (d n : ℕ) (st : Stack) (t : Totals) (ts : Ts) (e : Ending) → T (not_first Fixed.also ts) → run (or_also d n ∷ st) t ts e ≡ run (statements d ∷ st) t ts e
run_no-also d n = run_alike (or_also d n) (statements d) (λ b. (Tree.last_arm, b)) Fixed.also (λ t p. (_, refl))

-- so it is with states
pub eat_no_else : (d : ℕ) (st : Stack) (a : Far) (k : Values (or_else d ∷ st) → Program) (u : Token) (p : ℕ) (ts : Ts)
    → T (unlike Fixed.else (classify u))
    → eat (state (or_else d ∷ st) a k) ((u at p) ∷ ts)
    ≡ eat (state (statements d ∷ st) a (λ (b, vs). k ((Tree.nothing, b), vs))) ((u at p) ∷ ts)
eat_no_else d = eat_alike (or_else d) (statements d) (λ a. (Tree.nothing, a)) Fixed.else (λ t p. (_, refl))

pub eat_no_also : (d n : ℕ) (st : Stack) (a : Far) (k : Values (or_also d n ∷ st) → Program) (u : Token) (p : ℕ) (ts : Ts)
    → T (unlike Fixed.also (classify u))
    → eat (state (or_also d n ∷ st) a k) ((u at p) ∷ ts)
    ≡ eat (state (statements d ∷ st) a (λ (b, vs). k ((Tree.last_arm, b), vs))) ((u at p) ∷ ts)
eat_no_also d n = eat_alike (or_also d n) (statements d) (λ b. (Tree.last_arm, b)) Fixed.also (λ t p. (_, refl))
