-- What may follow and does not: where a token that may stand first does not, the machine goes on as if it expected the rest.
use Prim.Native.Nat.{ℕ}
use native.Mathlib.Omega.{arith}
use mathlib.Core.Path.{◌≡◌, refl, sym, ap, ◌∙◌, subst}
use mathlib.Core.Bool.{Bool, true, false, not}
use mathlib.Core.Option.{none}
use mathlib.Core.List.{List, [], ◌∷◌, ◌++◌}
use lib.Dec.{T}
use Rattle.text.specs.Token as Spelt
use Rattle.text.specs.Token.{word, sign}
use Rattle.text.specs.Tokens.{Placed, ◌at◌, Ending, ends, broken}
use Rattle.text.specs.First.{FirstToken}
use Rattle.text.specs.declared.Token.{Token}
use Rattle.text.specs.Inside.Same.{same_token}
use Rattle.rule.specs.Inside.Class.{Fixed, spell, Class, mark, other, classify}
use Rattle.rule.specs.Inside.Machine.{Expected, exact, distance, number, or_else, or_also, statements, Stack, Totals, outside, choices, pick, move, run}
use Rattle.rule.proofs.Machine.Steps.{run_stops, run_breaks, run_passes}
use Rattle.rule.proofs.Machine.Follow.{unlike, not_first, run_no_else, run_no-also}
use Rattle.std.specs.Prelude.{Result, Ok, Err}
use Rattle.std.specs.Result.{result_unwrap_or}
use Rattle.table.specs.declared.reason.Refusal.{Refusal}
use Rattle.reader.specs.Inside.Answers.{Lacks, Takes, totals, spot, before, ComesTo, Arrives}
use Rattle.reader.specs.declared.answers.Reader.{Reader}
use Rattle.reader.proofs.Moves.{peeked, took_with}
use Rattle.reader.proofs.Taken.{unlike_here}

-- where a mark does not come first, what is expected is the rest
peek : {text : List ℕ} {from : ℕ} {k : Token} {x : Expected} {y : Stack} {t : Totals} (m : Fixed) (f : FirstToken text from k)
    → T (not_first m f.tokens)
    → ((st : Stack) (ts : List Placed) (e : Ending) → T (not_first m ts) → run (x ∷ st) t ts e ≡ run (y ++ st) t ts e)
    → ComesTo text (spot from (x ∷ []) t) (spot from y t)
peek m f n h =
    record {
      before = f.tokens;
      after = f.tokens;
      ending = f.ending;
      here = f.all;
      there = f.all;
      same = λ st. h st f.tokens f.ending n;
      forth = omega arith;
    }

-- without a `-`, a distance is a number
module _ (t : Totals) (st : Stack) (u : Spelt.Token) (p : ℕ) (us : List Placed) (e : Ending) where
  abbrev behind_number : Stack
  behind_number = exact Fixed.closes ∷ exact Fixed.semicolon ∷ st

  no_minus : (m : Fixed) (b : Bool) → same_token (spell m) (spell Fixed.minus) ≡ b → T (not b) → pick (choices t p distance) (mark m) ≡ none
  no_minus m true s h = absurd h
  no_minus m false s h = rw (s, pick)

  as_number : (l : List ℕ) (b : Bool)
      → classify u ≡ Class.number l
      → outside 63 l ≡ b
      → run (distance ∷ st) t ((u at p) ∷ us) e ≡ run (number 63 ∷ behind_number) t ((u at p) ∷ us) e
  unfolding move
  as_number l true is o =
      run_breaks distance t u p _ (ap (pick (choices t p distance)) is) o st us e ∙ sym (run_breaks (number 63) t u p _ (ap (pick (choices t p (number 63))) is) o behind_number us e)
  as_number l false is o =
      run_passes distance t u p _ (ap (pick (choices t p distance)) is) o st us e ∙ sym (run_passes (number 63) t u p _ (ap (pick (choices t p (number 63))) is) o behind_number us e)

  as_other : (k : Class)
      → classify u ≡ k
      → pick (choices t p distance) k ≡ none
      → pick (choices t p (number 63)) k ≡ none
      → run (distance ∷ st) t ((u at p) ∷ us) e ≡ run (number 63 ∷ behind_number) t ((u at p) ∷ us) e
  unfolding move
  as_other k is h g =
      run_stops distance t u p (rw is h) st us e ∙ sym (run_stops (number 63) t u p (rw is g) behind_number us e)

  no_minus_first : (k : Class)
      → classify u ≡ k
      → T (unlike Fixed.minus k)
      → run (distance ∷ st) t ((u at p) ∷ us) e ≡ run (number 63 ∷ behind_number) t ((u at p) ∷ us) e
  no_minus_first (mark m) is n = as_other (mark m) is (no_minus m (same_token (spell m) (spell Fixed.minus)) refl n) refl
  no_minus_first (Class.number l) is n = as_number l (outside 63 l) is refl
  no_minus_first (Class.letter b) is n = as_other (Class.letter b) is refl refl
  no_minus_first (other v) is n = as_other (other v) is refl refl

run_no_minus : (t : Totals) (st : Stack) (ts : List Placed) (e : Ending)
    → T (not_first Fixed.minus ts)
    → run (distance ∷ st) t ts e ≡ run (number 63 ∷ exact Fixed.closes ∷ exact Fixed.semicolon ∷ st) t ts e
unfolding run
run_no_minus t st [] (ends p) n = refl
run_no_minus t st [] (broken p) n = refl
run_no_minus t st ((u at p) ∷ us) e n = no_minus_first t st u p us e (classify u) refl n

-- so a reader that lacks the mark is before the rest
module _ {r : Reader} {a : List ℕ} where
  pub no_minus_here : Lacks Fixed.minus r.text.now r.at → Arrives r.text.now (before r (distance ∷ []) a) (number 63 ∷ exact Fixed.closes ∷ exact Fixed.semicolon ∷ []) a r
  no_minus_here h = peeked (peek Fixed.minus h.first (unlike_here h h.first) (λ st ts e n. run_no_minus (totals a r.counts) st ts e n))

  pub no_else_here : {d : ℕ} → Lacks Fixed.else r.text.now r.at → Arrives r.text.now (before r (or_else d ∷ []) a) (statements d ∷ []) a r
  no_else_here {d} h = peeked (peek Fixed.else h.first (unlike_here h h.first) (λ st ts e n. run_no_else d st (totals a r.counts) ts e n))

  pub no_also_here : {d n : ℕ} → Lacks Fixed.also r.text.now r.at → Arrives r.text.now (before r (or_also d n ∷ []) a) (statements d ∷ []) a r
  no_also_here {d} {n} h = peeked (peek Fixed.also h.first (unlike_here h h.first) (λ st ts e g. run_no-also d n st (totals a r.counts) ts e g))

  -- a `-`, if there is one, and then the number
  pub minus_or : {u : Result Reader Refusal} {n : Reader}
      → Takes Fixed.minus r u
      → n ≡ result_unwrap_or u r
      → Arrives r.text.now (before r (distance ∷ []) a) (number 63 ∷ exact Fixed.closes ∷ exact Fixed.semicolon ∷ []) a n
  minus_or {u = Ok z} h e =
      subst
      (Arrives r.text.now (before r (distance ∷ []) a) (number 63 ∷ exact Fixed.closes ∷ exact Fixed.semicolon ∷ []) a)
      (sym e)
      (took_with h.right [] refl refl refl)
  minus_or {u = Err f} h e =
      subst
      (Arrives r.text.now (before r (distance ∷ []) a) (number 63 ∷ exact Fixed.closes ∷ exact Fixed.semicolon ∷ []) a)
      (sym e)
      (no_minus_here h.right.lacks)
