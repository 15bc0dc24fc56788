-- How much may still be opened, and where the token stands that opens too much.
use Prim.Native.Nat.{ℕ, suc, ◌+◌, ◌<◌}
use native.Mathlib.Omega.{arith}
use mathlib.Core.Path.{◌≡◌, sym, ap, ◌∙◌, subst}
use mathlib.Core.Bool.{true, false}
use mathlib.Core.Option.{some}
use mathlib.Core.List.{List, [], ◌∷◌}
use Rattle.std.specs.Prelude.{Option, Some, None, Err}
use lib.Dec.{leb}
use borrow.Author.Tests.{le-leb, lt-leb}
use Rattle.text.specs.Tokens.{Placed, ◌at◌}
use Rattle.text.specs.First.{FirstToken}
use Rattle.text.specs.declared.Token.{Token}
use Rattle.text.proofs.Tokens.{tokens_once}
use Rattle.rule.specs.Inside.Class.{Class}
use Rattle.rule.specs.Inside.Machine.{Expected, Stack, Value, Totals, Move, choices, pick}
use Rattle.table.specs.Refusal.{number_of}
use Rattle.table.specs.declared.reason.Reason.{Reason}
use Rattle.table.specs.declared.reason.Refusal.{Refusal}
use Rattle.atoms.specs.Atom.{refusal_of}
use Rattle.reader.specs.Inside.Answers.{Moved, Refuses, Opened, spot, Answers}
use Rattle.reader.specs.declared.answers.Reader.{Reader}
use Rattle.reader.specs.declared.scope.Scope.{Scope}
use Rattle.reader.proofs.Moves.{break}

module _ (s : Scope) {o : Option Scope} (h : Opened s o) where
  -- 16 are open
  pub full : o ≡ None → leb 16 s.depth ≡ true
  full e =
      let many : s.depth ≡ 16 = subst (Opened s) e h in
      le-leb 16 s.depth (omega arith)

  -- or one more is
  pub shallow_lem : {i : Scope} → o ≡ Some i → leb 16 s.depth ≡ false
  shallow_lem {i} e =
      let few : s.depth < 16 = (subst (Opened s) e h).2 in
      lt-leb 16 s.depth few

  pub one_deeper : {i : Scope} → o ≡ Some i → i.depth ≡ suc s.depth
  one_deeper {i} e =
      let deeper : i.depth ≡ s.depth + 1 = (subst (Opened s) e h).1 in
      omega arith

  pub same_letters : {i : Scope} → o ≡ Some i → i.letters ≡ s.letters
  same_letters {i} e = (subst (Opened s) e h).0

first_place : List Placed → ℕ
first_place [] = 0
first_place ((t at p) ∷ ts) = p

place_lem : {text : List ℕ} {from : ℕ} (k : Token) (f : FirstToken text from k) {t : _} {p : ℕ} {ts : List Placed} → f.tokens ≡ (t at p) ∷ ts → (refusal_of k).place ≡ p
unfolding first_place
place_lem (Token.Word p q x) f e = ap first_place (sym f.begins.next.first ∙ e)
place_lem (Token.Number p q) f e = ap first_place (sym f.begins.first ∙ e)
place_lem (Token.Letter p q b) f e = ap first_place (sym f.begins.first ∙ e)
place_lem (Token.Sign p q x) f e = ap first_place (sym f.begins.first ∙ e)
place_lem (Token.End p) f e = let no = sym f.begins.none ∙ e in absurd cc
place_lem (Token.Broken p) f e = let no = sym f.begins.none ∙ e in absurd cc

-- where a token is taken, the refusal for a limit that it breaks
pub break_here : {r z : Reader} {k : Class} {why : Reason} {f : Refusal} {x : Expected} {t : Totals} {m : Move (Value x)} {w y : Stack} {b : List ℕ} (h : Moved r k z)
    → Refuses r why f
    → pick (choices t h.place x) k ≡ some m
    → m.breaks ≡ true
    → m.fault ≡ number_of why
    → Answers r.text.now (spot r.at (x ∷ w) t) y b (Err f)
break_here {r} {why = why} {f = f} {x = x} {t = t} {w = w} {y = y} {b = b} h g picked broken fault =
    let place : (refusal_of g.token).place ≡ h.place = place_lem g.token g.first (tokens_once g.first.all h.front.all).0 in
    subst
    (λ (f : Refusal). Answers r.text.now (spot r.at (x ∷ w) t) y b (Err f))
    (sym (g.is ∙ ap (λ (p : ℕ). record { reason = why; place = p }) place))
    (break h.front picked broken fault)
