-- Each arm says what its mark says at this depth.
use Prim.Native.Nat.{ℕ}
use mathlib.Core.Path.{◌≡◌, refl, sym, ◌∙◌, ap}
use mathlib.Core.Bool.{Bool, true, false, not, true≢false}
use Rattle.std.specs.declared.ops.ControlFlow.{ControlFlow}
use Rattle.std.specs.declared.ops.ControlFlow.TheVariants.{Break, Continue}
use Rattle.text.specs.declared.Sign.{Sign}
use Rattle.compiler.specs.Inside.Operators.{Bracketing, look_at, mark_of, is_or}
use Rattle.compiler.proofs.Operators.{
  or_told,
  and_told,
  look_opening,
  look_closing,
  look_closed,
  look_or,
  look_deep_or,
  look_and,
  look_past_and,
  look_deep_and,
  other_mark,
  look_other,
}
use Rattle.compiler.proofs.ahead.look.Goals.{else-depth-eq0-3-via-then-depth-eq0-3+else-eq, else-depth-eq0-3-via-else-depth-eq0-3}
use Rattle.compiler.proofs.ahead.look.Goals as goal

-- what is found at a sign is found at its mark
at_mark : {r : ControlFlow Bool ℕ} (x : Sign) (m : Bracketing) (depth : ℕ) (sought : Bool) → mark_of x ≡ m → r ≡ look_at m depth sought → r ≡ look_at (mark_of x) depth sought
at_mark x m depth sought e f = f ∙ ap (λ (n : Bracketing). look_at n depth sought) (sym e)

not_false : (b : Bool) → true ≡ not b → b ≡ false
not_false false e = refl
not_false true e = absurd (true≢false e)

not_true : (b : Bool) → false ≡ not b → b ≡ true
not_true true e = refl
not_true false e = absurd (true≢false (sym e))

pub returns-in-OpenParen : goal.returns-in-OpenParen
returns-in-OpenParen c = at_mark c.args.sign _ c.args.depth _ (ap mark_of c.in-OpenParen.is) (look_opening _ _)

pub returns-then-depth-eq0 : goal.returns-then-depth-eq0
returns-then-depth-eq0 c = at_mark c.args.sign _ c.args.depth _ (ap mark_of c.in-CloseParen.is) (look_closing _ _ c.if-depth-eq0.true)

pub returns-else-depth-eq0 : goal.returns-else-depth-eq0
returns-else-depth-eq0 c = at_mark c.args.sign _ c.args.depth _ (ap mark_of c.in-CloseParen.is) (look_closed _ _ c.if-depth-eq0.false)

pub returns-then-depth-eq0-2 : goal.returns-then-depth-eq0-2
returns-then-depth-eq0-2 c =
    let is : c.eq.result ≡ is_or c.args.operator = c.eq.ensures ∙ or_told c.args.operator in
    at_mark c.args.sign _ c.args.depth _ (ap mark_of c.in-Or.is) (ap (λ (b : Bool). Break b) is ∙ look_or _ _ c.if-depth-eq0-2.true)

pub returns-else-depth-eq0-2 : goal.returns-else-depth-eq0-2
returns-else-depth-eq0-2 c = at_mark c.args.sign _ c.args.depth _ (ap mark_of c.in-Or.is) (look_deep_or _ _ c.if-depth-eq0-2.false)

pub returns-then-eq : goal.returns-then-eq
returns-then-eq c =
    let and : true ≡ not (is_or c.args.operator) = c.if-eq.ensures ∙ and_told c.args.operator in
    at_mark c.args.sign _ c.args.depth _ (ap mark_of c.in-And.is) (look_and _ _ c.if-depth-eq0-3.true (not_false _ and))

pub returns-else-depth-eq0-3 : goal.returns-else-depth-eq0-3
returns-else-depth-eq0-3 c =
    let operator = c.args.operator in
    let past : Continue c.args.depth ≡ look_at (mark_of Sign.And) c.args.depth (is_or operator) =
    elim c.else-depth-eq0-3.branch [
      | else-depth-eq0-3-via-then-depth-eq0-3+else-eq w ↦ look_past_and _ _ w.if-depth-eq0-3.true (not_true _ (w.if-eq.ensures ∙ and_told operator))
      | else-depth-eq0-3-via-else-depth-eq0-3 w ↦ look_deep_and _ _ w.if-depth-eq0-3.false
    ]
    in
    at_mark c.args.sign _ c.args.depth _ (ap mark_of c.in-And.is) past

pub returns-in_default : goal.returns-in_default
returns-in_default c =
    let none = c.in_default in
    at_mark c.args.sign _ c.args.depth _ (other_mark c.args.sign none.not-OpenParen none.not-CloseParen none.not-Or none.not-And) (look_other _ _)
