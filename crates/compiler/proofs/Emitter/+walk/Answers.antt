-- The walker's cycle of calls. The measure is five for each byte of the text that is left, and a rank: a chain of `||`, a side of it,
-- a chain of `&&`, a side of it, an operand.
use native.Mathlib.Omega.{arith}
use mathlib.Core.Path.{◌∙◌, ap, subst}
use mathlib.Core.Bool.{Bool}
use lib.ListN.{length}
use Rattle.compiler.specs.Inside.Operators.{is_or, Ahead}
use Rattle.compiler.specs.Inside.Emission.{Leads}
use Rattle.compiler.proofs.Seeing.{passes_in, eats_again}
use Rattle.compiler.proofs.Emission.{ready, ready_in, ready_at, emits_in, emits_at, emitted_past, past_onward, same_then}
use Rattle.compiler.proofs.Walking.{rank_falls, walk_few, walk_some, sides_here, before_operator, behind_operator, operator_onward, both_sides, side_doing, sign_onward, negation_doing, parens_doing, atom_doing}
use Rattle.compiler.proofs.Emitter.+walk.Goals as goal

pub emit_chain-way-course-requires : goal.emit_chain-way-course-requires
emit_chain-way-course-requires t c = walk_few c.requires.doing

pub emit_chain-emit_side-requires : goal.emit_chain-emit_side-requires
emit_chain-emit_side-requires t c = (
  omega (arith, rank_falls (is_or c.args.operator), c.decreases),
  let d = c.requires.doing in
      ready (before_operator (subst (λ (b : Bool). Leads b c.args.to c.args.self.now.state c.args.self.now.next c.way-course.result) c.takes_state.ensures c.way-course.ensures) d (sides_here (subst (Ahead _ _ _) c.if-operator_ahead.true c.operator_ahead.ensures) d)),
)

pub emit_chain-emit_chain-requires : goal.emit_chain-emit_chain-requires
emit_chain-emit_chain-requires t c =
    let d = c.requires.doing in
    let g = subst (λ (b : Bool). Leads b c.args.to c.args.self.now.state c.args.self.now.next c.way-course.result) c.takes_state.ensures c.way-course.ensures in
    let s = sides_here (subst (Ahead _ _ _) c.if-operator_ahead.true c.operator_ahead.ensures) d in
    let first = c.emit_side.ensures in
    let e = first.emits (before_operator g d s) in
    let pass = passes_in first.text c.skip.ensures in
    let text = c.skip.ensures.text ∙ first.text in (
      omega (arith, c.decreases, first.onward, operator_onward g d s e pass, walk_some d, ap length text),
      ready_in text (behind_operator g d s e pass),
    )

pub emit_chain-emit_side-requires-else-operator_ahead : goal.emit_chain-emit_side-requires-else-operator_ahead
emit_chain-emit_side-requires-else-operator_ahead t c =
    (omega (arith, rank_falls (is_or c.args.operator), c.decreases), ready (side_doing (subst (Ahead _ _ _) c.if-operator_ahead.false c.operator_ahead.ensures) c.requires.doing))

pub emit_chain-returns-then-operator_ahead : goal.emit_chain-returns-then-operator_ahead
emit_chain-returns-then-operator_ahead t c =
    let l = subst (Ahead _ _ _) c.if-operator_ahead.true c.operator_ahead.ensures in
    let g = subst (λ (b : Bool). Leads b c.args.to c.args.self.now.state c.args.self.now.next c.way-course.result) c.takes_state.ensures c.way-course.ensures in
    let first = c.emit_side.ensures in
    let last = c.emit_chain.ensures in
    let pass = passes_in first.text c.skip.ensures in
    let text = c.skip.ensures.text ∙ first.text in
    let d₀ = c.requires.doing in
    let s₀ = sides_here l d₀ in
    record {
      emits = λ d.
          let s = sides_here l d in
          let e = first.emits (before_operator g d s) in
          both_sides g d s e pass (emits_in last text (behind_operator g d s e pass));
      onward = omega (arith, first.onward, operator_onward g d₀ s₀ (first.emits (before_operator g d₀ s₀)) pass, last.onward);
      text = last.text ∙ text;
      same = same_then first.same last.same;
    }

pub emit_chain-returns-else-operator_ahead : goal.emit_chain-returns-else-operator_ahead
emit_chain-returns-else-operator_ahead t c =
    let l = subst (Ahead _ _ _) c.if-operator_ahead.false c.operator_ahead.ensures in
    let side = c.emit_side-else-operator_ahead.ensures in
    record { emits = λ d. side.emits (side_doing l d); onward = side.onward; text = side.text; same = side.same }

pub emit_operand-emit_operand-requires : goal.emit_operand-emit_operand-requires
emit_operand-emit_operand-requires t c =
    let eats = c.past_sign.ensures c.next-token.ensures in
    let hit = eats.hit c.if-past_sign.true in
    let d = c.requires.doing in (
      omega (arith, c.decreases, sign_onward d hit, walk_some d, ap length eats.text),
      ready_in eats.text (negation_doing d hit),
    )

pub emit_operand-emit_chain-requires : goal.emit_operand-emit_chain-requires
emit_operand-emit_chain-requires t c =
    let eats = eats_again ((c.past_sign.ensures c.next-token.ensures).miss c.if-past_sign.false).1 c.next-token.ensures c.past_sign-else-past_sign.ensures in
    let hit = eats.hit c.if-past_sign-2.true in
    let d = c.requires.doing in (
      omega (arith, c.decreases, sign_onward d hit, walk_some d, ap length eats.text),
      ready_in eats.text (parens_doing d hit),
    )

pub emit_operand-emit_atom-requires : goal.emit_operand-emit_atom-requires
emit_operand-emit_atom-requires t c =
    let none = (c.past_sign.ensures c.next-token.ensures).miss c.if-past_sign.false in
    let closed = (eats_again none.1 c.next-token.ensures c.past_sign-else-past_sign.ensures).miss c.if-past_sign-2.false in
    ready_at closed.1 (ready (atom_doing none.0 closed.0 c.requires.doing))

pub emit_operand-returns-then-past_sign : goal.emit_operand-returns-then-past_sign
emit_operand-returns-then-past_sign t c =
    let eats = c.past_sign.ensures c.next-token.ensures in
    let hit = eats.hit c.if-past_sign.true in
    let inner = c.emit_operand.ensures in
    record {
      emits = λ d. emits_in inner eats.text (negation_doing d hit);
      onward = omega (arith, sign_onward c.requires.doing hit, inner.onward);
      text = inner.text ∙ eats.text;
      same = inner.same;
    }

pub emit_operand-returns-then-past_sign-2 : goal.emit_operand-returns-then-past_sign-2
emit_operand-returns-then-past_sign-2 t c =
    let eats = eats_again ((c.past_sign.ensures c.next-token.ensures).miss c.if-past_sign.false).1 c.next-token.ensures c.past_sign-else-past_sign.ensures in
    let hit = eats.hit c.if-past_sign-2.true in
    let inner = c.emit_chain.ensures in
    let text = inner.text ∙ eats.text in
    let pass = passes_in text c.skip.ensures in
    let d₀ = c.requires.doing in
    record {
      emits = λ d. emitted_past (emits_in inner eats.text (parens_doing d hit)) pass;
      onward =
          omega (
            arith,
            sign_onward d₀ hit,
            inner.onward,
            past_onward (emits_in inner eats.text (parens_doing d₀ hit)) pass,
          );
      text = c.skip.ensures.text ∙ text;
      same = inner.same;
    }

pub emit_operand-returns-else-past_sign-2 : goal.emit_operand-returns-else-past_sign-2
emit_operand-returns-else-past_sign-2 t c =
    let none = (c.past_sign.ensures c.next-token.ensures).miss c.if-past_sign.false in
    let closed = (eats_again none.1 c.next-token.ensures c.past_sign-else-past_sign.ensures).miss c.if-past_sign-2.false in
    let atom = emits_at closed.1 c.emit_atom.ensures in
    record {
      emits = λ d. atom.emits (atom_doing none.0 closed.0 d);
      onward = atom.onward;
      text = atom.text;
      same = atom.same;
    }
