-- The condition is walked twice, from the same byte of the text.
use native.Mathlib.Omega.{arith}
use mathlib.Core.Path.{◌∙◌}
use Rattle.compiler.proofs.Seeing.{passes_in}
use Rattle.compiler.proofs.Emission.{ready_in, emits_in, past_onward, same_then}
use Rattle.compiler.proofs.Walking.{holding_doing, failing_doing, tests_onward, tests_emitted}
use Rattle.compiler.proofs.Emitter.emit_condition.Goals as goal

pub emit_chain-requires : goal.emit_chain-requires
emit_chain-requires c = ready_in c.skip.ensures.text (holding_doing c.skip.ensures.passes c.requires.doing)

pub emit_chain-requires-2 : goal.emit_chain-requires-2
emit_chain-requires-2 c =
    let enters = c.skip.ensures in
    let d = c.requires.doing in
    ready_in enters.text (failing_doing enters.passes d (emits_in c.emit_chain.ensures enters.text (holding_doing enters.passes d)))

pub returns : goal.returns
returns c =
    let enters = c.skip.ensures in
    let holding = c.emit_chain.ensures in
    let failing = c.emit_chain-2.ensures in
    let text = failing.text ∙ enters.text in
    let leaves = passes_in text c.skip-2.ensures in
    let d₀ = c.requires.doing in
    record {
      emits = λ d.
          tests_emitted enters.passes d
          (emits_in failing enters.text (failing_doing enters.passes d (emits_in holding enters.text (holding_doing enters.passes d))))
          leaves;
      onward =
          omega (
            arith,
            tests_onward enters.passes d₀,
            failing.onward,
            past_onward
                (emits_in failing enters.text (failing_doing enters.passes d₀ (emits_in holding enters.text (holding_doing enters.passes d₀))))
                leaves,
          );
      text = c.skip-2.ensures.text ∙ text;
      same = same_then holding.same failing.same;
    }
