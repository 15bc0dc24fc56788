-- Two free rows, or a condition's.
use native.Mathlib.Omega.{arith}
use mathlib.Core.Path.{refl, ◌∙◌}
use Rattle.compiler.proofs.Emission.{ready, ready_at, emits_at}
use Rattle.compiler.proofs.Nesting.{entry_asks, choice_onward, choice_room, choice_room_then, choice_emitted}
use Rattle.compiler.proofs.Emitter.emit_entry.Goals as goal

pub add_free-requires : goal.add_free-requires
add_free-requires c = choice_room c.requires.doing (c.eat_word.ensures.hit c.if-eat_word.true)

pub add_free-requires-then-eat_word : goal.add_free-requires-then-eat_word
add_free-requires-then-eat_word c = choice_room_then c.requires.doing (c.eat_word.ensures.hit c.if-eat_word.true) c.add_free.ensures.writes

pub returns-then-eat_word : goal.returns-then-eat_word
returns-then-eat_word c =
    let hit = c.eat_word.ensures.hit c.if-eat_word.true in
    record {
      emits = λ d. choice_emitted d hit c.add_free.ensures.writes c.add_free-then-eat_word.ensures.writes;
      onward = omega (arith, choice_onward c.requires.doing hit);
      text = c.eat_word.ensures.text;
      same = record { name = refl; out = c.add_free-then-eat_word.ensures.out ∙ c.add_free.ensures.out };
    }

pub emit_condition-requires : goal.emit_condition-requires
emit_condition-requires c =
    let miss = c.eat_word.ensures.miss c.if-eat_word.false in
    ready_at miss.1 (ready (entry_asks c.requires.doing miss.0))

pub returns-else-eat_word : goal.returns-else-eat_word
returns-else-eat_word c =
    let miss = c.eat_word.ensures.miss c.if-eat_word.false in
    let asked = emits_at miss.1 c.emit_condition.ensures in
    record {
      emits = λ d. asked.emits (entry_asks d miss.0);
      onward = asked.onward;
      text = asked.text;
      same = asked.same;
    }
