-- The reader finds the atom that stands here, and its rows are those of the answer.
use mathlib.Core.Path.{refl}
use Rattle.compiler.proofs.Walking.{atom_states, atom_not_refused, atom_room, atom_onward, atom_emits}
use Rattle.compiler.proofs.Emitter.emit_atom.Goals as goal

pub unreachable-requires : goal.unreachable-requires
unreachable-requires c = atom_not_refused c.requires.doing c.atom_at.ensures c.in_default.not-Ok

pub add_atom-requires : goal.add_atom-requires
add_atom-requires c =
    let d = c.requires.doing in
    let states = atom_states d in
    (atom_room d c.atom_at.ensures _ c.in-Ok.is, states.0, states.1)

pub returns : goal.returns
returns c =
    let reads = c.atom_at.ensures in
    let is = c.in-Ok.is in
    record {
      emits = λ d. atom_emits d reads _ is c.add_atom.ensures.writes;
      onward = atom_onward c.requires.doing reads _ is;
      text = refl;
      same = record { name = refl; out = c.add_atom.ensures.out };
    }
