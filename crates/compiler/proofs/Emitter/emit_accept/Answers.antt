-- The bit is set, and a state is taken.
use mathlib.Core.Path.{sym, ap, subst, ◌∙◌}
use Rattle.compiler.specs.Inside.Writing.{Sets}
use Rattle.compiler.specs.declared.write.Image.{Image}
use Rattle.std.specs.Borrow.{MutBor}
use Rattle.compiler.proofs.Stating.{stopping_from, accept_few, accept_emitted, accept_onward}
use Rattle.compiler.proofs.Emitter.emit_accept.Goals as goal

pub emit_stop-requires : goal.emit_stop-requires
emit_stop-requires c = accept_few c.requires.doing

pub returns : goal.returns
returns c =
    let stops = c.emit_stop.ensures in
    let marks = c.accept.ensures in
    let sets = subst (λ (i : MutBor Image). Sets c.args.self.now.image.now.out.now i.now.out.now c.args.self.now.state) (sym stops.image) marks.marks in
    let st = stopping_from c.args.self.now.image.now stops marks.row in
    record {
      emits = λ d. accept_emitted d sets st;
      onward = accept_onward c.requires.doing st;
      text = stops.text;
      same = record {
        name = ap (λ (i : MutBor Image). i.ghost_name) stops.image;
        out = ap (λ (i : MutBor Image). i.now.out.ghost_name) stops.image ∙ marks.out;
      };
    }
