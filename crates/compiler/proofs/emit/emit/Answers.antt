-- The image is behind the reference that the emitter holds, and the buffer behind the one that the image holds.
use mathlib.Core.Path.{sym, ◌∙◌, ap}
use Rattle.compiler.specs.declared.write.Image.{Image}
use Rattle.compiler.proofs.Emission.{ready}
use Rattle.compiler.proofs.Setting.{whole_image}
use Rattle.compiler.proofs.emit.emit.Goals as goal

pub emit_statements-requires : goal.emit_statements-requires
emit_statements-requires c = ready (c.begin-image.ensures.begins c.requires.fits).doing

pub returns : goal.returns
returns c =
    let emits = c.emit_statements.ensures in
    let image = c.image-2-1.given.1 (sym emits.same.name) in
    let name = ap (λ (i : Image). i.out.ghost_name) image ∙ emits.same.out ∙ c.begin-image.ensures.out in
    let out = c.out-1.given.1.1 (sym name) in
    record {
      images = λ fits. whole_image fits (c.begin-image.ensures.begins fits) emits
          (out ∙ ap (λ (i : Image). i.out.now) image)
          (ap (λ (i : Image). i.row) image);
    }
