-- What reading refuses is refused with nothing written, and what it takes is emitted.
use Rattle.atoms.proofs.Exits.{exit}
use Rattle.compiler.proofs.Compiling.{too_long, too_short, refused_as_read, emittable_as_read, compiled_as_read}
use Rattle.compiler.proofs.compile.Goals as goal

pub returns-then-text-gt4096 : goal.returns-then-text-gt4096
returns-then-text-gt4096 c = too_long _ _ c.if-text-gt4096.true

pub returns-then-image-lt8246 : goal.returns-then-image-lt8246
returns-then-image-lt8246 c = too_short _ _ c.if-text-gt4096.false c.if-image-lt8246.true

pub returns-in_err-counts : goal.returns-in_err-counts
returns-in_err-counts c =
    rw (exit _ c.from_residual.ensures.1)
    (refused_as_read _ _ c.if-text-gt4096.false c.if-image-lt8246.false (rw c.in_err-counts.was at c.read.ensures))

pub emit-bytes-requires : goal.emit-bytes-requires
emit-bytes-requires c =
    emittable_as_read _ _ c.if-text-gt4096.false c.if-image-lt8246.false (rw c.in_ok-counts.was at c.read.ensures)

pub returns : goal.returns
returns c =
    compiled_as_read _ _ c.if-text-gt4096.false c.if-image-lt8246.false (rw c.in_ok-counts.was at c.read.ensures) c.emit-bytes.ensures
