-- `reader::read` keeps its promise.
use mathlib.Core.Path.{ap, ◌∙◌}
use Rattle.reader.specs.Inside.Answers.{outcome_of}
use Rattle.atoms.proofs.Exits.{exit}
use Rattle.reader.proofs.Promise.{too_long, faulty, too_many_states, too_many_rows, all_taken}
use Rattle.reader.proofs.read.Goals as goal

pub returns-then-text-gt4096 : goal.returns-then-text-gt4096
returns-then-text-gt4096 c = too_long c.args.text.now c.if-text-gt4096.true

pub returns-in_err-counts : goal.returns-in_err-counts
returns-in_err-counts c =
    rw (exit _ c.from_residual.ensures.1) (faulty c.args.text.now c.if-text-gt4096.false (c.program_of.ensures ∙ ap outcome_of c.in_err-counts.was))

pub returns-then-counts-gt128 : goal.returns-then-counts-gt128
returns-then-counts-gt128 c =
    too_many_states c.args.text.now c.if-text-gt4096.false (c.program_of.ensures ∙ ap outcome_of c.in_ok-counts.was) c.if-counts-gt128.true

pub returns-then-counts-gt1024 : goal.returns-then-counts-gt1024
returns-then-counts-gt1024 c =
    too_many_rows
    c.args.text.now
    c.if-text-gt4096.false
    (c.program_of.ensures ∙ ap outcome_of c.in_ok-counts.was)
    c.if-counts-gt128.false
    c.if-counts-gt1024.true

pub returns : goal.returns
returns c =
    all_taken
    c.args.text.now
    c.if-text-gt4096.false
    (c.program_of.ensures ∙ ap outcome_of c.in_ok-counts.was)
    c.if-counts-gt128.false
    c.if-counts-gt1024.false
