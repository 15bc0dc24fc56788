-- `judge::judge` meets its contract: a refusal leaves the marks as they were, and all else is decided.
use Rattle.std.proofs.Common.{rules, ◌≡◌, refl}
use Rattle.std.specs.Prelude.{Err}
use Rattle.judge.proofs.Deciding.{refused_input, refused_marks, admitted_undecided}
use Rattle.judge.proofs.judge.Goals as goal

pub returns-in_err-first_reason : goal.returns-in_err-first_reason
returns-in_err-first_reason c =
    let same : c.from_residual.result ≡ Err c.in_err-first_reason.field-0.0 = search rules in
    rw same (refused_input c.in_err-first_reason.ensures refl)

pub decide-requires : goal.decide-requires
decide-requires c = admitted_undecided c.in_ok-first_reason.ensures

pub returns-in-None : goal.returns-in-None
returns-in-None c = refused_marks c.in_ok-first_reason.ensures c.in-None.ensures.cases refl
