-- `refusing::first_reason` meets its contract: each reason where none before it holds. Assumes nothing.
use Rattle.std.proofs.Common.{rules, ◌≡◌}
use Rattle.std.specs.Prelude.{Err}
use Rattle.refusing.proofs.Letters.{letters_whole}
use Rattle.refusing.proofs.Reasons.{checked_yes, refused_image, refused_word, refused_letter, refused_limit, admitted}
use Rattle.refusing.proofs.first_reason.Goals as goal

pub returns-in_err-check : goal.returns-in_err-check
returns-in_err-check c =
    let same : c.from_residual.result ≡ Err c.in_err-check.field-0.0 = search rules in
    rw same (refused_image _ _ _ c.in_err-check.ensures)

pub returns-then-long : goal.returns-then-long
returns-then-long c = refused_word _ _ _ (checked_yes c.in_ok-check.ensures) c.if-long.true

pub outside-requires : goal.outside-requires
outside-requires c = letters_whole (checked_yes c.in_ok-check.ensures)

pub returns-in-Some : goal.returns-in-Some
returns-in-Some c = refused_letter _ _ _ (checked_yes c.in_ok-check.ensures) c.if-long.false c.in-Some.ensures

pub returns-then-limit-gt31 : goal.returns-then-limit-gt31
returns-then-limit-gt31 c =
    refused_limit _ _ _ (checked_yes c.in_ok-check.ensures) c.if-long.false c.in_default.ensures c.if-limit-gt31.true

pub returns : goal.returns
returns c = admitted _ _ _ (checked_yes c.in_ok-check.ensures) c.if-long.false c.in_default.ensures c.if-limit-gt31.false
