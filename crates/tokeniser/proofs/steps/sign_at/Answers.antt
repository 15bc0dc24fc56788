-- `tokeniser::steps::sign_at` meets its contract: the longest sign is the pair, or else the single byte.
use Rattle.tokeniser.proofs.Standing.{pair_first, single_first, neither_first}
use Rattle.tokeniser.proofs.steps.sign_at.Goals as goal

pub returns-in-Some : goal.returns-in-Some
returns-in-Some c =
    pair_first c.args.text.now c.args.at c.requires.0 c.requires.1 c.byte_at-second.ensures c.sign_of.ensures
    _ c.in-Some.is

pub returns-in-Some-sign_of : goal.returns-in-Some-sign_of
returns-in-Some-sign_of c =
    single_first c.args.text.now c.args.at c.requires.0 c.requires.1 c.byte_at-second.ensures c.sign_of.ensures
    _ c.in-None.is c.sign_of-in-None.ensures c.in-Some-sign_of.is

pub returns-in-None-sign_of : goal.returns-in-None-sign_of
returns-in-None-sign_of c =
    neither_first c.args.text.now c.args.at c.requires.0 c.requires.1 c.byte_at-second.ensures c.sign_of.ensures
    c.in-None.is c.sign_of-in-None.ensures c.in-None-sign_of.is
