-- `judge::search::Search::follow` meets its contract: a row that does not fit does nothing, and each outcome of its step does to the search what its
-- law says.
use native.Mathlib.Omega.{arith}
use mathlib.Core.Path.{sym, ◌∙◌}
use Rattle.judge.proofs.Following.{followed_unfit, followed_blocked, followed_above, goes_below, followed_goes}
use Rattle.judge.proofs.search.Search.follow.Goals as goal

pub returns-then-not-suits : goal.returns-then-not-suits
returns-then-not-suits c =
    followed_unfit c.requires _ c.row_here-row.ensures (sym c.suits.ensures ∙ c.if-not-suits.true)

pub overflow_add-to : goal.overflow_add-to
overflow_add-to c = omega (arith, goes_below c.requires _ c.row_here-row.ensures _ c.step.ensures _ _ c.in-Goes.is)

pub overflow_mul-to-in-Goes : goal.overflow_mul-to-in-Goes
overflow_mul-to-in-Goes c = omega (arith, goes_below c.requires _ c.row_here-row.ensures _ c.step.ensures _ _ c.in-Goes.is)

pub overflow_add-to-in-Goes : goal.overflow_add-to-in-Goes
overflow_add-to-in-Goes c = omega (arith, goes_below c.requires _ c.row_here-row.ensures _ c.step.ensures _ _ c.in-Goes.is)

pub mark-requires : goal.mark-requires
mark-requires c = goes_below c.requires _ c.row_here-row.ensures _ c.step.ensures _ _ c.in-Goes.is

pub returns-in-Goes : goal.returns-in-Goes
returns-in-Goes c =
    followed_goes c.requires _ c.row_here-row.ensures _ c.step.ensures _ _ c.in-Goes.is _ c.mark.ensures

pub returns-in-Blocked : goal.returns-in-Blocked
returns-in-Blocked c =
    followed_blocked c.requires _ c.row_here-row.ensures _ c.step.ensures c.in-Blocked.is

pub returns-in-OverLimit : goal.returns-in-OverLimit
returns-in-OverLimit c =
    followed_above c.requires _ c.row_here-row.ensures _ c.step.ensures c.in-OverLimit.is
