-- `judge::search::Search::visit` meets its contract: a row out of another state does nothing.
use mathlib.Core.Path.{sym, ◌∙◌}
use Rattle.judge.proofs.Following.{followed_other}
use Rattle.judge.proofs.search.Search.visit.Goals as goal

pub returns : goal.returns
returns c =
    followed_other c.requires.row (sym c.leaves.ensures ∙ c.if-leaves.false)
