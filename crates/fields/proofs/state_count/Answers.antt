-- The two bytes of tag 4. Assumes nothing.
use mathlib.Core.Path.{◌∙◌}
use Rattle.table.proofs.Reading.{states_inside}
use Rattle.fields.proofs.state_count.Goals as goal

pub returns : goal.returns
returns c = c.two_at.ensures ∙ states_inside _ _ c.letters.ensures
