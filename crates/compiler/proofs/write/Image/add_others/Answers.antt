-- The loop's invariant: the rows of the first symbols are written.
use mathlib.Core.Path.{refl, ◌∙◌}
use Rattle.compiler.proofs.AtomRows.{partly_none, partly_room, partly_more, partly_all}
use Rattle.compiler.proofs.write.Image.add_others.Goals as goal

pub loop-i-init : goal.loop-i-init
loop-i-init c = (refl, partly_none _ _ _)

pub add_unless-requires : goal.add_unless-requires
add_unless-requires c =
    (partly_room _ _ _ c.loop-i.invariant.1 c.requires.0 _ _ c.letters-letters.ensures c.loop-i-test.true c.nth.ensures, c.requires.1, c.requires.2)

pub loop-i-preserved : goal.loop-i-preserved
loop-i-preserved c =
    (c.add_unless.ensures.out ∙ c.loop-i.invariant.0, partly_more _ _ _ c.loop-i.invariant.1 _ _ _ _ c.letters-letters.ensures c.loop-i-test.true c.nth.ensures c.add_unless.ensures.writes)

pub returns : goal.returns
returns c =
    record {
      writes = partly_all _ _ _ c.loop-i.invariant.1 _ c.letters-letters.ensures c.loop-i-test.false;
      out = c.loop-i.invariant.0;
    }
