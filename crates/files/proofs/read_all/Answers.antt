-- What came so far and what comes now are what comes.
use Rattle.std.proofs.Common.{rules}
use Rattle.files.proofs.Coming.{comes_on}
use Rattle.files.proofs.read_all.Goals as goal

pub loop-n-preserved : goal.loop-n-preserved
loop-n-preserved g c =
    let more = comes_on _ _ _ c.loop-n.buf c.read_some.new.buf c.loop-n.n c.in_ok-k.k c.read_some.ensures.front c.loop-n.invariant.2 c.in_ok-k.ensures.bytes in
    (c.in_ok-k.ensures.fits, search rules, more)
