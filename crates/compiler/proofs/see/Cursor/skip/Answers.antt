-- The loop's invariant: the cursor is behind so many tokens as turns were taken.
use Prim.Native.Nat.{ℕ}
use native.Mathlib.Omega.{arith}
use mathlib.Core.Path.{ap, ◌∙◌}
use Rattle.std.specs.Prelude.{unwrap_or, Option}
use Rattle.compiler.proofs.Seeing.{skip_more, end_or}
use Rattle.compiler.proofs.see.Cursor.skip.Goals as goal

pub loop-preserved : goal.loop-preserved
loop-preserved c = (
  c.loop.invariant.0,
  λ ts h fits.
      let r = c.token_at.result in
      let first = rw c.loop.invariant.0 at c.token_at.ensures in
      let end = c.unwrap_or-self.ensures ∙ ap (λ (o : Option ℕ). unwrap_or o c.loop.self.at) c.end_of.ensures ∙ end_or c.loop.self.at r in
      skip_more r ts (omega arith) (c.loop.invariant.1 ts h fits) first end,
)
