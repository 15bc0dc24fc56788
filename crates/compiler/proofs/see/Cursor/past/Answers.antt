-- One token is passed, as by `skip`.
use Prim.Native.Nat.{ℕ}
use native.Mathlib.Omega.{arith}
use mathlib.Core.Path.{refl, ap, ◌∙◌}
use Rattle.std.specs.Prelude.{unwrap_or, Option}
use Rattle.compiler.proofs.Seeing.{skip_more, end_or}
use Rattle.compiler.proofs.see.Cursor.past.Goals as goal

pub returns : goal.returns
returns c first =
    let from = c.args.self.now.at in
    let end = c.unwrap_or-self.ensures ∙ ap (λ (o : Option ℕ). unwrap_or o from) c.end_of.ensures ∙ end_or from c.args.token in
    record {
      text = refl;
      passes = record { behind = λ ts h fits. skip_more {i = 0} c.args.token ts (omega (arith, fits)) (record { onward = omega arith; here = h }) first end };
    }
