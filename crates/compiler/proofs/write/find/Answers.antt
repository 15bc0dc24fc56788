-- The index of the first that is the byte, or their number where none is.
use Prim.Native.Nat.{ℕ}
use mathlib.Core.Path.{◌≡◌, ◌∙◌}
use Rattle.std.proofs.Common.{rules, tests}
use Rattle.std.proofs.lemmas.Iterator.{IsFirst-from_position, YieldsList-from_slice}
use Rattle.compiler.proofs.Writing.{index_by}
use Rattle.compiler.proofs.write.find.Goals as goal

pub returns-clause-index : goal.returns-clause-index
returns-clause-index c =
    let first = IsFirst-from_position _ _ _ (λ (x : ℕ). x ≡ c.args.byte) (λ (x : ℕ). ¬ (x ≡ c.args.byte)) c.position.ensures.ran (YieldsList-from_slice c.args.bytes.now cc) (λ x q k. search (rules, tests)) (λ x q k. search (rules, tests)) in
    c.unwrap_or.ensures ∙ index_by c.args.bytes.now c.args.byte c.position.result first
