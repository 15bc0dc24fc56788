-- `tokeniser::ends::end_of` meets its contract. The loop's invariant: wherever the run from here ends, the whole run does.
use native.Mathlib.Omega.{arith}
use Prim.Native.Nat.{ℕ}
use mathlib.Core.Path.{◌≡◌, refl, sym, subst, ◌∙◌}
use mathlib.Core.Bool.{Bool}
use mathlib.Core.List.{List}
use lib.ListN.{length}
use Rattle.tokeniser.specs.Inside.Tokenising.{Run, over, stop, on}
use Rattle.tokeniser.proofs.ends.end_of.Goals as goal

pub returns-then-not-goes_on : goal.returns-then-not-goes_on
returns-then-not-goes_on g c test answers =
    c.loop-i.invariant test answers _ (stop (omega arith) (sym (answers _ _ c.goes_on.ensures) ∙ c.if-not-goes_on.true))

pub loop-i-preserved : goal.loop-i-preserved
loop-i-preserved g c test answers n r =
    c.loop-i.invariant test answers n (on (omega arith) (sym (answers _ _ c.goes_on.ensures) ∙ c.if-not-goes_on.false) r)

-- the loop has come to the text's end
at_end : {test : ℕ → Bool} {text : List ℕ} {i n : ℕ} → i ≡ n → n ≡ length text → Run test text i n
at_end {test} {text} e f = subst (Run test text _) e (over (omega arith))

pub returns : goal.returns
returns g c test answers = c.loop-i.invariant test answers _ (at_end (omega arith) refl)
