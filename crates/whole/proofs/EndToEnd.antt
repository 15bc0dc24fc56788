-- THE END THEOREM. The office gives a rule's text and an image buffer to `valaiyoth_compile`, which answers a number n below 1,000,000.
-- A dock lends the first n bytes of that buffer to `valaiyoth_judge`, with a record, a limit and marks. Then the text is a program of
-- the language, and of that program:
--
--   the dock grants exactly when the record has up to 62 of the rule's letters, the limit is 0 to 31, the marks are 65,536 bytes, and
--   some run of the program within the limit accepts;
--   if it says no, no run of the program accepts, however high the counter may go;
--   if it says that the limit was met, no run of the program within this limit accepts;
--   of these two it gives limit met exactly where some run of the rule's table comes to a step that would pass the limit;
--   and it gives one of the three exactly when record, limit and marks are as said: anything else is refused, and no rule that was
--   compiled is refused for its image.
--
-- Nothing is assumed but what the two C functions promise: `CompilesTo` and `Judges`.
use Prim.Native.Nat.{ℕ, ◌<◌}
use mathlib.Core.Logic.{◌↔◌}
use mathlib.Core.List.{List}
use lib.ListN.{take}
use Rattle.machine.specs.Run.{Passes}
use Rattle.judgement.specs.Judge.{Judges}
use Rattle.rule.specs.Tree.{Program}
use Rattle.rule.specs.Meaning.{ProgramAccepts}
use Rattle.rule.specs.Faults.{Reads}
use Rattle.construction.specs.Construction.{construct}
use Rattle.construction.specs.Compile.{CompilesTo}
use Rattle.whole.specs.Grant.{Grants, SaysNo, SaysLimitMet, Asks, Deserves}
use Rattle.whole.proofs.Granted.{delivers, delivers_only, granted, denied, denied_everywhere, met, verdict_asked}

module _ {text buffer written : List ℕ} {n : ℕ} (compiled : CompilesTo text buffer written n) (below : n < 1000000) where
  -- the text is a program of the language
  pub is_a_rule : (p : Program) × Reads text p
  is_a_rule = let d = delivers compiled below in (d.program, d.reads)

  module _
      {p : Program} (reads : Reads text p) {word marks marked : List ℕ} {limit result : ℕ}
      (judged : Judges (take n written) word limit marks marked result)
    where
      -- yes, exactly
      pub dock_grants : Grants result ↔ Deserves p word limit marks
      dock_grants = let d = delivers_only compiled below reads in granted d.0 d.1 judged

      -- no
      pub dock_says_no : SaysNo result → (height : ℕ) → ¬ ProgramAccepts p word height
      dock_says_no = let d = delivers_only compiled below reads in denied_everywhere d.0 d.1 judged

      -- limit met
      pub dock_says_limit_met : SaysLimitMet result → ¬ ProgramAccepts p word limit
      dock_says_limit_met said = let d = delivers_only compiled below reads in ((met d.0 d.1 judged).0 said).1

      -- one of the three
      pub dock_gives_verdict : (result < 4000000) ↔ Asks p word limit marks
      dock_gives_verdict = let d = delivers_only compiled below reads in verdict_asked d.0 d.1 judged

      -- no and limit met, exactly: no run within the limit accepts, and they differ in whether a step of the rule's table would pass it
      pub dock_says_no_exactly
          : SaysNo result ↔ (Asks p word limit marks × (¬ ProgramAccepts p word limit) × (¬ Passes (construct p) word limit))
      dock_says_no_exactly = let d = delivers_only compiled below reads in denied d.0 d.1 judged

      pub dock_says_limit_met_exactly
          : SaysLimitMet result ↔ (Asks p word limit marks × (¬ ProgramAccepts p word limit) × Passes (construct p) word limit)
      dock_says_limit_met_exactly = let d = delivers_only compiled below reads in met d.0 d.1 judged
