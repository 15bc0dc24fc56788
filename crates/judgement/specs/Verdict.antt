-- The three verdicts on a table, a word and a limit.
use Rattle.std.specs.Prelude.{ℕ, List}
use Rattle.table.specs.Table.{Table}
use Rattle.machine.specs.Run.{Accepts, Passes}
use Rattle.judgement.specs.declared.answer.Verdict.{Verdict}
use Rattle.judgement.specs.declared.answer.Verdict.TheVariants.{Yes, No, LimitMet}

unfoldable pub verdict_number : Verdict → ℕ
verdict_number Yes = 1
verdict_number No = 2
verdict_number LimitMet = 3

-- yes: some run within the limit accepts; limit met: none does, but some comes to a step that would pass it; no: neither
abbrev pub IsVerdict : Table → List ℕ → ℕ → Verdict → Type 0
IsVerdict t word limit Yes = Accepts t word limit
IsVerdict t word limit No = (¬ Accepts t word limit) × (¬ Passes t word limit)
IsVerdict t word limit LimitMet = (¬ Accepts t word limit) × Passes t word limit
