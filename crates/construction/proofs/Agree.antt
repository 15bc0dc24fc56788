-- Table and program agree: for every word of its letters and every limit, one has an accepting run within it exactly when
-- the other has. For every program without faults whose table has at most 128 states.
use Prim.Native.Nat.{ℕ, ◌≤◌, ◌<◌}
use mathlib.Core.Path.{◌≡◌}
use mathlib.Core.List.{List, [], Memᴰ}
use lib.ListN.{length, get_or}
use Rattle.machine.specs.Step.{Situation}
use Rattle.machine.specs.Run.{Reach, begins, goes, Accepts}
use Rattle.rule.specs.Tree.{done, Program}
use Rattle.rule.specs.Limits.{faults}
use Rattle.rule.specs.Meaning.{ProgramAccepts}
use Rattle.rule.proofs.Within.{program_within}
use Rattle.construction.specs.Construction.{program_part, construct}
use Rattle.construction.specs.Agreement.{Agree}
use Rattle.construction.proofs.WellFormed.{accepts_listed, listed_accepts}
use Rattle.construction.proofs.Trial.{trial, before_done, begins_whole}
use Rattle.construction.proofs.Fragments.{StandsFor, at_end, block_stands}
use Rattle.construction.proofs.ToTable.{to_table}
use Rattle.construction.proofs.Roles.{program_roles, role_of, role_given, given_first, given_rest}
use Rattle.construction.proofs.Sound.{Here, comes, came}
use Rattle.construction.proofs.ToProgram.{Right, statements_right}

module _ (p : Program) (none : faults p ≡ []) where
  -- state 0 stands for the whole program
  body_stands : (construct p).states ≤ 128 → StandsFor (construct p) 0 p.body
  unfolding construct program_part
  body_stands few =
      rw before_done at
      (block_stands {t = construct p} p.body 0 1 (program_within p none).body
      (record { rows = record { at = λ r m. m }; accepting = record { at = λ s m. listed_accepts p s few m } })
      at_end)

  module _
      (word : List ℕ)
      (limit : ℕ)
      (letters : (i : ℕ) → i < length word → Memᴰ (get_or word i 0) (construct p).alphabet) where
    -- every row of the table is sound
    program_right : Right (trial p none word limit letters) (role_of p) (program_part p) done []
    unfolding trial construct program_part program_roles
    program_right =
        statements_right (trial p none word limit letters) (role_of p) p.body 0 1 done [] (program_within p none).body
        (given_first (role_given p))
        (given_rest (role_given p))

    -- in whatever situation the table is, the program has come to what the state's role says
    reach_here :
        {s : Situation}
        → Reach (construct p) word limit s
        → Here p word limit (role_of p s.state) s.cell s.counter
    unfolding trial construct role_of program_roles
    reach_here begins = comes begins_whole
    reach_here (goes reached step low) =
        (program_right.rows.at step.row step.listed).keeping _ _ step.takes low (reach_here reached)

    -- where the table accepts, the program does
    to_program : Accepts (construct p) word limit → ProgramAccepts p word limit
    to_program a =
        let s = a.situation in
        let accept = program_right.accepting.at s.state (accepts_listed p s.state a.accepting) in
        record {
          place = accept.place;
          rest = accept.rest;
          cell = s.cell;
          counter = s.counter;
          comes = came (rw accept.leaving at (reach_here a.reached));
        }

-- table and program agree
pub agree : (p : Program) → faults p ≡ [] → (construct p).states ≤ 128 → Agree p
unfolding trial
agree p none few word limit letters = (
  to_program p none word limit letters,
  to_table (trial p none word limit letters) (body_stands p none few),
)
