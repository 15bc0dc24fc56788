-- A refusal's number and place are small, so both fit into one number.
use Prim.Native.Nat.{ℕ, ◌+◌, ◌*◌}
use native.Mathlib.Omega.{arith}
use mathlib.Core.Path.{refl, ◌∙◌, ap}
use Rattle.construction.specs.Compile.{answer_number}
use Rattle.construction.proofs.Compiles.{refused_bounds}
use Rattle.office.proofs.valaiyoth_compile.Goals as goal

pub overflow_add-result : goal.overflow_add-result
overflow_add-result c =
    omega (arith, refused_bounds (rw c.in-Err.is at c.compile.ensures).right, c.from.ensures, c.number.ensures)

pub returns-in-Ok : goal.returns-in-Ok
unfolding answer_number
returns-in-Ok c = record { answer = _; compiles = rw c.in-Ok.is at c.compile.ensures; number = refl }

pub returns-in-Err : goal.returns-in-Err
unfolding answer_number
returns-in-Err c =
    record {
      answer = _;
      compiles = rw c.in-Err.is at c.compile.ensures;
      number = ap (λ (n : ℕ). n * 1000000 + c.in-Err.r.place) (c.from.ensures ∙ c.number.ensures);
    }
