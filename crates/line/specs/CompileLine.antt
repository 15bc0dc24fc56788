-- The compile program's line: `ok`, states, rows, image bytes; or `no`, number, place.
use Rattle.std.specs.Prelude.{ℕ, List, ◌++◌, Result, Ok, Err}
use Rattle.bits.specs.Byte.{spelling}
use Rattle.table.specs.Refusal.{number_of}
use Rattle.table.specs.declared.reason.Refusal.{Refusal}
use Rattle.construction.specs.declared.Sizes.{Sizes}
use Rattle.line.specs.Decimal.{decimal}

-- the line of a refusal
unfoldable pub refusal_line : ℕ → ℕ → List ℕ
refusal_line number place = spelling "no " ++ (decimal number ++ (spelling " " ++ (decimal place ++ spelling "\n")))

-- the line of an answer, of whose refusal this is the number and this the place
unfoldable pub line_of : {E : Type 0} → (E → ℕ) → (E → ℕ) → Result Sizes E → List ℕ
line_of number place (Ok sizes) =
    spelling "ok "
    ++ (decimal sizes.states ++ (spelling " " ++ (decimal sizes.rows ++ (spelling " " ++ (decimal sizes.bytes ++ spelling "\n")))))
line_of number place (Err refusal) = refusal_line (number refusal) (place refusal)

-- that of a reason's number
unfoldable pub compile_line : Result Sizes Refusal → List ℕ
compile_line = line_of (λ r. number_of r.reason) (λ r. r.place)
