-- Eight to a row. Assumes nothing.
use native.Mathlib.Omega.{arith}
use Rattle.table.proofs.Reading.{bytes_is, count_low}
use Rattle.fields.proofs.rows_bytes.Goals as goal

pub overflow_mul-result : goal.overflow_mul-result
overflow_mul-result c = omega (arith, c.row_count.ensures, count_low c.args.image.now (λ i. (c.type_inv.image i).fits))

pub returns : goal.returns
returns c = bytes_is c.args.image.now _ c.row_count.ensures
