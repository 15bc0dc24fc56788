-- The starred samples of document 01 hold, all of them: one theorem, by computing. A line more needs no proof more.
use Rattle.bits.specs.Bit.{bit, with_bit}
use Rattle.table.specs.Image.{encode, field, two_bytes, row_bytes, rows_bytes, flag}
use Rattle.cells.specs.Cell.{symbol_on, moved}
use Rattle.machine.specs.Step.{symbol_fits, counter_fits, changed, row_fits}
use Rattle.text.specs.Inside.Scan.{scan}
use Rattle.rule.specs.Inside.Machine.{outcome}
use Rattle.rule.proofs.Machine.Steps.{eat}
use Rattle.rule.specs.Tree.{letter_bytes}
use Rattle.rule.specs.Limits.{
  faults,
  fault_if,
  letter_faults,
  is_in,
  value_from,
  in_form,
  number_faults,
  symbol_name_faults,
  atom_faults,
  condition_faults,
  plain_faults,
  statements_faults,
  truth_faults,
  in_order,
  settings_faults,
}
use Rattle.construction.specs.Construction.{
  construct,
  program_part,
  statements_part,
  with_bits,
  and_then,
  arm_part,
  loop_part,
  if_part,
  test,
  walk,
  one_after_other,
  one_or_other,
  atom_rows,
  symbol_rows,
  without,
  count_up,
  symbol_code,
  index_in,
  change_code,
  move_code,
}
use Rattle.line.specs.Decimal.{digits}
use Rattle.line.specs.CompileLine.{compile_line, line_of, refusal_line}
use Rattle.samples.specs.Sample.{EachHolds, only_row}
use Rattle.samples.specs.Starred.{starred}
use Rattle.samples.proofs.Prove.{each}

pub starred_hold : EachHolds starred
unfolding outcome eat bit with_bit encode field two_bytes row_bytes rows_bytes flag symbol_on moved symbol_fits counter_fits changed row_fits scan letter_bytes faults fault_if letter_faults is_in value_from in_form number_faults symbol_name_faults atom_faults condition_faults plain_faults statements_faults truth_faults in_order settings_faults construct program_part statements_part with_bits and_then arm_part loop_part if_part test walk one_after_other one_or_other atom_rows symbol_rows without count_up symbol_code index_in change_code move_code compile_line line_of refusal_line digits only_row
starred_hold = each starred tt
