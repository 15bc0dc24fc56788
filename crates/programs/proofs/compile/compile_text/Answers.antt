-- Assumes nothing.
use mathlib.Core.Path.{sym, ap}
use Rattle.line.specs.CompileLine.{compile_line}
use Rattle.programs.specs.CompileText.{image_bytes}
use Rattle.programs.proofs.Answering.{answers_text}
use Rattle.programs.proofs.compile.compile_text.Goals as goal

pub returns-in-Ok : goal.returns-in-Ok
unfolding image_bytes compile_line
returns-in-Ok c = answers_text _ _ c.compile-answer.ensures c.compile_line-length.ensures (sym (ap image_bytes c.in-Ok.is))

pub returns-in-Err : goal.returns-in-Err
unfolding image_bytes compile_line
returns-in-Err c = answers_text _ _ c.compile-answer.ensures c.compile_line-length.ensures (sym (ap image_bytes c.in-Err.is))
