-- Assumes nothing.
use Rattle.programs.proofs.Answering.{answers_at, answers_said}
use Rattle.programs.proofs.verdict.judge_word.Goals as goal

pub returns : goal.returns
returns c = answers_said _ c.in_ok-limit.ensures (answers_at c.judge-answer.ensures c.answer_line.ensures)
