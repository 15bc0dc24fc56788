-- `tokeniser::steps::word_at` meets its contract: the run ends where the word does.
use native.Mathlib.Omega.{arith}
use Rattle.text.specs.Token.{in_word}
use Rattle.tokeniser.proofs.Standing.{word_first, run-onward, run_within}
use Rattle.tokeniser.proofs.steps.word_at.Goals as goal

pub slice_bounds-word_of-count : goal.slice_bounds-word_of-count
slice_bounds-word_of-count c = omega (arith, run-onward (c.end_of-end.ensures in_word (λ b r e. e)))

pub slice_bounds-word_of-start : goal.slice_bounds-word_of-start
slice_bounds-word_of-start c = omega (arith, run-onward (c.end_of-end.ensures in_word (λ b r e. e)))

pub slice_bounds-word_of-end : goal.slice_bounds-word_of-end
slice_bounds-word_of-end c = run_within (omega arith) (c.end_of-end.ensures in_word (λ b r e. e))

pub returns : goal.returns
returns c =
    word_first c.args.text.now c.args.at c.requires.0 c.word_of.result c.requires.1 (c.end_of-end.ensures in_word (λ b r e. e)) c.word_of.ensures
