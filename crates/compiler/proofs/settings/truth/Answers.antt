use mathlib.Core.Path.{◌∙◌}
use Rattle.compiler.proofs.Seeing.{passes_in}
use Rattle.compiler.proofs.Setting.{truth_at_word, truth_behind, told_is}
use Rattle.compiler.proofs.settings.truth.Goals as goal

pub word-requires : goal.word-requires
word-requires c = truth_at_word c.requires

pub returns : goal.returns
returns c =
    let word = c.word.ensures in
    let pass = passes_in word.text c.skip.ensures in
    record {
      tells = λ here is. (told_is word.seen pass c.eq-told.ensures here is, truth_behind word.seen pass here is);
      text = c.skip.ensures.text ∙ word.text;
    }
