-- `reader::letters::Letters::has` meets its contract.
use mathlib.Core.Path.{◌∙◌}
use Rattle.reader.specs.Inside.Answers.{alphabet_of}
use Rattle.reader.proofs.Alphabet.{any_is_in}
use Rattle.reader.proofs.letters.Letters.has.Goals as goal

pub returns : goal.returns
returns c = c.contains.ensures.value ∙ any_is_in c.args.byte (alphabet_of c.args.self.now)
