-- `reader::answers::Reader::word` meets its contract.
use Rattle.reader.proofs.answers.Reader.word.Goals as goal

pub returns : goal.returns
returns c = c.after_word.ensures _ c.next-token.ensures
