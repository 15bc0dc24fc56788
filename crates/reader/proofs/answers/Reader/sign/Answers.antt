-- `reader::answers::Reader::sign` meets its contract.
use Rattle.reader.proofs.answers.Reader.sign.Goals as goal

pub returns : goal.returns
returns c = c.after_sign.ensures _ c.next-token.ensures
