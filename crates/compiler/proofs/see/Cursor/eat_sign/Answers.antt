-- What comes next is that sign, or it is not.
use Rattle.compiler.proofs.see.Cursor.eat_sign.Goals as goal

pub returns : goal.returns
returns c = c.past_sign.ensures c.next-token.ensures
