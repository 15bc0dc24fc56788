-- What comes next is that word, or it is not.
use Rattle.compiler.proofs.see.Cursor.eat_word.Goals as goal

pub returns : goal.returns
returns c = c.past_word.ensures c.next-token.ensures
