-- A word stands there, and it is the one that is seen.
use mathlib.Core.Path.{refl}
use Rattle.compiler.proofs.Seeing.{word_stands, word_hit}
use Rattle.compiler.proofs.see.Cursor.word.Goals as goal

pub unreachable-requires : goal.unreachable-requires
unreachable-requires c =
    let (p, e, x, is) = word_stands c.token_at.ensures c.requires.here in
    c.in_default.not-Word p e x is

pub returns : goal.returns
returns c = record { text = refl; seen = word_hit c.token_at.ensures c.in-Word.is refl }
