-- A letter stands there, and it is the one that is seen.
use mathlib.Core.Path.{refl}
use Rattle.text.specs.declared.Token.{Token}
use Rattle.compiler.proofs.Seeing.{letter_stands, letter_read, first_seen}
use Rattle.compiler.proofs.see.Cursor.letter.Goals as goal

pub unreachable-requires : goal.unreachable-requires
unreachable-requires c =
    let (p, e, b, is) = letter_stands c.token_at.ensures c.requires.here in
    c.in_default.not-Letter p e b is

pub returns : goal.returns
returns c =
    record {
      text = refl;
      reads = λ here. letter_read (first_seen (Token.Letter c.in-Letter.at c.in-Letter.end c.in-Letter.byte) c.token_at.ensures c.in-Letter.is _ here);
    }
