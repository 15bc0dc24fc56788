-- `reader::answers::Reader::next` meets its contract: a token ends in the text, and behind where the reader is.
use mathlib.Core.Logic.{⊎_elim}
use Rattle.reader.proofs.Front.{front_word, front_number, front_letter, front_sign}
use Rattle.reader.proofs.Moves.{ahead}
use Rattle.reader.proofs.answers.Reader.next.Goals as goal

pub onward-behind-requires : goal.onward-behind-requires
onward-behind-requires c =
    let first = c.token_at-token.ensures in
    ⊎_elim
    (λ h. ahead (front_word first h.2))
    (⊎_elim (λ h. ahead (front_number first h.1)) (⊎_elim (λ h. ahead (front_letter first h.2)) (λ h. ahead (front_sign first h.2))))
    c.in-Word.is
