-- Where an emitter stands, without what it goes over. No caller relies on any of it.
use Rattle.std.specs.Prelude.{ℕ}
use Rattle.compiler.specs.declared.Emitter.{Emitter}

-- how far it has come in the text, the state that the next statement starts at, the next state to be taken, and the byte of
-- the image at which the next row is written
pub record Place : Type 0 where
  pub at : ℕ
  pub state : ℕ
  pub next : ℕ
  pub row : ℕ

abbrev pub place_of : Emitter → Place
place_of e = record { at = e.cursor.at; state = e.state; next = e.next; row = e.image.now.row }
