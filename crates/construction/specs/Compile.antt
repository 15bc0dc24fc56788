-- What compiling promises, for every text and every image buffer.
use Rattle.std.specs.Prelude.{ℕ, ◌≤◌, ◌<◌, ◌≡◌, List, [], ◌∷◌, ◌++◌, length, drop, Result, Ok, Err}
use Rattle.table.specs.Image.{encode}
use Rattle.table.specs.Refusal.{Reason, because, at_zero, First, refusal, number_of}
use Rattle.table.specs.declared.reason.Refusal.{Refusal}
use Rattle.rule.specs.Tree.{Program}
use Rattle.rule.specs.Faults.{FirstFault, Reads, TooMany}
use Rattle.construction.specs.Construction.{construct}
use Rattle.construction.specs.Agreement.{Agree}
use Rattle.construction.specs.declared.Sizes.{Sizes}

-- the bytes of image buffer that document 01 asks for, enough for the longest image
abbrev pub image_room : ℕ
image_room = 8246

-- the reasons to refuse, in order: 1, then 2, then whichever of 3 to 9 comes first in the text, then 10, then 11
abbrev pub reasons : List ℕ → List ℕ → List {1} Reason
reasons text image =
    at_zero 1 (4096 < length text)
    ∷ at_zero 2 (length image < image_room)
    ∷ FirstFault text
    ∷ because 10 (TooMany text (λ p. (construct p).states) 128)
    ∷ because 11 (TooMany text (λ p. length (construct p).rows) 1024)
    ∷ []

-- what is compiled: a text that the grammar derives and whose limits hold
pub record Compilable (text : List ℕ) (p : Program) : Type 0 where
  pub short : length text ≤ 4096
  pub reads : Reads text p
  pub states : (construct p).states ≤ 128
  pub rows : length (construct p).rows ≤ 1024

-- the answer as one number, for C
unfoldable pub answer_number : Result Sizes Refusal → ℕ
answer_number (Ok sizes) = sizes.bytes
answer_number (Err r) = refusal (number_of r.reason) r.place

pub record Compiled (text before after : List ℕ) (bytes states rows : ℕ) : Type 0 where
  pub program : Program
  pub compilable : Compilable text program
  pub room : image_room ≤ length before
  pub bytes_are : bytes ≡ length (encode (construct program))
  pub states_are : states ≡ (construct program).states
  pub rows_are : rows ≡ length (construct program).rows
  pub image : after ≡ encode (construct program) ++ drop bytes before
  pub agree : Agree program

pub record Refused (text before after : List ℕ) (number place : ℕ) : Type 0 where
  pub first : First (reasons text before) number place
  pub unchanged : after ≡ before

-- what each case says: the image's length, the states and the rows; or a reason's number and its place
abbrev pub AnswerRight : List ℕ → List ℕ → List ℕ → Result Sizes Refusal → Type 0
AnswerRight text before after (Ok sizes) = Compiled text before after sizes.bytes sizes.states sizes.rows
AnswerRight text before after (Err r) = Refused text before after (number_of r.reason) r.place

pub record Compiles (text before after : List ℕ) (answer : Result Sizes Refusal) : Type 0 where
  pub right : AnswerRight text before after answer

-- the same of the answer as one number
pub record CompilesTo (text before after : List ℕ) (result : ℕ) : Type 0 where
  pub answer : Result Sizes Refusal
  pub compiles : Compiles text before after answer
  pub number : result ≡ answer_number answer
