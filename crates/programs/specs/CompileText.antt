-- What the compile program answers to a text: the image, and the line of an answer that compiling allows.
use Rattle.std.specs.Prelude.{ℕ, ◌≡◌, List, Option, Some, None, Result, Ok, Err}
use Rattle.table.specs.declared.reason.Refusal.{Refusal}
use Rattle.construction.specs.Compile.{Compiles}
use Rattle.construction.specs.declared.Sizes.{Sizes}
use Rattle.line.specs.CompileLine.{compile_line}
use Rattle.line.specs.Standing.{Stands}
use Rattle.programs.specs.declared.Answered.{Answered}

-- how many bytes of the buffer are the image: none where the text was refused
unfoldable pub image_bytes : Result Sizes Refusal → Option ℕ
image_bytes (Ok sizes) = Some sizes.bytes
image_bytes (Err refusal) = None

pub record AnswersText (text before after old line : List ℕ) (r : Answered) : Type 0 where
  pub answer : Result Sizes Refusal
  pub compiles : Compiles text before after answer
  pub image : r.«image» ≡ image_bytes answer
  pub stands : Stands old line r.«line» (compile_line answer)
