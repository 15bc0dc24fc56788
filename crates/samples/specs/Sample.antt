-- A line of samples: a text, and what the definitions are to say of it.
use Rattle.std.specs.Prelude.{ℕ, ◌≡◌, List, [], ◌∷◌, length, replicate, Ok, Err}
use Prim.Native.String.{String}
use Rattle.bits.specs.Byte.{spelling}
use Rattle.bits.specs.Size.{Size}
use Rattle.table.specs.Table.{Table, Row}
use Rattle.table.specs.Image.{encode, row_bytes}
use Rattle.table.specs.Refusal.{First}
use Rattle.machine.specs.Run.{Reach}
use Rattle.judgement.specs.declared.answer.Verdict.{Verdict}
use Rattle.judgement.specs.Verdict.{IsVerdict}
use Rattle.rule.specs.Tree.{Program}
use Rattle.construction.specs.Construction.{construct}
use Rattle.table.specs.Refusal.{number_of}
use Rattle.table.specs.declared.reason.Reason.{Reason as Named}
use Rattle.construction.specs.Compile.{Compilable, reasons, image_room}
use Rattle.line.specs.CompileLine.{compile_line}

-- what is found of a text that compiles
pub data Finding : Type 0 where
  -- the compile program's line
  prints : String → Finding
  -- states and rows
  has : ℕ → ℕ → Finding
  image : List ℕ → Finding
  -- the bytes of the only row
  row : List ℕ → Finding
  -- on a word, at a limit: the verdict and the count
  judged : String → ℕ → Verdict → ℕ → Finding

pub data Sample : Type 0 where
  compiles : String → List Finding → Sample
  -- the number and the place, and the compile program's line
  refuses : String → ℕ → ℕ → String → Sample

unfoldable pub only_row : Table → List ℕ → Type 0
only_row t bytes = (r : Row) × (t.rows ≡ r ∷ []) × (row_bytes r ≡ bytes)

abbrev pub FindingHolds : Table → Finding → Type 0
FindingHolds t (prints text) =
    compile_line (Ok (record { bytes = length (encode t); states = t.states; rows = length t.rows })) ≡ spelling text
FindingHolds t (has states rows) = (t.states ≡ states) × (length t.rows ≡ rows)
FindingHolds t (image bytes) = encode t ≡ bytes
FindingHolds t (row bytes) = only_row t bytes
FindingHolds t (judged word limit verdict count) =
    IsVerdict t (spelling word) limit verdict × Size (Reach t (spelling word) limit) count

pub data AllHold (t : Table) : List Finding → Type 0 where
  none : AllHold t []
  more : {f : Finding} {fs : List Finding} → FindingHolds t f → AllHold t fs → AllHold t (f ∷ fs)

-- a text that compiles does so to a table of which all that is found holds; one that is refused is so with a buffer of the size asked for
abbrev pub Holds : Sample → Type 0
Holds (compiles text found) = (p : Program) × Compilable (spelling text) p × AllHold (construct p) found
Holds (refuses text number place printed) =
    First (reasons (spelling text) (replicate image_room 0)) number place
    × ((reason : Named) × (number_of reason ≡ number) × (compile_line (Err (record { reason = reason; place = place })) ≡ spelling printed))

pub data EachHolds : List Sample → Type 0 where
  none : EachHolds []
  more : {x : Sample} {xs : List Sample} → Holds x → EachHolds xs → EachHolds (x ∷ xs)
