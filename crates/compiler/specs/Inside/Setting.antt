-- What the emitter's functions promise each other of the settings, and of the whole image. No caller relies on any of it.
use Rattle.std.specs.Prelude.{ℕ, ◌≤◌, ◌≡◌, Bool, List, [], ◌∷◌, ◌++◌, length, drop, true, false}
use Rattle.std.specs.Borrow.{MutBor}
use Rattle.text.specs.Token.{w, s}
use Rattle.text.specs.Tokens.{◌at◌}
use Rattle.table.specs.Form.{letters_place}
use Rattle.table.specs.Image.{encode}
use Rattle.rule.specs.Tree.{Letter, Order, Program, letter_bytes}
use Rattle.rule.specs.Grammar.{Ts, IsLetters, IsSettings}
use Rattle.rule.specs.Faults.{Reads}
use Rattle.construction.specs.Construction.{program_part, construct}
use Rattle.construction.specs.Compile.{image_room}
use Rattle.bits.specs.Inside.Over.{over}
use Rattle.compiler.specs.Inside.Writing.{Sheet}
use Rattle.compiler.specs.Inside.Seeing.{Here}
use Rattle.compiler.specs.Inside.Emission.{Doing, RestTask}
use Rattle.compiler.specs.declared.write.Image.{Image}
use Rattle.compiler.specs.declared.see.Cursor.{Cursor}
use Rattle.compiler.specs.declared.settings.Settled.{Settled}

-- letters stand from a place on, up to the `]`, and there is room for them
pub record LettersAt (text : List ℕ) (from : ℕ) (out : List ℕ) (ts us : Ts) (l : List Letter) : Type 0 where
  pub end : ℕ
  pub here : Here text from ts
  pub letters : IsLetters ts l ((s "]" at end) ∷ us)
  pub few : length l ≤ 16
  pub room : image_room ≤ length out

pub record Letters (k : Cursor) (out : List ℕ) : Type 0 where
  pub ts : Ts
  pub us : Ts
  pub l : List Letter
  pub stand : LettersAt k.text.now k.at out ts us l

-- the image has them, and the text goes on behind the `]`
pub record Listing (text before after : List ℕ) (end : ℕ) (us : Ts) (l : List Letter) (many : ℕ) : Type 0 where
  pub here : Here text end us
  pub bytes : after ≡ over before letters_place (letter_bytes l)
  pub count : many ≡ length l

pub record Lists (k r : Cursor) (before after : List ℕ) (many : ℕ) : Type 0 where
  pub lists : {ts us : Ts} {l : List Letter} → LettersAt k.text.now k.at before ts us l → Listing k.text.now before after r.at us l many
  pub text : r.text.now ≡ k.text.now

-- what `decr_on_zero` is, behind its `=`, and a `;`
pub data TruthAt : Ts → Bool → Ts → Type 0 where
  yes_at : {p q : ℕ} {us : Ts} → TruthAt ((w "true" at p) ∷ (s ";" at q) ∷ us) true us
  no_at : {p q : ℕ} {us : Ts} → TruthAt ((w "false" at p) ∷ (s ";" at q) ∷ us) false us

pub record AtTruth (k : Cursor) : Type 0 where
  pub ts : Ts
  pub us : Ts
  pub d : Bool
  pub here : Here k.text.now k.at ts
  pub is : TruthAt ts d us

pub record Tells (k r : Cursor) (told : Bool) : Type 0 where
  pub tells : {ts us : Ts} {d : Bool} → Here k.text.now k.at ts → TruthAt ts d us → (told ≡ d) × Here k.text.now r.at us
  pub text : r.text.now ≡ k.text.now

-- the text begins with settings, and there is room for their letters
pub record SettingsAt (text : List ℕ) (from : ℕ) (out : List ℕ) (ts us : Ts) (l : List Letter) (d : Bool) : Type 0 where
  pub here : Here text from ts
  pub first : Order
  pub truth : ℕ
  pub settings : IsSettings ts first l d truth us
  pub few : length l ≤ 16
  pub room : image_room ≤ length out

pub record Settings (k : Cursor) (out : List ℕ) : Type 0 where
  pub ts : Ts
  pub us : Ts
  pub l : List Letter
  pub d : Bool
  pub stand : SettingsAt k.text.now k.at out ts us l d

-- they are read, and the image has the letters
pub record Settling (text before after : List ℕ) (end : ℕ) (us : Ts) (l : List Letter) (d : Bool) (r : Settled) : Type 0 where
  pub here : Here text end us
  pub bytes : after ≡ over before letters_place (letter_bytes l)
  pub count : r.count ≡ length l
  pub decr_on_zero : r.decr_on_zero ≡ d

pub record Settles (k r : Cursor) (before after : List ℕ) (settled : Settled) : Type 0 where
  pub settles : {ts us : Ts} {l : List Letter} {d : Bool}
      → SettingsAt k.text.now k.at before ts us l d
      → Settling k.text.now before after r.at us l d settled
  pub text : r.text.now ≡ k.text.now

-- the text is this program, with so many states and rows, and there is room for its image
pub record Fits (text out : List ℕ) (states rows : ℕ) (p : Program) : Type 0 where
  pub reads : Reads text p
  pub states_are : states ≡ (construct p).states
  pub rows_are : rows ≡ length (construct p).rows
  pub few_states : states ≤ 128
  pub few_rows : rows ≤ 1024
  pub room : image_room ≤ length out

pub record Emittable (text out : List ℕ) (states rows : ℕ) : Type 0 where
  pub program : Program
  pub fits : Fits text out states rows program

-- what its header says
abbrev pub sheet_of : List ℕ → ℕ → ℕ → Program → Sheet
sheet_of old states rows p =
    record { old = old; alphabet = letter_bytes p.alphabet; decr_on_zero = p.decr_on_zero; states = states; count = rows }

-- the header is written, and what is left of the outermost block is to be emitted from state 0 on
pub record Beginning (before : List ℕ) (states rows : ℕ) (p : Program) (k : Cursor) (i : Image) : Type 0 where
  pub ts : Ts
  pub doing : Doing RestTask k.text.now i.out.now (record { at = k.at; state = 0; next = 1; row = i.row }) (sheet_of before states rows p) [] [] 0 1 ts [] (program_part p)

pub record Begins (k r : Cursor) (buffer : MutBor (List ℕ)) (states rows : ℕ) (i : Image) : Type 0 where
  pub begins : {p : Program} → Fits k.text.now buffer.now states rows p → Beginning buffer.now states rows p r i
  pub out : i.out.ghost_name ≡ buffer.ghost_name

-- the image stands at the buffer's beginning, and its length is this
pub record IsImage (before after : List ℕ) (p : Program) (bytes : ℕ) : Type 0 where
  pub written : after ≡ encode (construct p) ++ drop bytes before
  pub long : bytes ≡ length (encode (construct p))

pub record Images (text before after : List ℕ) (states rows bytes : ℕ) : Type 0 where
  pub images : {p : Program} → Fits text before states rows p → IsImage before after p bytes
