-- What the emitter sees of a text's tokens. No caller relies on any of it.
use Rattle.std.specs.Prelude.{ℕ, ◌+◌, ◌≤◌, ◌<◌, ◌≡◌, Bool, true, false, List, ◌∷◌, length, drop, T, Option, Some, None}
use Rattle.bits.specs.Byte.{is_digit}
use Rattle.text.specs.Token.{word, number, letter, sign, every}
use Rattle.text.specs.Tokens.{Placed, ◌at◌, Ending, Tokens}
use Rattle.text.specs.First.{IsWord, written}
use Rattle.text.specs.declared.Word.{Word}
use Rattle.text.specs.declared.Sign.{Sign}
use Rattle.text.specs.declared.Token.{Token}
use Rattle.rule.specs.Limits.{value_from}
use Rattle.compiler.specs.declared.see.Cursor.{Cursor}

-- the tokens of a text from a byte on
pub record Here (text : List ℕ) (from : ℕ) (ts : List Placed) : Type 0 where
  pub ending : Ending
  pub tokens : Tokens from (drop from text) ts ending

-- a token ends here, and these follow it
pub record Behind (text : List ℕ) (from end : ℕ) (us : List Placed) : Type 0 where
  pub onward : from < end
  pub within : end ≤ length text
  pub here : Here text end us

-- where an answer's token ends
abbrev pub end_of : Token → Option ℕ
end_of (Token.Word p e x) = Some e
end_of (Token.Number p e) = Some e
end_of (Token.Letter p e b) = Some e
end_of (Token.Sign p e x) = Some e
end_of (Token.End p) = None
end_of (Token.Broken p) = None

-- a place behind so many tokens
pub record Reaches (text : List ℕ) (from many end : ℕ) (us : List Placed) : Type 0 where
  pub onward : from + many ≤ end
  pub here : Here text end us

pub record GoesPast (text : List ℕ) (from many end : ℕ) : Type 0 where
  pub behind : (ts : List Placed) → Here text from ts → many ≤ length ts → Reaches text from many end (drop many ts)

-- a cursor goes past so many tokens of its text
pub record Skips (k r : Cursor) (many : ℕ) : Type 0 where
  pub text : r.text.now ≡ k.text.now
  pub passes : GoesPast k.text.now k.at many r.at

-- this word is the first of some tokens and ends there, or this sign
pub data WordFirst (text : List ℕ) (from end : ℕ) (x : Word) : List Placed → Type 0 where
  the_word : {l : List ℕ} {p : ℕ} {us : List Placed}
      → IsWord x l
      → Behind text from end us
      → WordFirst text from end x ((word l at p) ∷ us)

pub data SignFirst (text : List ℕ) (from end : ℕ) (x : Sign) : List Placed → Type 0 where
  the_sign : {l : List ℕ} {p : ℕ} {us : List Placed}
      → l ≡ written x
      → Behind text from end us
      → SignFirst text from end x ((sign l at p) ∷ us)

-- it comes next, whatever tokens stand there
pub record SeesWord (text : List ℕ) (from end : ℕ) (x : Word) : Type 0 where
  pub stands : (ts : List Placed) → Here text from ts → WordFirst text from end x ts

pub record SeesSign (text : List ℕ) (from end : ℕ) (x : Sign) : Type 0 where
  pub stands : (ts : List Placed) → Here text from ts → SignFirst text from end x ts

-- no such word comes next, or no such sign
pub record NotWord (text : List ℕ) (from : ℕ) (x : Word) : Type 0 where
  pub other : {l : List ℕ} {p : ℕ} {us : List Placed} → Here text from ((word l at p) ∷ us) → ¬ IsWord x l

pub record NotSign (text : List ℕ) (from : ℕ) (x : Sign) : Type 0 where
  pub other : {l : List ℕ} {p : ℕ} {us : List Placed} → Here text from ((sign l at p) ∷ us) → ¬ (l ≡ written x)

-- past a word or a sign, if it is the one that is wanted
pub record EatsWord (k r : Cursor) (x : Word) (found : Bool) : Type 0 where
  pub text : r.text.now ≡ k.text.now
  pub hit : found ≡ true → SeesWord k.text.now k.at r.at x
  pub miss : found ≡ false → NotWord k.text.now k.at x × (r ≡ k)

pub record EatsSign (k r : Cursor) (x : Sign) (found : Bool) : Type 0 where
  pub text : r.text.now ≡ k.text.now
  pub hit : found ≡ true → SeesSign k.text.now k.at r.at x
  pub miss : found ≡ false → NotSign k.text.now k.at x × (r ≡ k)

-- past a word, where one stands
pub record AtWord (k : Cursor) : Type 0 where
  pub bytes : List ℕ
  pub place : ℕ
  pub us : List Placed
  pub here : Here k.text.now k.at ((word bytes at place) ∷ us)

pub record ReadsWord (k r : Cursor) (x : Word) : Type 0 where
  pub text : r.text.now ≡ k.text.now
  pub seen : SeesWord k.text.now k.at r.at x

-- past a letter
pub record AtLetter (k : Cursor) : Type 0 where
  pub byte : ℕ
  pub place : ℕ
  pub us : List Placed
  pub here : Here k.text.now k.at ((letter byte at place) ∷ us)

pub record ReadsLetter (k r : Cursor) (b : ℕ) : Type 0 where
  pub text : r.text.now ≡ k.text.now
  pub reads : {byte place : ℕ} {us : List Placed}
      → Here k.text.now k.at ((letter byte at place) ∷ us)
      → (b ≡ byte) × Behind k.text.now k.at r.at us

-- past a number, whose value is at most 63
pub record AtNumber (k : Cursor) : Type 0 where
  pub bytes : List ℕ
  pub place : ℕ
  pub us : List Placed
  pub here : Here k.text.now k.at ((number bytes at place) ∷ us)
  pub small : value_from 0 bytes ≤ 63

pub record ReadsNumber (k r : Cursor) (value : ℕ) : Type 0 where
  pub text : r.text.now ≡ k.text.now
  pub reads : {bytes : List ℕ} {place : ℕ} {us : List Placed}
      → Here k.text.now k.at ((number bytes at place) ∷ us)
      → (value ≡ value_from 0 bytes) × Behind k.text.now k.at r.at us

-- digits whose value is at most 63
pub record Digits (ds : List ℕ) : Type 0 where
  pub digits : T (every is_digit ds)
  pub small : value_from 0 ds ≤ 63
