-- What the tokeniser's functions promise each other. No caller relies on any of it.
use Rattle.std.specs.Prelude.{ℕ, ◌+◌, ◌-◌, ◌≤◌, ◌<◌, ◌≡◌, Bool, true, false, not, ◌||◌, length, get_or, drop, eqb, Option, Some, None}
use mathlib.Core.List.{List, [], ◌∷◌}
use Rattle.bits.specs.Byte.{is_digit, is_alphabetic}
use Rattle.text.specs.Token.{quote, signs}
use Rattle.text.specs.declared.Sign.{Sign}
use Rattle.text.specs.declared.Token.{Token}
use Rattle.text.specs.Tokens.{is_white, slash, line_feed, Blank}
use Rattle.text.specs.First.{written, FirstToken}
use Rattle.std.specs.declared.ops.ControlFlow.{ControlFlow}
use Rattle.std.specs.declared.ops.ControlFlow.TheVariants.{Continue, Break}
use Rattle.tokeniser.specs.declared.kinds.Kind.{Kind}

-- some of these lists has this byte first
abbrev pub begins : List (List ℕ) → ℕ → Bool
begins [] b = false
begins ([] ∷ ls) b = begins ls b
begins ((c ∷ l) ∷ ls) b = eqb b c || begins ls b

-- the first of these tests that passes says the kind
abbrev pub sorted : Bool → Bool → Bool → Bool → Bool → Bool → Bool → Kind
sorted true a u q w s g = Kind.Digit
sorted false true u q w s g = Kind.Alphabetic
sorted false false true q w s g = Kind.Underscore
sorted false false false true w s g = Kind.Quote
sorted false false false false true s g = Kind.White
sorted false false false false false true g = Kind.Slash
sorted false false false false false false true = Kind.Sign
sorted false false false false false false false = Kind.Other

-- the kind of a byte
abbrev pub kind_of : ℕ → Kind
kind_of b = sorted (is_digit b) (is_alphabetic b) (eqb b 95) (eqb b quote) (is_white b) (eqb b slash) (begins signs b)

-- a comment goes on with any byte but a line feed
abbrev pub in_comment : ℕ → Bool
in_comment b = not (eqb b line_feed)

-- from a place on the bytes pass the test, up to this place, where one does not or the text is over
pub data Run (test : ℕ → Bool) (text : List ℕ) : ℕ → ℕ → Type 0 where
  over : {i : ℕ} → length text ≤ i → Run test text i i
  stop : {i : ℕ} → i < length text → test (get_or text i 0) ≡ false → Run test text i i
  on : {i n : ℕ} → i < length text → test (get_or text i 0) ≡ true → Run test text (i + 1) n → Run test text i n

-- what a function answers is this test
abbrev pub Answers : (ℕ → Bool → Type 0) → (ℕ → Bool) → Type 0
Answers post test = (b : ℕ) (r : Bool) → post b r → r ≡ test b

-- these bytes are this sign, or no sign
abbrev pub IsSign : List ℕ → Option Sign → Type 0
IsSign l (Some x) = l ≡ written x
IsSign l None = (x : Sign) → ¬ (written x ≡ l)

-- white space or a comment stands at this place, up to the next
pub record Skips (text : List ℕ) (place next : ℕ) : Type 0 where
  pub onward : place < next
  pub blank : Blank (drop place text) (next - place) (drop next text)

-- what stands at this place of the text
abbrev pub StepRight : List ℕ → ℕ → ControlFlow Token ℕ → Type 0
StepRight text place (Continue next) = Skips text place next
StepRight text place (Break r) = FirstToken text place r
