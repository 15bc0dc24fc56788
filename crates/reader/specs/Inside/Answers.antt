-- What a reader answers, by what the machine does with the text from a byte on.
use Rattle.std.specs.Prelude.{ℕ, ◌+◌, ◌≤◌, ◌<◌, ◌≡◌, List, ◌∷◌, ◌++◌, length, take, drop, Option, Some, None, Result, Ok, Err}
use Rattle.text.specs.Token as Spelt
use Rattle.text.specs.Tokens.{Placed, ◌at◌, Ending, Tokens}
use Rattle.text.specs.First.{FirstToken}
use Rattle.text.specs.declared.Token.{Token}
use Rattle.rule.specs.Inside.Class.{Fixed, spell, Class, mark, classify}
use Rattle.rule.specs.Inside.Machine.{Stack, Totals, Outcome, taken, refused, run}
use Rattle.atoms.specs.Atom.{refusal_of}
use Rattle.table.specs.Refusal.{number_of}
use Rattle.table.specs.declared.reason.Reason.{Reason}
use Rattle.table.specs.declared.reason.Refusal.{Refusal}
use Rattle.reader.specs.declared.answers.Counts.{Counts}
use Rattle.reader.specs.declared.answers.Reader.{Reader}
use Rattle.reader.specs.declared.letters.Letters.{Letters}
use Rattle.reader.specs.declared.scope.Scope.{Scope}

-- a token of this class stands at a place, the first from a byte on, and the text goes on behind it
pub record Front (text : List ℕ) (from : ℕ) (k : Class) (place end : ℕ) : Type 0 where
  pub token : Spelt.Token
  pub after : List Placed
  pub ending : Ending
  pub all : Tokens from (drop from text) ((token at place) ∷ after) ending
  pub rest : Tokens end (drop end text) after ending
  pub is : classify token ≡ k
  pub back : from ≤ place
  pub some : place < end
  pub within : end ≤ length text

-- a reader is at a text's first byte, and counts state 0
pub record Starts (text : List ℕ) (r : Reader) : Type 0 where
  pub same : r.text.now ≡ text
  pub at_is : r.at ≡ 0
  pub counts_are : r.counts ≡ record { states = 1; rows = 0 }

-- a reader goes on from a byte, in the same text and with the same counts
pub record Onward (r : Reader) (byte : ℕ) (z : Reader) : Type 0 where
  pub same : z.text.now ≡ r.text.now
  pub at_is : z.at ≡ byte
  pub counts_are : z.counts ≡ r.counts

-- it stays where it is, with so many states and rows more
pub record Counted (r : Reader) (states rows : ℕ) (z : Reader) : Type 0 where
  pub same : z.text.now ≡ r.text.now
  pub at_is : z.at ≡ r.at
  pub counts_are : z.counts ≡ record { states = r.counts.states + states; rows = r.counts.rows + rows }

-- the byte behind a token
abbrev pub end_of : ℕ → Token → ℕ
end_of from (Token.Word place end x) = end
end_of from (Token.Number place end) = end
end_of from (Token.Letter place end b) = end
end_of from (Token.Sign place end x) = end
end_of from (Token.End place) = from
end_of from (Token.Broken place) = from

-- this token comes first, and it goes on behind that
pub record Took (r : Reader) (k : Token) (z : Reader) : Type 0 where
  pub first : FirstToken r.text.now r.at k
  pub onward : Onward r (end_of r.at k) z

-- a token of this class comes first, and it goes on behind that
pub record Moved (r : Reader) (k : Class) (z : Reader) : Type 0 where
  pub place : ℕ
  pub front : Front r.text.now r.at k place z.at
  pub same : z.text.now ≡ r.text.now
  pub counts_are : z.counts ≡ r.counts

-- a refusal for this reason where the first token stands
pub record Refuses (r : Reader) (why : Reason) (f : Refusal) : Type 0 where
  pub token : Token
  pub first : FirstToken r.text.now r.at token
  pub is : f ≡ record { reason = why; place = (refusal_of token).place }

-- no token comes first from a byte on that is spelt so
pub record Lacks (m : Fixed) (text : List ℕ) (from : ℕ) : Type 0 where
  pub token : Token
  pub first : FirstToken text from token
  pub none : (p : ℕ) (ts : List Placed) → ¬ (first.tokens ≡ (spell m at p) ∷ ts)

-- and what comes first is refused
pub record Missing (m : Fixed) (r : Reader) (f : Refusal) : Type 0 where
  pub lacks : Lacks m r.text.now r.at
  pub is : f ≡ refusal_of lacks.token

abbrev pub TakesRight : Fixed → Reader → Result Reader Refusal → Type 0
TakesRight m r (Ok z) = Moved r (mark m) z
TakesRight m r (Err f) = Missing m r f

-- one token and no other is taken
pub record Takes (m : Fixed) (r : Reader) (u : Result Reader Refusal) : Type 0 where
  pub right : TakesRight m r u

-- where the machine stands: the byte from which it goes on, what it expects, and its totals
pub record Spot : Type 0 where
  pub from : ℕ
  pub expects : Stack
  pub totals : Totals

abbrev pub spot : ℕ → Stack → Totals → Spot
spot from x t = record { from = from; expects = x; totals = t }

abbrev pub totals : List ℕ → Counts → Totals
totals alphabet counts = record { alphabet = alphabet; states = counts.states; rows = counts.rows }

-- before what a reader has still to read
abbrev pub before : Reader → Stack → List ℕ → Spot
before r x alphabet = spot r.at x (totals alphabet r.counts)

-- from one spot the machine comes to another, whatever is expected after that
pub record ComesTo (text : List ℕ) (s z : Spot) : Type 0 where
  pub before : List Placed
  pub after : List Placed
  pub ending : Ending
  pub here : Tokens s.from (drop s.from text) before ending
  pub there : Tokens z.from (drop z.from text) after ending
  pub same : (st : Stack) → run (s.expects ++ st) s.totals before ending ≡ run (z.expects ++ st) z.totals after ending
  pub forth : s.from ≤ z.from

-- from a spot the machine refuses
pub record Stops (text : List ℕ) (s : Spot) (r : Refusal) : Type 0 where
  pub before : List Placed
  pub ending : Ending
  pub here : Tokens s.from (drop s.from text) before ending
  pub same : (st : Stack) → run (s.expects ++ st) s.totals before ending ≡ refused (number_of r.reason) r.place

-- from a spot the machine comes to where a reader is, and expects these symbols there, with this alphabet
pub record Arrives (text : List ℕ) (s : Spot) (x : Stack) (alphabet : List ℕ) (r : Reader) : Type 0 where
  pub comes : ComesTo text s (before r x alphabet)
  pub same : r.text.now ≡ text

abbrev pub Right : List ℕ → Spot → Stack → List ℕ → Result Reader Refusal → Type 0
Right text s x alphabet (Ok r) = Arrives text s x alphabet r
Right text s x alphabet (Err f) = Stops text s f

-- from a spot the machine does what is answered: it comes to where it expects these symbols, with this alphabet, or refuses
pub record Answers (text : List ℕ) (s : Spot) (x : Stack) (alphabet : List ℕ) (u : Result Reader Refusal) : Type 0 where
  pub right : Right text s x alphabet u

-- the same from a reader on, where the first symbols are expected and then the second
abbrev pub ReadsOn : Reader → Stack → Stack → List ℕ → Result Reader Refusal → Type 0
ReadsOn r x y alphabet u = Answers r.text.now (before r x alphabet) y alphabet u

-- the letters so far
abbrev pub alphabet_of : Letters → List ℕ
alphabet_of l = take l.count l.bytes

-- one more is open, or 16 are
abbrev pub Opened : Scope → Option Scope → Type 0
Opened s (Some inner) = (inner.letters ≡ s.letters) × (inner.depth ≡ s.depth + 1) × (s.depth < 16)
Opened s None = s.depth ≡ 16

abbrev pub Past : ℕ → Result Reader Refusal → Type 0
Past from (Ok r) = from < r.at
Past from (Err f) = Unit {0}

-- and it reads something
pub record Eats (r : Reader) (x y : Stack) (alphabet : List ℕ) (u : Result Reader Refusal) : Type 0 where
  pub answers : ReadsOn r x y alphabet u
  pub past : Past r.at u

-- the same of an answer with the alphabet that was read
abbrev pub RightWith : List ℕ → Spot → Stack → Result (Reader × Letters) Refusal → Type 0
RightWith text s x (Ok read) = Arrives text s x (alphabet_of read.1) read.0
RightWith text s x (Err f) = Stops text s f

pub record AnswersWith (text : List ℕ) (s : Spot) (x : Stack) (u : Result (Reader × Letters) Refusal) : Type 0 where
  pub right : RightWith text s x u

-- an answer as what comes of a text
abbrev pub outcome_of : Result Counts Refusal → Outcome
outcome_of (Ok counts) = taken counts.states counts.rows
outcome_of (Err f) = refused (number_of f.reason) f.place
