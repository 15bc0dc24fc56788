-- What the readers of a condition's atoms promise: the atom that the grammar derives, or a refusal.
use Rattle.std.specs.Prelude.{ℕ, ◌+◌, ◌≤◌, ◌<◌, ◌≡◌, Bool, true, false, List, [], ◌∷◌, length, drop, Option, Some, None, Ok, Err}
use Rattle.text.specs.Token as Spelt
use Rattle.text.specs.Token.{s}
use Rattle.text.specs.Tokens.{Placed, ◌at◌, Ending, Tokens}
use Rattle.rule.specs.Tree as Tree
use Rattle.rule.specs.Grammar.{Ts, IsAtom}
use Rattle.rule.specs.Limits.{is_in, number_faults}
use Rattle.rule.specs.Inside.Class.{Fixed}
use Rattle.rule.specs.Inside.Machine.{Expected, Totals}
use Rattle.reader.specs.Inside.Answers.{spot, Stops, Lacks}
use Rattle.atoms.specs.declared.Symbol.{Symbol as Sought}
use Rattle.atoms.specs.declared.Atom.{Atom}
use Rattle.atoms.specs.Atom as Reads

-- an atom of the code is this one of the tree
abbrev pub symbol_of : Tree.SymbolName → Sought
symbol_of (Tree.letter l) = Sought.Letter l.byte l.place
symbol_of Tree.lend = Sought.Lend
symbol_of Tree.rend = Sought.Rend

abbrev pub atom_of : Tree.Atom → Atom
atom_of (Tree.read_is x) = Atom.Read true (symbol_of x)
atom_of (Tree.read_is_not x) = Atom.Read false (symbol_of x)
atom_of (Tree.counter_is n) = Atom.Counter true
atom_of (Tree.counter_is_not n) = Atom.Counter false

-- with so many letters, the rows of an atom and its negation together
abbrev pub rows_of : ℕ → Atom → ℕ
rows_of k (Atom.Read equal x) = k + 2
rows_of k (Atom.Counter zero) = 2

-- where an atom's letter stands, if it is outside the alphabet
abbrev pub stray_of : List ℕ → Atom → Option ℕ
stray_of a (Atom.Read equal (Sought.Letter b p)) = elim (is_in b a) [ true ↦ None | false ↦ Some p ]
stray_of a (Atom.Read equal Sought.Lend) = None
stray_of a (Atom.Read equal Sought.Rend) = None
stray_of a (Atom.Counter zero) = None

-- the number that the counter is compared with is 0
abbrev pub Zeroed : Tree.Atom → Type 0
Zeroed (Tree.read_is x) = Unit {0}
Zeroed (Tree.read_is_not x) = Unit {0}
Zeroed (Tree.counter_is n) = number_faults 0 n ≡ []
Zeroed (Tree.counter_is_not n) = number_faults 0 n ≡ []

-- the sign of a comparison
abbrev pub compared : Bool → Spelt.Token
compared true = s "=="
compared false = s "!="

-- tokens behind this one
abbrev pub behind : Spelt.Token → ℕ → Ts → Ts
behind t p ts = (t at p) ∷ ts

-- neither `(` nor `!` comes first
abbrev pub OpensNothing : List ℕ → ℕ → Type 0
OpensNothing text from = Lacks Fixed.opens text from × Lacks Fixed.not text from

-- the tokens from one byte to another, behind some others, are an atom, whose first word is at this place
pub record IsFound (text : List ℕ) (from : ℕ) (lead : Ts → Ts) (atom : Atom) (to : ℕ) : Type 0 where
  pub before : List Placed
  pub after : List Placed
  pub ending : Ending
  pub here : Tokens from (drop from text) before ending
  pub there : Tokens to (drop to text) after ending
  pub place : ℕ
  pub tree : Tree.Atom
  pub derived : IsAtom (lead before) place tree after
  pub zeroed : Zeroed tree
  pub is : atom ≡ atom_of tree
  pub forth : from < to
  pub inside : to ≤ length text

abbrev pub TestsRight : List ℕ → ℕ → (Ts → Ts) → Expected → Reads.Read → Type 0
TestsRight text from lead x (Ok found) = IsFound text from lead found.atom found.at
TestsRight text from lead x (Err r) = (t : Totals) → Stops text (spot from (x ∷ []) t) r

-- behind these tokens stands an atom, whatever letter it has, or else the machine, which expects this, refuses
pub record Tests (text : List ℕ) (from : ℕ) (lead : Ts → Ts) (x : Expected) (r : Reads.Read) : Type 0 where
  pub right : TestsRight text from lead x r
