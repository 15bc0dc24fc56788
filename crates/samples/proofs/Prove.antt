-- A line of samples, proved by computing it: from its text through tokens, grammar, limits and construction to image bytes and runs.
use Prim.Native.Nat.{ℕ, ◌≤◌, ◌<◌}
use mathlib.Core.Path.{◌≡◌, refl, subst, subst₂}
use mathlib.Core.Logic.{inl, inr}
use mathlib.Core.Bool.{Bool, true, ◌&&◌}
use mathlib.Core.Option.{Option, none, some}
use mathlib.Core.List.{List, [], ◌∷◌}
use native.Mathlib.Omega.{arith}
use lib.Dec.{T}
use lib.ListN.{length, replicate, length-replicate}
use Rattle.bits.specs.Byte.{spelling}
use Rattle.bits.proofs.Tests.{and_left, and_right}
use Rattle.table.specs.Table.{Table, Row}
use Rattle.table.specs.Image.{encode, row_bytes}
use Rattle.table.specs.Refusal.{First}
use Rattle.machine.specs.Run.{Reach}
use Rattle.bits.specs.Size.{Size}
use Rattle.text.specs.Tokens.{Placed, Ending, ends, broken, TokensOf}
use Rattle.text.specs.Inside.Scan.{scan}
use Rattle.text.proofs.Tokens.{scan_right}
use Rattle.rule.specs.Tree.{Program}
use Rattle.rule.specs.Grammar.{IsProgram}
use Rattle.rule.specs.Limits.{faults}
use Rattle.rule.specs.Faults.{FirstFault, Reads}
use Rattle.rule.specs.Inside.Machine.{Outcome, taken, refused, outcome}
use Rattle.rule.proofs.Machine.Steps.{begin, eat}
use Rattle.rule.proofs.Machine.Complete.{built}
use Rattle.rule.proofs.Outcomes.{built_program, refused_fault}
use Rattle.construction.specs.Construction.{construct}
use Rattle.std.specs.Prelude.{Ok, Err}
use Rattle.table.specs.Refusal.{number_of}
use Rattle.table.proofs.Reasons.{named}
use Rattle.construction.specs.Compile.{Compilable, reasons, image_room}
use Rattle.line.specs.CompileLine.{compile_line}
use Rattle.samples.specs.Sample as Sample
use Rattle.samples.specs.Sample.{Finding, prints, has, image, row, judged, Sample, compiles, refuses, only_row, FindingHolds, AllHold, Holds, EachHolds}
use Rattle.samples.proofs.Decide.{◌>>=◌, found, it, equal, at_most, equal_lists, empty}
use Rattle.samples.proofs.Explore.{Explored, explore, size_of, decide_verdict}

-- the text's program, if it is one without faults

pub of_text_lem : (text : List ℕ) (place : ℕ) → (scan text).ending ≡ ends place → TokensOf text (scan text).tokens (ends place)
of_text_lem text place e = subst (λ (x : Ending). TokensOf text (scan text).tokens x) e (scan_right text)

-- the tree that the tokens make
abbrev tree_of : (ts : List Placed) (o : Option Program) → built (eat begin ts) ≡ o → Option ((p : Program) × IsProgram ts p)
tree_of ts none h = none
tree_of ts (some p) h = some (p, built_program ts h)

abbrev read_up_to : (text : List ℕ) (e : Ending) → (scan text).ending ≡ e → Option ((p : Program) × Reads text p)
read_up_to text (broken q) h = none
read_up_to text (ends q) h = do
  x ← tree_of (scan text).tokens (built (eat begin (scan text).tokens)) refl
  f ← empty (faults x.0)
  some (
    x.0,
    record {
      tokens = (scan text).tokens;
      place = q;
      of_text = of_text_lem text q h;
      derived = x.1;
      faultless = f;
    },
  )

abbrev read : (text : List ℕ) → Option ((p : Program) × Reads text p)
read text = read_up_to text (scan text).ending refl

abbrev compile : (text : List ℕ) → Option ((p : Program) × Compilable text p)
compile text = do
  short ← at_most (length text) 4096
  r ← read text
  st ← at_most (construct r.0).states 128
  ro ← at_most (length (construct r.0).rows) 1024
  some (r.0, record { short = short; reads = r.1; states = st; rows = ro })

-- what is found of its table

abbrev pub find_row : (t : Table) (rs : List Row) → t.rows ≡ rs → (bytes : List ℕ) → Option (only_row t bytes)
unfolding only_row
find_row t [] e bytes = none
find_row t (r ∷ []) e bytes = do
  h ← equal_lists (row_bytes r) bytes
  some (r, e, h)
find_row t (r ∷ q ∷ rs) e bytes = none

pub with_count : (t : Table) (word : List ℕ) (limit count : ℕ) (x : Explored t word limit)
    → length x.listed ≡ count
    → Size (Reach t word limit) count
with_count t word limit count x e = subst (λ (n : ℕ). Size (Reach t word limit) n) e (size_of t word limit x)

abbrev find : (t : Table) (f : Finding) → Option (FindingHolds t f)
find t (prints text) = equal_lists (compile_line (Ok (record { bytes = length (encode t); states = t.states; rows = length t.rows }))) (spelling text)
find t (has states rows) = do
  a ← equal t.states states
  b ← equal (length t.rows) rows
  some (a, b)
find t (image bytes) = equal_lists (encode t) bytes
find t (row bytes) = find_row t t.rows refl bytes
find t (judged word limit verdict count) = do
  x ← explore t (spelling word) limit
  v ← decide_verdict t (spelling word) limit x verdict
  c ← equal (length x.listed) count
  some (v, with_count t (spelling word) limit count x c)

abbrev find_all : (t : Table) (fs : List Finding) → Option (AllHold t fs)
find_all t [] = some Sample.none
find_all t (f ∷ fs) = do
  h ← find t f
  hs ← find_all t fs
  some (Sample.more h hs)

-- a refusal by the text

pub fault_at : (text : List ℕ) (m n q p : ℕ) → outcome text ≡ refused m q → m ≡ n → q ≡ p → FirstFault text n p
fault_at text m n q p h a b = subst₂ (λ (x y : ℕ). FirstFault text x y) a b (refused_fault h)

abbrev fault_of : (text : List ℕ) (o : Outcome) → outcome text ≡ o → (n p : ℕ) → Option (FirstFault text n p)
fault_of text (taken states rows) h n p = none
fault_of text (refused m q) h n p = do
  a ← equal m n
  b ← equal q p
  some (fault_at text m n q p h a b)

-- it is the first reason that holds: the text is short enough, and the buffer has the size asked for
pub first_refusal : (text : List ℕ) (n p : ℕ) → length text ≤ 4096 → FirstFault text n p
    → First (reasons text (replicate image_room 0)) n p
unfolding First
first_refusal text n p short h =
    inr (
      λ m q r. let over : 4096 < length text = r.1.1 in omega arith,
      inr (
        λ m q r. let under : length {A = ℕ} (replicate image_room 0) < image_room = r.1.1 in omega (arith, length-replicate {A = ℕ} image_room 0),
        inl h,
      ),
    )

abbrev refuse : (text : List ℕ) (n p : ℕ) → Option (First (reasons text (replicate image_room 0)) n p)
refuse text n p = do
  short ← at_most (length text) 4096
  h ← fault_of text (outcome text) refl n p
  some (first_refusal text n p short h)

-- a line, and a table of lines
abbrev pub prove : (x : Sample) → Option (Holds x)
prove (compiles text findings) = do
  c ← compile (spelling text)
  hs ← find_all (construct c.0) findings
  some (c.0, c.1, hs)
prove (refuses text n p printed) = do
  r ← refuse (spelling text) n p
  e ← equal (number_of (named n)) n
  h ← equal_lists (compile_line (Err (record { reason = named n; place = p }))) (spelling printed)
  some (r, (named n, e, h))

abbrev pub right : List Sample → Bool
right [] = true
right (x ∷ xs) = found (prove x) && right xs

pub each : (xs : List Sample) → T (right xs) → EachHolds xs
each [] t = Sample.none
each (x ∷ xs) t = Sample.more (it (prove x) (and_left (found (prove x)) (right xs) t)) (each xs (and_right (found (prove x)) (right xs) t))
