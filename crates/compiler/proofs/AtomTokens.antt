-- Where an atom's tokens stand, the reader finds that atom, and the rows that go by its answer are the atom's.
use Prim.Native.Nat.{ℕ, ◌<◌}
use native.Mathlib.Omega.{arith}
use mathlib.Core.Path.{◌≡◌, refl, sym, ◌∙◌, ap, subst}
use mathlib.Core.Bool.{Bool, true, false, ◌&&◌}
use mathlib.Core.List.{List, [], ◌∷◌, cons≢nil}
use lib.Dec.{leb}
use Rattle.text.specs.Token.{word, number, letter, sign}
use Rattle.text.specs.Tokens.{Placed, ◌at◌, Ending}
use Rattle.text.specs.First.{part, IsWord, written, Begins}
use Rattle.text.specs.declared.Word.{Word}
use Rattle.text.specs.declared.Sign.{Sign}
use Rattle.text.specs.declared.Token.{Token}
use Rattle.text.proofs.Once.{comes}
use Rattle.rule.specs.Tree as Tree
use Rattle.rule.specs.Tree.{SymbolName}
use Rattle.rule.specs.Limits.{value_from, in_form}
use Rattle.rule.specs.Grammar as Grammar
use Rattle.rule.specs.Grammar.{Ts, IsSymbolName, IsAtom}
use Rattle.rule.specs.Inside.Within.{AtomWithin}
use Rattle.atoms.specs.Atom.{
  Next,
  Case,
  stands,
  other,
  IsTested,
  by_read,
  by_c,
  same,
  differs,
  a_letter,
  lend,
  rend,
  a_number,
  Read,
  found,
  zero_found,
  zero_read,
  ObjectSays,
  NumeralSays,
  ComparedSays,
  TestedSays,
  AtomAt,
}
use Rattle.reader.specs.Inside.Atoms.{symbol_of, atom_of}
use Rattle.atoms.specs.declared.Symbol.TheVariants as Symbol
use Rattle.atoms.specs.declared.Atom.{Atom}
use Rattle.construction.specs.Construction.{symbol_code, atom_rows}
use Rattle.compiler.specs.Inside.Seeing.{Here, Behind}
use Rattle.compiler.specs.Inside.Atoms.{read_rows, code_of, rows_of}
use Rattle.compiler.proofs.Seeing.{end_from, first_seen, seen_behind, seen_word, seen_sign, word_stands, sign_stands}

-- the first of some tokens: its place, its byte
abbrev place_at : List Placed → ℕ
place_at [] = 0
place_at ((t at p) ∷ ts) = p

abbrev byte_at : List Placed → ℕ
byte_at [] = 0
byte_at ((word l at p) ∷ ts) = 0
byte_at ((number l at p) ∷ ts) = 0
byte_at ((letter b at p) ∷ ts) = b
byte_at ((sign l at p) ∷ ts) = 0

abbrev digits_at : List Placed → List ℕ
digits_at [] = []
digits_at ((word l at p) ∷ ts) = []
digits_at ((number l at p) ∷ ts) = l
digits_at ((letter b at p) ∷ ts) = []
digits_at ((sign l at p) ∷ ts) = []

-- the answer where a letter stands, a number
module _ (text : List ℕ) (us : Ts) (e : Ending) where
  letter_token_lem : (b p : ℕ) (t : Token) → Begins text ((letter b at p) ∷ us) e t → (q : ℕ) × (t ≡ Token.Letter p q b)
  letter_token_lem b p (Token.Word o q x) n = absurd (let same = n.next.first in cc)
  letter_token_lem b p (Token.Number o q) n = absurd (let same = n.first in cc)
  letter_token_lem b p (Token.Letter o q c) n =
      let place = ap place_at n.first in
      let byte = ap byte_at n.first in
      (q, λ i. Token.Letter (sym place i) q (sym byte i))
  letter_token_lem b p (Token.Sign o q x) n = absurd (let same = n.first in cc)
  letter_token_lem b p (Token.End o) n = absurd (cons≢nil n.none)
  letter_token_lem b p (Token.Broken o) n = absurd (cons≢nil n.none)

  number_token : (l : List ℕ) (p : ℕ) (t : Token) → Begins text ((number l at p) ∷ us) e t → (q : ℕ) × (t ≡ Token.Number p q) × (l ≡ part text p q)
  number_token l p (Token.Word o q x) n = absurd (let same = n.next.first in cc)
  number_token l p (Token.Number o q) n =
      let place = ap place_at n.first in
      (q, (λ i. Token.Number (sym place i) q), ap digits_at n.first ∙ ap (λ (m : ℕ). part text m q) (sym place))
  number_token l p (Token.Letter o q c) n = absurd (let same = n.first in cc)
  number_token l p (Token.Sign o q x) n = absurd (let same = n.first in cc)
  number_token l p (Token.End o) n = absurd (cons≢nil n.none)
  number_token l p (Token.Broken o) n = absurd (cons≢nil n.none)

-- what is said by a token that is known, and that the text goes on behind it
pub record Told (text : List ℕ) (from : ℕ) (us : Ts) (Says : Token → Type 0) (k : Token) : Type 0 where
  pub behind : Behind text from (end_from from k) us
  pub says : Says k

module _ {text : List ℕ} {from : ℕ} {us : Ts} {x : Placed} {Says : Token → Type 0} (n : Next text from Says) (h : Here text from (x ∷ us)) where
  told : (k : Token) → n.token ≡ k → Told text from us Says k
  told k e =
      record {
        behind = subst (λ (t : Token). Behind text from (end_from from t) us) e (seen_behind (first_seen n.token n.first refl (x ∷ us) h));
        says = subst Says e n.says;
      }

module _ {text : List ℕ} {from p : ℕ} {us : Ts} {Says : Token → Type 0} (n : Next text from Says) where
  told_word : {l : List ℕ} (y : Word)
      → IsWord y l
      → Here text from ((word l at p) ∷ us)
      → (o : ℕ) × (q : ℕ) × Told text from us Says (Token.Word o q y)
  told_word y is h =
      let (o, q, x, e) = word_stands n.first h in
      let same = seen_word y (first_seen (Token.Word o q x) n.first e _ h) is in
      (o, q, told n h (Token.Word o q y) (e ∙ ap (λ (z : Word). Token.Word o q z) same))

  told_sign : {l : List ℕ} (y : Sign)
      → l ≡ written y
      → Here text from ((sign l at p) ∷ us)
      → (o : ℕ) × (q : ℕ) × Told text from us Says (Token.Sign o q y)
  told_sign y is h =
      let (o, q, x, e) = sign_stands n.first h in
      let same = seen_sign y (first_seen (Token.Sign o q x) n.first e _ h) is in
      (o, q, told n h (Token.Sign o q y) (e ∙ ap (λ (z : Sign). Token.Sign o q z) same))

  told_letter : {b : ℕ} → Here text from ((letter b at p) ∷ us) → (q : ℕ) × Told text from us Says (Token.Letter p q b)
  told_letter {b} h =
      let (q, e) = letter_token_lem text us h.ending b p n.token (comes h.tokens n.first) in
      (q, told n h (Token.Letter p q b) e)

  told_number : {l : List ℕ} → Here text from ((number l at p) ∷ us) → (q : ℕ) × (l ≡ part text p q) × Told text from us Says (Token.Number p q)
  told_number {l} h =
      let (q, e, is) = number_token text us h.ending l p n.token (comes h.tokens n.first) in
      (q, is, told n h (Token.Number p q) e)

-- what each token of an atom says
read_says : {text : List ℕ} {p q : ℕ} {r : Read} → Case IsTested (TestedSays text) (Token.Word p q Word.Read) r → Next text q (λ t. ComparedSays text ObjectSays t r)
read_says (stands by_read x) = x
read_says (other h) = absurd (h _ by_read)

c_says : {text : List ℕ} {p q : ℕ} {r : Read} → Case IsTested (TestedSays text) (Token.Word p q Word.C) r → Next text q (λ t. ComparedSays text (NumeralSays text) t r)
c_says (stands by_c x) = x
c_says (other h) = absurd (h _ by_c)

same_says : {text : List ℕ} (third : Bool → Token → Read → Type 0) {p q : ℕ} {r : Read} → ComparedSays text third (Token.Sign p q Sign.Equals) r → Next text q (λ t. third true t r)
same_says third (stands same x) = x
same_says third (other h) = absurd (h _ same)

differs_says : {text : List ℕ} (third : Bool → Token → Read → Type 0) {p q : ℕ} {r : Read} → ComparedSays text third (Token.Sign p q Sign.Differs) r → Next text q (λ t. third false t r)
differs_says third (stands differs x) = x
differs_says third (other h) = absurd (h _ differs)

letter_says : {equal : Bool} {p q b : ℕ} {r : Read} → ObjectSays equal (Token.Letter p q b) r → r ≡ found (Atom.Read equal (Symbol.Letter b p)) q
letter_says (stands a_letter x) = x
letter_says (other h) = absurd (h _ a_letter)

lend_says : {equal : Bool} {p q : ℕ} {r : Read} → ObjectSays equal (Token.Word p q Word.Lend) r → r ≡ found (Atom.Read equal Symbol.Lend) q
lend_says (stands lend x) = x
lend_says (other h) = absurd (h _ lend)

rend_says : {equal : Bool} {p q : ℕ} {r : Read} → ObjectSays equal (Token.Word p q Word.Rend) r → r ≡ found (Atom.Read equal Symbol.Rend) q
rend_says (stands rend x) = x
rend_says (other h) = absurd (h _ rend)

number_says : (text : List ℕ) (equal : Bool) {p q : ℕ} {r : Read} → NumeralSays text equal (Token.Number p q) r → r ≡ zero_read equal (part text p q) (record { place = p; end = q })
number_says text equal (stands a_number x) = x
number_says text equal (other h) = absurd (h _ a_number)

-- an atom is found, and the text goes on behind it
pub record FoundAt (text : List ℕ) (from : ℕ) (us : Ts) (a : Atom) (r : Read) : Type 0 where
  pub end : ℕ
  pub is : r ≡ found a end
  pub onward : from < end
  pub here : Here text end us

further : {text : List ℕ} {from q o : ℕ} {ts vs us : Ts} {a : Atom} {r : Read}
    → Behind text from q ts
    → Behind text q o vs
    → FoundAt text o us a r
    → FoundAt text from us a r
further b c f = record { end = f.end; is = f.is; onward = omega (arith, b.onward, c.onward, f.onward); here = f.here }

object_found : {text : List ℕ} {from : ℕ} {ts us : Ts} {x : SymbolName} {r : Read} (equal : Bool)
    → Next text from (λ t. ObjectSays equal t r)
    → Here text from ts
    → IsSymbolName ts x us
    → FoundAt text from us (Atom.Read equal (symbol_of x)) r
object_found equal n h Grammar.a_letter =
    let (q, t) = told_letter n h in
    record { end = q; is = letter_says t.says; onward = t.behind.onward; here = t.behind.here }
object_found equal n h Grammar.lend =
    let (o, q, t) = told_word n Word.Lend refl h in
    record { end = q; is = lend_says t.says; onward = t.behind.onward; here = t.behind.here }
object_found equal n h Grammar.rend =
    let (o, q, t) = told_word n Word.Rend refl h in
    record { end = q; is = rend_says t.says; onward = t.behind.onward; here = t.behind.here }

zero_is_read : (equal : Bool) (digits : List ℕ) (p q : ℕ)
    → value_from 0 digits ≡ 0
    → in_form digits ≡ true
    → zero_read equal digits (record { place = p; end = q }) ≡ found (Atom.Counter equal) q
zero_is_read equal digits p q zero form =
    ap
    (zero_found equal (record { place = p; end = q }))
    (ap (λ (b : Bool). b && leb (value_from 0 digits) 0) form ∙ ap (λ (n : ℕ). leb n 0) zero)

number_found : {text : List ℕ} {from p : ℕ} {l : List ℕ} {us : Ts} {r : Read} (equal : Bool)
    → Next text from (λ t. NumeralSays text equal t r)
    → Here text from ((number l at p) ∷ us)
    → (value_from 0 l ≡ 0) × (in_form l ≡ true)
    → FoundAt text from us (Atom.Counter equal) r
number_found {text} {p = p} equal n h zero =
    let (q, is, t) = told_number n h in
    let value = ap (value_from 0) (sym is) ∙ zero.0 in
    let form = ap in_form (sym is) ∙ zero.1 in
    record {
      end = q;
      is = number_says text equal t.says ∙ zero_is_read equal (part text p q) p q value form;
      onward = t.behind.onward;
      here = t.behind.here;
    }

-- where an atom stands that is within the limits, it is found
pub atom_found : (alphabet : List ℕ) {text : List ℕ} {from k : ℕ} {ts us : Ts} {a : Tree.Atom} {r : Read}
    → AtomAt text from r
    → Here text from ts
    → IsAtom ts k a us
    → AtomWithin alphabet a
    → FoundAt text from us (atom_of a) r
unfolding AtomWithin
atom_found alphabet x h (Grammar.read_is d) within =
    let (o, q, t) = told_word x.right Word.Read refl h in
    let (o', q', u) = told_sign (read_says t.says) Sign.Equals refl t.behind.here in
    further t.behind u.behind (object_found true (same_says ObjectSays u.says) u.behind.here d)
atom_found alphabet x h (Grammar.read_is_not d) within =
    let (o, q, t) = told_word x.right Word.Read refl h in
    let (o', q', u) = told_sign (read_says t.says) Sign.Differs refl t.behind.here in
    further t.behind u.behind (object_found false (differs_says ObjectSays u.says) u.behind.here d)
atom_found alphabet x h Grammar.counter_is within =
    let (o, q, t) = told_word x.right Word.C refl h in
    let (o', q', u) = told_sign (c_says t.says) Sign.Equals refl t.behind.here in
    further t.behind u.behind (number_found true (same_says (NumeralSays _) u.says) u.behind.here within)
atom_found alphabet x h Grammar.counter_is_not within =
    let (o, q, t) = told_word x.right Word.C refl h in
    let (o', q', u) = told_sign (c_says t.says) Sign.Differs refl t.behind.here in
    further t.behind u.behind (number_found false (differs_says (NumeralSays _) u.says) u.behind.here within)

-- the rows by the answer are the atom's
code_is : (alphabet : List ℕ) (x : SymbolName) → symbol_code alphabet x ≡ code_of alphabet (symbol_of x)
unfolding symbol_code
code_is alphabet (Tree.letter l) = refl
code_is alphabet Tree.lend = refl
code_is alphabet Tree.rend = refl

pub rows_are_lem : (alphabet : List ℕ) (sign : Bool) (a : Tree.Atom) (p q : ℕ) → atom_rows alphabet sign a p q ≡ rows_of (atom_of a) sign alphabet p q
unfolding atom_rows
rows_are_lem alphabet true (Tree.read_is x) p q = ap (λ (n : ℕ). read_rows alphabet true n p q) (code_is alphabet x)
rows_are_lem alphabet false (Tree.read_is x) p q = ap (λ (n : ℕ). read_rows alphabet false n p q) (code_is alphabet x)
rows_are_lem alphabet true (Tree.read_is_not x) p q = ap (λ (n : ℕ). read_rows alphabet false n p q) (code_is alphabet x)
rows_are_lem alphabet false (Tree.read_is_not x) p q = ap (λ (n : ℕ). read_rows alphabet true n p q) (code_is alphabet x)
rows_are_lem alphabet true (Tree.counter_is n) p q = refl
rows_are_lem alphabet false (Tree.counter_is n) p q = refl
rows_are_lem alphabet true (Tree.counter_is_not n) p q = refl
rows_are_lem alphabet false (Tree.counter_is_not n) p q = refl
