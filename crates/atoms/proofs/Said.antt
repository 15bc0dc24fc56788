-- What an atom's tokens say, one after the other, and that they say one thing only.
use Prim.Native.Nat.{ℕ}
use mathlib.Core.Path.{◌≡◌, refl, sym, ap, ◌∙◌, subst}
use mathlib.Core.Bool.{Bool, true, false}
use mathlib.Core.List.{List}
use Rattle.std.specs.Prelude.{Result, Ok, Err}
use Rattle.text.specs.First.{FirstToken}
use Rattle.text.specs.declared.Word.{Word}
use Rattle.text.specs.declared.Sign.{Sign}
use Rattle.text.specs.declared.Token.{Token}
use Rattle.text.proofs.Once.{first_once}
use Rattle.table.specs.declared.reason.Refusal.{Refusal}
use Rattle.atoms.specs.Atom.{refusal_of, Read, Next, Case, stands, other, Tested, letter_read, counter, IsTested, by_read, by_c, Compared, IsCompared, same, differs, Object, IsObject, a_letter, lend, rend, Numeral, IsNumeral, a_number, found, zero_found, ObjectSays, NumeralSays, ComparedSays, TestedSays, AtomAt}
use Rattle.atoms.specs.Inside.Parts.{ComparisonSays, SymbolSays, behind_zero, ZeroSays}
use Rattle.atoms.specs.declared.Symbol.{Symbol}
use Rattle.atoms.specs.declared.Atom.TheVariants as Atom

-- a relation that gives one value at most
abbrev Once : {A B : Type 0} → (A → B → Type 0) → Type 0
Once {A} {B} R = (a : A) (x y : B) → R a x → R a y → x ≡ y

next_once : {text : List ℕ} {from : ℕ} (Says : Token → Read → Type 0)
    → Once Says
    → (r s : Read)
    → Next text from (λ t. Says t r)
    → Next text from (λ t. Says t s)
    → r ≡ s
next_once Says one r s x y =
    one x.token r s x.says (subst (λ (t : Token). Says t s) (first_once y.first x.first) y.says)

case_once : {A : Type 0} (StandsFor : Token → A → Type 0) (Says : A → Read → Type 0) → Once StandsFor → Once Says → Once (Case StandsFor Says)
case_once StandsFor Says one then t r s (stands {a = a} i x) (stands {a = b} j y) = then a r s x (subst (λ c. Says c s) (one t b a j i) y)
case_once StandsFor Says one then t r s (stands i x) (other h) = absurd (h _ i)
case_once StandsFor Says one then t r s (other h) (stands i x) = absurd (h _ i)
case_once StandsFor Says one then t r s (other h) (other g) = refl

tested_once : Once IsTested
tested_once t x y by_read by_read = refl
tested_once t x y by_c by_c = refl

compared_once : Once IsCompared
compared_once t x y same same = refl
compared_once t x y differs differs = refl

object_once : Once IsObject
object_once t x y a_letter a_letter = refl
object_once t x y lend lend = refl
object_once t x y rend rend = refl

numeral_once : Once IsNumeral
numeral_once t x y a_number a_number = refl

object_says_once : (equal : Bool) → Once (ObjectSays equal)
object_says_once equal = case_once IsObject _ object_once (λ x r s e f. e ∙ sym f)

module _ (text : List ℕ) where
  numeral_says_once : (equal : Bool) → Once (NumeralSays text equal)
  numeral_says_once equal = case_once IsNumeral _ numeral_once (λ n r s e f. e ∙ sym f)

  compared_says_once : (third : Bool → Token → Read → Type 0) → ((equal : Bool) → Once (third equal)) → Once (ComparedSays text third)
  compared_says_once third one = case_once IsCompared _ compared_once (λ c r s x y. next_once (third c.equal) (one c.equal) r s x y)

  tested_says_once : Once (TestedSays text)
  tested_says_once (letter_read end) r s x y = next_once (ComparedSays text ObjectSays) (compared_says_once ObjectSays object_says_once) r s x y
  tested_says_once (counter end) r s x y =
      next_once (ComparedSays text (NumeralSays text)) (compared_says_once (NumeralSays text) numeral_says_once) r s x y

-- no second answer fits
pub atom_once : {text : List ℕ} {from : ℕ} {r s : Read} → AtomAt text from r → AtomAt text from s → r ≡ s
atom_once {text} x y = next_once (Case IsTested (TestedSays text)) (case_once IsTested (TestedSays text) tested_once (tested_says_once text)) _ _ x.right y.right

module _ {A R : Type 0} {StandsFor : Token → A → Type 0} {Says : A → Result R Refusal → Type 0} {k : Token} where
  -- a token that stands for something
  pub case_stands : {r : Result R Refusal} (j : Token) (a : A) → k ≡ j → StandsFor j a → Says a r → Case StandsFor Says k r
  case_stands {r} j a e i x = subst (λ (t : Token). Case StandsFor Says t r) (sym e) (stands i x)

  -- a word, or a sign, that is told
  pub case_word : {r : Result R Refusal} {p q : ℕ} {x y : Word} (a : A)
      → k ≡ Token.Word p q x
      → x ≡ y
      → StandsFor (Token.Word p q y) a
      → Says a r
      → Case StandsFor Says k r
  case_word {p = p} {q = q} {y = y} a e told i x = case_stands (Token.Word p q y) a (e ∙ ap (λ (v : Word). Token.Word p q v) told) i x

  pub case_sign : {r : Result R Refusal} {p q : ℕ} {x y : Sign} (a : A)
      → k ≡ Token.Sign p q x
      → x ≡ y
      → StandsFor (Token.Sign p q y) a
      → Says a r
      → Case StandsFor Says k r
  case_sign {p = p} {q = q} {y = y} a e told i x = case_stands (Token.Sign p q y) a (e ∙ ap (λ (v : Sign). Token.Sign p q v) told) i x

  -- and one that stands for nothing
  pub case_other : {r : Refusal} (j : Token) → k ≡ j → ((a : A) → ¬ StandsFor j a) → r ≡ refusal_of j → Case StandsFor Says k (Err r)
  case_other {r} j e h right = subst (λ (t : Token). Case StandsFor Says t (Err r)) (sym e) (rw right (other h))

-- the first token from a byte on says this
pub next : {text : List ℕ} {from : ℕ} {k : Token} {Says : Token → Type 0} → FirstToken text from k → Says k → Next text from Says
next {k = k} f h = record { token = k; first = f; says = h }

-- what is read of a token goes into what is answered, and so does its refusal
module _ {A R S : Type 0} {StandsFor : Token → A → Type 0} {Part : A → Result R Refusal → Type 0} {Says : A → Result S Refusal → Type 0} {k : Token} where
  pub case_ok : {r : Result R Refusal} {v : R} {s : Result S Refusal}
      → Case StandsFor Part k r
      → r ≡ Ok v
      → ((a : A) → Part a (Ok v) → Says a s)
      → Case StandsFor Says k s
  case_ok (stands {a = a} i x) e on = stands i (on a (subst (Part a) e x))
  case_ok (other h) e on = absurd cc

  pub case_err : {r : Result R Refusal} {d : Refusal}
      → Case StandsFor Part k r
      → r ≡ Err d
      → ((a : A) → Part a (Err d) → Says a (Err d))
      → Case StandsFor Says k (Err d)
  case_err (stands {a = a} i x) e on = stands i (on a (subst (Part a) e x))
  case_err {d = d} (other h) e on = case_other k refl h cc

-- what is no word tests nothing, what is no sign compares nothing, what is no number is none
pub no_test : {k : Token} → ((p q : ℕ) (x : Word) → ¬ (k ≡ Token.Word p q x)) → (a : Tested) → ¬ IsTested k a
no_test h a by_read = h _ _ _ refl
no_test h a by_c = h _ _ _ refl

pub no_comparison : {k : Token} → ((p q : ℕ) (x : Sign) → ¬ (k ≡ Token.Sign p q x)) → (a : Compared) → ¬ IsCompared k a
no_comparison h a same = h _ _ _ refl
no_comparison h a differs = h _ _ _ refl

pub no_numeral : {k : Token} → ((p q : ℕ) → ¬ (k ≡ Token.Number p q)) → (a : Numeral) → ¬ IsNumeral k a
no_numeral h a a_number = h _ _ refl

-- what is no word and no letter is no object
pub no_object : {k : Token} → ((p q : ℕ) (x : Word) → ¬ (k ≡ Token.Word p q x)) → ((p q b : ℕ) → ¬ (k ≡ Token.Letter p q b)) → (a : Object) → ¬ IsObject k a
no_object h g a a_letter = g _ _ _ refl
no_object h g a lend = h _ _ _ refl
no_object h g a rend = h _ _ _ refl

-- nor do another word and another sign
pub other_word : {p q : ℕ} {x : Word} → ¬ (x ≡ Word.Read) → ¬ (x ≡ Word.C) → (a : Tested) → ¬ IsTested (Token.Word p q x) a
other_word h g a by_read = h refl
other_word h g a by_c = g refl

pub other_sign : {p q : ℕ} {x : Sign} → ¬ (x ≡ Sign.Equals) → ¬ (x ≡ Sign.Differs) → (a : Compared) → ¬ IsCompared (Token.Sign p q x) a
other_sign h g a same = h refl
other_sign h g a differs = g refl

pub other_mark : {p q : ℕ} {x : Word} → ¬ (x ≡ Word.Lend) → ¬ (x ≡ Word.Rend) → (a : Object) → ¬ IsObject (Token.Word p q x) a
other_mark h g a lend = h refl
other_mark h g a rend = g refl

-- behind a comparison
module _ {text : List ℕ} {from : ℕ} {k : Token} (third : Bool → Token → Read → Type 0) {r : Result (Bool × ℕ) Refusal} (f : FirstToken text from k) (h : ComparisonSays k r) where
  pub compared : {c : Bool × ℕ} {s : Read}
      → r ≡ Ok c
      → Next text c.1 (λ t. third c.0 t s)
      → Next text from (λ t. ComparedSays text third t s)
  compared {c} {s} e on =
      next
      f
      (case_ok h e (λ a x.
      let same : c ≡ (a.equal, a.end) = cc in
      subst (λ (c : Bool × ℕ). Next text c.1 (λ t. third c.0 t s)) same on))

  pub not_compared : {d : Refusal} → r ≡ Err d → Next text from (λ t. ComparedSays text third t (Err d))
  not_compared e = next f (case_err h e (λ a x. absurd cc))

-- what `read` is compared with
module _ {text : List ℕ} {from : ℕ} {k : Token} (equal : Bool) {r : Result (Symbol × ℕ) Refusal} (f : FirstToken text from k) (h : SymbolSays k r) where
  pub symbol_found : {x : Symbol × ℕ} → r ≡ Ok x → Next text from (λ t. ObjectSays equal t (found (Atom.Read equal x.0) x.1))
  symbol_found {x} e =
      next
      f
      (case_ok h e (λ a y.
      let same : x ≡ (a.symbol, a.end) = cc in
      ap (λ (x : Symbol × ℕ). found (Atom.Read equal x.0) x.1) same))

  pub symbol_refused : {d : Refusal} → r ≡ Err d → Next text from (λ t. ObjectSays equal t (Err d))
  symbol_refused e = next f (case_err h e (λ a x. absurd cc))

-- 0 is read, and any other number refused
zero_is : (equal : Bool) (n : Numeral) (b : Bool) (at : ℕ) → Ok at ≡ behind_zero n b → found (Atom.Counter equal) at ≡ zero_found equal n b
zero_is equal n true at e =
    let there : at ≡ n.end = cc in
    ap (found (Atom.Counter equal)) there
zero_is equal n false at e = absurd cc

no_zero : (equal : Bool) (n : Numeral) (b : Bool) (d : Refusal) → Err d ≡ behind_zero n b → Err d ≡ zero_found equal n b
no_zero equal n true d e = absurd cc
no_zero equal n false d e = cc

module _ {text : List ℕ} {from : ℕ} (equal : Bool) {r : Result ℕ Refusal} (h : Next text from (λ t. ZeroSays text t r)) where
  pub zero_read_lem : {at : ℕ} → r ≡ Ok at → Next text from (λ t. NumeralSays text equal t (found (Atom.Counter equal) at))
  zero_read_lem e = next h.first (case_ok h.says e (λ n x. zero_is equal n _ _ x))

  pub number_refused : {d : Refusal} → r ≡ Err d → Next text from (λ t. NumeralSays text equal t (Err d))
  number_refused e = next h.first (case_err h.says e (λ n x. no_zero equal n _ _ x))
