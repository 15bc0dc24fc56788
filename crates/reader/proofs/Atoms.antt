-- What an atom's tokens say, the machine does with them: it takes the atom, or refuses where the first token stands that no atom has.
use Prim.Native.Nat.{ℕ}
use mathlib.Core.Path.{◌≡◌, refl, ap}
use mathlib.Core.Bool.{Bool, true, false, not, ◌&&◌}
use mathlib.Core.List.{List}
use lib.Dec.{T, leb}
use Rattle.text.specs.Token.{w, sign}
use Rattle.text.specs.First.{written, part, FirstToken}
use Rattle.text.specs.declared.Word.{Word}
use Rattle.text.specs.declared.Sign.{Sign}
use Rattle.text.specs.declared.Token.{Token}
use Rattle.rule.specs.Tree as Tree
use Rattle.rule.specs.Grammar as Grammar
use Rattle.rule.specs.Limits.{in_form, value_from}
use Rattle.rule.specs.Inside.Class.{Fixed, classify}
use Rattle.rule.proofs.Machine.Follow.{unlike}
use Rattle.rule.specs.Inside.Machine.{Totals, operand, read_test, counter_test, symbol_name, number, choices}
use Rattle.atoms.specs.Atom as Atom
use Rattle.atoms.specs.Atom.{
  Next,
  stands,
  other,
  Tested,
  IsTested,
  by_read,
  by_c,
  Compared,
  IsCompared,
  same,
  differs,
  Object,
  IsObject,
  a_letter,
  lend,
  rend,
  Numeral,
  a_number,
  zero_found,
  ObjectSays,
  NumeralSays,
  ComparedSays,
  TestedSays,
  AtomAt,
}
use Rattle.atoms.specs.Atom.{Read as AtomAnswer}
use Rattle.reader.specs.Inside.Atoms.{behind, compared, OpensNothing, Tests}
use Rattle.reader.proofs.Taken.{unlike_class, untaken_lem}
use Rattle.reader.proofs.Front.{class_of, front_word, front_number, front_letter, front_sign}
use Rattle.reader.proofs.Missed.{Misses}
use Rattle.reader.proofs.Tested.{test_missed, test_refuses, test_breaks, test_on, sought_found, zero_found_lem}

-- a token that an atom cannot have here the machine does not take
module _ (text : List ℕ) (t : Totals) where
  word_missed : (n p q : ℕ) (x : Word) → ((a : Tested) → ¬ IsTested (Token.Word p q x) a) → Misses text t (operand n) (Token.Word p q x)
  word_missed n p q Word.Alphabet h = refl
  word_missed n p q Word.DecrOnZero h = refl
  word_missed n p q Word.True h = refl
  word_missed n p q Word.False h = refl
  word_missed n p q Word.Twoc h = refl
  word_missed n p q Word.String h = refl
  word_missed n p q Word.Move h = refl
  word_missed n p q Word.Goto h = refl
  word_missed n p q Word.Lend h = refl
  word_missed n p q Word.Rend h = refl
  word_missed n p q Word.C h = absurd (h _ by_c)
  word_missed n p q Word.Accept h = refl
  word_missed n p q Word.Reject h = refl
  word_missed n p q Word.If h = refl
  word_missed n p q Word.Else h = refl
  word_missed n p q Word.While h = refl
  word_missed n p q Word.Choose h = refl
  word_missed n p q Word.Branch h = refl
  word_missed n p q Word.Also h = refl
  word_missed n p q Word.Read h = absurd (h _ by_read)
  word_missed n p q Word.Other h = refl

  sign_missed : (n p q : ℕ) (x : Sign)
      → T (unlike Fixed.opens (classify (sign (written x))))
      → T (unlike Fixed.not (classify (sign (written x))))
      → Misses text t (operand n) (Token.Sign p q x)
  sign_missed n p q Sign.Becomes opens not = refl
  sign_missed n p q Sign.Equals opens not = refl
  sign_missed n p q Sign.Differs opens not = refl
  sign_missed n p q Sign.Not opens not = absurd not
  sign_missed n p q Sign.And opens not = refl
  sign_missed n p q Sign.Or opens not = refl
  sign_missed n p q Sign.Increment opens not = refl
  sign_missed n p q Sign.Decrement opens not = refl
  sign_missed n p q Sign.Add opens not = refl
  sign_missed n p q Sign.Subtract opens not = refl
  sign_missed n p q Sign.Minus opens not = refl
  sign_missed n p q Sign.OpenParen opens not = absurd opens
  sign_missed n p q Sign.CloseParen opens not = refl
  sign_missed n p q Sign.OpenBrace opens not = refl
  sign_missed n p q Sign.CloseBrace opens not = refl
  sign_missed n p q Sign.OpenBracket opens not = refl
  sign_missed n p q Sign.CloseBracket opens not = refl
  sign_missed n p q Sign.Comma opens not = refl
  sign_missed n p q Sign.Semicolon opens not = refl

  test_missing : (n : ℕ) (k : Token)
      → T (unlike Fixed.opens (class_of text k))
      → T (unlike Fixed.not (class_of text k))
      → ((a : Tested) → ¬ IsTested k a)
      → Misses text t (operand n) k
  test_missing n (Token.Word p q x) opens not h = word_missed n p q x h
  test_missing n (Token.Number p q) opens not h = refl
  test_missing n (Token.Letter p q b) opens not h = refl
  test_missing n (Token.Sign p q x) opens not h = sign_missed n p q x opens not
  test_missing n (Token.End p) opens not h = tt
  test_missing n (Token.Broken p) opens not h = tt

  mark_missed : (p q : ℕ) (x : Word) → ((a : Object) → ¬ IsObject (Token.Word p q x) a) → Misses text t symbol_name (Token.Word p q x)
  mark_missed p q Word.Alphabet h = refl
  mark_missed p q Word.DecrOnZero h = refl
  mark_missed p q Word.True h = refl
  mark_missed p q Word.False h = refl
  mark_missed p q Word.Twoc h = refl
  mark_missed p q Word.String h = refl
  mark_missed p q Word.Move h = refl
  mark_missed p q Word.Goto h = refl
  mark_missed p q Word.Lend h = absurd (h _ lend)
  mark_missed p q Word.Rend h = absurd (h _ rend)
  mark_missed p q Word.C h = refl
  mark_missed p q Word.Accept h = refl
  mark_missed p q Word.Reject h = refl
  mark_missed p q Word.If h = refl
  mark_missed p q Word.Else h = refl
  mark_missed p q Word.While h = refl
  mark_missed p q Word.Choose h = refl
  mark_missed p q Word.Branch h = refl
  mark_missed p q Word.Also h = refl
  mark_missed p q Word.Read h = refl
  mark_missed p q Word.Other h = refl

-- a sign that compares nothing
comparison_missed : (p q : ℕ) (x : Sign)
    → ((a : Compared) → ¬ IsCompared (Token.Sign p q x) a)
    → T (unlike Fixed.same (classify (sign (written x)))) × (T (unlike Fixed.differs (classify (sign (written x)))) × Unit {0})
comparison_missed p q Sign.Becomes h = (tt, (tt, tt))
comparison_missed p q Sign.Equals h = absurd (h _ same)
comparison_missed p q Sign.Differs h = absurd (h _ differs)
comparison_missed p q Sign.Not h = (tt, (tt, tt))
comparison_missed p q Sign.And h = (tt, (tt, tt))
comparison_missed p q Sign.Or h = (tt, (tt, tt))
comparison_missed p q Sign.Increment h = (tt, (tt, tt))
comparison_missed p q Sign.Decrement h = (tt, (tt, tt))
comparison_missed p q Sign.Add h = (tt, (tt, tt))
comparison_missed p q Sign.Subtract h = (tt, (tt, tt))
comparison_missed p q Sign.Minus h = (tt, (tt, tt))
comparison_missed p q Sign.OpenParen h = (tt, (tt, tt))
comparison_missed p q Sign.CloseParen h = (tt, (tt, tt))
comparison_missed p q Sign.OpenBrace h = (tt, (tt, tt))
comparison_missed p q Sign.CloseBrace h = (tt, (tt, tt))
comparison_missed p q Sign.OpenBracket h = (tt, (tt, tt))
comparison_missed p q Sign.CloseBracket h = (tt, (tt, tt))
comparison_missed p q Sign.Comma h = (tt, (tt, tt))
comparison_missed p q Sign.Semicolon h = (tt, (tt, tt))

module _ {text : List ℕ} where
  -- what `read` is compared with
  object_tests : {from : ℕ} {r : AtomAnswer} (equal : Bool) (o v : ℕ)
      → Next text from (λ k. ObjectSays equal k r)
      → Tests text from (λ ts. behind (w "read") o (behind (compared equal) v ts)) symbol_name r
  object_tests {from} {r} equal o v next = by_cases next.token r next.first next.says
    where
      by_cases : (k : Token) (r : AtomAnswer) → FirstToken text from k → ObjectSays equal k r → Tests text from (λ ts. behind (w "read") o (behind (compared equal) v ts)) symbol_name r
      by_cases k r f (stands (a_letter {p = p} {b = b}) e) =
          rw e (sought_found equal o v (Tree.letter (record { byte = b; place = p })) (front_letter f refl) (λ ts. Grammar.a_letter))
      by_cases k r f (stands lend e) = rw e (sought_found equal o v Tree.lend (front_word f refl) (λ ts. Grammar.lend))
      by_cases k r f (stands rend e) = rw e (sought_found equal o v Tree.rend (front_word f refl) (λ ts. Grammar.rend))
      by_cases (Token.Word p q x) r f (other h) = test_missed f (λ t. mark_missed text t p q x h) refl
      by_cases (Token.Number p q) r f (other h) = test_refuses f (λ t p. tt) refl
      by_cases (Token.Letter p q b) r f (other h) = absurd (h _ a_letter)
      by_cases (Token.Sign p q x) r f (other h) = test_refuses f (λ t p. tt) refl
      by_cases (Token.End p) r f (other h) = test_refuses f (λ t p. tt) refl
      by_cases (Token.Broken p) r f (other h) = test_refuses f (λ t p. tt) refl

  -- what `c` is compared with: 0, or a number that is refused
  zero_tests : {from p q : ℕ} (equal : Bool) (o v : ℕ) (b : Bool)
      → FirstToken text from (Token.Number p q)
      → (in_form (part text p q) && leb (value_from 0 (part text p q)) 0) ≡ b
      → Tests text from (λ ts. behind (w "c") o (behind (compared equal) v ts)) (number 0) (zero_found equal (record { place = p; end = q }) b)
  zero_tests equal o v true f fits = zero_found_lem equal o v (front_number f refl) (ap not fits)
  zero_tests equal o v false f fits = test_breaks (front_number f refl) _ (λ t. refl) (λ t. ap not fits) (λ t. refl)

  numeral_tests : {from : ℕ} {r : AtomAnswer} (equal : Bool) (o v : ℕ)
      → Next text from (λ k. NumeralSays text equal k r)
      → Tests text from (λ ts. behind (w "c") o (behind (compared equal) v ts)) (number 0) r
  numeral_tests {from} {r} equal o v next = by_cases next.token r next.first next.says
    where
      by_cases : (k : Token) (r : AtomAnswer) → FirstToken text from k → NumeralSays text equal k r → Tests text from (λ ts. behind (w "c") o (behind (compared equal) v ts)) (number 0) r
      by_cases k r f (stands a_number e) = rw e (zero_tests equal o v _ f refl)
      by_cases (Token.Word p q x) r f (other h) = test_refuses f (λ t p. tt) refl
      by_cases (Token.Number p q) r f (other h) = absurd (h _ a_number)
      by_cases (Token.Letter p q b) r f (other h) = test_refuses f (λ t p. tt) refl
      by_cases (Token.Sign p q x) r f (other h) = test_refuses f (λ t p. tt) refl
      by_cases (Token.End p) r f (other h) = test_refuses f (λ t p. tt) refl
      by_cases (Token.Broken p) r f (other h) = test_refuses f (λ t p. tt) refl

  -- the comparison, behind `read` and behind `c`
  read_tests : {from : ℕ} {r : AtomAnswer} (o : ℕ)
      → Next text from (λ k. ComparedSays text ObjectSays k r)
      → Tests text from (behind (w "read") o) read_test r
  read_tests {from} {r} o next = by_cases next.token r next.first next.says
    where
      by_cases : (k : Token) (r : AtomAnswer) → FirstToken text from k → ComparedSays text ObjectSays k r → Tests text from (behind (w "read") o) read_test r
      by_cases k r f (stands (same {p = p}) third) = test_on (front_sign f refl) _ (λ t. refl) (λ t. refl) (λ t. refl) (object_tests true o p third)
      by_cases k r f (stands (differs {p = p}) third) = test_on (front_sign f refl) _ (λ t. refl) (λ t. refl) (λ t. refl) (object_tests false o p third)
      by_cases (Token.Word p q x) r f (other h) = test_refuses f (λ t p. tt) refl
      by_cases (Token.Number p q) r f (other h) = test_refuses f (λ t p. tt) refl
      by_cases (Token.Letter p q b) r f (other h) = test_refuses f (λ t p. tt) refl
      by_cases (Token.Sign p q x) r f (other h) = test_missed f (λ t. untaken_lem (choices t p read_test) _ (comparison_missed p q x h)) refl
      by_cases (Token.End p) r f (other h) = test_refuses f (λ t p. tt) refl
      by_cases (Token.Broken p) r f (other h) = test_refuses f (λ t p. tt) refl

  counter_tests : {from : ℕ} {r : AtomAnswer} (o : ℕ)
      → Next text from (λ k. ComparedSays text (NumeralSays text) k r)
      → Tests text from (behind (w "c") o) counter_test r
  counter_tests {from} {r} o next = by_cases next.token r next.first next.says
    where
      by_cases : (k : Token) (r : AtomAnswer) → FirstToken text from k → ComparedSays text (NumeralSays text) k r → Tests text from (behind (w "c") o) counter_test r
      by_cases k r f (stands (same {p = p}) third) = test_on (front_sign f refl) _ (λ t. refl) (λ t. refl) (λ t. refl) (numeral_tests true o p third)
      by_cases k r f (stands (differs {p = p}) third) = test_on (front_sign f refl) _ (λ t. refl) (λ t. refl) (λ t. refl) (numeral_tests false o p third)
      by_cases (Token.Word p q x) r f (other h) = test_refuses f (λ t p. tt) refl
      by_cases (Token.Number p q) r f (other h) = test_refuses f (λ t p. tt) refl
      by_cases (Token.Letter p q b) r f (other h) = test_refuses f (λ t p. tt) refl
      by_cases (Token.Sign p q x) r f (other h) = test_missed f (λ t. untaken_lem (choices t p counter_test) _ (comparison_missed p q x h)) refl
      by_cases (Token.End p) r f (other h) = test_refuses f (λ t p. tt) refl
      by_cases (Token.Broken p) r f (other h) = test_refuses f (λ t p. tt) refl

-- the whole atom
pub atom_tests : {text : List ℕ} {from : ℕ} {u : AtomAnswer} → OpensNothing text from → AtomAt text from u → (n : ℕ) → Tests text from (λ ts. ts) (operand n) u
atom_tests {text} {from} {u} none reads n =
    let next = reads.right in
    by_cases next.token u next.first (unlike_class none.0 next.first) (unlike_class none.1 next.first) next.says
  where
    by_cases : (k : Token) (u : AtomAnswer)
        → FirstToken text from k
        → T (unlike Fixed.opens (class_of text k))
        → T (unlike Fixed.not (class_of text k))
        → Atom.Case IsTested (TestedSays text) k u
        → Tests text from (λ ts. ts) (operand n) u
    by_cases k u f opens not (stands (by_read {p = p}) second) = test_on (front_word f refl) _ (λ t. refl) (λ t. refl) (λ t. refl) (read_tests p second)
    by_cases k u f opens not (stands (by_c {p = p}) second) = test_on (front_word f refl) _ (λ t. refl) (λ t. refl) (λ t. refl) (counter_tests p second)
    by_cases k u f opens not (other h) = test_missed f (λ t. test_missing text t n k opens not h) refl
