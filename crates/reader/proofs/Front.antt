-- The token that comes first from a byte on, by the class by which the machine moves.
use Prim.Native.Nat.{ℕ, ◌≤◌}
use native.Mathlib.Omega.{arith}
use mathlib.Core.Path.{◌≡◌, refl, sym, ap, ◌∙◌, subst}
use mathlib.Core.Bool.{Bool, true, false}
use mathlib.Core.List.{List, [], ◌∷◌, map}
use lib.ListN.{drop}
use lib.Dec.{T}
use Rattle.bits.proofs.Tests.{every, and_left, and_right}
use Rattle.text.specs.Token as Spelt
use Rattle.text.specs.Token.{word, number, letter, sign}
use Rattle.text.specs.Tokens.{Placed, Ending, Tokens}
use Rattle.text.specs.First.{Name, reserved, unreserved, name, IsNamed, written, part, Next, FirstToken}
use Rattle.text.specs.declared.Word.{Word}
use Rattle.text.specs.declared.Sign.{Sign}
use Rattle.text.specs.declared.Token.{Token}
use Rattle.text.proofs.Same.{same_token_lem}
use Rattle.text.specs.Inside.Same.{same_token}
use Rattle.text.proofs.Follow.{first_onward}
use Rattle.rule.specs.Inside.Class.{Fixed, spell, Class, mark, other, find, classify}
use Rattle.reader.specs.Inside.Answers.{Front}

-- the class of a word that is written so
abbrev pub named : Name → List ℕ → Class
named (reserved l) bytes = classify (word l)
named unreserved bytes = other (word bytes)

abbrev pub class_of : List ℕ → Token → Class
class_of text (Token.Word p q x) = named (name x) (part text p q)
class_of text (Token.Number p q) = Class.number (part text p q)
class_of text (Token.Letter p q b) = Class.letter b
class_of text (Token.Sign p q x) = classify (sign (written x))
-- no token
class_of text (Token.End p) = other (sign [])
class_of text (Token.Broken p) = other (sign [])

-- the reserved words, each with its mark, in the order in which `classify` goes through them
pub record Reserved : Type 0 where
  pub mark : Fixed
  pub reads : Word

abbrev pair : Fixed → Word → Reserved
pair m x = record { mark = m; reads = x }

abbrev words : List Reserved
words =
    pair Fixed.alphabet Word.Alphabet
    ∷ pair Fixed.decr_on_zero Word.DecrOnZero
    ∷ pair Fixed.is_true Word.True
    ∷ pair Fixed.is_false Word.False
    ∷ pair Fixed.twoc Word.Twoc
    ∷ pair Fixed.string Word.String
    ∷ pair Fixed.move Word.Move
    ∷ pair Fixed.goto Word.Goto
    ∷ pair Fixed.lend Word.Lend
    ∷ pair Fixed.rend Word.Rend
    ∷ pair Fixed.c Word.C
    ∷ pair Fixed.accept Word.Accept
    ∷ pair Fixed.reject Word.Reject
    ∷ pair Fixed.if Word.If
    ∷ pair Fixed.else Word.Else
    ∷ pair Fixed.while Word.While
    ∷ pair Fixed.choose Word.Choose
    ∷ pair Fixed.branch Word.Branch
    ∷ pair Fixed.also Word.Also
    ∷ pair Fixed.read Word.Read
    ∷ []

abbrev name_token : Name → Spelt.Token
name_token (reserved l) = word l
name_token unreserved = number []

-- a mark is written as its word is
abbrev fits : Reserved → Bool
fits r = same_token (name_token (name r.reads)) (spell r.mark)

name_token_lem : (n : Name) (l : List ℕ) → name_token n ≡ word l → n ≡ reserved l
name_token_lem (reserved b) l e = let same : b ≡ l = cc in ap reserved same
name_token_lem unreserved l e = let no : ◌≡◌ {A = ℕ} 0 1 = cc in absurd (omega arith)

unmarked : (rs : List Reserved) (l : List ℕ)
    → T (every fits rs)
    → ((x : Word) → ¬ (name x ≡ reserved l))
    → find (word l) (map (λ r. r.mark) rs) ≡ other (word l)
unmarked [] l t h = refl
unmarked (r ∷ rs) l t h =
    by_cases (same_token (word l) (spell r.mark)) refl (unmarked rs l (and_right (fits r) (every fits rs) t) h)
  where
    by_cases : (b : Bool)
        → same_token (word l) (spell r.mark) ≡ b
        → find (word l) (map (λ q. q.mark) rs) ≡ other (word l)
        → (elim b [ true ↦ mark r.mark | false ↦ find (word l) (map (λ q. q.mark) rs) ]) ≡ other (word l)
    by_cases true e g =
        let here = same_token_lem (word l) (spell r.mark) (subst T (sym e) tt) in
        let there = same_token_lem (name_token (name r.reads)) (spell r.mark) (and_left (fits r) (every fits rs) t) in
        absurd (h r.reads (name_token_lem (name r.reads) l (there ∙ sym here)))
    by_cases false e g = g

pub named_class : (n : Name) (l : List ℕ) → IsNamed n l → classify (word l) ≡ named n l
named_class (reserved b) l e = ap (λ (m : List ℕ). classify (word m)) e
named_class unreserved l h = unmarked words l tt h

module _ {text : List ℕ} {from : ℕ} where
  next-front : {place end : ℕ} {t : Spelt.Token} {k : Class} {ts : List Placed} {e : Ending}
      → Tokens from (drop from text) ts e
      → Next text place end t ts e
      → classify t ≡ k
      → from ≤ place
      → Front text from k place end
  next-front {place} {end} {t} {e = e} all n is back =
      record {
        token = t;
        after = n.after;
        ending = e;
        all = subst (λ (us : List Placed). Tokens from (drop from text) us e) n.first all;
        rest = n.rest;
        is = is;
        back = back;
        some = n.some;
        within = n.within;
      }

  pub front_word : {p q : ℕ} {x : Word} {t : Token}
      → FirstToken text from t
      → t ≡ Token.Word p q x
      → Front text from (named (name x) (part text p q)) p q
  front_word {p} {q} {x} f e =
      let g = subst (λ (t : Token). FirstToken text from t) e f in
      next-front g.all g.begins.next (named_class (name x) (part text p q) g.begins.which) (first_onward g)

  pub front_number : {p q : ℕ} {t : Token} → FirstToken text from t → t ≡ Token.Number p q → Front text from (Class.number (part text p q)) p q
  front_number f e =
      let g = subst (λ (t : Token). FirstToken text from t) e f in
      next-front g.all g.begins refl (first_onward g)

  pub front_letter : {p q b : ℕ} {t : Token} → FirstToken text from t → t ≡ Token.Letter p q b → Front text from (Class.letter b) p q
  front_letter f e =
      let g = subst (λ (t : Token). FirstToken text from t) e f in
      next-front g.all g.begins refl (first_onward g)

  pub front_sign : {p q : ℕ} {x : Sign} {t : Token}
      → FirstToken text from t
      → t ≡ Token.Sign p q x
      → Front text from (classify (sign (written x))) p q
  front_sign f e =
      let g = subst (λ (t : Token). FirstToken text from t) e f in
      next-front g.all g.begins refl (first_onward g)

  -- and which word or sign it is
  pub told_word : {p q : ℕ} {x y : Word} {t : Token}
      → FirstToken text from t
      → t ≡ Token.Word p q x
      → x ≡ y
      → Front text from (named (name y) (part text p q)) p q
  told_word {p} {q} f e same = front_word f (e ∙ ap (λ (x : Word). Token.Word p q x) same)

  pub told_sign : {p q : ℕ} {x y : Sign} {t : Token}
      → FirstToken text from t
      → t ≡ Token.Sign p q x
      → x ≡ y
      → Front text from (classify (sign (written y))) p q
  told_sign {p} {q} f e same = front_sign f (e ∙ ap (λ (x : Sign). Token.Sign p q x) same)
