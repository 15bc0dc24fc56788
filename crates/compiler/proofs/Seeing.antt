-- What is seen of a text's tokens, by what comes first; a place behind some of them; the value of digits.
use Prim.Native.Nat.{ℕ, suc, ◌+◌, ◌-◌, ◌*◌, ◌≤◌, ◌<◌}
use native.Mathlib.Omega.{arith}
use native.Mathlib.Numerals.{add-one}
use native.Mathlib.Decide.{dec_lt}
use mathlib.Core.Path.{◌≡◌, refl, sym, ◌∙◌, ap, subst}
use mathlib.Core.Bool.{Bool}
use mathlib.Core.List.{List, [], ◌∷◌, cons≢nil}
use Rattle.std.specs.Prelude.{unwrap_or, Option, Some, None}
use lib.ListN.{length, get_or, drop, length-drop, drop_of_length-le}
use lib.Seq.{drop-drop, drop-cons}
use lib.Dec.{T, leb, leb→le}
use Rattle.bits.specs.Byte.{is_digit, is_letter}
use Rattle.bits.proofs.Tests.{and_left, and_right, and_of}
use Rattle.text.specs.Token as Spec
use Rattle.text.specs.Token.{word, number, letter, sign, every, Spells, a_word, a_number, a_letter, a_sign}
use Rattle.text.specs.Tokens.{Placed, ◌at◌, Ending}
use Rattle.text.specs.First.{IsWord, part, written, Next, Begins, FirstToken}
use Rattle.text.specs.declared.Token.{Token}
use Rattle.text.specs.declared.Word.{Word}
use Rattle.text.specs.declared.Sign.{Sign}
use Rattle.text.proofs.Named.{word_is}
use Rattle.text.proofs.Signed.{sign_of, all_signs, sign-is}
use Rattle.tokeniser.proofs.Comes.{end_first}
use Rattle.text.proofs.Once.{comes}
use Rattle.text.proofs.Follow.{place_of, first_onward}
use Rattle.rule.specs.Limits.{value_from}
use Rattle.compiler.specs.Inside.Seeing.{Here, Behind, WordFirst, the_word, SignFirst, the_sign, end_of, Reaches, GoesPast, Skips, SeesWord, SeesSign, NotWord, NotSign, EatsSign, Digits}
use Rattle.compiler.specs.declared.see.Cursor.{Cursor}

-- how the first of some tokens is seen: which word it is, or Other; which sign, or the semicolon; which letter, or 0; where it starts and ends
pub data SeenAs (text : List ℕ) (from : ℕ) : List Placed → Word → Sign → ℕ → ℕ → ℕ → Type 0 where
  seen_a_word : {l : List ℕ} {p e : ℕ} {us : List Placed} {x : Word}
      → IsWord x l
      → Behind text from e us
      → SeenAs text from ((word l at p) ∷ us) x Sign.Semicolon 0 p e
  seen_a_number : {n : List ℕ} {p e : ℕ} {us : List Placed}
      → n ≡ part text p e
      → T (every is_digit n)
      → p ≤ e
      → Behind text from e us
      → SeenAs text from ((number n at p) ∷ us) Word.Other Sign.Semicolon 0 p e
  seen_a_letter : {b p e : ℕ} {us : List Placed}
      → T (is_letter b)
      → Behind text from e us
      → SeenAs text from ((letter b at p) ∷ us) Word.Other Sign.Semicolon b p e
  seen_a_sign : {l : List ℕ} {p e : ℕ} {us : List Placed} {x : Sign}
      → l ≡ written x
      → Behind text from e us
      → SeenAs text from ((sign l at p) ∷ us) Word.Other x 0 p e
  seen_nothing : {p : ℕ} → SeenAs text from [] Word.Other Sign.Semicolon 0 p from

-- what each answer shows
abbrev pub word_in : Token → Word
word_in (Token.Word p q x) = x
word_in (Token.Number p q) = Word.Other
word_in (Token.Letter p q b) = Word.Other
word_in (Token.Sign p q x) = Word.Other
word_in (Token.End p) = Word.Other
word_in (Token.Broken p) = Word.Other

abbrev pub sign_in : Token → Sign
sign_in (Token.Word p q x) = Sign.Semicolon
sign_in (Token.Number p q) = Sign.Semicolon
sign_in (Token.Letter p q b) = Sign.Semicolon
sign_in (Token.Sign p q x) = x
sign_in (Token.End p) = Sign.Semicolon
sign_in (Token.Broken p) = Sign.Semicolon

abbrev pub byte_in : Token → ℕ
byte_in (Token.Word p q x) = 0
byte_in (Token.Number p q) = 0
byte_in (Token.Letter p q b) = b
byte_in (Token.Sign p q x) = 0
byte_in (Token.End p) = 0
byte_in (Token.Broken p) = 0

-- where it ends, asked for from a place
abbrev pub end_from : ℕ → Token → ℕ
end_from from (Token.Word p q x) = q
end_from from (Token.Number p q) = q
end_from from (Token.Letter p q b) = q
end_from from (Token.Sign p q x) = q
end_from from (Token.End p) = from
end_from from (Token.Broken p) = from

-- what is seen of an answer
abbrev pub SeenBy : List ℕ → ℕ → List Placed → Token → Type 0
SeenBy text from ts r = SeenAs text from ts (word_in r) (sign_in r) (byte_in r) (place_of r) (end_from from r)

digits_spelt : {l n : List ℕ} → Spells l (number n) → T (every is_digit n)
digits_spelt (a_number {b = b} {bs = bs} t u) = and_of (is_digit b) (every is_digit bs) t u

letter_spelt : {l : List ℕ} {b : ℕ} → Spells l (letter b) → T (is_letter b)
letter_spelt (a_letter t) = t

module _ {text : List ℕ} {from : ℕ} where
  -- a token that comes next ends behind the place from which it was asked for
  behind : {p q : ℕ} {t : Spec.Token} {ts : List Placed} {e : Ending} → from ≤ p → (n : Next text p q t ts e) → Behind text from q n.after
  behind onward n =
      record { onward = omega (arith, n.some); within = n.within; here = record { ending = _; tokens = n.rest } }

  begins_seen : (ts : List Placed) (e : Ending) (r : Token) → from ≤ place_of r → Begins text ts e r → SeenBy text from ts r
  begins_seen ts e (Token.Word p q x) on b =
      subst (λ (us : List Placed). SeenBy text from us (Token.Word p q x)) (sym b.next.first) (seen_a_word b.which (behind on b.next))
  begins_seen ts e (Token.Number p q) on b =
      subst (λ (us : List Placed). SeenBy text from us (Token.Number p q)) (sym b.first)
      (seen_a_number refl (digits_spelt b.bytes) (omega (arith, b.some)) (behind on b))
  begins_seen ts e (Token.Letter p q c) on b =
      subst (λ (us : List Placed). SeenBy text from us (Token.Letter p q c)) (sym b.first) (seen_a_letter (letter_spelt b.bytes) (behind on b))
  begins_seen ts e (Token.Sign p q x) on b =
      subst (λ (us : List Placed). SeenBy text from us (Token.Sign p q x)) (sym b.first) (seen_a_sign refl (behind on b))
  begins_seen ts e (Token.End p) on b = subst (λ (us : List Placed). SeenBy text from us (Token.End p)) (sym b.none) seen_nothing
  begins_seen ts e (Token.Broken p) on b = subst (λ (us : List Placed). SeenBy text from us (Token.Broken p)) (sym b.none) seen_nothing

-- what comes first is seen so, whatever tokens stand there
pub first_seen : {text : List ℕ} {from : ℕ} {s : Token} (r : Token) → FirstToken text from s → s ≡ r → (ts : List Placed) → Here text from ts → SeenBy text from ts r
first_seen {text} {from} r f same ts h =
    let first : FirstToken text from r = subst (FirstToken text from) same f in
    begins_seen ts h.ending r (first_onward first) (comes h.tokens first)

-- the code's way to say where it ends
pub end_or : (from : ℕ) (r : Token) → unwrap_or (end_of r) from ≡ end_from from r
end_or from (Token.Word p q x) = refl
end_or from (Token.Number p q) = refl
end_or from (Token.Letter p q b) = refl
end_or from (Token.Sign p q x) = refl
end_or from (Token.End p) = refl
end_or from (Token.Broken p) = refl

-- what stands where a word stands, a letter, a number
word_begins : (text : List ℕ) (l : List ℕ) (q : ℕ) (us : List Placed) (e : Ending) (r : Token)
    → Begins text ((word l at q) ∷ us) e r
    → (p : ℕ) × (k : ℕ) × (x : Word) × (r ≡ Token.Word p k x)
word_begins text l q us e (Token.Word p k x) b = (p, k, x, refl)
word_begins text l q us e (Token.Number p k) b = absurd (let same = b.first in cc)
word_begins text l q us e (Token.Letter p k c) b = absurd (let same = b.first in cc)
word_begins text l q us e (Token.Sign p k x) b = absurd (let same = b.first in cc)
word_begins text l q us e (Token.End p) b = absurd (let same = b.none in cc)
word_begins text l q us e (Token.Broken p) b = absurd (let same = b.none in cc)

pub word_stands : {text : List ℕ} {from q : ℕ} {us : List Placed} {l : List ℕ} {r : Token}
    → FirstToken text from r
    → Here text from ((word l at q) ∷ us)
    → (p : ℕ) × (k : ℕ) × (x : Word) × (r ≡ Token.Word p k x)
word_stands {r = r} f h = word_begins _ _ _ _ _ r (comes h.tokens f)

sign_begins : (text : List ℕ) (l : List ℕ) (q : ℕ) (us : List Placed) (e : Ending) (r : Token)
    → Begins text ((sign l at q) ∷ us) e r
    → (p : ℕ) × (k : ℕ) × (x : Sign) × (r ≡ Token.Sign p k x)
sign_begins text l q us e (Token.Word p k x) b = absurd (let same = b.next.first in cc)
sign_begins text l q us e (Token.Number p k) b = absurd (let same = b.first in cc)
sign_begins text l q us e (Token.Letter p k c) b = absurd (let same = b.first in cc)
sign_begins text l q us e (Token.Sign p k x) b = (p, k, x, refl)
sign_begins text l q us e (Token.End p) b = absurd (let same = b.none in cc)
sign_begins text l q us e (Token.Broken p) b = absurd (let same = b.none in cc)

pub sign_stands : {text : List ℕ} {from q : ℕ} {us : List Placed} {l : List ℕ} {r : Token}
    → FirstToken text from r
    → Here text from ((sign l at q) ∷ us)
    → (p : ℕ) × (k : ℕ) × (x : Sign) × (r ≡ Token.Sign p k x)
sign_stands {r = r} f h = sign_begins _ _ _ _ _ r (comes h.tokens f)

letter_begins : (text : List ℕ) (a : ℕ) (q : ℕ) (us : List Placed) (e : Ending) (r : Token)
    → Begins text ((letter a at q) ∷ us) e r
    → (p : ℕ) × (k : ℕ) × (b : ℕ) × (r ≡ Token.Letter p k b)
letter_begins text a q us e (Token.Word p k x) b = absurd (let same = b.next.first in cc)
letter_begins text a q us e (Token.Number p k) b = absurd (let same = b.first in cc)
letter_begins text a q us e (Token.Letter p k c) b = (p, k, c, refl)
letter_begins text a q us e (Token.Sign p k x) b = absurd (let same = b.first in cc)
letter_begins text a q us e (Token.End p) b = absurd (let same = b.none in cc)
letter_begins text a q us e (Token.Broken p) b = absurd (let same = b.none in cc)

pub letter_stands : {text : List ℕ} {from q : ℕ} {us : List Placed} {a : ℕ} {r : Token}
    → FirstToken text from r
    → Here text from ((letter a at q) ∷ us)
    → (p : ℕ) × (k : ℕ) × (b : ℕ) × (r ≡ Token.Letter p k b)
letter_stands {r = r} f h = letter_begins _ _ _ _ _ r (comes h.tokens f)

number_begins : (text : List ℕ) (n : List ℕ) (q : ℕ) (us : List Placed) (e : Ending) (r : Token)
    → Begins text ((number n at q) ∷ us) e r
    → (p : ℕ) × (k : ℕ) × (r ≡ Token.Number p k)
number_begins text n q us e (Token.Word p k x) b = absurd (let same = b.next.first in cc)
number_begins text n q us e (Token.Number p k) b = (p, k, refl)
number_begins text n q us e (Token.Letter p k c) b = absurd (let same = b.first in cc)
number_begins text n q us e (Token.Sign p k x) b = absurd (let same = b.first in cc)
number_begins text n q us e (Token.End p) b = absurd (let same = b.none in cc)
number_begins text n q us e (Token.Broken p) b = absurd (let same = b.none in cc)

pub number_stands : {text : List ℕ} {from q : ℕ} {us : List Placed} {n : List ℕ} {r : Token}
    → FirstToken text from r
    → Here text from ((number n at q) ∷ us)
    → (p : ℕ) × (k : ℕ) × (r ≡ Token.Number p k)
number_stands {r = r} f h = number_begins _ _ _ _ _ r (comes h.tokens f)

-- where there are tokens there is text
pub here_some : {text : List ℕ} {from : ℕ} {t : Placed} {ts : List Placed} → Here text from (t ∷ ts) → from < length text
here_some {text} {from} h = by_cases (dec_lt from (length text))
  where
    by_cases : Dec (from < length text) → from < length text
    by_cases (yes l) = l
    by_cases (no n) = absurd (cons≢nil (comes h.tokens (end_first text from (omega arith))).none)

-- what is seen of a token ends behind it
pub seen_behind : {text : List ℕ} {from p e b : ℕ} {t : Placed} {us : List Placed} {x : Word} {g : Sign} → SeenAs text from (t ∷ us) x g b p e → Behind text from e us
seen_behind (seen_a_word w h) = h
seen_behind (seen_a_number n d o h) = h
seen_behind (seen_a_letter b h) = h
seen_behind (seen_a_sign s h) = h

-- and the second of some tokens stands there
pub tail_behind : {text : List ℕ} {from p e b : ℕ} (ts : List Placed) {x : Word} {g : Sign} → 0 < length ts → SeenAs text from ts x g b p e → Behind text from e (drop 1 ts)
tail_behind [] some seen = absurd (omega arith)
tail_behind (t ∷ ts) some seen = seen_behind seen

-- behind one token more is where the next one ends
pub reach_more : {text : List ℕ} {from i mid : ℕ} (end : ℕ) (ts : List Placed) → i < length ts → Reaches text from i mid (drop i ts) → Behind text mid end (drop 1 (drop i ts)) → Reaches text from (i + 1) end (drop (i + 1) ts)
reach_more {text} {from} {i} {mid} end ts more r b =
    record {
      onward = omega (arith, r.onward, b.onward);
      here = subst (Here text end) (drop-drop 1 i ts) b.here;
    }

value_least : (ds : List ℕ) (n : ℕ) → n ≤ value_from n ds
unfolding value_from
value_least [] n = omega arith
value_least (d ∷ ds) n = omega (arith, value_least ds (10 * n + (d - 48)))

-- the value so far and the digits that are left give the whole value
pub record Counting (ds : List ℕ) (value i : ℕ) : Type 0 where
  pub digits : T (every is_digit (drop i ds))
  pub same : value_from value (drop i ds) ≡ value_from 0 ds

module _ (ds : List ℕ) (value i : ℕ) (d : Digits ds) (c : Counting ds value i) where
  -- a digit more
  digit : i < length ds → T (every is_digit (get_or ds i 0 ∷ drop (suc i) ds))
  digit more = subst (λ (l : List ℕ). T (every is_digit l)) (drop-cons ds i 0 more) c.digits

  moved : i < length ds → value_from (10 * value + (get_or ds i 0 - 48)) (drop (suc i) ds) ≡ value_from 0 ds
  unfolding value_from
  moved more = ap (value_from value) (sym (drop-cons ds i 0 more)) ∙ c.same

  pub digit_bounds : i < length ds → (48 ≤ get_or ds i 0) × (10 * value + (get_or ds i 0 - 48) ≤ 63)
  digit_bounds more =
      let b = get_or ds i 0 in
      let is = and_left (is_digit b) (every is_digit (drop (suc i) ds)) (digit more) in
      (leb→le 48 b (and_left (leb 48 b) (leb b 57) is), omega (arith, value_least (drop (suc i) ds) (10 * value + (b - 48)), moved more, d.small))

  pub count_more : i < length ds → Counting ds (10 * value + (get_or ds i 0 - 48)) (i + 1)
  count_more more =
      record {
        digits = rw (add-one i) (and_right (is_digit (get_or ds i 0)) (every is_digit (drop (suc i) ds)) (digit more));
        same = rw (add-one i) (moved more);
      }

  pub count_all : length ds ≤ i → value ≡ value_from 0 ds
  unfolding value_from
  count_all over = ap (value_from value) (sym (drop_of_length-le ds over)) ∙ c.same

-- bytes are one word, and a sign is written in one way
pub word_same : {x y : Word} (l : List ℕ) → IsWord x l → IsWord y l → x ≡ y
word_same {x} {y} l h g = word_is x l h ∙ sym (word_is y l g)

sign_same : (x y : Sign) → written x ≡ written y → x ≡ y
sign_same x y e = sign-is x ∙ ap (sign_of all_signs) e ∙ sym (sign-is y)

-- which word is seen where one stands
pub seen_word : {text : List ℕ} {from p e b q : ℕ} {l : List ℕ} {us : List Placed} {x : Word} {g : Sign} (y : Word)
    → SeenAs text from ((word l at q) ∷ us) x g b p e
    → IsWord y l
    → x ≡ y
seen_word {l = l} y (seen_a_word h k) is = word_same l h is

-- and which sign
pub seen_sign : {text : List ℕ} {from p e b q : ℕ} {l : List ℕ} {us : List Placed} {x : Word} {g : Sign} (y : Sign)
    → SeenAs text from ((sign l at q) ∷ us) x g b p e
    → l ≡ written y
    → g ≡ y
seen_sign y (seen_a_sign {x = g} h k) is = sign_same g y (sym h ∙ is)

-- a sign that is seen stands there
pub record SignAt (text : List ℕ) (from end : ℕ) (y : Sign) (ts : List Placed) : Type 0 where
  pub place : ℕ
  pub rest : List Placed
  pub is : ts ≡ (sign (written y) at place) ∷ rest
  pub behind : Behind text from end rest

-- and so does a word
pub record WordAt (text : List ℕ) (from end : ℕ) (y : Word) (ts : List Placed) : Type 0 where
  pub place : ℕ
  pub rest : List Placed
  pub bytes : List ℕ
  pub which : IsWord y bytes
  pub is : ts ≡ (word bytes at place) ∷ rest
  pub behind : Behind text from end rest

pub sign_at : {text : List ℕ} {from e : ℕ} {ts : List Placed} {x : Sign} → SignFirst text from e x ts → SignAt text from e x ts
sign_at (the_sign {p = p} {us = us} l h) =
    record { place = p; rest = us; is = ap (λ (bytes : List ℕ). (sign bytes at p) ∷ us) l; behind = h }

pub word_at : {text : List ℕ} {from e : ℕ} {ts : List Placed} {x : Word} → WordFirst text from e x ts → WordAt text from e x ts
word_at (the_word {l = l} is h) =
    record { place = _; rest = _; bytes = l; which = is; is = refl; behind = h }

-- what stands behind it
pub word_behind : {text : List ℕ} {from e : ℕ} {t : Placed} {us : List Placed} {x : Word} → WordFirst text from e x (t ∷ us) → Behind text from e us
word_behind (the_word is h) = h

pub sign_behind : {text : List ℕ} {from e : ℕ} {t : Placed} {us : List Placed} {x : Sign} → SignFirst text from e x (t ∷ us) → Behind text from e us
sign_behind (the_sign is h) = h

-- and which it is
pub word_first_is : {text : List ℕ} {from e q : ℕ} {l : List ℕ} {us : List Placed} {x : Word} (y : Word) → WordFirst text from e x ((word l at q) ∷ us) → IsWord y l → x ≡ y
word_first_is {l = l} y (the_word h k) is = word_same l h is

pub sign_first_is : {text : List ℕ} {from e q : ℕ} {l : List ℕ} {us : List Placed} {x : Sign} (y : Sign) → SignFirst text from e x ((sign l at q) ∷ us) → l ≡ written y → x ≡ y
sign_first_is {x = x} y (the_sign h k) is = sign_same x y (sym h ∙ is)

pub no_sign_number : {text : List ℕ} {from e q : ℕ} {n : List ℕ} {us : List Placed} {x : Sign} → SignFirst text from e x ((number n at q) ∷ us) → ⊥
no_sign_number first = elim first [ ]

-- a number that is seen
pub number_read : {text : List ℕ} {from q p e : ℕ} {n : List ℕ} {us : List Placed} {x : Word} {g : Sign} {b : ℕ}
    → SeenAs text from ((number n at q) ∷ us) x g b p e
    → (n ≡ part text p e) × T (every is_digit n) × (p ≤ e) × Behind text from e us
number_read (seen_a_number is digits order behind) = (is, digits, order, behind)

-- a letter that is seen
pub letter_read : {text : List ℕ} {from q p e : ℕ} {c : ℕ} {us : List Placed} {x : Word} {g : Sign} {b : ℕ}
    → SeenAs text from ((letter c at q) ∷ us) x g b p e
    → (b ≡ c) × Behind text from e us
letter_read (seen_a_letter t h) = (refl, h)

-- the word that is wanted, or another, or none; and so with a sign
word_begun : {text : List ℕ} {from p e : ℕ} {x : Word} {ts : List Placed} {ends : Ending} → from ≤ p → Begins text ts ends (Token.Word p e x) → WordFirst text from e x ts
word_begun {text} {from} {e = e} {x = x} on b =
    subst (λ (us : List Placed). WordFirst text from e x us) (sym b.next.first) (the_word b.which (behind on b.next))

sign_begun : {text : List ℕ} {from p e : ℕ} {x : Sign} {ts : List Placed} {ends : Ending} → from ≤ p → Begins text ts ends (Token.Sign p e x) → SignFirst text from e x ts
sign_begun {text} {from} {e = e} {x = x} on b =
    subst (λ (us : List Placed). SignFirst text from e x us) (sym b.first) (the_sign refl (behind on b))

pub word_hit : {text : List ℕ} {from : ℕ} {s : Token} {p e : ℕ} {x y : Word} → FirstToken text from s → s ≡ Token.Word p e x → x ≡ y → SeesWord text from e y
word_hit {text} {from} {e = e} f is same =
    let first = subst (FirstToken text from) is f in
    record { stands = λ ts here. subst (λ (z : Word). WordFirst text from e z ts) same (word_begun (first_onward first) (comes here.tokens first)) }

pub sign_hit : {text : List ℕ} {from : ℕ} {s : Token} {p e : ℕ} {x y : Sign} → FirstToken text from s → s ≡ Token.Sign p e x → x ≡ y → SeesSign text from e y
sign_hit {text} {from} {e = e} f is same =
    let first = subst (FirstToken text from) is f in
    record { stands = λ ts here. subst (λ (z : Sign). SignFirst text from e z ts) same (sign_begun (first_onward first) (comes here.tokens first)) }

pub word_miss : {text : List ℕ} {from : ℕ} {s : Token} {y : Word} → FirstToken text from s → ((p e : ℕ) (x : Word) → s ≡ Token.Word p e x → ¬ (x ≡ y)) → NotWord text from y
word_miss {y = y} f other =
    record {
      other = λ here is.
          let (p, e, x, same) = word_stands f here in
          other p e x same (seen_word y (first_seen (Token.Word p e x) f same _ here) is);
    }

pub sign_miss : {text : List ℕ} {from : ℕ} {s : Token} {y : Sign} → FirstToken text from s → ((p e : ℕ) (x : Sign) → s ≡ Token.Sign p e x → ¬ (x ≡ y)) → NotSign text from y
sign_miss {y = y} f other =
    record {
      other = λ here is.
          let (p, e, x, same) = sign_stands f here in
          other p e x same (seen_sign y (first_seen (Token.Sign p e x) f same _ here) is);
    }

-- one token more is passed
pub skip_more : {text : List ℕ} {from i mid end : ℕ} (r : Token) (ts : List Placed)
    → i < length ts
    → Reaches text from i mid (drop i ts)
    → FirstToken text mid r
    → end ≡ end_from mid r
    → Reaches text from (i + 1) end (drop (i + 1) ts)
skip_more {text} {from} {i} r ts more reach first is =
    subst (λ (n : ℕ). Reaches text from (i + 1) n (drop (i + 1) ts)) (sym is)
    (reach_more _ ts more reach (tail_behind (drop i ts) (omega (arith, length-drop i ts)) (first_seen r first refl (drop i ts) reach.here)))

-- the digits of a number that stands there
module _ {text : List ℕ} {from q p e : ℕ} {n : List ℕ} {us : List Placed} {r : Token}
    (first : FirstToken text from r) (is : r ≡ Token.Number p e) (here : Here text from ((number n at q) ∷ us)) where
  number_seen : (n ≡ part text p e) × T (every is_digit n) × (p ≤ e) × Behind text from e us
  number_seen = number_read (first_seen (Token.Number p e) first is _ here)

  pub number_within : (p ≤ e) × (e ≤ length text)
  number_within = let (same, digits, order, behind) = number_seen in (order, behind.within)

  pub number_digits : value_from 0 n ≤ 63 → Digits (part text p e)
  number_digits small =
      let (same, digits, order, behind) = number_seen in
      record {
        digits = subst (λ (l : List ℕ). T (every is_digit l)) same digits;
        small = subst (λ (l : List ℕ). value_from 0 l ≤ 63) same small;
      }

  pub number_value : {value : ℕ} → value ≡ value_from 0 (part text p e) → (value ≡ value_from 0 n) × Behind text from e us
  number_value counted =
      let (same, digits, order, behind) = number_seen in
      (counted ∙ ap (value_from 0) (sym same), behind)

-- a token ends behind the place at which it was asked for, and in the text
pub first_falls : {text : List ℕ} {from : ℕ} {e : ℕ} (r : Token) → FirstToken text from r → end_of r ≡ Some e → (from < e) × (e ≤ length text)
first_falls {e = e} (Token.Word p q x) f same =
    let is : q ≡ e = cc in
    (omega (arith, first_onward f, f.begins.next.some), omega (arith, f.begins.next.within))
first_falls {e = e} (Token.Number p q) f same =
    let is : q ≡ e = cc in
    (omega (arith, first_onward f, f.begins.some), omega (arith, f.begins.within))
first_falls {e = e} (Token.Letter p q b) f same =
    let is : q ≡ e = cc in
    (omega (arith, first_onward f, f.begins.some), omega (arith, f.begins.within))
first_falls {e = e} (Token.Sign p q x) f same =
    let is : q ≡ e = cc in
    (omega (arith, first_onward f, f.begins.some), omega (arith, f.begins.within))
first_falls (Token.End p) f same = absurd cc
first_falls (Token.Broken p) f same = absurd cc

-- where no sign is answered none is seen, and a token that ends somewhere is seen up to there
pub unsigned : (r : Token) → ((p e : ℕ) (x : Sign) → r ≡ Token.Sign p e x → ⊥) → sign_in r ≡ Sign.Semicolon
unsigned (Token.Word p q x) other = refl
unsigned (Token.Number p q) other = refl
unsigned (Token.Letter p q b) other = refl
unsigned (Token.Sign p q x) other = absurd (other p q x refl)
unsigned (Token.End p) other = refl
unsigned (Token.Broken p) other = refl

pub end_some : (from : ℕ) {e : ℕ} (r : Token) → end_of r ≡ Some e → end_from from r ≡ e
end_some from r same = sym (end_or from r) ∙ ap (λ (o : Option ℕ). unwrap_or o from) same

pub end_none : (from : ℕ) (r : Token) → end_of r ≡ None → end_from from r ≡ from
end_none from r same = sym (end_or from r) ∙ ap (λ (o : Option ℕ). unwrap_or o from) same

-- the same in a text that is equal, and from a cursor that is equal
pub passes_in : {k r : Cursor} {text : List ℕ} {many : ℕ} → k.text.now ≡ text → Skips k r many → GoesPast text k.at many r.at
passes_in {k} {r} {many = many} same skips = subst (λ (t : List ℕ). GoesPast t k.at many r.at) same skips.passes

module _ {text' text : List ℕ} (same : text' ≡ text) {from : ℕ} where
  pub word_in_text : {end : ℕ} {x : Word} → SeesWord text' from end x → SeesWord text from end x
  word_in_text {end} {x} = subst (λ (t : List ℕ). SeesWord t from end x) same

  pub sign_in_text : {end : ℕ} {x : Sign} → SeesSign text' from end x → SeesSign text from end x
  sign_in_text {end} {x} = subst (λ (t : List ℕ). SeesSign t from end x) same

  pub no_word_in_text : {x : Word} → NotWord text' from x → NotWord text from x
  no_word_in_text {x} = subst (λ (t : List ℕ). NotWord t from x) same

  pub no_sign_in_text : {x : Sign} → NotSign text' from x → NotSign text from x
  no_sign_in_text {x} = subst (λ (t : List ℕ). NotSign t from x) same

pub eats_from : {k k' r : Cursor} {x : Sign} {found : Bool} → k' ≡ k → EatsSign k' r x found → EatsSign k r x found
eats_from {r = r} {x = x} {found = found} same = subst (λ (k : Cursor). EatsSign k r x found) same

pub skips_from : {k k' r : Cursor} {many : ℕ} → k' ≡ k → Skips k' r many → Skips k r many
skips_from {r = r} {many = many} same = subst (λ (k : Cursor). Skips k r many) same

-- the token that comes next still does where nothing was passed, so it can be asked again
pub first_from : {k k' : Cursor} {t : Token} → k' ≡ k → FirstToken k.text.now k.at t → FirstToken k'.text.now k'.at t
first_from {t = t} same = subst (λ (c : Cursor). FirstToken c.text.now c.at t) (sym same)

module _ {k k' r : Cursor} {t : Token} (same : k' ≡ k) (first : FirstToken k.text.now k.at t) where
  pub eats_again : {x : Sign} {found : Bool} → (FirstToken k'.text.now k'.at t → EatsSign k' r x found) → EatsSign k r x found
  eats_again eats = eats_from same (eats (first_from same first))

  pub skips_again : {many : ℕ} → (FirstToken k'.text.now k'.at t → Skips k' r many) → Skips k r many
  skips_again skips = skips_from same (skips (first_from same first))

-- past some tokens, and past some more
pub skips_on : {k r z : Cursor} {m n : ℕ} → Skips k r m → Skips r z n → Skips k z (m + n)
skips_on {k} {r} {z} {m} {n} first second =
    record {
      text = second.text ∙ first.text;
      passes = record {
        behind = λ ts h fits.
            let a = first.passes.behind ts h (omega (arith, fits)) in
            let b = (passes_in first.text second).behind (drop m ts) a.here (omega (arith, fits, length-drop m ts)) in
            record { onward = omega (arith, a.onward, b.onward); here = subst (Here k.text.now z.at) (drop-drop n m ts) b.here };
      };
    }

-- past so many tokens and not past another that is not the one that is wanted
pub missed_sign : {k k₁ k₂ : Cursor} {many : ℕ} {x : Sign} → Skips k k₁ many → NotSign k₁.text.now k₁.at x × (k₂ ≡ k₁) → Skips k k₂ many × NotSign k.text.now k₂.at x
missed_sign {k} {many = many} {x = x} skips (none, same) = (
  subst (λ (c : Cursor). Skips k c many) (sym same) skips,
  subst (λ (c : Cursor). NotSign k.text.now c.at x) (sym same) (no_sign_in_text skips.text none),
)

pub missed_word : {k k₁ k₂ : Cursor} {many : ℕ} {x : Word} → Skips k k₁ many → NotWord k₁.text.now k₁.at x × (k₂ ≡ k₁) → Skips k k₂ many × NotWord k.text.now k₂.at x
missed_word {k} {many = many} {x = x} skips (none, same) = (
  subst (λ (c : Cursor). Skips k c many) (sym same) skips,
  subst (λ (c : Cursor). NotWord k.text.now c.at x) (sym same) (no_word_in_text skips.text none),
)
