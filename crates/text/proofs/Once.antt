-- What comes first in a text from a byte on is one thing only: the tokens from there fix it.
use Prim.Native.Nat.{ℕ, ◌+◌, ◌-◌, ◌≤◌}
use native.Mathlib.Omega.{arith}
use mathlib.Core.Path.{◌≡◌, refl, sym, ap, ◌∙◌, subst₂}
use mathlib.Core.List.{List, [], ◌∷◌}
use lib.ListN.{length, drop, length-drop}
use lib.Seq.{length-take-le}
use Rattle.text.specs.Token.{word, number, letter, sign, Spells, a_word, a_number, a_letter, a_sign}
use Rattle.text.specs.Token as Spec
use Rattle.text.specs.Tokens.{Placed, ◌at◌, Ending, ends, broken, Tokens}
use Rattle.text.specs.First.{part, Next, Begins, FirstToken}
use Rattle.text.specs.declared.Token.{Token}
use Rattle.text.proofs.Named.{all_words, found, word_is}
use Rattle.text.proofs.Signed.{sign_of, all_signs, sign-is}
use Rattle.text.proofs.Tokens.{tokens_once}

-- how many bytes a token has
abbrev size : Spec.Token → ℕ
size (word l) = length l
size (number l) = length l
size (letter b) = 3
size (sign l) = length l

spells_size : {l : List ℕ} {t : Spec.Token} → Spells l t → length l ≡ size t
spells_size (a_word b bs) = refl
spells_size (a_number b bs) = refl
spells_size (a_letter b) = refl
spells_size (a_sign m) = refl

-- the answer that begins some tokens
answer : List Placed → Ending → Token
answer [] (ends p) = Token.End p
answer [] (broken p) = Token.Broken p
answer ((word l at p) ∷ ts) e = Token.Word p (p + length l) (found all_words l)
answer ((number l at p) ∷ ts) e = Token.Number p (p + length l)
answer ((letter b at p) ∷ ts) e = Token.Letter p (p + 3) b
answer ((sign l at p) ∷ ts) e = Token.Sign p (p + length l) (sign_of all_signs l)

next-end : {text : List ℕ} {p q : ℕ} {t : Spec.Token} {ts : List Placed} {e : Ending} → Next text p q t ts e → q ≡ p + size t
next-end {text} {p} {q} n =
    let fits : q - p ≤ length (drop p text) = omega (arith, n.within, length-drop p text) in
    omega (arith, n.some, length-take-le (q - p) (drop p text) fits, spells_size n.bytes)

module _ (text : List ℕ) (ts : List Placed) (e : Ending) where
  begins_answer : (r : Token) → Begins text ts e r → r ≡ answer ts e
  unfolding answer
  begins_answer (Token.Word p q x) b =
      let end = next-end b.next in
      let which = word_is x (part text p q) b.which in
      (λ i. Token.Word p (end i) (which i)) ∙ ap (λ (us : List Placed). answer us e) (sym b.next.first)
  begins_answer (Token.Number p q) b =
      let end = next-end b in
      (λ i. Token.Number p (end i)) ∙ ap (λ (us : List Placed). answer us e) (sym b.first)
  begins_answer (Token.Letter p q c) b =
      let end = next-end b in
      (λ i. Token.Letter p (end i) c) ∙ ap (λ (us : List Placed). answer us e) (sym b.first)
  begins_answer (Token.Sign p q x) b =
      let end = next-end b in
      let which = sign-is x in
      (λ i. Token.Sign p (end i) (which i)) ∙ ap (λ (us : List Placed). answer us e) (sym b.first)
  begins_answer (Token.End p) b = rw (b.none, b.ended)
  begins_answer (Token.Broken p) b = rw (b.none, b.ended)

-- what comes first in the text begins its tokens, however they were found
pub comes : {text : List ℕ} {p : ℕ} {r : Token} {ts : List Placed} {e : Ending}
    → Tokens p (drop p text) ts e
    → FirstToken text p r
    → Begins text ts e r
comes {text} {r = r} h f =
    let same = tokens_once f.all h in
    subst₂ (λ (us : List Placed) (g : Ending). Begins text us g r) same.0 same.1 f.begins

-- no second answer fits
pub first_once : {text : List ℕ} {p : ℕ} {r s : Token} → FirstToken text p r → FirstToken text p s → r ≡ s
first_once {text} {r = r} {s = s} f g =
    begins_answer text f.tokens f.ending r f.begins
    ∙ sym (begins_answer text f.tokens f.ending s (comes f.all g))
