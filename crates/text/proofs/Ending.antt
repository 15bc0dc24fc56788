-- Where the tokens of a text end: with the text, or at a byte from which no token starts.
use Prim.Native.Nat.{ℕ, ◌+◌, ◌-◌, ◌≤◌, ◌<◌}
use native.Mathlib.Omega.{arith}
use mathlib.Core.Path.{◌≡◌, sym, ap, ◌∙◌, subst}
use mathlib.Core.List.{List, [], ◌∷◌, ◌++◌}
use lib.ListN.{length, drop, length-append}
use lib.Seq.{drop-append-add}
use Rattle.text.specs.Token.{Token}
use Rattle.text.specs.Tokens.{Placed, Ending, ends, broken, NoToken, slash, Blank, white, comment, Longest, Tokens, end, blank, token, none, TokensOf}

-- a blank and what follows it make up the bytes
pub blank_length : {bytes rest : List ℕ} {n : ℕ} → Blank bytes n rest → length bytes ≡ n + length rest
blank_length (white t) = omega arith
blank_length {rest} (comment body e t c) = omega (arith, ap length e, length-append body rest)

pub longest_length : {bytes lexeme rest : List ℕ} {t : Token} → Longest bytes lexeme rest t → length bytes ≡ length lexeme + length rest
longest_length {lexeme} {rest} h = ap length h.begins ∙ length-append lexeme rest

-- where a text of this length may end, or its tokens break off
abbrev pub EndsAt : Ending → ℕ → Type 0
EndsAt (ends p) n = p ≡ n
EndsAt (broken p) n = p < n

-- tokens end there, counted from any place
pub ends_from : {place : ℕ} {bytes : List ℕ} {ts : List Placed} {e : Ending} → Tokens place bytes ts e → EndsAt e (place + length bytes)
ends_from end = omega arith
ends_from (blank {p = p} {n = n} {bytes = bytes} {rest = rest} {e = e} b g) =
    let same : p + n + length rest ≡ p + length bytes = omega (arith, blank_length b) in
    subst (EndsAt e) same (ends_from g)
ends_from (token {p = p} {bytes = bytes} {lexeme = lexeme} {rest = rest} {e = e} l g) =
    let same : p + length lexeme + length rest ≡ p + length bytes = omega (arith, longest_length l) in
    subst (EndsAt e) same (ends_from g)
ends_from (none x y) = omega arith

-- tokens that end with the text end at its length
pub ends_at : {text : List ℕ} {ts : List Placed} {p : ℕ} → TokensOf text ts (ends p) → p ≡ length text
ends_at h = omega (arith, ends_from h)

-- tokens that break off do so at a byte of the text
pub broken_at : {text : List ℕ} {ts : List Placed} {p : ℕ} → TokensOf text ts (broken p) → p < length text
broken_at h = omega (arith, ends_from h)

-- a token is broken where these bytes have none, counted from a place
abbrev BrokenIn : ℕ → List ℕ → Ending → Type 0
BrokenIn place bytes (ends p) = Unit {0}
BrokenIn place bytes (broken p) = (place ≤ p) × NoToken (drop (p - place) bytes)

behind-front : (place : ℕ) (front rest : List ℕ) (e : Ending) → BrokenIn (place + length front) rest e → BrokenIn place (front ++ rest) e
behind-front place front rest (ends p) h = tt
behind-front place front rest (broken p) h =
    let n = p - (place + length front) in
    let far : p - place ≡ length front + n = omega (arith, h.0) in
    let same : drop (p - place) (front ++ rest) ≡ drop n rest =
    ap (λ (m : ℕ). drop m (front ++ rest)) far ∙ drop-append-add front rest n
    in
    (omega (arith, h.0), subst NoToken (sym same) h.1)

-- a broken token is given with the place of its first byte
broken_in : {place : ℕ} {bytes : List ℕ} {ts : List Placed} {e : Ending} → Tokens place bytes ts e → BrokenIn place bytes e
broken_in end = tt
broken_in (blank {p = p} {e = e} (white {b = b} {rest = rest} t) g) = behind-front p (b ∷ []) rest e (broken_in g)
broken_in (blank {p = p} {e = e} (comment {rest = rest} body same t c) g) =
    let front = slash ∷ slash ∷ body in
    let far : p + (length body + 2) ≡ p + length front = omega arith in
    subst (λ (l : List ℕ). BrokenIn p l e) (sym same) (behind-front p front rest e (subst (λ (n : ℕ). BrokenIn n rest e) far (broken_in g)))
broken_in (token {p = p} {lexeme = lexeme} {rest = rest} {e = e} l g) =
    subst (λ (bytes : List ℕ). BrokenIn p bytes e) (sym l.begins) (behind-front p lexeme rest e (broken_in g))
broken_in (none {p = p} {b = b} {bs = bs} x y) =
    let here : p - p ≡ 0 = omega arith in
    (omega arith, subst (λ (n : ℕ). NoToken (drop n (b ∷ bs))) (sym here) y)

pub broken_where : {text : List ℕ} {ts : List Placed} {p : ℕ} → TokensOf text ts (broken p) → NoToken (drop p text)
broken_where {text} {p = p} h =
    let same : p - 0 ≡ p = omega arith in
    subst (λ (n : ℕ). NoToken (drop n text)) same (broken_in h).1
