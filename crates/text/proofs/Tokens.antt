-- The tokens of a text: there are some, `scan` finds them, there are no others, and each stands before where they end.
use Prim.Native.Nat.{ℕ, zero, suc, pred, ◌+◌, ◌<◌, zero-le, suc-le-suc}
use native.Mathlib.Omega.{arith}
use mathlib.Core.Path.{◌≡◌, refl, sym, ap, ◌∙◌, subst}
use mathlib.Core.List.{List, [], ◌∷◌, ◌++◌, cons≢nil}
use lib.ListN.{length, drop, length-drop}
use lib.Seq.{length-take-le}
use Rattle.text.specs.Token.{Token}
use Rattle.text.specs.Tokens.{Placed, ◌at◌, Ending, Blank, white, comment, Tokens, end, blank, token, none, TokensOf}
use Rattle.text.specs.Inside.Scan.{Lexed, over, skip, found, bad, lex, Scanned, before, step, scan_from, scan}
use Rattle.text.proofs.Front.{Found, InFront, lex_right, lex_is, blank_lex, longest_found}
use Rattle.text.proofs.Reach.{empty_no_token}
use Rattle.text.proofs.Ending.{blank_length, longest_length}

-- these are the tokens of the bytes from a place on
abbrev Scans : ℕ → List ℕ → Scanned → Type 0
Scans place bytes r = Tokens place bytes r.tokens r.ending

blank_some : {bytes rest : List ℕ} {n : ℕ} → Blank bytes n rest → 0 < n
blank_some (white t) = omega arith
blank_some (comment body e t c) = omega arith

-- a token found has bytes
pub found_some : {bytes : List ℕ} {n : ℕ} {t : Token} → Found bytes n t → 0 < n
found_some {n = zero} h = absurd (empty_no_token [] [] _ refl h.longest.spells)
found_some {n = suc n} h = suc-le-suc zero-le

-- a token found at the front, and then the tokens of what it leaves
pub found_then : {place n : ℕ} {bytes : List ℕ} {t : Token} {ts : List Placed} {e : Ending}
    → Found bytes n t
    → Tokens (place + n) (drop n bytes) ts e
    → Tokens place bytes ((t at place) ∷ ts) e
found_then {place} {n} {bytes} {t} {ts} {e} h g =
    token h.longest (subst (λ (m : ℕ). Tokens (place + m) (drop n bytes) ts e) (sym (length-take-le n bytes h.fits)) g)

step_right : (b : ℕ) (bs : List ℕ) (place : ℕ) (x : Lexed) (after : ℕ → Scanned)
    → InFront (b ∷ bs) x
    → ((n : ℕ) → 0 < n → Scans (place + n) (drop n (b ∷ bs)) (after n))
    → Scans place (b ∷ bs) (step x place after)
unfolding step
step_right b bs place over after h go = absurd (cons≢nil h)
step_right b bs place (skip n) after h go = blank h (go n (blank_some h))
step_right b bs place (found n t) after h go = found_then h (go n (found_some h))
step_right b bs place bad after h go = none h.no_blank h.no_token

-- the bytes from a place on have the tokens that `scan_from` gives
pub scan_from_right : (fuel place : ℕ) (bytes : List ℕ) → length bytes < fuel → Scans place bytes (scan_from fuel place bytes)
unfolding scan_from
scan_from_right zero place bytes h = absurd (omega arith)
scan_from_right (suc fuel) place [] h = end
scan_from_right (suc fuel) place (b ∷ bs) h =
    step_right b bs place (lex (b ∷ bs)) (λ n. scan_from fuel (place + n) (drop n (b ∷ bs))) (lex_right (b ∷ bs))
    (λ n i. scan_from_right fuel (place + n) (drop n (b ∷ bs)) (omega (arith, length-drop n (b ∷ bs))))

-- the tokens that `scan` gives are those of the text
pub scan_right : (text : List ℕ) → TokensOf text (scan text).tokens (scan text).ending
unfolding scan
scan_right text = scan_from_right (suc (length text)) 0 text (omega arith)

scan_step : (fuel place : ℕ) (bytes : List ℕ) (x : Lexed)
    → length bytes < fuel
    → lex bytes ≡ x
    → scan_from fuel place bytes ≡ step x place (λ n. scan_from (pred fuel) (place + n) (drop n bytes))
unfolding scan_from
scan_step zero place bytes x h e = absurd (omega arith)
scan_step (suc fuel) place bytes x h e = ap (λ y. step y place (λ n. scan_from fuel (place + n) (drop n bytes))) e

tokens_from : {place : ℕ} {bytes : List ℕ} {ts : List Placed} {e : Ending} (fuel : ℕ)
    → Tokens place bytes ts e
    → length bytes < fuel
    → scan_from fuel place bytes ≡ record { tokens = ts; ending = e }
unfolding step before
tokens_from {place} {bytes} fuel end h = scan_step fuel place [] over h (lex_is [] over refl)
tokens_from {place} {bytes} fuel (blank {n = n} {rest = rest} b g) h =
    scan_step fuel place bytes (skip n) h (blank_lex b).0
    ∙ ap (scan_from (pred fuel) (place + n)) (blank_lex b).1
    ∙ tokens_from (pred fuel) g (omega (arith, blank_length b, blank_some b))
tokens_from {place} {bytes} fuel (token {lexeme = lexeme} {rest = rest} {t = t} l g) h =
    let hit = longest_found l in
    scan_step fuel place bytes (found (length lexeme) t) h (lex_is bytes (found (length lexeme) t) hit.0)
    ∙ ap (λ (r : List ℕ). before (t at place) (scan_from (pred fuel) (place + length lexeme) r)) hit.1
    ∙ ap (before (t at place)) (tokens_from (pred fuel) g (omega (arith, longest_length l, found_some hit.0)))
tokens_from {place} {bytes} fuel (none {b = b} {bs = bs} x y) h =
    scan_step fuel place (b ∷ bs) bad h (lex_is (b ∷ bs) bad record { some = cons≢nil; no_blank = x; no_token = y })

-- a text's tokens are those that `scan` gives
pub tokens_scanned : {text : List ℕ} {ts : List Placed} {e : Ending} → TokensOf text ts e → scan text ≡ record { tokens = ts; ending = e }
unfolding scan
tokens_scanned {text} h = tokens_from (suc (length text)) h (omega arith)

-- a text has one list of tokens and one ending, counted from any place
pub tokens_once : {place : ℕ} {text : List ℕ} {ts us : List Placed} {e f : Ending} → Tokens place text ts e → Tokens place text us f → (ts ≡ us) × (e ≡ f)
tokens_once {text} h g =
    let same = sym (tokens_from (suc (length text)) h (omega arith)) ∙ tokens_from (suc (length text)) g (omega arith) in
    (ap (λ (r : Scanned). r.tokens) same, ap (λ (r : Scanned). r.ending) same)

-- each of these tokens starts before this place
abbrev pub Below : ℕ → List Placed → Type 0
Below n [] = Unit {0}
Below n ((t at p) ∷ ts) = (p < n) × Below n ts

-- so it is of the tokens of bytes, counted from any place
pub tokens_below : {place : ℕ} {bytes : List ℕ} {ts : List Placed} {e : Ending} → Tokens place bytes ts e → Below (place + length bytes) ts
tokens_below end = tt
tokens_below (blank {p = p} {n = n} {bytes = bytes} {rest = rest} {ts = ts} b g) =
    let same : p + n + length rest ≡ p + length bytes = omega (arith, blank_length b) in
    subst (λ (m : ℕ). Below m ts) same (tokens_below g)
tokens_below (token {p = p} {bytes = bytes} {lexeme = lexeme} {rest = rest} {ts = ts} l g) =
    let same : p + length lexeme + length rest ≡ p + length bytes = omega (arith, longest_length l) in
    (omega (arith, found_some (longest_found l).0), subst (λ (m : ℕ). Below m ts) same (tokens_below g))
tokens_below (none x y) = tt

-- each in particular
pub below_at : {n p : ℕ} (ts : List Placed) (t : Token) (us : List Placed) → Below n (ts ++ ((t at p) ∷ us)) → p < n
below_at [] t us b = b.0
below_at ((u at q) ∷ ts) t us b = below_at ts t us b.1
