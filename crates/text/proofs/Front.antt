-- What stands at the front of the bytes: the text's end, white space or a comment, one longest token, or nothing; exactly one of these, and `lex` says which.
use Prim.Native.Nat.{ℕ, zero, suc, ◌+◌, ◌≤◌, ◌<◌}
use native.Mathlib.Omega.{arith}
use native.Mathlib.Numerals.{add-two}
use mathlib.Core.Path.{◌≡◌, refl, sym, ap, ◌∙◌, subst, subst₂}
use mathlib.Core.Bool.{Bool, true, false, not}
use mathlib.Core.List.{List, [], ◌∷◌, ◌++◌, cons≢nil}
use lib.ListN.{length, take, drop, length-append, take-append-drop}
use lib.Seq.{length-take-le, take-append_seam, drop-append_seam}
use lib.Dec.{T, eqb, eqb→eq}
use borrow.Author.Tests.{eqb-true}
use Rattle.text.specs.Token.{Token, Spells}
use Rattle.text.specs.Tokens.{line_feed, slash, CommentEnds, at_end, at_line_feed, Longest, NoToken, Blank, white, comment}
use Rattle.text.specs.Inside.Scan.{Sort, Kind, for_token, for_white, for_comment, kind, run, in_comment, reach, made, Lexed, over, skip, found, bad, lex_comment, lex_token, lex_as, lex}
use Rattle.text.proofs.Runs.{stops, Ran, run_ran, run_is}
use Rattle.text.proofs.Reach.{sort_of, kind_says, kind_white, spells_within, empty_no_token, reach-reads, reach_fits, spells_once}

-- the bytes begin with this token, longest, of so many bytes
pub record Found (bytes : List ℕ) (n : ℕ) (t : Token) : Type 0 where
  pub longest : Longest bytes (take n bytes) (drop n bytes) t
  pub fits : n ≤ length bytes

-- there are bytes, and they begin with nothing that a text may have
pub record Bad (bytes : List ℕ) : Type 0 where
  pub some : ¬ (bytes ≡ [])
  pub no_blank : (n : ℕ) (rest : List ℕ) → ¬ Blank bytes n rest
  pub no_token : NoToken bytes

-- what it means that this stands at the front
abbrev pub InFront : List ℕ → Lexed → Type 0
InFront bytes over = bytes ≡ []
InFront bytes (skip n) = Blank bytes n (drop n bytes)
InFront bytes (found n t) = Found bytes n t
InFront bytes bad = Bad bytes

-- a comment's end is where its run stops
comment_stops : {rest : List ℕ} → CommentEnds rest → T (stops in_comment rest)
comment_stops at_end = tt
comment_stops at_line_feed = tt

stops_comment : (rest : List ℕ) → T (stops in_comment rest) → CommentEnds rest
stops_comment [] t = at_end
stops_comment (b ∷ bs) t = rw (eqb→eq b line_feed (not-not (eqb b line_feed) t)) at_line_feed
  where
    not-not : (b : Bool) → T (not (not b)) → T b
    not-not true t = tt
    not-not false t = t

-- what `lex` says of bytes that begin with white space or a comment
pub blank_lex : {bytes rest : List ℕ} {n : ℕ} → Blank bytes n rest → (lex bytes ≡ skip n) × (drop n bytes ≡ rest)
unfolding lex
blank_lex (white {b} {rest} t) = (rw (kind_white b t), refl)
blank_lex {bytes} {rest} (comment body e t c) = (rw (e, run_is in_comment body rest t (comment_stops c)), rw (e, add-two (length body)) (drop-append_seam body rest))

-- what follows a blank is what its length leaves
pub blank_stands : {bytes rest : List ℕ} {n : ℕ} → Blank bytes n rest → Blank bytes n (drop n bytes)
blank_stands h = rw (blank_lex h).1 h

module _ (b : ℕ) (bs : List ℕ) where
  -- where the first byte's kind is that of a sort of tokens, no token reaches further
  bounded : (k : Sort) → kind b ≡ for_token k → (l r : List ℕ) (u : Token) → (b ∷ bs) ≡ l ++ r → Spells l u → length l ≤ reach k b bs
  bounded k e l r u h s =
      let within = spells_within r h s in
      let same : sort_of u ≡ k = cc in
      rw same at within.in_reach

  reach_found : (k : Sort) → kind b ≡ for_token k → 0 < reach k b bs → Found (b ∷ bs) (reach k b bs) (made k (take (reach k b bs) (b ∷ bs)))
  reach_found k e h =
      record {
        longest = record {
          begins = sym (take-append-drop (reach k b bs) (b ∷ bs));
          spells = reach-reads k b bs e h;
          longest = λ l r u z s. rw (length-take-le (reach k b bs) (b ∷ bs) (reach_fits k b bs)) (bounded k e l r u z s);
        };
        fits = reach_fits k b bs;
      }

  -- where `lex` finds nothing there is no blank, so no token is all that is left to show
  bad_right : lex (b ∷ bs) ≡ bad → NoToken (b ∷ bs) → Bad (b ∷ bs)
  bad_right e h =
      record {
        some = cons≢nil;
        no_blank = λ n rest z. let y = (blank_lex z).0 in let f : ◌≡◌ {A = ℕ} 0 1 = cc in omega arith;
        no_token = h;
      }

  token_right : (k : Sort) (n : ℕ) → kind b ≡ for_token k → reach k b bs ≡ n → lex (b ∷ bs) ≡ lex_token n k (b ∷ bs) → InFront (b ∷ bs) (lex_token n k (b ∷ bs))
  unfolding lex_token
  token_right k zero e h q =
      bad_right q (λ l r u z s. let i = bounded k e l r u z s in let j = (spells_within r z s).some_bytes in omega arith)
  token_right k (suc n) e h q = subst (λ (m : ℕ). Found (b ∷ bs) m (made k (take m (b ∷ bs)))) h (reach_found k e (omega arith))

-- no token starts with a slash
no_slash : (bs : List ℕ) → NoToken (slash ∷ bs)
unfolding kind
no_slash bs l r u z s = let k = (spells_within r z s).same_kind in let f : ◌≡◌ {A = ℕ} 0 1 = cc in omega arith

comment_right : (bs : List ℕ) → InFront (slash ∷ bs) (lex_comment bs)
unfolding lex
comment_right [] = bad_right slash [] refl (no_slash [])
comment_right (c ∷ bs) = after (eqb c slash) refl
  where
    n : ℕ
    n = run in_comment bs

    ran : Ran in_comment bs n
    ran = run_ran in_comment bs

    after : (t : Bool) → eqb c slash ≡ t → InFront (slash ∷ c ∷ bs) (elim t [ true ↦ skip (n + 2) | false ↦ bad ])
    after true e =
        subst (λ (m : ℕ). InFront (slash ∷ c ∷ bs) (skip (m + 2))) (length-take-le n bs ran.fits)
        (blank_stands
        (comment (take n bs) (λ i. slash ∷ eqb-true c slash e i ∷ sym (take-append-drop n bs) i) ran.passes (stops_comment (drop n bs) ran.ends)))
    after false e = bad_right slash (c ∷ bs) (rw (e, lex_comment)) (no_slash (c ∷ bs))

as_right : (b : ℕ) (bs : List ℕ) (k : Kind) → kind b ≡ k → lex (b ∷ bs) ≡ lex_as k b bs → InFront (b ∷ bs) (lex_as k b bs)
unfolding lex_as
as_right b bs (for_token k) e q = token_right b bs k (reach k b bs) e refl q
as_right b bs for_white e q = white (kind_says b _ e)
as_right b bs for_comment e q = rw (eqb→eq b slash (kind_says b _ e)) (comment_right bs)

-- what `lex` says stands at the front of the bytes does
pub lex_right : (bytes : List ℕ) → InFront bytes (lex bytes)
unfolding lex
lex_right [] = refl
lex_right (b ∷ bs) = as_right b bs (kind b) refl refl

-- so where `lex` says a thing, that stands there
pub lexed : (bytes : List ℕ) {x : Lexed} → lex bytes ≡ x → InFront bytes x
lexed bytes e = subst (InFront bytes) e (lex_right bytes)

-- where white space or a comment stands, no token does
blank_no_token : {bytes rest : List ℕ} {n : ℕ} → Blank bytes n rest → NoToken bytes
blank_no_token {rest} (comment body e t c) = rw e (no_slash (slash ∷ (body ++ rest)))
blank_no_token (white {b} t) = λ l r u z s.
    let k = (spells_within r z s).same_kind in
    let w = kind_white b t in
    let f : ◌≡◌ {A = ℕ} 0 1 = cc in
    omega arith

-- one longest token begins the bytes
pub found_once : {bytes : List ℕ} {n m : ℕ} {t u : Token} → Found bytes n t → Found bytes m u → (n ≡ m) × (t ≡ u)
found_once {bytes} {n} {m} {t} {u} h g =
    let less : length (take m bytes) ≤ length (take n bytes) = h.longest.longest _ _ _ g.longest.begins g.longest.spells in
    let more : length (take n bytes) ≤ length (take m bytes) = g.longest.longest _ _ _ h.longest.begins h.longest.spells in
    let same : n ≡ m = omega (arith, length-take-le n bytes h.fits, length-take-le m bytes g.fits) in
    (same, spells_once h.longest.spells (rw same g.longest.spells))

found_one : {bytes : List ℕ} {n : ℕ} {t : Token} → Found bytes n t → ¬ NoToken bytes
found_one h none = none _ _ _ h.longest.begins h.longest.spells

found_is : {bytes : List ℕ} {n : ℕ} {t : Token} (x : Lexed) → InFront bytes x → Found bytes n t → x ≡ found n t
found_is over x h = absurd (found_one h (rw x empty_no_token))
found_is (skip m) x h = absurd (found_one h (blank_no_token x))
found_is (found m u) x h = let same = found_once x h in λ i. found (same.0 i) (same.1 i)
found_is bad x h = absurd (found_one h x.no_token)

bad_is : {bytes : List ℕ} (x : Lexed) → InFront bytes x → Bad bytes → x ≡ bad
bad_is over x h = absurd (h.some x)
bad_is (skip m) x h = absurd (h.no_blank _ _ x)
bad_is (found m u) x h = absurd (found_one x h.no_token)
bad_is bad x h = refl

-- and nothing else stands there
pub lex_is : (bytes : List ℕ) (x : Lexed) → InFront bytes x → lex bytes ≡ x
unfolding lex
lex_is bytes over h = rw h
lex_is bytes (skip n) h = (blank_lex h).0
lex_is bytes (found n t) h = found_is (lex bytes) (lex_right bytes) h
lex_is bytes bad h = bad_is (lex bytes) (lex_right bytes) h

-- the longest token is found, and what follows it is what its length leaves
pub longest_found : {bytes lexeme rest : List ℕ} {t : Token} → Longest bytes lexeme rest t → Found bytes (length lexeme) t × (drop (length lexeme) bytes ≡ rest)
longest_found {bytes} {lexeme} {rest} {t} h =
    let front : take (length lexeme) bytes ≡ lexeme = ap (take (length lexeme)) h.begins ∙ take-append_seam lexeme rest in
    let back : drop (length lexeme) bytes ≡ rest = ap (drop (length lexeme)) h.begins ∙ drop-append_seam lexeme rest in (
      record {
        longest = subst₂ (λ (l r : List ℕ). Longest bytes l r t) (sym front) (sym back) h;
        fits = omega (arith, simp length-append at (ap length h.begins));
      },
      back,
    )
