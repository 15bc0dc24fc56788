-- Tokens written out as a text, each with a line feed behind it; and a text that goes on otherwise behind its first tokens, which stay.
use Prim.Native.Nat.{ℕ, ◌+◌}
use native.Mathlib.Omega.{arith}
use mathlib.Core.Path.{◌≡◌, refl, sym, ap, ◌∙◌, subst}
use mathlib.Core.Logic.{◌⊎◌, inl, inr, ⊎_elim}
use mathlib.Core.Bool.{Bool, true, false, not, ◌&&◌, ◌||◌}
use mathlib.Core.List.{
  List,
  [],
  ◌∷◌,
  ◌++◌,
  append_assoc,
  cons≢nil,
  head-eq_of_cons-eq,
  tail-eq_of_cons-eq,
  Memᴰ,
}
use lib.ListN.{length, length-append}
use lib.Dec.{T, eqb}
use Rattle.bits.specs.Byte.{is_digit, is_letter}
use Rattle.bits.proofs.Tests.{and_left, and_right, or_cases, same_list_lem, every_at}
use Rattle.bits.specs.Inside.Same.{same_list}
use Rattle.text.specs.Token.{Token, word, number, letter, sign, begins_word, in_word, every, signs, quote, Spells, a_word, a_number, a_letter, a_sign}
use Rattle.text.specs.Tokens.{
  Placed,
  ◌at◌,
  line_feed,
  slash,
  CommentEnds,
  at_line_feed,
  Longest,
  Ending,
  ends,
  Blank,
  white,
  comment,
  Tokens,
  end,
  blank,
  token,
  none,
}

-- how a token is written
abbrev pub lexeme : Token → List ℕ
lexeme (word l) = l
lexeme (number l) = l
lexeme (letter b) = quote ∷ b ∷ quote ∷ []
lexeme (sign l) = l

-- whether bytes are one of these
abbrev among : List ℕ → List (List ℕ) → Bool
among l [] = false
among l (k ∷ ks) = same_list l k || among l ks

among_mem : (l : List ℕ) (ks : List (List ℕ)) → T (among l ks) → Memᴰ l ks
among_mem l [] t = absurd t
among_mem l (k ∷ ks) t =
    ⊎_elim
    (λ (e : T (same_list l k)). Memᴰ.head (same_list_lem l k e))
    (λ (m : T (among l ks)). Memᴰ.tail (among_mem l ks m))
    (or_cases (same_list l k) (among l ks) t)

-- whether a token can be written
abbrev pub writable : Token → Bool
writable (word []) = false
writable (word (b ∷ bs)) = begins_word b && every in_word bs
writable (number []) = false
writable (number (b ∷ bs)) = is_digit b && every is_digit bs
writable (letter b) = is_letter b
writable (sign l) = among l signs

spells : (t : Token) → T (writable t) → Spells (lexeme t) t
spells (word []) t = absurd t
spells (word (b ∷ bs)) t = a_word (and_left (begins_word b) (every in_word bs) t) (and_right (begins_word b) (every in_word bs) t)
spells (number []) t = absurd t
spells (number (b ∷ bs)) t = a_number (and_left (is_digit b) (every is_digit bs) t) (and_right (is_digit b) (every is_digit bs) t)
spells (letter b) t = a_letter t
spells (sign l) t = a_sign (among_mem l signs t)

-- what passes a test of every byte passes it at each
at_each : (test : ℕ → Bool) {x : ℕ} {l : List ℕ} → Memᴰ x l → T (every test l) → T (test x)
at_each test (Memᴰ.head {x = y} {xs = ys} e) t = subst (λ (b : ℕ). T (test b)) (sym e) (and_left (test y) (every test ys) t)
at_each test (Memᴰ.tail {x = y} {xs = ys} m) t = at_each test m (and_right (test y) (every test ys) t)

other : ℕ → Bool
other b = not (eqb b line_feed)

-- no token has a line feed in it
no_feed : {l : List ℕ} {t : Token} → Spells l t → ¬ Memᴰ line_feed l
unfolding other
no_feed (a_word first rest) (Memᴰ.head e) = subst (λ (b : ℕ). T (begins_word b)) (sym e) first
no_feed (a_word first rest) (Memᴰ.tail m) = at_each in_word m rest
no_feed (a_number first rest) (Memᴰ.head e) = subst (λ (b : ℕ). T (is_digit b)) (sym e) first
no_feed (a_number first rest) (Memᴰ.tail m) = at_each is_digit m rest
no_feed (a_letter {b = b} is) m = letters m
  where
    letters : Memᴰ line_feed (quote ∷ b ∷ quote ∷ []) → ⊥
    letters (Memᴰ.tail (Memᴰ.tail (Memᴰ.tail x16))) = elim x16 [ ]
    letters (Memᴰ.head e) = absurd (omega (arith, e))
    letters (Memᴰ.tail (Memᴰ.head e)) = subst (λ (x : ℕ). T (is_letter x)) (sym e) is
    letters (Memᴰ.tail (Memᴰ.tail (Memᴰ.head e))) = absurd (omega (arith, e))
no_feed (a_sign s) m = at_each other m (every_at (λ (l : List ℕ). every other l) s tt)

-- the beginning of a text stops before a byte of it, or has it
stops_before
    : (l a : List ℕ) (x : ℕ) (b r : List ℕ) → a ++ (x ∷ b) ≡ l ++ r → ((m : List ℕ) × (a ≡ l ++ m)) ⊎ Memᴰ x l
stops_before [] a x b r e = inl (a, refl)
stops_before (y ∷ l) [] x b r e = inr (Memᴰ.head (head-eq_of_cons-eq e))
stops_before (y ∷ l) (c ∷ a) x b r e =
    ⊎_elim
    (λ (f : (m : List ℕ) × (a ≡ l ++ m)). inl (f.0, ap (λ (k : List ℕ). c ∷ k) f.1 ∙ ap (λ (z : ℕ). z ∷ (l ++ f.0)) (head-eq_of_cons-eq e)))
    (λ (m : Memᴰ x l). inr (Memᴰ.tail m))
    (stops_before l a x b r (tail-eq_of_cons-eq e))

-- so a token stops before a line feed
token_stops
    : {l : List ℕ} {u : Token} (a tail r : List ℕ) → a ++ (line_feed ∷ tail) ≡ l ++ r → Spells l u → (m : List ℕ) × (a ≡ l ++ m)
token_stops {l = l} a tail r e spelt =
    ⊎_elim (λ f. f) (λ (m : Memᴰ line_feed l). absurd (no_feed spelt m)) (stops_before l a line_feed tail r e)

-- a token with a line feed behind it is the longest one
longest_alone : (t : Token) (tail : List ℕ) → T (writable t) → Longest (lexeme t ++ (line_feed ∷ tail)) (lexeme t) (line_feed ∷ tail) t
longest_alone t tail can = record {
  begins = refl;
  spells = spells t can;
  longest = λ l r u e spelt.
      let f = token_stops (lexeme t) tail r e spelt in
      omega (arith, ap length f.1, length-append l f.0);
}

-- tokens written out
abbrev pub written : List Token → List ℕ
written [] = []
written (t ∷ ts) = lexeme t ++ (line_feed ∷ written ts)

-- and where they then stand, from a place on
abbrev pub laid : ℕ → List Token → List Placed
laid p [] = []
laid p (t ∷ ts) = (t at p) ∷ laid (p + length (lexeme t) + 1) ts

-- whether all of them can be written
abbrev pub all_writable : List Token → Bool
all_writable [] = true
all_writable (t ∷ ts) = writable t && all_writable ts

-- they are the tokens of what is written
pub written_tokens : (p : ℕ) (ts : List Token) → T (all_writable ts) → (q : ℕ) × Tokens p (written ts) (laid p ts) (ends q)
written_tokens p [] can = (p, end)
written_tokens p (t ∷ ts) can =
    let rest = written_tokens (p + length (lexeme t) + 1) ts (and_right (writable t) (all_writable ts) can) in
    (rest.0, token (longest_alone t (written ts) (and_left (writable t) (all_writable ts) can)) (blank (white tt) rest.1))

-- a token stays the longest one where the text goes on otherwise behind something that follows it
longest_kept
    : {bytes l rest : List ℕ} {t : Token} (front back tail : List ℕ) → rest ≡ front ++ back → Longest bytes l rest t
    → Longest (l ++ (front ++ (line_feed ∷ tail))) l (front ++ (line_feed ∷ tail)) t
longest_kept {l = l} front back tail is h = record {
  begins = refl;
  spells = h.spells;
  longest = λ k r u e spelt.
      let f = token_stops (l ++ front) tail r (append_assoc l front (line_feed ∷ tail) ∙ e) spelt in
      h.longest k (f.0 ++ back) u
      (h.begins ∙ ap (λ (x : List ℕ). l ++ x) is ∙ sym (append_assoc l front back) ∙ ap (λ (x : List ℕ). x ++ back) f.1 ∙ append_assoc k f.0 back)
      spelt;
}

-- and a comment ends where it did
feeds : {b : ℕ} {rest : List ℕ} (other : List ℕ) → CommentEnds (b ∷ rest) → CommentEnds (b ∷ other)
feeds other at_line_feed = at_line_feed

comment_kept : (front back tail : List ℕ) → CommentEnds (front ++ back) → CommentEnds (front ++ (line_feed ∷ tail))
comment_kept [] back tail c = at_line_feed
comment_kept (b ∷ front) back tail c = feeds (front ++ (line_feed ∷ tail)) c

-- bytes from a place on, and the first of their tokens: the bytes up to the last of them may go on with a line feed and anything else
pub record Cut (p : ℕ) (bytes : List ℕ) (ts : List Placed) : Type 0 where
  pub front : List ℕ
  pub back : List ℕ
  pub begins : bytes ≡ front ++ back
  pub place : ℕ
  pub goes_on
      : (tail : List ℕ) (vs : List Placed) (e : Ending) → Tokens place (line_feed ∷ tail) vs e
      → Tokens p (front ++ (line_feed ∷ tail)) (ts ++ vs) e

cut_none : (p : ℕ) (bytes : List ℕ) → Cut p bytes []
cut_none p bytes = record { front = []; back = bytes; begins = refl; place = p; goes_on = λ tail vs e g. g }

cut_blank : {p n : ℕ} {bytes rest : List ℕ} {ts : List Placed} → Blank bytes n rest → Cut (p + n) rest ts → Cut p bytes ts
cut_blank (white {b = b} t) c = record {
  front = b ∷ c.front;
  back = c.back;
  begins = ap (λ (l : List ℕ). b ∷ l) c.begins;
  place = c.place;
  goes_on = λ tail vs e g. blank (white t) (c.goes_on tail vs e g);
}
cut_blank (comment {bytes = bytes} {rest = rest} body is t closed) c = record {
  front = slash ∷ slash ∷ (body ++ c.front);
  back = c.back;
  begins = is ∙ ap (λ (l : List ℕ). slash ∷ slash ∷ l) (ap (λ (l : List ℕ). body ++ l) c.begins ∙ sym (append_assoc body c.front c.back));
  place = c.place;
  goes_on = λ tail vs e g.
      blank
      (comment body (ap (λ (l : List ℕ). slash ∷ slash ∷ l) (append_assoc body c.front (line_feed ∷ tail))) t
      (comment_kept c.front c.back tail (subst CommentEnds c.begins closed)))
      (c.goes_on tail vs e g);
}

cut_token
    : {p : ℕ} {bytes l rest : List ℕ} {t : Token} {u : Placed} {ts : List Placed} → Longest bytes l rest t → (t at p) ≡ u
    → Cut (p + length l) rest ts → Cut p bytes (u ∷ ts)
cut_token {p} {l = l} {t = t} {ts = ts} long same c = record {
  front = l ++ c.front;
  back = c.back;
  begins = long.begins ∙ ap (λ (x : List ℕ). l ++ x) c.begins ∙ sym (append_assoc l c.front c.back);
  place = c.place;
  goes_on = λ tail vs e g.
      subst (λ (u : Placed). Tokens p ((l ++ c.front) ++ (line_feed ∷ tail)) (u ∷ (ts ++ vs)) e) same
      (subst (λ (bytes : List ℕ). Tokens p bytes ((t at p) ∷ (ts ++ vs)) e) (sym (append_assoc l c.front (line_feed ∷ tail)))
      (token (longest_kept c.front c.back tail c.begins long) (c.goes_on tail vs e g)));
}

-- a text can be cut behind any of its tokens
pub cut
    : {p : ℕ} {bytes : List ℕ} {all : List Placed} {e : Ending} → Tokens p bytes all e
    → (ts us : List Placed) → all ≡ ts ++ us → Cut p bytes ts
cut end [] us is = cut_none _ _
cut end (t ∷ ts) us is = absurd (cons≢nil (sym is))
cut (blank b g) ts us is = cut_blank b (cut g ts us is)
cut (token l g) [] us is = cut_none _ _
cut (token l g) (t ∷ ts) us is = cut_token l (head-eq_of_cons-eq is) (cut g ts us (tail-eq_of_cons-eq is))
cut (none x y) [] us is = cut_none _ _
cut (none x y) (t ∷ ts) us is = absurd (cons≢nil (sym is))
