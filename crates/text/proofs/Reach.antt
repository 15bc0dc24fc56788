-- The kind of a token's first byte, how far the tokens of a sort reach, and that the same bytes are one token only.
use Prim.Native.Nat.{ℕ, suc, ◌≤◌, ◌<◌, zero-le, suc-le-suc}
use native.Mathlib.Omega.{arith}
use mathlib.Core.Path.{◌≡◌, refl, sym, ap, ◌∙◌, subst}
use mathlib.Core.Logic.{⊎_elim}
use mathlib.Core.Bool.{Bool, true, false, cond, ◌&&◌, ◌||◌}
use mathlib.Core.List.{List, [], ◌∷◌, ◌++◌, Memᴰ}
use lib.ListN.{length, take}
use lib.Dec.{T, eqb, leb, leb→le, eqb→eq}
use borrow.Author.Tests.{lt-leb, ne_eqb}
use Rattle.bits.specs.Byte.{is_digit, is_letter}
use Rattle.text.specs.Token.{Token, word, number, letter, sign, Spells, a_word, a_number, a_letter, a_sign, begins_word, in_word, signs, quote}
use Rattle.text.specs.Tokens.{is_white, slash, NoToken}
use Rattle.text.specs.Inside.Scan.{Sort, of_word, of_number, of_letter, of_sign, Kind, for_token, for_white, for_comment, sorted, kind, longest_of, letter_reach, reach, made}
use Rattle.text.proofs.Runs.{T_true, true_T, T_both, T_either, run_ran, run_longest, longest_of_bound, longest_of_found, longest_of_fits}

-- the sort of a token
abbrev pub sort_of : Token → Sort
sort_of (word l) = of_word
sort_of (number l) = of_number
sort_of (letter b) = of_letter
sort_of (sign l) = of_sign

-- what a byte's kind tells of its tests
abbrev pub Says : Bool → Bool → Bool → Bool → Bool → Kind → Type 0
Says a d q w s (for_token of_word) = T a
Says a d q w s (for_token of_number) = T d
Says a d q w s (for_token of_letter) = T q
Says a d q w s (for_token of_sign) = Unit {0}
Says a d q w s for_white = T w
Says a d q w s for_comment = T s

sorted_says : (a d q w s : Bool) → Says a d q w s (sorted a d q w s)
sorted_says true d q w s = tt
sorted_says false true q w s = tt
sorted_says false false true w s = tt
sorted_says false false false true s = tt
sorted_says false false false false true = tt
sorted_says false false false false false = tt

-- a byte of a kind passes that kind's test
pub kind_says : (b : ℕ) (k : Kind) → kind b ≡ k → Says (begins_word b) (is_digit b) (eqb b quote) (is_white b) (eqb b slash) k
unfolding kind
kind_says b k e =
    subst (Says (begins_word b) (is_digit b) (eqb b quote) (is_white b) (eqb b slash)) e
    (sorted_says (begins_word b) (is_digit b) (eqb b quote) (is_white b) (eqb b slash))

-- a digit begins no word
pub digit_no_word : (b : ℕ) → T (is_digit b) → begins_word b ≡ false
digit_no_word b t =
    let h : b ≤ 57 = leb→le b 57 (T_both (leb 48 b) (leb b 57) t).1 in
    simp (lt-leb 65 b (omega arith), lt-leb 97 b (omega arith), ne_eqb b 95 (λ e. omega arith))

-- what begins a word is of the kind of words
pub kind_word : (b : ℕ) → T (begins_word b) → kind b ≡ for_token of_word
unfolding kind
kind_word b t = rw (T_true (begins_word b) t)

-- a digit is of the kind of numbers
pub kind_number : (b : ℕ) → T (is_digit b) → kind b ≡ for_token of_number
unfolding kind
kind_number b t = rw (digit_no_word b t, T_true (is_digit b) t)

-- a byte that is one of some, by a test, has what each of them has
is_it : (P : ℕ → Type 0) (b n : ℕ) → P n → T (eqb b n) → P b
is_it P b n p t = subst P (sym (eqb→eq b n t)) p

one_of : (P : ℕ → Type 0) (b n : ℕ) (others : Bool) → P n → (T others → P b) → T (eqb b n || others) → P b
one_of P b n others p rest t = ⊎_elim (is_it P b n p) rest (T_either (eqb b n) others t)

abbrev WhiteKind : ℕ → Type 0
WhiteKind b = kind b ≡ for_white

-- white space is of its own kind
pub kind_white : (b : ℕ) → T (is_white b) → kind b ≡ for_white
unfolding kind
kind_white b = one_of WhiteKind b 32 _ refl (one_of WhiteKind b 9 _ refl (one_of WhiteKind b 10 _ refl (is_it WhiteKind b 13 refl)))

-- a sign's first byte is of the kind of signs: seen by going through them
abbrev is_sign : Kind → Bool
is_sign (for_token of_word) = false
is_sign (for_token of_number) = false
is_sign (for_token of_letter) = false
is_sign (for_token of_sign) = true
is_sign for_white = false
is_sign for_comment = false

sign_kind : (k : Kind) → T (is_sign k) → k ≡ for_token of_sign
sign_kind (for_token of_word) t = absurd t
sign_kind (for_token of_number) t = absurd t
sign_kind (for_token of_letter) t = absurd t
sign_kind (for_token of_sign) t = refl
sign_kind for_white t = absurd t
sign_kind for_comment t = absurd t

abbrev begins_sign : List ℕ → Bool
begins_sign [] = false
begins_sign (b ∷ bs) = is_sign (kind b)

abbrev all_of : (List ℕ → Bool) → List (List ℕ) → Bool
all_of test [] = true
all_of test (l ∷ ls) = test l && all_of test ls

all_mem : (test : List ℕ → Bool) {l : List ℕ} {ls : List (List ℕ)} → T (all_of test ls) → Memᴰ l ls → T (test l)
all_mem test {l} t (Memᴰ.head {x = x} {xs = xs} e) = rw e (T_both (test x) (all_of test xs) t).0
all_mem test {l} t (Memᴰ.tail {x = x} {xs = xs} m) = all_mem test (T_both (test x) (all_of test xs) t).1 m

signs_begin : {l : List ℕ} → Memᴰ l signs → T (begins_sign l)
unfolding kind
signs_begin = all_mem begins_sign {ls = signs} tt

-- what a token says of the bytes that it begins: the kind of the first, and how far the tokens of its sort reach
pub record Within (b : ℕ) (bs l : List ℕ) (u : Token) : Type 0 where
  pub same_kind : kind b ≡ for_token (sort_of u)
  pub some_bytes : 0 < length l
  pub in_reach : length l ≤ reach (sort_of u) b bs
  pub token : made (sort_of u) l ≡ u

abbrev Fits : List ℕ → List ℕ → Token → Type 0
Fits [] l u = ⊥
Fits (b ∷ bs) l u = Within b bs l u

sign_fits : (l r : List ℕ) → Memᴰ l signs → Fits (l ++ r) l (sign l)
unfolding reach made
sign_fits [] r m = absurd (signs_begin m)
sign_fits (b ∷ bs) r m = record { same_kind = sign_kind (kind b) (signs_begin m); some_bytes = suc-le-suc zero-le; in_reach = longest_of_bound r m; token = refl }

spells_fits : {l : List ℕ} {u : Token} (r : List ℕ) → Spells l u → Fits (l ++ r) l u
unfolding reach made kind
spells_fits r (a_word {b} {bs} t ts) =
    record { same_kind = kind_word b t; some_bytes = suc-le-suc zero-le; in_reach = suc-le-suc (run_longest in_word bs r ts); token = refl }
spells_fits r (a_number {b} {bs} t ts) =
    record { same_kind = kind_number b t; some_bytes = suc-le-suc zero-le; in_reach = suc-le-suc (run_longest is_digit bs r ts); token = refl }
spells_fits r (a_letter {b} t) =
    record { same_kind = refl; some_bytes = suc-le-suc zero-le; in_reach = rw (T_true (is_letter b) t) (omega arith); token = refl }
spells_fits r (a_sign {s} m) = sign_fits s r m

-- a token that begins the bytes is within reach of its sort
pub spells_within : {b : ℕ} {bs l : List ℕ} {u : Token} (r : List ℕ) → (b ∷ bs) ≡ l ++ r → Spells l u → Within b bs l u
spells_within {b} {bs} {l} {u} r e s = subst (λ (bytes : List ℕ). Fits bytes l u) (sym e) (spells_fits r s)

-- no token begins where there are no bytes, so none is empty
pub empty_no_token : NoToken []
empty_no_token l r u e s = subst (λ (bytes : List ℕ). Fits bytes l u) (sym e) (spells_fits r s)

-- these bytes of the front are a token of this sort
abbrev pub Reads : Sort → List ℕ → ℕ → Type 0
Reads k bytes n = Spells (take n bytes) (made k (take n bytes))

quotes_read : (c d : ℕ) (bs : List ℕ) (t : Bool) → (is_letter c && eqb d quote) ≡ t → 0 < cond t 3 0 → Reads of_letter (quote ∷ c ∷ d ∷ bs) (cond t 3 0)
unfolding made
quotes_read c d bs false e h = absurd (omega arith)
quotes_read c d bs true e h =
    let both = T_both (is_letter c) (eqb d quote) (true_T e) in
    rw (eqb→eq d quote both.1) (a_letter both.0)

letter_reads : (b : ℕ) (bs : List ℕ) → b ≡ quote → 0 < letter_reach bs → Reads of_letter (b ∷ bs) (letter_reach bs)
unfolding letter_reach
letter_reads b [] q h = absurd (omega arith)
letter_reads b (c ∷ []) q h = absurd (omega arith)
letter_reads b (c ∷ d ∷ bs) q h = rw q (quotes_read c d bs (is_letter c && eqb d quote) refl h)

-- the bytes within reach are a token
pub reach-reads : (k : Sort) (b : ℕ) (bs : List ℕ) → kind b ≡ for_token k → 0 < reach k b bs → Reads k (b ∷ bs) (reach k b bs)
unfolding reach made
reach-reads of_word b bs e h = a_word (kind_says b _ e) (run_ran in_word bs).passes
reach-reads of_number b bs e h = a_number (kind_says b _ e) (run_ran is_digit bs).passes
reach-reads of_letter b bs e h = letter_reads b bs (eqb→eq b quote (kind_says b _ e)) h
reach-reads of_sign b bs e h = a_sign (longest_of_found signs (b ∷ bs) (longest_of signs (b ∷ bs)) h refl)

quotes_fit : (t : Bool) (n : ℕ) → cond t 3 0 ≤ suc (suc (suc n))
quotes_fit true n = omega arith
quotes_fit false n = zero-le

letter_fits : (bs : List ℕ) → letter_reach bs ≤ suc (length bs)
unfolding letter_reach
letter_fits [] = zero-le
letter_fits (c ∷ []) = zero-le
letter_fits (c ∷ d ∷ bs) = quotes_fit (is_letter c && eqb d quote) (length bs)

-- and are there
pub reach_fits : (k : Sort) (b : ℕ) (bs : List ℕ) → reach k b bs ≤ suc (length bs)
unfolding reach
reach_fits of_word b bs = suc-le-suc (run_ran in_word bs).fits
reach_fits of_number b bs = suc-le-suc (run_ran is_digit bs).fits
reach_fits of_letter b bs = letter_fits bs
reach_fits of_sign b bs = longest_of_fits signs (b ∷ bs)

fits_once : (bytes l : List ℕ) (t u : Token) → Fits bytes l t → Fits bytes l u → t ≡ u
fits_once [] l t u f g = absurd f
fits_once (b ∷ bs) l t u f g =
    let same : sort_of t ≡ sort_of u = cc in
    sym f.token ∙ (ap (λ k. made k l) same ∙ g.token)

-- the same bytes are one token only
pub spells_once : {l : List ℕ} {t u : Token} → Spells l t → Spells l u → t ≡ u
spells_once {l} {t} {u} s v = fits_once (l ++ []) l t u (spells_fits [] s) (spells_fits [] v)
