-- What stands at a byte of a text, by the byte's kind and the bytes after it.
use Prim.Native.Nat.{ℕ, zero, suc, ◌+◌, ◌-◌, ◌≤◌, ◌<◌}
use native.Mathlib.Omega.{arith}
use native.Mathlib.Numerals.{add-one}
use mathlib.Core.Path.{◌≡◌, refl, sym, ap, ap₂, ◌∙◌, subst, subst₂}
use mathlib.Core.Bool.{Bool, true, false, cond, ◌&&◌}
use Rattle.std.specs.Prelude.{Option, Some, None}
use mathlib.Core.List.{List, [], ◌∷◌, Memᴰ}
use lib.ListN.{length, take, drop, get_or, length-drop}
use lib.Seq.{drop-cons, drop-drop, get_or-take, get_or-drop}
use lib.Dec.{T, eqb}
use borrow.Author.Tests.{eq-eqb, ne_eqb}
use Rattle.bits.specs.Byte.{is_digit, is_letter}
use Rattle.text.specs.Token.{begins_word, in_word, quote, signs}
use Rattle.text.specs.Token as Spec
use Rattle.text.specs.Tokens.{is_white, slash, Blank, Placed, Ending}
use Rattle.text.specs.First.{part, IsWord, written, Next, Begins, FirstToken}
use Rattle.tokeniser.specs.Inside.Tokenising.{IsSign, kind_of, in_comment, Run, over, stop, on, Skips}
use Rattle.text.specs.declared.Token.{Token}
use Rattle.text.specs.declared.Word.{Word}
use Rattle.text.specs.declared.Sign.{Sign}
use Rattle.tokeniser.specs.declared.kinds.Kind.TheVariants as Kinds
use Rattle.text.specs.Inside.Scan.{Sort, of_letter, of_sign, Kind, for_token, for_comment, kind, run, letter_reach, reach, made, skip, bad, lex_comment, lex_token, lex_as, lex}
use Rattle.text.proofs.Runs.{run_on, run_off, run_out}
use Rattle.text.proofs.Reach.{kind_word, kind_number, kind_white}
use Rattle.tokeniser.proofs.Signing.{no_sign}
use Rattle.tokeniser.proofs.Sorting.{kind-sorted, no_begin}
use Rattle.text.proofs.Signed.{written_sign, two_long, one_long, none_long}
use Rattle.text.proofs.Front.{lexed}
use Rattle.text.proofs.Front as Front
use Rattle.text.proofs.Tokens.{found_some}
use Rattle.tokeniser.proofs.Comes.{token_first, bad_first}

-- a run ends as many bytes on as pass
run_length : {test : ℕ → Bool} {text : List ℕ} {i n : ℕ} → Run test text i n → i + run test (drop i text) ≡ n
run_length {test} {text} {i} (over h) = omega (arith, run_out test text i h)
run_length {test} {text} {i} (stop h e) = omega (arith, run_off test text i h e)
run_length {test} {text} {i} (on h e r) = omega (arith, run_on test text i h e, rw add-one at (run_length r))

-- so it goes on
pub run-onward : {test : ℕ → Bool} {text : List ℕ} {i n : ℕ} → Run test text i n → i ≤ n
run-onward r = omega (arith, run_length r)

-- and stays within the text
pub run_within : {test : ℕ → Bool} {text : List ℕ} {i n : ℕ} → i ≤ length text → Run test text i n → n ≤ length text
run_within l (over h) = l
run_within l (stop h e) = l
run_within {text} {i} l (on h e r) = let m : i + 1 ≤ length text = omega arith in run_within m r

-- how long a letter in quotes is, by the bytes after the first quote
letter_reach_lem : (bs : List ℕ) → 1 < length bs → letter_reach bs ≡ cond (is_letter (get_or bs 0 0) && eqb (get_or bs 1 0) quote) 3 0
unfolding letter_reach
letter_reach_lem [] h = absurd (omega arith)
letter_reach_lem (b ∷ []) h = absurd (omega arith)
letter_reach_lem (b ∷ c ∷ bs) h = refl

short_reach : (bs : List ℕ) → length bs < 2 → letter_reach bs ≡ 0
unfolding letter_reach
short_reach [] h = refl
short_reach (b ∷ []) h = refl
short_reach (b ∷ c ∷ bs) h = absurd (omega arith)

-- the first two of some bytes
front_two : (b : ℕ) (bs : List ℕ) → 1 < length (b ∷ bs) → take 2 (b ∷ bs) ≡ b ∷ get_or bs 0 0 ∷ []
front_two b [] h = absurd (omega arith)
front_two b (c ∷ bs) h = refl

-- two slashes begin a comment, and one alone begins nothing
comment_on : (bs : List ℕ) → get_or bs 0 0 ≡ slash → lex_comment bs ≡ skip (run in_comment (drop 1 bs) + 2)
unfolding lex_comment
comment_on [] e = absurd (omega arith)
comment_on (b ∷ bs) e = rw (eq-eqb b slash e, lex_comment) refl

comment_off : (bs : List ℕ) → ¬ (get_or bs 0 0 ≡ slash) → lex_comment bs ≡ bad
unfolding lex_comment
comment_off [] h = refl
comment_off (b ∷ bs) h = rw (ne_eqb b slash h, lex_comment) refl

module _ (text : List ℕ) (p : ℕ) (inside : p < length text) where
  -- what stands at a byte of a kind
  starts : {k : Kind} → kind (get_or text p 0) ≡ k → lex (drop p text) ≡ lex_as k (get_or text p 0) (drop (suc p) text)
  unfolding lex
  starts e = ap lex (drop-cons text p 0 inside) ∙ ap (λ (x : Kind). lex_as x (get_or text p 0) (drop (suc p) text)) e

  -- where a byte may begin a token of a sort, what stands there is that token or nothing
  starts_token : {k : Sort}
      → kind (get_or text p 0) ≡ for_token k
      → lex (drop p text) ≡ lex_token (reach k (get_or text p 0) (drop (suc p) text)) k (drop p text)
  unfolding lex
  starts_token {k} e = starts e ∙ ap (lex_token (reach k (get_or text p 0) (drop (suc p) text)) k) (sym (drop-cons text p 0 inside))

  -- a token, if such tokens reach some bytes
  reach_found : {k : Sort} (n : ℕ)
      → 0 < n
      → kind (get_or text p 0) ≡ for_token k
      → reach k (get_or text p 0) (drop (suc p) text) ≡ n
      → Front.Found (drop p text) n (made k (take n (drop p text)))
  unfolding lex_token
  reach_found zero h e r = absurd (omega arith)
  reach_found {k} (suc n) h e r = lexed (drop p text) (starts_token e ∙ ap (λ (m : ℕ). lex_token m k (drop p text)) r)

  -- and else nothing
  reach_bad : {k : Sort}
      → kind (get_or text p 0) ≡ for_token k
      → reach k (get_or text p 0) (drop (suc p) text) ≡ 0
      → FirstToken text p (Token.Broken p)
  unfolding lex_token
  reach_bad {k} e r = bad_first (lexed (drop p text) (starts_token e ∙ ap (λ (m : ℕ). lex_token m k (drop p text)) r))

  -- a run from the next byte on, and the byte before it
  span : {test : ℕ → Bool} {e : ℕ} → Run test text (p + 1) e → suc (run test (drop (suc p) text)) ≡ e - p
  span r = omega (arith, rw add-one at (run_length r))

  -- a number goes as far as digits do
  pub number_first : {e : ℕ} → T (is_digit (get_or text p 0)) → Run is_digit text (p + 1) e → FirstToken text p (Token.Number p e)
  unfolding reach made
  number_first {e} d r =
      let more : p < e = omega (arith, run-onward r) in
      token_first (Token.Number p e) more (reach_found (e - p) (omega arith) (kind_number (get_or text p 0) d) (span r)) (λ ts g n. n)

  -- a word as far as the bytes of words do
  pub word_first : {e : ℕ} (x : Word)
      → T (begins_word (get_or text p 0))
      → Run in_word text (p + 1) e
      → IsWord x (part text p e)
      → FirstToken text p (Token.Word p e x)
  unfolding reach made
  word_first {e} x b r w =
      let more : p < e = omega (arith, run-onward r) in
      token_first (Token.Word p e x) more (reach_found (e - p) (omega arith) (kind_word (get_or text p 0) b) (span r))
      (λ ts g n. record { next = n; which = w })

  -- a token of so many bytes
  token_at : {u : Spec.Token} (n : ℕ) (t : Spec.Token) (r : Token)
      → Front.Found (drop p text) n u
      → u ≡ t
      → ((ts : List Placed) (g : Ending) → Next text p (p + n) t ts g → Begins text ts g r)
      → FirstToken text p r
  token_at n t r f e answer =
      let size : n ≡ p + n - p = omega arith in
      token_first r (omega (arith, found_some f)) (subst₂ (λ (m : ℕ) (x : Spec.Token). Front.Found (drop p text) m x) size e f) answer

  -- the byte so many after the next
  nth : (i j : ℕ) → suc p + i ≡ j → get_or (drop (suc p) text) i 0 ≡ get_or text j 0
  nth i j e = get_or-drop (suc p) text i 0 ∙ ap (λ (n : ℕ). get_or text n 0) e

  -- a quote begins a letter only by the two bytes after it
  quoted : (t u : Bool)
      → p + 2 < length text
      → is_letter (get_or text (p + 1) 0) ≡ t
      → eqb (get_or text (p + 2) 0) quote ≡ u
      → letter_reach (drop (suc p) text) ≡ cond (t && u) 3 0
  quoted t u h e f =
      letter_reach_lem (drop (suc p) text) (omega (arith, length-drop (suc p) text))
      ∙ ap₂
      (λ (x y : Bool). cond (x && y) 3 0)
      (ap is_letter (nth 0 (p + 1) (omega arith)) ∙ e)
      (ap (λ (b : ℕ). eqb b quote) (nth 1 (p + 2) (omega arith)) ∙ f)

  module _ (q : get_or text p 0 ≡ quote) where
    letter_kind : kind (get_or text p 0) ≡ for_token of_letter
    unfolding kind
    letter_kind = rw q

    -- a letter between quotes
    pub letter_first : p + 2 < length text
        → is_letter (get_or text (p + 1) 0) ≡ true
        → get_or text (p + 2) 0 ≡ quote
        → FirstToken text p (Token.Letter p (p + 3) (get_or text (p + 1) 0))
    unfolding reach made
    letter_first h e f =
        token_at 3 (Spec.letter (get_or text (p + 1) 0)) (Token.Letter p (p + 3) (get_or text (p + 1) 0))
        (reach_found 3 (omega arith) letter_kind (quoted true true h e (eq-eqb (get_or text (p + 2) 0) quote f)))
        (ap Spec.letter (get_or-take 3 (drop p text) 1 0 (omega arith) ∙ get_or-drop p text 1 0))
        (λ ts g n. n)

    -- none where the text is over before
    pub letter_short : length text - p < 3 → FirstToken text p (Token.Broken p)
    unfolding reach
    letter_short h = reach_bad letter_kind (short_reach (drop (suc p) text) (omega (arith, length-drop (suc p) text)))

    -- or the byte is no letter
    pub letter_other : p + 2 < length text → is_letter (get_or text (p + 1) 0) ≡ false → FirstToken text p (Token.Broken p)
    unfolding reach
    letter_other h e = reach_bad letter_kind (quoted false (eqb (get_or text (p + 2) 0) quote) h e refl)

    -- or no quote follows
    pub letter_open : p + 2 < length text
        → is_letter (get_or text (p + 1) 0) ≡ true
        → ¬ (get_or text (p + 2) 0 ≡ quote)
        → FirstToken text p (Token.Broken p)
    unfolding reach
    letter_open h e f = reach_bad letter_kind (quoted true false h e (ne_eqb _ quote f))

  module _ (s : kind (get_or text p 0) ≡ for_token of_sign) where
    -- a sign of two bytes, where they are one
    two_first : (x : Sign) → (get_or text p 0 ∷ get_or text (p + 1) 0 ∷ []) ≡ written x → FirstToken text p (Token.Sign p (p + 2) x)
    unfolding reach made
    two_first x e =
        let second = nth 0 (p + 1) (omega arith) in
        let hit = reach_found 2 (omega arith) s (two_long (get_or text p 0) (drop (suc p) text) (rw (second, e) (written_sign x))) in
        let fits : 1 < length (get_or text p 0 ∷ drop (suc p) text) = rw (drop-cons text p 0 inside) at hit.fits in
        token_at 2 (Spec.sign (written x)) (Token.Sign p (p + 2) x) hit
        (ap Spec.sign (ap (take 2) (drop-cons text p 0 inside) ∙ (front_two (get_or text p 0) (drop (suc p) text) fits ∙ rw second e)))
        (λ ts g n. n)

    -- else of one, where that is
    one_first : (x : Sign)
        → ¬ Memᴰ (get_or text p 0 ∷ get_or text (p + 1) 0 ∷ []) signs
        → (get_or text p 0 ∷ []) ≡ written x
        → FirstToken text p (Token.Sign p (p + 1) x)
    unfolding reach made
    one_first x two e =
        let second = nth 0 (p + 1) (omega arith) in
        token_at 1 (Spec.sign (written x)) (Token.Sign p (p + 1) x)
        (reach_found 1 (omega arith) s (one_long (get_or text p 0) (drop (suc p) text) (rw e (written_sign x)) (rw second two)))
        (ap Spec.sign (ap (take 1) (drop-cons text p 0 inside) ∙ e))
        (λ ts g n. n)

    -- and else none
    sign_bad : ¬ Memᴰ (get_or text p 0 ∷ get_or text (p + 1) 0 ∷ []) signs
        → ¬ Memᴰ (get_or text p 0 ∷ []) signs
        → FirstToken text p (Token.Broken p)
    unfolding reach
    sign_bad two one = reach_bad s (none_long (get_or text p 0) (drop (suc p) text) one (rw (nth 0 (p + 1) (omega arith)) two))

  -- the same by what the tests of two bytes and of one answer
  module _ (k : kind_of (get_or text p 0) ≡ Kinds.Sign) where
    signs-kind : kind (get_or text p 0) ≡ for_token of_sign
    signs-kind = kind-sorted (get_or text p 0) k

    module _ {b : ℕ} (second : b ≡ get_or text (p + 1) 0) {r : Option Sign} (two : IsSign (get_or text p 0 ∷ b ∷ []) r) where
      answered : {q : Option Sign} → r ≡ q → IsSign (get_or text p 0 ∷ get_or text (p + 1) 0 ∷ []) q
      answered e = subst₂ (λ (c : ℕ) (q : Option Sign). IsSign (get_or text p 0 ∷ c ∷ []) q) second e two

      pub pair_first : (x : Sign) → r ≡ Some x → FirstToken text p (Token.Sign p (p + 2) x)
      pair_first x e = two_first signs-kind x (answered e)

      pub single_first : (x : Sign) {q : Option Sign}
          → r ≡ None
          → IsSign (get_or text p 0 ∷ []) q
          → q ≡ Some x
          → FirstToken text p (Token.Sign p (p + 1) x)
      single_first x e one f = one_first signs-kind x (no_sign (answered e)) (subst (IsSign (get_or text p 0 ∷ [])) f one)

      pub neither_first : {q : Option Sign}
          → r ≡ None
          → IsSign (get_or text p 0 ∷ []) q
          → q ≡ None
          → FirstToken text p (Token.Broken p)
      neither_first e one f = sign_bad signs-kind (no_sign (answered e)) (no_sign (subst (IsSign (get_or text p 0 ∷ [])) f one))

  -- no sign begins with a byte of another kind
  pub other_bad : kind_of (get_or text p 0) ≡ Kinds.Other → FirstToken text p (Token.Broken p)
  other_bad k = sign_bad (kind-sorted (get_or text p 0) k) (no_begin (get_or text p 0) k) (no_begin (get_or text p 0) k)

  -- white space or a comment up to a place
  skipped : {e : ℕ} → p < e → lex (drop p text) ≡ skip (e - p) → Skips text p e
  skipped {e} h l =
      let end : p + (e - p) ≡ e = omega arith in
      let left : drop (e - p) (drop p text) ≡ drop e text = drop-drop (e - p) p text ∙ ap (λ (n : ℕ). drop n text) end in
      record { onward = h; blank = subst (Blank (drop p text) (e - p)) left (lexed (drop p text) l) }

  -- one byte of white space
  pub white_skips : T (is_white (get_or text p 0)) → Skips text p (p + 1)
  unfolding lex_as
  white_skips w = skipped (omega arith) (starts (kind_white (get_or text p 0) w) ∙ ap skip (omega arith))

  slash-kind : get_or text p 0 ≡ slash → kind (get_or text p 0) ≡ for_comment
  unfolding kind
  slash-kind s = rw s

  -- a slash begins a comment if another follows
  pub comment_skips : {e : ℕ}
      → get_or text p 0 ≡ slash
      → get_or text (p + 1) 0 ≡ slash
      → Run in_comment text (p + 2) e
      → Skips text p e
  unfolding lex_as
  comment_skips {e} s h r =
      let third : suc p + 1 ≡ p + 2 = omega arith in
      let body : drop 1 (drop (suc p) text) ≡ drop (p + 2) text = drop-drop 1 (suc p) text ∙ ap (λ (n : ℕ). drop n text) third in
      let long : run in_comment (drop (p + 2) text) + 2 ≡ e - p = omega (arith, run_length r) in
      skipped (omega (arith, run-onward r))
      (starts (slash-kind s)
      ∙ (comment_on (drop (suc p) text) (nth 0 (p + 1) (omega arith) ∙ h)
      ∙ (ap (λ (l : List ℕ). skip (run in_comment l + 2)) body ∙ ap skip long)))

  -- and else nothing
  pub slash_bad : get_or text p 0 ≡ slash → ¬ (get_or text (p + 1) 0 ≡ slash) → FirstToken text p (Token.Broken p)
  unfolding lex_as
  slash_bad s h =
      let other : ¬ (get_or (drop (suc p) text) 0 0 ≡ slash) = rw (nth 0 (p + 1) (omega arith)) h in
      bad_first (lexed (drop p text) (starts (slash-kind s) ∙ comment_off (drop (suc p) text) other))
