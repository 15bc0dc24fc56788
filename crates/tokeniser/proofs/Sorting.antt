-- A byte's kind by the arm of a match that it falls in, and the tests that the kind decides.
use Prim.Native.Nat.{ℕ}
use mathlib.Core.Path.{◌≡◌, refl, sym, ap, ◌∙◌, subst}
use mathlib.Core.Bool.{Bool, true, false, ◌||◌}
use mathlib.Core.Logic.{inl, inr}
use mathlib.Core.List.{List, [], ◌∷◌, Memᴰ}
use lib.Dec.{T, eqb, ltb, eqb→eq, eqb_refl}
use types.Run.{OneOf}
use denote.Enum.Declared.{tag_of}
use Rattle.bits.proofs.Tests.{or_left, or_right, every}
use Rattle.bits.specs.Byte.{is_digit, is_alphabetic}
use Rattle.text.specs.Token.{begins_word, quote, signs}
use Rattle.text.specs.Tokens.{is_white, slash}
use Rattle.tokeniser.specs.Inside.Tokenising.{begins, sorted, kind_of}
use Rattle.tokeniser.specs.declared.kinds.Kind.{Kind}
use Rattle.tokeniser.specs.declared.kinds.Kind.TheVariants.{Digit, Alphabetic, Underscore, Quote, White, Slash, Sign, Other}
use Rattle.tokeniser.specs.contracts.kinds.Kind.{the_type}
use Rattle.text.specs.Inside.Scan as Scan
use Rattle.text.specs.Inside.Scan.{for_token, for_white, for_comment, of_word, of_number, of_letter, of_sign}
use Rattle.text.proofs.Reach.{kind_says, digit_no_word}
use Rattle.text.proofs.Runs.{T_both}

-- a test that passes for each of some keys passes for what is one of them
pub keyed : (test : ℕ → Bool) (ks : List ℕ) (b : ℕ) → T (every test ks) → OneOf ks b → T (test b)
keyed test [] b t e = absurd e
keyed test (k ∷ []) b t e = subst (λ (x : ℕ). T (test x)) (sym e) (T_both (test k) true t).0
keyed test (k ∷ l ∷ ks) b t (inl e) = subst (λ (x : ℕ). T (test x)) (sym e) (T_both (test k) (every test (l ∷ ks)) t).0
keyed test (k ∷ l ∷ ks) b t (inr e) = keyed test (l ∷ ks) b (T_both (test k) (every test (l ∷ ks)) t).1 e

-- a kind has a number, by which it is found
abbrev tag : Kind → ℕ
tag = tag_of the_type

-- what the tokeniser that computes makes of a kind
abbrev pub as_kind : Kind → Scan.Kind
as_kind Digit = for_token of_number
as_kind Alphabetic = for_token of_word
as_kind Underscore = for_token of_word
as_kind Quote = for_token of_letter
as_kind White = for_white
as_kind Slash = for_comment
as_kind Sign = for_token of_sign
as_kind Other = for_token of_sign

same_kind_lem : (d a u q w s g : Bool) → (T d → (a || u) ≡ false) → Scan.sorted (a || u) d q w s ≡ as_kind (sorted d a u q w s g)
same_kind_lem true a u q w s g h = rw (h tt)
same_kind_lem false true u q w s g h = refl
same_kind_lem false false true q w s g h = refl
same_kind_lem false false false true w s g h = refl
same_kind_lem false false false false true s g h = refl
same_kind_lem false false false false false true g h = refl
same_kind_lem false false false false false false true h = refl
same_kind_lem false false false false false false false h = refl

-- and that is the byte's kind there
pub kind-sorted : (b : ℕ) {k : Kind} → kind_of b ≡ k → Scan.kind b ≡ as_kind k
unfolding Scan.kind
kind-sorted b e =
    same_kind_lem (is_digit b) (is_alphabetic b) (eqb b 95) (eqb b quote) (is_white b) (eqb b slash) (begins signs b) (digit_no_word b)
    ∙ ap as_kind e

-- the first byte of one of these lists
begins_later : (b : ℕ) (l : List ℕ) (ls : List (List ℕ)) → T (begins ls b) → T (begins (l ∷ ls) b)
begins_later b [] ls t = t
begins_later b (c ∷ l) ls t = or_right (eqb b c) (begins ls b) t

begins-mem : {b : ℕ} {l : List ℕ} {ls : List (List ℕ)} → Memᴰ (b ∷ l) ls → T (begins ls b)
begins-mem {b} {l} (Memᴰ.head {x = x} {xs = xs} e) =
    subst (λ (y : List ℕ). T (begins (y ∷ xs) b)) e (or_left (eqb b b) (begins xs b) (eqb_refl b))
begins-mem {b} (Memᴰ.tail {x = x} {xs = xs} m) = begins_later b x xs (begins-mem m)

not_other : (d a u q w s g : Bool) → T g → T (ltb (tag (sorted d a u q w s g)) 7)
not_other true a u q w s g t = tt
not_other false true u q w s g t = tt
not_other false false true q w s g t = tt
not_other false false false true w s g t = tt
not_other false false false false true s g t = tt
not_other false false false false false true g t = tt
not_other false false false false false false true t = tt
not_other false false false false false false false t = absurd t

-- no sign begins with a byte of the last kind
pub no_begin : (b : ℕ) {l : List ℕ} → kind_of b ≡ Other → ¬ Memᴰ (b ∷ l) signs
no_begin b e m =
    subst (λ (k : Kind). T (ltb (tag k) 7)) e
    (not_other (is_digit b) (is_alphabetic b) (eqb b 95) (eqb b quote) (is_white b) (eqb b slash) (begins signs b) (begins-mem m))

-- what the kind of a byte tells of it
abbrev pub Told : Kind → ℕ → Type 0
Told Digit b = T (is_digit b)
Told Alphabetic b = T (begins_word b)
Told Underscore b = T (begins_word b)
Told Quote b = b ≡ quote
Told White b = T (is_white b)
Told Slash b = b ≡ slash
Told Sign b = kind_of b ≡ Sign
Told Other b = kind_of b ≡ Other

tells : (k : Kind) (b : ℕ) → kind_of b ≡ k → Told k b
tells Digit b e = kind_says b (as_kind Digit) (kind-sorted b e)
tells Alphabetic b e = kind_says b (as_kind Alphabetic) (kind-sorted b e)
tells Underscore b e = kind_says b (as_kind Underscore) (kind-sorted b e)
tells Quote b e = eqb→eq b quote (kind_says b (as_kind Quote) (kind-sorted b e))
tells White b e = kind_says b (as_kind White) (kind-sorted b e)
tells Slash b e = eqb→eq b slash (kind_says b (as_kind Slash) (kind-sorted b e))
tells Sign b e = e
tells Other b e = e

-- and of one that is sorted so
pub told : (k : Kind) (b : ℕ) {j : Kind} → j ≡ kind_of b → j ≡ k → Told k b
told k b e f = tells k b (sym e ∙ f)
