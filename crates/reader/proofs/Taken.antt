-- One token and no other: what the readers of one word and of one sign rely on, and what follows from their answers.
use Prim.Native.Nat.{ℕ}
use mathlib.Core.Path.{◌≡◌, refl, sym, ap, ◌∙◌, subst}
use mathlib.Core.Bool.{Bool, true, false, not}
use mathlib.Core.Logic.{◌⊎◌, inl, inr}
use mathlib.Core.Option.{Option, none, some}
use mathlib.Core.List.{List, [], ◌∷◌}
use Rattle.std.specs.Prelude.{Result, Ok, Err}
use Rattle.std.specs.Result.{result_or}
use lib.Dec.{T}
use Rattle.text.specs.Token as Spelt
use Rattle.text.specs.Token.{word, number, letter, sign}
use Rattle.text.specs.Tokens.{Placed, ◌at◌}
use Rattle.text.specs.First.{Name, reserved, name, IsNamed, IsWord, written, part, FirstToken}
use Rattle.text.specs.declared.Word.{Word}
use Rattle.text.specs.declared.Sign.{Sign}
use Rattle.text.specs.declared.Token.{Token}
use Rattle.text.specs.Inside.Same.{same_token}
use Rattle.text.proofs.Runs.{T_true}
use Rattle.text.proofs.Same.{same_token_lem}
use Rattle.text.proofs.Tokens.{tokens_once}
use Rattle.text.proofs.Named.{word_is}
use Rattle.text.proofs.Signed.{sign-is, sign_of, all_signs}
use Rattle.rule.specs.Inside.Class.{Fixed, spell, Class, mark, other, token_of, classify}
use Rattle.rule.proofs.Machine.Class.{token_of_class, class_of_mark, same_self}
use Rattle.rule.proofs.Machine.Follow.{unlike, not_first}
use Rattle.rule.specs.Inside.Machine.{Expected, exact, Stack, Totals, Move, Choice, on, on_number, on_letter, choices, pick, take}
use Rattle.table.specs.declared.reason.Refusal.{Refusal}
use Rattle.atoms.specs.Atom.{refusal_of}
use Rattle.reader.specs.Inside.Answers.{Front, end_of, Took, Moved, Lacks, Missing, Takes, spot, totals, Answers, ReadsOn}
use Rattle.reader.specs.declared.answers.Reader.{Reader}
use Rattle.reader.proofs.Front.{named, named_class, class_of, front_word, front_number, front_letter, front_sign}
use Rattle.reader.proofs.Missed as Missed
use Rattle.reader.proofs.Missed.{refused}
use Rattle.reader.proofs.Moves.{arrived, took_with}

-- how a token is spelt, if there is one
abbrev pub spelt : List ℕ → Token → Option Spelt.Token
spelt text (Token.Word p q x) = some (word (part text p q))
spelt text (Token.Number p q) = some (number (part text p q))
spelt text (Token.Letter p q b) = some (letter b)
spelt text (Token.Sign p q x) = some (sign (written x))
spelt text (Token.End p) = none
spelt text (Token.Broken p) = none

abbrev pub first_in : List Placed → Option Spelt.Token
first_in [] = none
first_in ((t at p) ∷ ts) = some t

pub spelt_lem : {text : List ℕ} {from : ℕ} (k : Token) (f : FirstToken text from k) → first_in f.tokens ≡ spelt text k
spelt_lem (Token.Word p q x) f = ap first_in f.begins.next.first
spelt_lem (Token.Number p q) f = ap first_in f.begins.first
spelt_lem (Token.Letter p q b) f = ap first_in f.begins.first
spelt_lem (Token.Sign p q x) f = ap first_in f.begins.first
spelt_lem (Token.End p) f = ap first_in f.begins.none
spelt_lem (Token.Broken p) f = ap first_in f.begins.none

-- a token that is spelt otherwise is missing
abbrev pub lacking : {text : List ℕ} {from : ℕ} (m : Fixed) (k : Token) → FirstToken text from k → ¬ (spelt text k ≡ some (spell m)) → Lacks m text from
lacking m k f h = record { token = k; first = f; none = λ p ts e. h (sym (spelt_lem k f) ∙ ap first_in e) }

-- it is no word, or no sign
pub no_word : (text : List ℕ) (k : Token) (l : List ℕ) → ((p q : ℕ) (x : Word) → ¬ (k ≡ Token.Word p q x)) → ¬ (spelt text k ≡ some (word l))
no_word text (Token.Word p q x) l h e = h p q x refl
no_word text (Token.Number p q) l h e = cc
no_word text (Token.Letter p q b) l h e = cc
no_word text (Token.Sign p q x) l h e = cc
no_word text (Token.End p) l h e = cc
no_word text (Token.Broken p) l h e = cc

pub no_sign : (text : List ℕ) (k : Token) (l : List ℕ) → ((p q : ℕ) (x : Sign) → ¬ (k ≡ Token.Sign p q x)) → ¬ (spelt text k ≡ some (sign l))
no_sign text (Token.Word p q x) l h e = cc
no_sign text (Token.Number p q) l h e = cc
no_sign text (Token.Letter p q b) l h e = cc
no_sign text (Token.Sign p q x) l h e = h p q x refl
no_sign text (Token.End p) l h e = cc
no_sign text (Token.Broken p) l h e = cc

-- or another word, or another sign
pub another_word : {text : List ℕ} {from p q : ℕ} {x y : Word} {l : List ℕ} {k : Token}
    → FirstToken text from k
    → k ≡ Token.Word p q x
    → name y ≡ reserved l
    → ¬ (x ≡ y)
    → ¬ (spelt text k ≡ some (word l))
another_word {text} {from} {p} {q} {x} {y} {l} f is named_so differs e =
    let g = subst (λ (u : Token). FirstToken text from u) is f in
    let bytes : some (word (part text p q)) ≡ some (word l) = sym (ap (spelt text) is) ∙ e in
    let written_so : part text p q ≡ l = cc in
    let is_y : IsWord y (part text p q) = subst (λ (n : Name). IsNamed n (part text p q)) (sym named_so) written_so in
    differs (word_is x (part text p q) g.begins.which ∙ sym (word_is y (part text p q) is_y))

pub another_sign : (text : List ℕ) {p q : ℕ} {x y : Sign} {k : Token} → k ≡ Token.Sign p q x → ¬ (x ≡ y) → ¬ (spelt text k ≡ some (sign (written y)))
another_sign text {x = x} {y = y} is differs e =
    let bytes : some (sign (written x)) ≡ some (sign (written y)) = sym (ap (spelt text) is) ∙ e in
    let written_so : written x ≡ written y = cc in
    differs (sign-is x ∙ ap (sign_of all_signs) written_so ∙ sym (sign-is y))

-- what is missing is spelt otherwise
pub missing : {r : Reader} {m : Fixed} {k : Token} {f : Refusal} {t : Spelt.Token}
    → FirstToken r.text.now r.at k
    → spell m ≡ t
    → ¬ (spelt r.text.now k ≡ some t)
    → f ≡ refusal_of k
    → Missing m r f
missing {r} {m} {k} f spelt_so h is = record { lacks = lacking m k f (λ e. h (e ∙ ap some spelt_so)); is = is }

-- a token behind which a reader goes on
module _ {r z : Reader} {k : Token} (h : Took r k z) where
  moved : {c : Class} {p q : ℕ} → end_of r.at k ≡ q → Front r.text.now r.at c p q → Moved r c z
  moved {c} {p} e f =
      record {
        place = p;
        front = subst (λ (end : ℕ). Front r.text.now r.at c p end) (sym (h.onward.at_is ∙ e)) f;
        same = h.onward.same;
        counts_are = h.onward.counts_are;
      }

  pub moved_word : {p q : ℕ} {x : Word} → k ≡ Token.Word p q x → Moved r (named (name x) (part r.text.now p q)) z
  moved_word e = moved (ap (end_of r.at) e) (front_word h.first e)

  pub moved_number : {p q : ℕ} → k ≡ Token.Number p q → Moved r (Class.number (part r.text.now p q)) z
  moved_number e = moved (ap (end_of r.at) e) (front_number h.first e)

  pub moved_letter : {p q b : ℕ} → k ≡ Token.Letter p q b → Moved r (Class.letter b) z
  moved_letter e = moved (ap (end_of r.at) e) (front_letter h.first e)

  pub moved_sign : {p q : ℕ} {x : Sign} → k ≡ Token.Sign p q x → Moved r (classify (sign (written x))) z
  moved_sign e = moved (ap (end_of r.at) e) (front_sign h.first e)

  -- the one that is wanted
  pub this_word : {p q : ℕ} {x y : Word} {l : List ℕ} {m : Fixed}
      → k ≡ Token.Word p q x
      → x ≡ y
      → name y ≡ reserved l
      → spell m ≡ word l
      → Moved r (mark m) z
  this_word {p} {q} {x} {y} {l} {m} e told named_so spelt_so =
      let class : named (name x) (part r.text.now p q) ≡ mark m =
      ap (λ (w : Word). named (name w) (part r.text.now p q)) told
      ∙ ap (λ (n : Name). named n (part r.text.now p q)) named_so
      ∙ ap classify (sym spelt_so)
      ∙ class_of_mark m
      in
      subst (λ (c : Class). Moved r c z) class (moved_word e)

  pub this_sign : {p q : ℕ} {x y : Sign} {m : Fixed} → k ≡ Token.Sign p q x → x ≡ y → spell m ≡ sign (written y) → Moved r (mark m) z
  this_sign {m = m} e told spelt_so =
      let class = ap (λ (s : Sign). classify (sign (written s))) told ∙ ap classify (sym spelt_so) ∙ class_of_mark m in
      subst (λ (c : Class). Moved r c z) class (moved_sign e)

-- what is answered of one token
pub taken : {r z : Reader} {m : Fixed} {u : Result Reader Refusal} → Takes m r u → u ≡ Ok z → Moved r (mark m) z
taken {r} {m = m} h e = (subst (Takes m r) e h).right

pub missed_one : {r : Reader} {m : Fixed} {u : Result Reader Refusal} {f : Refusal} → Takes m r u → u ≡ Err f → Missing m r f
missed_one {r} {m = m} h e = (subst (Takes m r) e h).right

-- what the token that comes first is not
unlike_first : (m : Fixed) (ts : List Placed) → ((p : ℕ) (us : List Placed) → ¬ (ts ≡ (spell m at p) ∷ us)) → T (not_first m ts)
unlike_first m [] h = tt
unlike_first m ((t at p) ∷ ts) h = by_cases (classify t) refl
  where
    by_cases : (c : Class) → classify t ≡ c → T (unlike m c)
    by_cases (mark n) e = on (same_token (spell n) (spell m)) refl
      where
        on : (b : Bool) → same_token (spell n) (spell m) ≡ b → T (not b)
        on true s =
            let spelt_so : t ≡ spell m = sym (token_of_class t) ∙ ap token_of e ∙ same_token_lem (spell n) (spell m) (subst T (sym s) tt) in
            absurd (h p ts (ap (λ (u : Spelt.Token). (u at p) ∷ ts) spelt_so))
        on false s = tt
    by_cases (Class.number l) e = tt
    by_cases (Class.letter b) e = tt
    by_cases (other u) e = tt

pub unlike_here : {text : List ℕ} {from : ℕ} {m : Fixed} {k : Token} → Lacks m text from → (f : FirstToken text from k) → T (not_first m f.tokens)
unlike_here {m = m} h f = unlike_first m f.tokens (λ p ts e. h.none p ts ((tokens_once h.first.all f.all).0 ∙ e))

-- and by the class of the token
class_unlike : {text : List ℕ} {from : ℕ} (m : Fixed) (k : Token) (f : FirstToken text from k) → T (not_first m f.tokens) → T (unlike m (class_of text k))
class_unlike {text} m (Token.Word p q x) f h =
    let first : T (unlike m (classify (word (part text p q)))) = subst (λ (ts : List Placed). T (not_first m ts)) f.begins.next.first h in
    subst (λ (c : Class). T (unlike m c)) (named_class (name x) (part text p q) f.begins.which) first
class_unlike m (Token.Number p q) f h = tt
class_unlike m (Token.Letter p q b) f h = tt
class_unlike m (Token.Sign p q x) f h = subst (λ (ts : List Placed). T (not_first m ts)) f.begins.first h
class_unlike m (Token.End p) f h = tt
class_unlike m (Token.Broken p) f h = tt

pub unlike_class : {text : List ℕ} {from : ℕ} {m : Fixed} {k : Token} → Lacks m text from → FirstToken text from k → T (unlike m (class_of text k))
unlike_class {m = m} {k = k} h f = class_unlike m k f (unlike_here h f)

-- a choice of one mark takes no other
pub take_unlike : {A : Type 0} (m : Fixed) (o : Move A) (c : Class) → T (unlike m c) → take (on m o) c ≡ none
take_unlike {A} m o (mark n) h = by_cases (same_token (spell n) (spell m)) h
  where
    by_cases : (b : Bool) → T (not b) → ◌≡◌ {A = Option (Move A)} (elim b [ true ↦ some o | false ↦ none ]) none
    by_cases true h = absurd h
    by_cases false h = refl
take_unlike m o (Class.number l) h = refl
take_unlike m o (Class.letter b) h = refl
take_unlike m o (other u) h = refl

-- none of these marks is a token's
abbrev pub Untaken : {A : Type 0} → List (Choice A) → Class → Type 0
Untaken [] c = Unit {0}
Untaken (on m o ∷ cs) c = T (unlike m c) × Untaken cs c
Untaken (on_number o ∷ cs) c = ⊥
Untaken (on_letter o ∷ cs) c = ⊥

pub untaken_lem : {A : Type 0} (cs : List (Choice A)) (c : Class) → Untaken cs c → pick cs c ≡ none
untaken_lem [] c h = refl
untaken_lem (on m o ∷ cs) c h =
    let here = take_unlike m o c h.0 in
    rw (here, pick) (untaken_lem cs c h.1)
untaken_lem (on_number o ∷ cs) c h = absurd h
untaken_lem (on_letter o ∷ cs) c h = absurd h

-- so what comes first is refused
pub picks-none : (text : List ℕ) (t : Totals) (x : Expected) (k : Token) → ((p : ℕ) → pick (choices t p x) (class_of text k) ≡ none) → Missed.Misses text t x k
picks-none text t x (Token.Word p q v) h = h p
picks-none text t x (Token.Number p q) h = h p
picks-none text t x (Token.Letter p q b) h = h p
picks-none text t x (Token.Sign p q v) h = h p
picks-none text t x (Token.End p) h = tt
picks-none text t x (Token.Broken p) h = tt

-- its class, where a mark is missing
abbrev pub class_here : {r : Reader} {m : Fixed} {f : Refusal} → Missing m r f → Class
class_here {r} h = class_of r.text.now h.lacks.token

pub unlike_it : {r : Reader} {m n : Fixed} {f : Refusal} (h : Missing m r f) → Lacks n r.text.now r.at → T (unlike n (class_here h))
unlike_it h too = unlike_class too h.lacks.first

module _ {r : Reader} {x : Expected} {t : Totals} {w y : Stack} {b : List ℕ} {m : Fixed} {f : Refusal} (h : Missing m r f) where
  pub refuses_all : ((p : ℕ) → Untaken (choices t p x) (class_here h)) → Answers r.text.now (spot r.at (x ∷ w) t) y b (Err f)
  refuses_all untaken = refused h.lacks.first h.is (picks-none r.text.now t x h.lacks.token (λ p. untaken_lem (choices t p x) _ (untaken p)))

  pub refuses_unlike : ((p : ℕ) (c : Class) → T (unlike m c) → Untaken (choices t p x) c) → Answers r.text.now (spot r.at (x ∷ w) t) y b (Err f)
  refuses_unlike untaken = refuses_all (λ p. untaken p _ (unlike_it h h.lacks))

  -- and where another mark is missing too
  pub refuses_both : {n : Fixed} → Lacks n r.text.now r.at → ((p : ℕ) (c : Class) → T (unlike n c) → T (unlike m c) → Untaken (choices t p x) c) → Answers r.text.now (spot r.at (x ∷ w) t) y b (Err f)
  refuses_both too untaken = refuses_all (λ p. untaken p _ (unlike_it h too) (unlike_it h h.lacks))

-- the mark that is expected exactly
exact_picks : (m : Fixed) (t : Totals) (p : ℕ) → pick (choices t p (exact m)) (mark m) ≡ some (record { breaks = false; fault = 0; push = []; totals = t; makes = λ st vs. (tt, vs) })
exact_picks m t p =
    let same : same_token (spell m) (spell m) ≡ true = T_true _ (same_self (spell m)) in
    rw (same, pick)

pub exactly : {r : Reader} {m : Fixed} {a : List ℕ} {u : Result Reader Refusal} → Takes m r u → ReadsOn r (exact m ∷ []) [] a u
exactly {r} {m} {a} {u = Ok z} h = arrived (took_with h.right [] (exact_picks m (totals a r.counts) h.right.place) refl refl)
exactly {r} {m} {a} {u = Err f} h = refuses_unlike h.right (λ p c n. (n, tt))

-- one of two tokens
module _ {r : Reader} {m n : Fixed} {u v o : Result Reader Refusal} (first : Takes m r u) (second : Takes n r v) (is : o ≡ result_or u v) where
  pub either_taken : {z : Reader} → o ≡ Ok z → Moved r (mark m) z ⊎ Moved r (mark n) z
  either_taken {z} e = by_cases u first (sym is ∙ e)
    where
      by_cases : (u : Result Reader Refusal) → Takes m r u → result_or u v ≡ Ok z → Moved r (mark m) z ⊎ Moved r (mark n) z
      by_cases (Ok y) h g = inl (taken h g)
      by_cases (Err f) h g = inr (taken second g)

  pub neither_taken : {f : Refusal} → o ≡ Err f → Lacks m r.text.now r.at × Missing n r f
  neither_taken {f} e = by_cases u first (sym is ∙ e)
    where
      by_cases : (u : Result Reader Refusal) → Takes m r u → result_or u v ≡ Err f → Lacks m r.text.now r.at × Missing n r f
      by_cases (Ok y) h g = absurd cc
      by_cases (Err d) h g = (h.right.lacks, missed_one second g)
