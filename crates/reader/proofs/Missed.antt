-- A token that no choice takes is refused where it stands, and so is the end of the text.
use Prim.Native.Nat.{ℕ}
use mathlib.Core.Path.{◌≡◌, refl, sym, ap, subst}
use mathlib.Core.Bool.{Bool, true, false, not}
use mathlib.Core.Option.{Option, none, some}
use mathlib.Core.List.{List, [], ◌∷◌, map}
use Rattle.std.specs.Prelude.{Err}
use lib.Dec.{T, T_not, eqb, eqb_refl}
use mir.Facts.{or_no}
use mir.Val.{has_key}
use Rattle.text.specs.Token as Spelt
use Rattle.text.specs.Token.{word, number, letter, sign}
use Rattle.text.specs.First.{Name, reserved, unreserved, name, written, part, FirstToken}
use Rattle.text.specs.declared.Token.{Token}
use Rattle.text.proofs.Same.{same_token_lem}
use Rattle.text.specs.Inside.Same.{same_token}
use Rattle.rule.specs.Inside.Class.{spell, Class, mark, other, token_of}
use Rattle.rule.proofs.Machine.Class.{token_of_class}
use Rattle.rule.specs.Inside.Machine.{Expected, Stack, Totals, Move, Choice, on, on_number, on_letter, choices, take, pick, run}
use Rattle.atoms.specs.Atom.{refusal_of}
use Rattle.reader.specs.Inside.Answers.{spot, Stops, Answers}
use Rattle.table.specs.declared.reason.Refusal.{Refusal}
use Rattle.reader.proofs.Front.{named, class_of, front_word, front_number, front_letter, front_sign}
use Rattle.reader.proofs.Moves.{misses, under_stops}

-- the sort of a token, by the number that its variant has in the code
abbrev pub sort : Spelt.Token → ℕ
sort (word l) = 0
sort (number l) = 1
sort (letter b) = 2
sort (sign l) = 3

abbrev sort_taken : {A : Type 0} → Choice A → ℕ
sort_taken (on m r) = sort (spell m)
sort_taken (on_number r) = 1
sort_taken (on_letter r) = 2

module _ {A : Type 0} where
  take_none : (c : Choice A) (k : Class) → ¬ (sort (token_of k) ≡ sort_taken c) → take c k ≡ none
  take_none (on m r) (mark n) h = by_cases (same_token (spell n) (spell m)) refl
    where
      by_cases : (b : Bool) → same_token (spell n) (spell m) ≡ b → ◌≡◌ {A = Option (Move A)} (elim b [ true ↦ some r | false ↦ none ]) none
      by_cases true e = absurd (h (ap sort (same_token_lem (spell n) (spell m) (subst T (sym e) tt))))
      by_cases false e = refl
  take_none (on m r) (Class.number l) h = refl
  take_none (on m r) (Class.letter b) h = refl
  take_none (on m r) (other u) h = refl
  take_none (on_number r) (mark n) h = refl
  take_none (on_number r) (Class.number l) h = absurd (h refl)
  take_none (on_number r) (Class.letter b) h = refl
  take_none (on_number r) (other u) h = refl
  take_none (on_letter r) (mark n) h = refl
  take_none (on_letter r) (Class.number l) h = refl
  take_none (on_letter r) (Class.letter b) h = absurd (h refl)
  take_none (on_letter r) (other u) h = refl

  -- no choice takes a token of this sort
  abbrev pub untaken : List (Choice A) → ℕ → Bool
  untaken cs n = not (has_key (map sort_taken cs) n)

  untaken_none : (cs : List (Choice A)) (k : Class) → T (untaken cs (sort (token_of k))) → pick cs k ≡ none
  untaken_none [] k t = refl
  untaken_none (c ∷ cs) k t =
      let here = or_no (eqb (sort_taken c) (sort (token_of k))) (has_key (map sort_taken cs) (sort (token_of k))) t in
      let none_here = take_none c k (λ e. T_not (eqb (sort_taken c) (sort (token_of k))) here.0 (rw e (eqb_refl (sort_taken c)))) in
      rw (none_here, pick) (untaken_none cs k here.1)

-- no choice takes this token
abbrev pub Misses : List ℕ → Totals → Expected → Token → Type 0
Misses text t x (Token.Word p q w) = pick (choices t p x) (class_of text (Token.Word p q w)) ≡ none
Misses text t x (Token.Number p q) = pick (choices t p x) (class_of text (Token.Number p q)) ≡ none
Misses text t x (Token.Letter p q b) = pick (choices t p x) (class_of text (Token.Letter p q b)) ≡ none
Misses text t x (Token.Sign p q s) = pick (choices t p x) (class_of text (Token.Sign p q s)) ≡ none
Misses text t x (Token.End p) = Unit {0}
Misses text t x (Token.Broken p) = Unit {0}

sort_named : (n : Name) (l : List ℕ) → sort (token_of (named n l)) ≡ 0
sort_named (reserved b) l = ap sort (token_of_class (word b))
sort_named unreserved l = refl

-- the sort of a token of the code, and 4 where there is none
abbrev pub sort_in : Token → ℕ
sort_in (Token.Word p q w) = 0
sort_in (Token.Number p q) = 1
sort_in (Token.Letter p q b) = 2
sort_in (Token.Sign p q s) = 3
sort_in (Token.End p) = 4
sort_in (Token.Broken p) = 4

-- no choice takes it, since nothing of its sort is taken
module _ (text : List ℕ) (x : Expected) (t : Totals) where
  pub missed_sort : (k : Token) → ((p : ℕ) → T (untaken (choices t p x) (sort_in k))) → Misses text t x k
  missed_sort (Token.Word p q w) h = untaken_none (choices t p x) (class_of text (Token.Word p q w)) (rw (sort_named (name w) (part text p q)) (h p))
  missed_sort (Token.Number p q) h = untaken_none (choices t p x) (Class.number (part text p q)) (h p)
  missed_sort (Token.Letter p q b) h = untaken_none (choices t p x) (Class.letter b) (h p)
  missed_sort (Token.Sign p q s) h = untaken_none (choices t p x) (class_of text (Token.Sign p q s)) (rw (token_of_class (sign (written s))) (h p))
  missed_sort (Token.End p) h = tt
  missed_sort (Token.Broken p) h = tt

-- it is no number, or no letter
pub no_number : (k : Token) → ((p q : ℕ) → ¬ (k ≡ Token.Number p q)) → T (not (has_key (1 ∷ []) (sort_in k)))
no_number (Token.Word p q w) h = tt
no_number (Token.Number p q) h = absurd (h p q refl)
no_number (Token.Letter p q b) h = tt
no_number (Token.Sign p q s) h = tt
no_number (Token.End p) h = tt
no_number (Token.Broken p) h = tt

pub no_letter : (k : Token) → ((p q b : ℕ) → ¬ (k ≡ Token.Letter p q b)) → T (not (has_key (2 ∷ []) (sort_in k)))
no_letter (Token.Word p q w) h = tt
no_letter (Token.Number p q) h = tt
no_letter (Token.Letter p q b) h = absurd (h p q b refl)
no_letter (Token.Sign p q s) h = tt
no_letter (Token.End p) h = tt
no_letter (Token.Broken p) h = tt

module _ {text : List ℕ} {from : ℕ} {x : Expected} {t : Totals} where
  pub missed : (k : Token) → FirstToken text from k → Misses text t x k → Stops text (spot from (x ∷ []) t) (refusal_of k)
  unfolding run
  missed (Token.Word p q w) f h = misses x t (front_word f refl) h
  missed (Token.Number p q) f h = misses x t (front_number f refl) h
  missed (Token.Letter p q b) f h = misses x t (front_letter f refl) h
  missed (Token.Sign p q s) f h = misses x t (front_sign f refl) h
  missed (Token.End p) f h =
      record {
        before = f.tokens;
        ending = f.ending;
        here = f.all;
        same = λ st. rw (f.begins.none, f.begins.ended, run);
      }
  missed (Token.Broken p) f h =
      record {
        before = f.tokens;
        ending = f.ending;
        here = f.all;
        same = λ st. rw (f.begins.none, f.begins.ended, run);
      }

  module _ {w y : Stack} {b : List ℕ} {k : Token} {r : Refusal} (f : FirstToken text from k) where
    pub refused : r ≡ refusal_of k → Misses text t x k → Answers text (spot from (x ∷ w) t) y b (Err r)
    refused right h = record { right = rw right (under_stops w (missed k f h)) }

    pub refuses : ((p : ℕ) → T (untaken (choices t p x) (sort_in k))) → r ≡ refusal_of k → Answers text (spot from (x ∷ w) t) y b (Err r)
    refuses h right = refused right (missed_sort text x t k h)
