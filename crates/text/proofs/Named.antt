-- A reserved word is known by how it is written, and bytes are one word only.
use Prim.Native.Nat.{ℕ}
use mathlib.Core.Path.{◌≡◌, refl, sym, ap, ◌∙◌}
use mathlib.Core.Bool.{Bool, true, false, true≢false}
use mathlib.Core.List.{List, [], ◌∷◌}
use Rattle.bits.proofs.Tests.{same_list_lem}
use Rattle.bits.specs.Inside.Same.{same_list}
use Rattle.text.specs.First.{Name, reserved, unreserved, name, IsNamed, IsWord}
use Rattle.text.specs.declared.Word.{Word}
use Rattle.text.proofs.Runs.{true_T}

-- the reserved words
abbrev pub all_words : List Word
all_words =
    Word.Rend
    ∷ Word.Lend
    ∷ Word.Read
    ∷ Word.Also
    ∷ Word.Branch
    ∷ Word.Choose
    ∷ Word.While
    ∷ Word.Else
    ∷ Word.If
    ∷ Word.Reject
    ∷ Word.Accept
    ∷ Word.C
    ∷ Word.Goto
    ∷ Word.Move
    ∷ Word.String
    ∷ Word.Twoc
    ∷ Word.False
    ∷ Word.True
    ∷ Word.DecrOnZero
    ∷ Word.Alphabet
    ∷ []

infixr 40 ◌nor◌
-- these bytes are none of these words
data NoneOf : List Word → List ℕ → Type 0 where
  none : {l : List ℕ} → NoneOf [] l
  ◌nor◌ : {x : Word} {xs : List Word} {l : List ℕ} → ¬ (name x ≡ reserved l) → NoneOf xs l → NoneOf (x ∷ xs) l

is_named : Name → List ℕ → Bool
is_named (reserved bytes) l = same_list bytes l
is_named unreserved l = false

is_named_lem : (n : Name) (l : List ℕ) → is_named n l ≡ true → n ≡ reserved l
unfolding is_named
is_named_lem (reserved bytes) l e = ap reserved (same_list_lem bytes l (true_T e))
is_named_lem unreserved l e = absurd (true≢false (sym e))

-- the first of these words that the bytes are
pub found : List Word → List ℕ → Word
unfolding is_named
found [] l = Word.Other
found (x ∷ xs) l = elim (is_named (name x) l) [ true ↦ x | false ↦ found xs l ]

word_of : Name → Word
unfolding found
word_of (reserved bytes) = found all_words bytes
word_of unreserved = Word.Other

word_of_name : (x : Word) → word_of (name x) ≡ x
unfolding word_of
word_of_name Word.Alphabet = refl
word_of_name Word.DecrOnZero = refl
word_of_name Word.True = refl
word_of_name Word.False = refl
word_of_name Word.Twoc = refl
word_of_name Word.String = refl
word_of_name Word.Move = refl
word_of_name Word.Goto = refl
word_of_name Word.Lend = refl
word_of_name Word.Rend = refl
word_of_name Word.C = refl
word_of_name Word.Accept = refl
word_of_name Word.Reject = refl
word_of_name Word.If = refl
word_of_name Word.Else = refl
word_of_name Word.While = refl
word_of_name Word.Choose = refl
word_of_name Word.Branch = refl
word_of_name Word.Also = refl
word_of_name Word.Read = refl
word_of_name Word.Other = refl

found_step : (x : Word) (xs : List Word) (l : List ℕ) (t : Bool)
    → is_named (name x) l ≡ t
    → ¬ (name x ≡ reserved l)
    → found xs l ≡ Word.Other
    → found (x ∷ xs) l ≡ Word.Other
unfolding found
found_step x xs l true e h r = absurd (h (is_named_lem (name x) l e))
found_step x xs l false e h r = rw (e, found) r

found_none : {xs : List Word} {l : List ℕ} → NoneOf xs l → found xs l ≡ Word.Other
unfolding found
found_none none = refl
found_none (◌nor◌ {x} {xs} {l} h r) = found_step x xs l (is_named (name x) l) refl h (found_none r)

none_each : (xs : List Word) (l : List ℕ) → ((x : Word) → ¬ (name x ≡ reserved l)) → NoneOf xs l
none_each [] l h = none
none_each (x ∷ xs) l h = h x nor none_each xs l h

named_is : (x : Word) (n : Name) (l : List ℕ) → name x ≡ n → IsNamed n l → x ≡ found all_words l
unfolding word_of
named_is x (reserved bytes) l e h = sym (word_of_name x) ∙ ap word_of (e ∙ ap reserved (sym h))
named_is x unreserved l e h = sym (word_of_name x) ∙ (ap word_of e ∙ sym (found_none (none_each all_words l h)))

-- bytes are one word only
pub word_is : (x : Word) (l : List ℕ) → IsWord x l → x ≡ found all_words l
word_is x l h = named_is x (name x) l refl h
