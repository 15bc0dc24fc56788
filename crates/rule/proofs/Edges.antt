-- The limits at their edges, in document 01's numbers: what is just allowed, what no longer is, and with which place.
use Prim.Native.Nat.{ℕ}
use mathlib.Core.Path.{◌≡◌, refl, ap, ◌∙◌}
use mathlib.Core.Bool.{Bool, true, false, not, ◌||◌}
use mathlib.Core.List.{List, [], ◌∷◌, ◌++◌}
use lib.ListN.{length}
use lib.Dec.{leb}
use Rattle.rule.specs.Tree as Tree
use Rattle.rule.specs.Tree.{Letter}
use Rattle.rule.specs.Limits.{Fault, fault, fault_if, is_in, letter_faults, symbol_name_faults, too_deep}

-- a 17th letter is number 5 with that letter's place, whatever letter it is
either_way : (b : Bool) (p : ℕ) → fault_if (b || true) 5 p ≡ fault 5 p ∷ []
unfolding fault_if
either_way true p = refl
either_way false p = refl

pub seventeenth_letter : (before : List ℕ) (l : Letter)
    → length before ≡ 16
    → letter_faults before (l ∷ []) ≡ fault 5 l.place ∷ []
unfolding letter_faults
seventeenth_letter before l e =
    ap (λ (n : ℕ). fault_if (is_in l.byte before || leb 16 n) 5 l.place ++ []) e
    ∙ ap (λ (f : List Fault). f ++ []) (either_way (is_in l.byte before) l.place)

-- and a 16th that stands not before is none
pub sixteenth_letter : (before : List ℕ) (l : Letter)
    → length before ≡ 15
    → is_in l.byte before ≡ false
    → letter_faults before (l ∷ []) ≡ []
unfolding letter_faults fault_if
sixteenth_letter before l e new =
    ap (λ (n : ℕ). fault_if (is_in l.byte before || leb 16 n) 5 l.place ++ []) e
    ∙ ap (λ (b : Bool). fault_if (b || false) 5 l.place ++ []) new

-- where 16 are open, one more is number 8 with its own place; where 15 are, it is none
pub seventeenth_open : (p : ℕ) → too_deep 16 p ≡ fault 8 p ∷ []
unfolding fault_if
seventeenth_open p = refl

pub sixteenth_open : (p : ℕ) → too_deep 15 p ≡ []
unfolding fault_if
sixteenth_open p = refl

-- a letter outside the alphabet is number 6 with that letter's place
pub letter_outside : (alphabet : List ℕ) (l : Letter)
    → is_in l.byte alphabet ≡ false
    → symbol_name_faults alphabet (Tree.letter l) ≡ fault 6 l.place ∷ []
unfolding symbol_name_faults fault_if
letter_outside alphabet l out = ap (λ (b : Bool). fault_if (not b) 6 l.place) out
