-- What stands against a condition: a negation turns both operators and all atoms beneath it.
use Prim.Native.Nat.{ℕ}
use mathlib.Core.Path.{◌≡◌, refl}
use mathlib.Core.Bool.{Bool, true, false}
use mathlib.Core.List.{List}
use Rattle.rule.specs.Tree.{Atom, read_is, read_is_not, counter_is, counter_is_not, Condition, atom, negation, both, either}
use Rattle.construction.specs.Construction.{atom_rows, walk}

abbrev turned : Atom → Atom
turned (read_is x) = read_is_not x
turned (read_is_not x) = read_is x
turned (counter_is n) = counter_is_not n
turned (counter_is_not n) = counter_is n

module _ (alphabet : List ℕ) (o : ℕ) where
  -- `!` before `==` is walked as `!=`, and before `!=` as `==`
  pub turns_atom : (t : ℕ) (a : Atom) (sign : Bool) (p q next : ℕ)
      → walk alphabet (negation o (atom t a)) sign p q next ≡ walk alphabet (atom t (turned a)) sign p q next
  unfolding walk atom_rows
  turns_atom t (read_is x) true p q next = refl
  turns_atom t (read_is x) false p q next = refl
  turns_atom t (read_is_not x) true p q next = refl
  turns_atom t (read_is_not x) false p q next = refl
  turns_atom t (counter_is n) true p q next = refl
  turns_atom t (counter_is n) false p q next = refl
  turns_atom t (counter_is_not n) true p q next = refl
  turns_atom t (counter_is_not n) false p q next = refl

  -- before `&&` as `||`, and before `||` as `&&`, each of the two turned
  pub turns_both : (c d : Condition) (sign : Bool) (p q next : ℕ)
      → walk alphabet (negation o (both c d)) sign p q next ≡ walk alphabet (either (negation o c) (negation o d)) sign p q next
  unfolding walk
  turns_both c d true p q next = refl
  turns_both c d false p q next = refl

  pub turns_either : (c d : Condition) (sign : Bool) (p q next : ℕ)
      → walk alphabet (negation o (either c d)) sign p q next ≡ walk alphabet (both (negation o c) (negation o d)) sign p q next
  unfolding walk
  turns_either c d true p q next = refl
  turns_either c d false p q next = refl
