-- How far a `!` reaches: it binds tighter than the operators.
use Prim.Native.Nat.{ℕ}
use mathlib.Core.Path.{◌≡◌, refl}
use mathlib.Core.List.{List, ◌∷◌}
use Rattle.text.specs.Token.{number, w, s}
use Rattle.text.specs.Tokens.{◌at◌}
use Rattle.rule.specs.Tree.{Atom, Condition}
use Rattle.rule.specs.Grammar.{Ts, IsAtom, counter_is, tightest, IsCondition, atom, negation}

-- a test of the counter ends with its number
counter_ends : {k p q r : ℕ} {n : List ℕ} {ts us : Ts} {x : Atom}
    → IsAtom ((w "c" at p) ∷ (s "==" at q) ∷ (number n at r) ∷ ts) k x us
    → us ≡ ts
counter_ends counter_is = refl

-- an atom as an operand ends with the atom
atom_ends : {p q r : ℕ} {n : List ℕ} {ts us : Ts} {c : Condition}
    → IsCondition tightest ((w "c" at p) ∷ (s "==" at q) ∷ (number n at r) ∷ ts) c us
    → us ≡ ts
atom_ends (atom a) = counter_ends a

-- and so does the negation of one: what an `&&` behind it joins is no part of it
pub not_ends : {o p q r : ℕ} {n : List ℕ} {ts us : Ts} {c : Condition}
    → IsCondition tightest ((s "!" at o) ∷ (w "c" at p) ∷ (s "==" at q) ∷ (number n at r) ∷ ts) c us
    → us ≡ ts
not_ends {o = o} {p = p} {q = q} {r = r} {n = n} {ts = ts} {us = us} (atom {a = a} x4) = elim x4 [ ]
not_ends (negation h) = atom_ends h
