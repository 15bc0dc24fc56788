-- A sign is known by how it is written, and the longest sign at the front of some bytes is that of the first two, or of the first.
use Prim.Native.Nat.{ℕ, zero, suc, ◌≤◌, zero-le, suc-le-suc}
use native.Mathlib.Omega.{arith}
use mathlib.Core.Path.{◌≡◌, refl, sym}
use mathlib.Core.Bool.{Bool, true, false, not, ◌||◌}
use mathlib.Core.Logic.{⊎_elim}
use mathlib.Core.List.{List, [], ◌∷◌, Memᴰ}
use lib.ListN.{length, take, get_or}
use lib.Seq.{length-take-le}
use lib.Dec.{T, eqb, leb, leb→le}
use Rattle.bits.proofs.Tests.{same_list_lem, every_at}
use Rattle.bits.specs.Inside.Same.{same_list}
use Rattle.text.specs.Token.{signs}
use Rattle.text.specs.First.{written}
use Rattle.text.specs.declared.Sign.{Sign}
use Rattle.text.specs.Inside.Scan.{longest_of}
use Rattle.text.proofs.Runs.{T_either, longest_of_bound, longest_of_found, longest_of_fits}

abbrev pub of_two : (ℕ → ℕ → Bool) → List ℕ → Bool
of_two test [] = true
of_two test (x ∷ []) = true
of_two test (x ∷ y ∷ []) = test x y
of_two test (x ∷ y ∷ z ∷ l) = true

-- the sign that is written so
pub sign_of : List Sign → List ℕ → Sign
sign_of [] l = Sign.Becomes
sign_of (x ∷ xs) l = elim (same_list (written x) l) [ true ↦ x | false ↦ sign_of xs l ]

pub all_signs : List Sign
all_signs =
    Sign.Becomes
    ∷ Sign.Equals
    ∷ Sign.Differs
    ∷ Sign.Not
    ∷ Sign.And
    ∷ Sign.Or
    ∷ Sign.Increment
    ∷ Sign.Decrement
    ∷ Sign.Add
    ∷ Sign.Subtract
    ∷ Sign.Minus
    ∷ Sign.OpenParen
    ∷ Sign.CloseParen
    ∷ Sign.OpenBrace
    ∷ Sign.CloseBrace
    ∷ Sign.OpenBracket
    ∷ Sign.CloseBracket
    ∷ Sign.Comma
    ∷ Sign.Semicolon
    ∷ []

listed : List (List ℕ) → List ℕ → Bool
listed [] l = false
listed (m ∷ ms) l = same_list l m || listed ms l

listed_mem : (ms : List (List ℕ)) (l : List ℕ) → T (listed ms l) → Memᴰ l ms
unfolding listed
listed_mem [] l t = absurd t
listed_mem (m ∷ ms) l t =
    ⊎_elim (λ e. Memᴰ.head (same_list_lem l m e)) (λ e. Memᴰ.tail (listed_mem ms l e)) (T_either (same_list l m) (listed ms l) t)

signs_known : (x : Sign) → (sign_of all_signs (written x) ≡ x) × T (listed signs (written x))
unfolding sign_of all_signs listed
signs_known Sign.Becomes = (refl, tt)
signs_known Sign.Equals = (refl, tt)
signs_known Sign.Differs = (refl, tt)
signs_known Sign.Not = (refl, tt)
signs_known Sign.And = (refl, tt)
signs_known Sign.Or = (refl, tt)
signs_known Sign.Increment = (refl, tt)
signs_known Sign.Decrement = (refl, tt)
signs_known Sign.Add = (refl, tt)
signs_known Sign.Subtract = (refl, tt)
signs_known Sign.Minus = (refl, tt)
signs_known Sign.OpenParen = (refl, tt)
signs_known Sign.CloseParen = (refl, tt)
signs_known Sign.OpenBrace = (refl, tt)
signs_known Sign.CloseBrace = (refl, tt)
signs_known Sign.OpenBracket = (refl, tt)
signs_known Sign.CloseBracket = (refl, tt)
signs_known Sign.Comma = (refl, tt)
signs_known Sign.Semicolon = (refl, tt)

-- what is written as a sign is one
pub written_sign : (x : Sign) → Memᴰ (written x) signs
written_sign x = listed_mem signs (written x) (signs_known x).1

-- and is that sign only
pub sign-is : (x : Sign) → x ≡ sign_of all_signs (written x)
sign-is x = sym (signs_known x).0

-- no sign is longer than two bytes
short : (bytes : List ℕ) (n : ℕ) → longest_of signs bytes ≡ n → n ≤ 2
short bytes zero e = zero-le
short bytes (suc n) e =
    let fits : suc n ≤ length bytes = omega (arith, longest_of_fits signs bytes) in
    let two = every_at (λ (l : List ℕ). leb (length l) 2) (longest_of_found signs bytes (suc n) (suc-le-suc zero-le) e) tt in
    omega (arith, length-take-le (suc n) bytes fits, leb→le (length (take (suc n) bytes)) 2 two)

not_two : (a : ℕ) (bs : List ℕ) → ¬ Memᴰ (a ∷ get_or bs 0 0 ∷ []) signs → ¬ (longest_of signs (a ∷ bs) ≡ 2)
not_two a [] h e = omega (arith, longest_of_fits signs (a ∷ []))
not_two a (b ∷ bs) h e = h (longest_of_found signs (a ∷ b ∷ bs) 2 (omega arith) e)

-- the longest sign is of two bytes where they are a sign
pub two_long : (a : ℕ) (bs : List ℕ) → Memᴰ (a ∷ get_or bs 0 0 ∷ []) signs → longest_of signs (a ∷ bs) ≡ 2
two_long a [] m = absurd (every_at (of_two (λ (x y : ℕ). not (eqb y 0))) m tt)
two_long a (b ∷ bs) m =
    let most = short (a ∷ b ∷ bs) (longest_of signs (a ∷ b ∷ bs)) refl in
    omega (arith, longest_of_bound {l = a ∷ b ∷ []} bs m)

-- else of one where that is
pub one_long : (a : ℕ) (bs : List ℕ)
    → Memᴰ (a ∷ []) signs
    → ¬ Memᴰ (a ∷ get_or bs 0 0 ∷ []) signs
    → longest_of signs (a ∷ bs) ≡ 1
one_long a bs m h =
    let most = short (a ∷ bs) (longest_of signs (a ∷ bs)) refl in
    let other = not_two a bs h in
    omega (arith, longest_of_bound {l = a ∷ []} bs m)

-- and else there is none
pub none_long : (a : ℕ) (bs : List ℕ)
    → ¬ Memᴰ (a ∷ []) signs
    → ¬ Memᴰ (a ∷ get_or bs 0 0 ∷ []) signs
    → longest_of signs (a ∷ bs) ≡ 0
none_long a bs g h =
    let most = short (a ∷ bs) (longest_of signs (a ∷ bs)) refl in
    let other = not_two a bs h in
    let single : ¬ (longest_of signs (a ∷ bs) ≡ 1) = λ e. g (longest_of_found signs (a ∷ bs) 1 (omega arith) e) in
    omega arith
