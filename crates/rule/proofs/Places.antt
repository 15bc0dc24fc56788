-- Laws of rising places: tokens can be added behind, and what stands behind is at a later place.
use Prim.Native.Nat.{ℕ, suc, ◌+◌, ◌<◌}
use native.Mathlib.Nat.{le_refl}
use native.Mathlib.Omega.{arith}
use mathlib.Core.Path.{ap}
use mathlib.Core.List.Memᴰ
use mathlib.Core.List.{List, [], ◌∷◌, ◌++◌, Memᴰ}
use Rattle.text.specs.Token.{Token}
use lib.ListN.{length}
use Rattle.text.specs.Tokens.{Placed, ◌at◌, Rising, empty, single, rises}
use Rattle.text.proofs.Written.{lexeme, laid}

abbrev pub place_of : Placed → ℕ
place_of (t at p) = p

-- the place behind the last token
abbrev pub past : List Placed → ℕ
past [] = 0
past (t ∷ []) = suc (place_of t)
past (t ∷ u ∷ ts) = past (u ∷ ts)

laid_rise : (p : ℕ) (us : List Token) → Rising (laid p us)
laid_rise p [] = empty
laid_rise p (t ∷ []) = single
laid_rise p (t ∷ u ∷ us) =
    let later : p < p + length (lexeme t) + 1 = omega arith in
    rises later (laid_rise (p + length (lexeme t) + 1) (u ∷ us))

-- tokens behind the last one keep the places rising
pub rising-more : {ts : List Placed} → Rising ts → (us : List Token) → Rising (ts ++ laid (past ts) us)
rising-more empty us = laid_rise 0 us
rising-more (single {t = t at p}) [] = single
rising-more (single {t = t at p}) (u ∷ us) = rises (le_refl _) (laid_rise (suc p) (u ∷ us))
rising-more (rises h r) us = rises h (rising-more r us)

rising_rest : {t : Placed} {ts : List Placed} → Rising (t ∷ ts) → Rising ts
rising_rest single = empty
rising_rest (rises h r) = r

rising-first : {t u : Token} {p q : ℕ} {ts : List Placed} → Rising ((t at p) ∷ ts) → Memᴰ (u at q) ts → p < q
rising-first single m = absurd (Memᴰ.not-nil m)
rising-first (rises h g) (Memᴰ.head e) = omega (arith, ap place_of e)
rising-first (rises h g) (Memᴰ.tail m) = omega (arith, rising-first g m)

-- of rising places those behind are later
pub rising_apart : {t u : Token} {p q : ℕ} (ts us : List Placed) → Rising (ts ++ us) → Memᴰ (t at p) ts → Memᴰ (u at q) us → p < q
rising_apart [] us r m n = absurd (Memᴰ.not-nil m)
rising_apart ((t at p) ∷ ts) us r (Memᴰ.head e) n =
    omega (arith, ap place_of e, rising-first r (Memᴰ.append_right ts n))
rising_apart ((t at p) ∷ ts) us r (Memᴰ.tail m) n = rising_apart ts us (rising_rest r) m n

-- the places of the first tokens rise too
pub rising_front : (ts us : List Placed) → Rising (ts ++ us) → Rising ts
rising_front [] us r = empty
rising_front (t ∷ []) us r = single
rising_front ((t at p) ∷ (u at q) ∷ ts) us (rises h r) = rises h (rising_front ((u at q) ∷ ts) us r)
