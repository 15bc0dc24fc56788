-- A list of numbers without repetition.
use Prim.Native.Nat.{ℕ, zero, suc, ◌<◌, suc-le-suc}
use native.Mathlib.Nat.{le_of_suc-le-suc, zero-lt-suc}
use mathlib.Core.Path.{◌≡◌, sym, ◌∙◌}
use mathlib.Core.Logic.{∥∥₁_elim}
use mathlib.Core.HLevel.{⊥_prop}
use mathlib.Core.List.Pairwise
use mathlib.Core.List.{List, [], ◌∷◌, Nodup}
use lib.ListN.{length, get_or}
use Rattle.table.proofs.Places.{place_of, member_at}

-- what stands at each place differs from what stands before it
abbrev pub Different : List ℕ → Type 0
Different l = (c : ℕ) → c < length l → (d : ℕ) → d < c → ¬ (get_or l d 0 ≡ get_or l c 0)

pub nodup_of : (l : List ℕ) → Different l → Nodup l
nodup_of [] apart = Pairwise.nil
nodup_of (x ∷ l) apart =
    Pairwise.cons
    (λ y m e. ∥∥₁_elim m ⊥_prop (λ k. let found = place_of k in apart (suc found.0) (suc-le-suc found.1) 0 (zero-lt-suc found.0) (e ∙ sym found.2)))
    (nodup_of l (λ c low d before. apart (suc c) (suc-le-suc low) (suc d) (suc-le-suc before)))

pub of_nodup : (l : List ℕ) → Nodup l → Different l
of_nodup [] _ c low d before e = elim low [ ]
of_nodup (x ∷ l) (Pairwise.cons apart once) zero low d before e = elim before [ ]
of_nodup (x ∷ l) (Pairwise.cons apart once) (suc c) low zero before e =
    apart (get_or l c 0) ∣ member_at l c (le_of_suc-le-suc low) ∣₁ e
of_nodup (x ∷ l) (Pairwise.cons apart once) (suc c) low (suc d) before e =
    of_nodup l once c (le_of_suc-le-suc low) d (le_of_suc-le-suc before) e
