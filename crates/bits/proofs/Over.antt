-- Laws of bytes that are put over others.
use Prim.Native.Nat.{ℕ, ◌+◌}
use mathlib.Core.Path.{◌≡◌, sym, ◌∙◌, ap}
use mathlib.Core.List.{List, ◌++◌, append_assoc}
use lib.ListN.{length, drop}
use lib.Seq.{take_at, drop-drop, drop-append-add}
use Rattle.bits.specs.Inside.Over.{over}

-- what a prefix and old bytes become where new bytes are put behind the prefix
pub over-behind : (xs new old : List ℕ) (n : ℕ) → length xs ≡ n → over (xs ++ drop n old) n new ≡ (xs ++ new) ++ drop (n + length new) old
over-behind xs new old n long =
    ap (λ (l : List ℕ). l ++ (new ++ drop (n + length new) (xs ++ drop n old))) (take_at xs (drop n old) n long)
    ∙ ap (λ (l : List ℕ). xs ++ (new ++ l))
    (ap (λ (m : ℕ). drop (m + length new) (xs ++ drop n old)) (sym long)
    ∙ drop-append-add xs (drop n old) (length new)
    ∙ drop-drop (length new) n old)
    ∙ sym (append_assoc xs new (drop (n + length new) old))
