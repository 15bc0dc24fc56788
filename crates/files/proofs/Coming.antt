-- What came before and what comes now are what comes.
use Rattle.std.proofs.Common.{◌≡◌, ℕ, ◌+◌, List, ◌++◌, take, drop, sym, ap, subst, ◌∙◌, append_assoc}
use Rattle.std.specs.Prelude.{Option, Some, None}
use Rattle.std.proofs.Math.Seq.{take-add}
use Rattle.std.specs.Io.KnownBytes.{Consumes}

pub consumes_both : (a b c : Option (List ℕ)) (xs ys : List ℕ) → Consumes a b xs → Consumes b c ys → Consumes a c (xs ++ ys)
consumes_both None b c xs ys h k = tt
consumes_both (Some ls) None c xs ys h k = absurd h
consumes_both (Some ls) (Some ms) None xs ys h k = absurd k
consumes_both (Some ls) (Some ms) (Some ns) xs ys h k = h ∙ ap (λ (l : List ℕ). xs ++ l) k ∙ sym (append_assoc xs ys ns)

-- a buffer's front is what came, and n bytes more come behind it
pub comes_on : (a b c : Option (List ℕ)) (before after : List ℕ) (from n : ℕ) → take from after ≡ take from before
    → Consumes a b (take from before) → Consumes b c (take n (drop from after)) → Consumes a c (take (from + n) after)
comes_on a b c before after from n front h k =
    subst (Consumes a c) (sym (take-add from n after)) (consumes_both a b c (take from after) (take n (drop from after)) (subst (Consumes a b) (sym front) h) k)
