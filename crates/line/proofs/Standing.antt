-- Bytes that stand in a buffer are a number of its bytes and stand there in one way, and bytes are added one behind the other.
use Prim.Native.Nat.{ℕ, ◌+◌, ◌≤◌}
use native.Mathlib.Omega.{arith}
use mathlib.Core.Path.{◌≡◌, refl, sym, ◌∙◌, ap, subst}
use mathlib.Core.List.{List, [], ◌++◌, append_assoc}
use lib.ListN.{length, take, drop, length-append}
use lib.Seq.{length-take-le}
use Rattle.line.specs.Standing.{Stands}
use Rattle.line.specs.Inside.Adding.{Adds}

-- a buffer has so many bytes, and so many are its first ones
abbrev pub IsPrefixLen : ℕ → List ℕ → Type 0
IsPrefixLen n bytes = (n ≤ length bytes) × (n ≡ length (take n bytes))

-- no second result fits the promise of a function that writes a line: end and buffer are settled by the buffer as it was and the line
pub stands_once
    : {old out out' : List ℕ} {end end' : ℕ} {bytes : List ℕ} → Stands old out end bytes → Stands old out' end' bytes
    → (end ≡ end') × (out ≡ out')
stands_once {old} {bytes = bytes} a b =
    let same = a.ends ∙ sym b.ends in
    (same, a.is ∙ ap (λ (n : ℕ). bytes ++ drop n old) same ∙ sym b.is)

-- what has so many bytes has so many first ones
pub prefix_len_of_le : (n : ℕ) (xs : List ℕ) → n ≤ length xs → IsPrefixLen n xs
prefix_len_of_le n xs short = (short, sym (length-take-le n xs short))

-- as many bytes as stand at the beginning of a buffer are a number of its bytes
pub front_counts : {out : List ℕ} {n : ℕ} (xs rest : List ℕ) → out ≡ xs ++ rest → n ≡ length xs → IsPrefixLen n out
front_counts {out} xs rest is long =
    let all : length out ≡ length xs + length rest = ap length is ∙ length-append xs rest in
    prefix_len_of_le _ out (omega arith)

pub stands_counts : {old out bytes : List ℕ} {end : ℕ} → Stands old out end bytes → IsPrefixLen end out
stands_counts {old} {out} {bytes} {end} s = front_counts bytes (drop end old) s.is s.ends

-- what is added at the beginning stands there
pub adds_stands : {before after : List ℕ} {to : ℕ} {bytes : List ℕ} → Adds before after 0 to bytes → Stands before after to bytes
adds_stands {before} a = a.adds before [] (record { is = refl; ends = refl })

-- and then more
pub adds_both : {before middle after : List ℕ} {from between to : ℕ} {xs ys : List ℕ}
    → Adds before middle from between xs
    → Adds middle after between to ys
    → Adds before after from to (xs ++ ys)
adds_both {after = after} {to = to} {xs = xs} {ys = ys} a b =
    record {
      adds = λ old standing s.
          subst (Stands old after to) (append_assoc standing xs ys) (b.adds old (standing ++ xs) (a.adds old standing s));
      ends = omega (arith, a.ends, b.ends, length-append xs ys);
    }

-- in other words
pub stands_as : {old out : List ℕ} {end : ℕ} {xs ys : List ℕ} → Stands old out end xs → xs ≡ ys → Stands old out end ys
stands_as {old} {out} {end} s same = subst (Stands old out end) same s

pub adds_as : {before after : List ℕ} {from to : ℕ} {xs ys : List ℕ} → Adds before after from to xs → xs ≡ ys → Adds before after from to ys
adds_as {before} {after} {from} {to} a same = subst (Adds before after from to) same a
