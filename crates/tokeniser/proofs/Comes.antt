-- What comes first in a text from a byte on: by what is found there, and one thing only.
use Prim.Native.Nat.{ℕ, suc, ◌+◌, ◌-◌, ◌≤◌, ◌<◌}
use native.Mathlib.Omega.{arith}
use mathlib.Core.Path.{◌≡◌, refl, sym, ap, ◌∙◌, subst, subst₂}
use mathlib.Core.List.{List, [], ◌∷◌}
use lib.ListN.{length, drop, length-drop, drop_of_length-le}
use lib.Seq.{drop-drop}
use Rattle.text.specs.Token as Spec
use Rattle.text.specs.Tokens.{Placed, ◌at◌, Ending, ends, broken, Tokens}
use Rattle.text.specs.Tokens as Of
use Rattle.text.specs.First.{Next, Begins, FirstToken}
use Rattle.tokeniser.specs.Inside.Tokenising.{Skips, StepRight}
use Rattle.std.specs.declared.ops.ControlFlow.{ControlFlow}
use Rattle.std.specs.declared.ops.ControlFlow.TheVariants.{Continue}
use Rattle.text.specs.declared.Token.{Token}
use Rattle.text.specs.Inside.Scan.{scan_from}
use Rattle.text.proofs.Front.{Found, Bad}
use Rattle.text.proofs.Tokens.{found_then, scan_from_right}

-- past the text's last byte is its end
pub end_first : (text : List ℕ) (p : ℕ) → length text ≤ p → FirstToken text p (Token.End p)
end_first text p h =
    record {
      tokens = [];
      ending = ends p;
      all = rw (drop_of_length-le text h) Of.end;
      begins = record { none = refl; ended = refl };
    }

-- what comes first behind white space or a comment comes first
pub skips_first : {text : List ℕ} {p n : ℕ} {r : Token} → Skips text p n → FirstToken text n r → FirstToken text p r
skips_first {text} {p} {n} s f =
    let same : n ≡ p + (n - p) = omega (arith, s.onward) in
    record {
      tokens = f.tokens;
      ending = f.ending;
      all = Of.blank s.blank (subst (λ (m : ℕ). Tokens m (drop n text) f.tokens f.ending) same f.all);
      begins = f.begins;
    }

-- what a step answers
pub step_blank : (text : List ℕ) (p n : ℕ) {s : ControlFlow Token ℕ} → StepRight text p s → s ≡ Continue n → Skips text p n
step_blank text p n h e = subst (StepRight text p) e h

bad_tokens : (p : ℕ) (bytes : List ℕ) → Bad bytes → Tokens p bytes [] (broken p)
bad_tokens p [] h = absurd (h.some refl)
bad_tokens p (b ∷ bs) h = Of.none h.no_blank h.no_token

-- where nothing stands that may, the text is broken
pub bad_first : {text : List ℕ} {p : ℕ} → Bad (drop p text) → FirstToken text p (Token.Broken p)
bad_first {text} {p} h =
    record {
      tokens = [];
      ending = broken p;
      all = bad_tokens p (drop p text) h;
      begins = record { none = refl; ended = refl };
    }

-- a token that is found comes first, and the tokens go on where it ends
pub token_first : {text : List ℕ} {p e : ℕ} {t : Spec.Token} (r : Token)
    → p < e
    → Found (drop p text) (e - p) t
    → ((ts : List Placed) (g : Ending) → Next text p e t ts g → Begins text ts g r)
    → FirstToken text p r
token_first {text} {p} {e} {t} r h f answer =
    let after = scan_from (suc (length (drop e text))) e (drop e text) in
    let rest : Tokens e (drop e text) after.tokens after.ending = scan_from_right (suc (length (drop e text))) e (drop e text) (omega arith) in
    let end : e ≡ p + (e - p) = omega arith in
    let left : drop e text ≡ drop (e - p) (drop p text) = ap (λ (n : ℕ). drop n text) end ∙ sym (drop-drop (e - p) p text) in
    record {
      tokens = (t at p) ∷ after.tokens;
      ending = after.ending;
      all = found_then f (subst₂ (λ (n : ℕ) (l : List ℕ). Tokens n l after.tokens after.ending) end left rest);
      begins = answer ((t at p) ∷ after.tokens) after.ending
          (record {
            after = after.tokens;
            first = refl;
            bytes = f.longest.spells;
            some = h;
            within = omega (arith, f.fits, length-drop p text);
            rest = rest;
          });
    }
