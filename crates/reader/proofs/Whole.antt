-- What comes of a text, by where the machine comes from its first byte on.
use Prim.Native.Nat.{ℕ}
use mathlib.Core.Path.{◌≡◌, refl, sym, ap, ◌∙◌, subst}
use mathlib.Core.List.{List, [], ◌∷◌}
use Rattle.text.specs.Tokens.{Placed, Ending, ends}
use Rattle.text.specs.First.{Last, Begins, FirstToken}
use Rattle.text.specs.declared.Token.{Token}
use Rattle.text.proofs.Tokens.{tokens_once}
use Rattle.rule.specs.Inside.Machine.{program, start, Totals, taken, refused, run, outcome}
use Rattle.rule.proofs.Outcomes.{outcome_is}
use Rattle.atoms.specs.Atom.{refusal_of}
use Rattle.reader.specs.Inside.Answers.{spot, ComesTo, Stops}
use Rattle.table.specs.Refusal.{number_of}
use Rattle.table.specs.declared.reason.Refusal.{Refusal}

-- nothing more is expected, and nothing or something is left
over : (t : Totals) {ts : List Placed} {e : Ending} {p : ℕ} → Last ts e (ends p) → run [] t ts e ≡ taken t.states t.rows
unfolding run
over t h = rw (h.none, h.ended, run)

left : (text : List ℕ) (t : Totals) (ts : List Placed) (e : Ending) (k : Token)
    → Begins text ts e k
    → ((p : ℕ) → ¬ (k ≡ Token.End p))
    → run [] t ts e ≡ refused (number_of (refusal_of k).reason) (refusal_of k).place
unfolding run
left text t ts e (Token.Word p q x) h l = rw (h.next.first, run)
left text t ts e (Token.Number p q) h l = rw (h.first, run)
left text t ts e (Token.Letter p q b) h l = rw (h.first, run)
left text t ts e (Token.Sign p q x) h l = rw (h.first, run)
left text t ts e (Token.End p) h l = absurd (l p refl)
left text t ts e (Token.Broken p) h l = rw (h.none, h.ended, run)

module _ {text : List ℕ} where
  -- it refuses
  pub stopped : {r : Refusal} → Stops text (spot 0 (program ∷ []) start) r → outcome text ≡ refused (number_of r.reason) r.place
  stopped h = outcome_is h.here ∙ h.same []

  module _ {q : ℕ} {t : Totals} {k : Token} (h : ComesTo text (spot 0 (program ∷ []) start) (spot q [] t)) (f : FirstToken text q k) where
    comes_to : outcome text ≡ run [] t f.tokens f.ending
    comes_to =
        let once = tokens_once h.there f.all in
        outcome_is h.here ∙ h.same [] ∙ rw (once.0, once.1) refl

    -- it expects nothing more, and the text is over
    pub whole : {p : ℕ} → k ≡ Token.End p → outcome text ≡ taken t.states t.rows
    whole e = comes_to ∙ over t (subst (λ (u : Token). Begins text f.tokens f.ending u) e f.begins)

    -- or is not
    pub more : {r : Refusal}
        → ((p : ℕ) → ¬ (k ≡ Token.End p))
        → r ≡ refusal_of k
        → outcome text ≡ refused (number_of r.reason) r.place
    more e right = comes_to ∙ left text t f.tokens f.ending k f.begins e ∙ ap (λ (u : Refusal). refused (number_of u.reason) u.place) (sym right)
