-- Where no statement stands, and the arms of a branch.
use Prim.Native.Nat.{ℕ, ◌+◌, ◌<◌}
use native.Mathlib.Omega.{arith}
use mathlib.Core.Path.{◌≡◌, refl, subst}
use mathlib.Core.List.{List, [], ◌∷◌}
use Rattle.std.specs.Prelude.{Err}
use lib.Dec.{T}
use borrow.Author.Tests.{lt-leb, le-leb}
use Rattle.text.specs.Token.{sign}
use Rattle.text.specs.First.{written, FirstToken}
use Rattle.text.specs.declared.Word.{Word}
use Rattle.text.specs.declared.Sign.{Sign}
use Rattle.text.specs.declared.Token.{Token}
use Rattle.rule.specs.Inside.Class.{Fixed, mark, classify}
use Rattle.rule.proofs.Machine.Follow.{unlike}
use Rattle.rule.specs.Inside.Machine.{block, statements, or_also, Stack, Totals}
use Rattle.table.specs.declared.reason.Reason.TheVariants as Reason
use Rattle.table.specs.declared.reason.Refusal.{Refusal}
use Rattle.atoms.specs.Atom.{refusal_of}
use Rattle.reader.specs.Inside.Answers.{Moved, Counted, Refuses, Lacks, before, Arrives, ReadsOn}
use Rattle.reader.specs.declared.answers.Reader.{Reader}
use Rattle.reader.proofs.Front.{class_of}
use Rattle.reader.proofs.Moves.{took_counted}
use Rattle.reader.proofs.Missed.{Misses, refused}
use Rattle.reader.proofs.Taken.{unlike_class}
use Rattle.reader.proofs.Depth.{break_here}

-- no statement begins with what is no word and no `}`
module _ (text : List ℕ) (t : Totals) (d : ℕ) where
  sign_missed : (p q : ℕ) (x : Sign) → T (unlike Fixed.ends (classify (sign (written x)))) → Misses text t (statements d) (Token.Sign p q x)
  sign_missed p q Sign.Becomes ends = refl
  sign_missed p q Sign.Equals ends = refl
  sign_missed p q Sign.Differs ends = refl
  sign_missed p q Sign.Not ends = refl
  sign_missed p q Sign.And ends = refl
  sign_missed p q Sign.Or ends = refl
  sign_missed p q Sign.Increment ends = refl
  sign_missed p q Sign.Decrement ends = refl
  sign_missed p q Sign.Add ends = refl
  sign_missed p q Sign.Subtract ends = refl
  sign_missed p q Sign.Minus ends = refl
  sign_missed p q Sign.OpenParen ends = refl
  sign_missed p q Sign.CloseParen ends = refl
  sign_missed p q Sign.OpenBrace ends = refl
  sign_missed p q Sign.CloseBrace ends = absurd ends
  sign_missed p q Sign.OpenBracket ends = refl
  sign_missed p q Sign.CloseBracket ends = refl
  sign_missed p q Sign.Comma ends = refl
  sign_missed p q Sign.Semicolon ends = refl

  statement_missed : (k : Token) → T (unlike Fixed.ends (class_of text k)) → ((p q : ℕ) (x : Word) → ¬ (k ≡ Token.Word p q x)) → Misses text t (statements d) k
  statement_missed (Token.Word p q x) ends h = absurd (h p q x refl)
  statement_missed (Token.Number p q) ends h = refl
  statement_missed (Token.Letter p q b) ends h = refl
  statement_missed (Token.Sign p q x) ends h = sign_missed p q x ends
  statement_missed (Token.End p) ends h = tt
  statement_missed (Token.Broken p) ends h = tt

-- nor does a word that is none of these
pub record OtherWord (x : Word) : Type 0 where
  pub not_move : ¬ (x ≡ Word.Move)
  pub not_goto : ¬ (x ≡ Word.Goto)
  pub not_c : ¬ (x ≡ Word.C)
  pub not_accept : ¬ (x ≡ Word.Accept)
  pub not_reject : ¬ (x ≡ Word.Reject)
  pub not_if : ¬ (x ≡ Word.If)
  pub not_while : ¬ (x ≡ Word.While)
  pub not_branch : ¬ (x ≡ Word.Branch)

word_missed : (text : List ℕ) (t : Totals) (d p q : ℕ) (x : Word) → OtherWord x → Misses text t (statements d) (Token.Word p q x)
word_missed text t d p q Word.Alphabet h = refl
word_missed text t d p q Word.DecrOnZero h = refl
word_missed text t d p q Word.True h = refl
word_missed text t d p q Word.False h = refl
word_missed text t d p q Word.Twoc h = refl
word_missed text t d p q Word.String h = refl
word_missed text t d p q Word.Move h = absurd (h.not_move refl)
word_missed text t d p q Word.Goto h = absurd (h.not_goto refl)
word_missed text t d p q Word.Lend h = refl
word_missed text t d p q Word.Rend h = refl
word_missed text t d p q Word.C h = absurd (h.not_c refl)
word_missed text t d p q Word.Accept h = absurd (h.not_accept refl)
word_missed text t d p q Word.Reject h = absurd (h.not_reject refl)
word_missed text t d p q Word.If h = absurd (h.not_if refl)
word_missed text t d p q Word.Else h = refl
word_missed text t d p q Word.While h = absurd (h.not_while refl)
word_missed text t d p q Word.Choose h = refl
word_missed text t d p q Word.Branch h = absurd (h.not_branch refl)
word_missed text t d p q Word.Also h = refl
word_missed text t d p q Word.Read h = refl
word_missed text t d p q Word.Other h = refl

pub no_statement_word : (r : Reader) {d p q : ℕ} {a : List ℕ} {y : Stack} {k : Token} {x : Word} {f : Refusal}
    → FirstToken r.text.now r.at k
    → k ≡ Token.Word p q x
    → OtherWord x
    → f ≡ record { reason = Reason.Misplaced; place = p }
    → ReadsOn r (statements d ∷ []) y a (Err f)
no_statement_word r {p = p} {q = q} {x = x} first e other is =
    refused (subst (λ (u : Token). FirstToken r.text.now r.at u) e first) is (word_missed r.text.now _ _ p q x other)

pub no_statement : (r : Reader) {d : ℕ} {a : List ℕ} {y : Stack} {k : Token} {f : Refusal}
    → Lacks Fixed.ends r.text.now r.at
    → FirstToken r.text.now r.at k
    → ((p q : ℕ) (x : Word) → ¬ (k ≡ Token.Word p q x))
    → f ≡ refusal_of k
    → ReadsOn r (statements d ∷ []) y a (Err f)
no_statement r {k = k} lacks first no_word is = refused first is (statement_missed r.text.now _ _ k (unlike_class lacks first) no_word)

module _ {r z : Reader} {d n : ℕ} {a : List ℕ} (h : Moved r (mark Fixed.also) z) where
  -- one arm more
  pub next_arm : {c : Reader} → n < 8 → Counted z 1 2 c → Arrives r.text.now (before r (or_also d n ∷ []) a) (block d ∷ or_also d (n + 1) ∷ []) a c
  next_arm {c} few more =
      subst
      (λ (m : ℕ). Arrives r.text.now (before r (or_also d n ∷ []) a) (block d ∷ or_also d m ∷ []) a c)
      (omega arith)
      (took_counted h [] more refl (lt-leb 8 n few) refl)

  -- a ninth arm
  pub ninth_arm : {y : Stack} {f : Refusal} → n ≡ 8 → Refuses r Reason.Arms f → ReadsOn r (or_also d n ∷ []) y a (Err f)
  ninth_arm e g = break_here h g refl (le-leb 8 n (omega arith)) refl
