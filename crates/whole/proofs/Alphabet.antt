-- The letters of a program that stands in a text are letters, at least one, so that its table is within its ranges.
use Prim.Native.Nat.{ℕ, ◌≤◌}
use native.Mathlib.Omega.{arith}
use mathlib.Core.Path.{◌≡◌, refl, subst, sym}
use mathlib.Core.List.{List, [], ◌∷◌, Memᴰ}
use lib.ListN.{length}
use lib.Dec.{T}
use Rattle.bits.specs.Byte.{is_letter}
use Rattle.text.specs.Token.{Token, word, number, letter, sign, Spells, a_letter}
use Rattle.text.specs.Tokens.{◌at◌, Ending, Tokens, end, blank, token, none}
use Rattle.table.specs.WellFormed.{IsImage}
use Rattle.table.specs.Image.{encode}
use Rattle.rule.specs.Tree.{Letter, Program, letter_bytes}
use Rattle.rule.specs.Grammar.{Ts, IsLetters, one, more, IsAlphabet, alphabet, is_true, is_false, IsSettings, alphabet_first, decrement_first, IsProgram, program}
use Rattle.construction.specs.Construction.{construct}
use Rattle.construction.specs.Compile.{Compilable}
use Rattle.construction.proofs.WellFormed.{constructed_in_range}

-- a token that is a letter of the language
abbrev Right : Token → Type 0
Right (word l) = Unit
Right (number n) = Unit
Right (letter b) = T (is_letter b)
Right (sign l) = Unit

-- tokens of which each letter is one
abbrev Letters : Ts → Type 0
Letters [] = Unit
Letters ((t at p) ∷ ts) = Right t × Letters ts

spelt_right : {l : List ℕ} (t : Token) → Spells l t → Right t
spelt_right (word l) s = tt
spelt_right (number n) s = tt
spelt_right (letter b) (a_letter t) = t
spelt_right (sign l) s = tt

-- a text's tokens are such
text_letters : {p : ℕ} {bytes : List ℕ} {ts : Ts} {e : Ending} → Tokens p bytes ts e → Letters ts
text_letters end = tt
text_letters (blank b ts) = text_letters ts
text_letters (token {t = t} l ts) = (spelt_right t l.spells, text_letters ts)
text_letters (none b t) = tt

-- an alphabet's letters
record Alphabetic (ls : List Letter) : Type 0 where
  pub each : (b : ℕ) → Memᴰ b (letter_bytes ls) → T (is_letter b)
  pub some : 1 ≤ length ls

mem_head : {b x : ℕ} {xs : List ℕ} → Memᴰ b (x ∷ xs) → (b ≡ x → T (is_letter b)) → (Memᴰ b xs → T (is_letter b)) → T (is_letter b)
mem_head (Memᴰ.head e) here there = here e
mem_head (Memᴰ.tail m) here there = there m

listed : {ts us : Ts} {ls : List Letter} → IsLetters ts ls us → Letters ts → Alphabetic ls
unfolding letter_bytes
listed (one {b = b}) right =
    record {
      each = λ x m. mem_head m (λ e. subst (λ (n : ℕ). T (is_letter n)) (sym e) right.0) (elim [ ]);
      some = omega arith;
    }
listed (more {b = b} d) right =
    let rest = listed d right.1.1 in
    record {
      each = λ x m. mem_head m (λ e. subst (λ (n : ℕ). T (is_letter n)) (sym e) right.0) (rest.each x);
      some = omega arith;
    }

alphabetic : {ts us : Ts} {ls : List Letter} → IsAlphabet ts ls us → Letters ts → Alphabetic ls
alphabetic (alphabet d) right = listed d right.1.1.1

settings_letters : {ts us : Ts} {first : _} {ls : List Letter} {decr_on_zero truth : _} → IsSettings ts first ls decr_on_zero truth us → Letters ts → Alphabetic ls
settings_letters (alphabet_first a d) right = alphabetic a right
settings_letters (decrement_first is_true a) right = alphabetic a right.1.1.1.1
settings_letters (decrement_first is_false a) right = alphabetic a right.1.1.1.1

program_letters : {ts : Ts} {p : Program} → IsProgram ts p → Letters ts → Alphabetic p.alphabet
program_letters (program d b) right = settings_letters d right

-- what is compiled is a well-formed image, which no dock refuses as such
pub compiled_image : {text : List ℕ} {p : Program} → Compilable text p → IsImage (construct p) (encode (construct p))
compiled_image {text} {p} c =
    let letters = program_letters c.reads.derived (text_letters c.reads.of_text) in
    record {
      in_range = constructed_in_range p c.reads.faultless letters.each letters.some c.states c.rows;
      encoded = refl;
    }
