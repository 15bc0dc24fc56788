-- The settings as the emitter goes over them: letter by letter, the two in either order; what then is left to emit; and the whole.
use Prim.Native.Nat.{ℕ, suc, ◌+◌, ◌≤◌, ◌<◌}
use native.Mathlib.Omega.{arith}
use mathlib.Core.Path.{◌≡◌, refl, sym, ◌∙◌, ap, subst, subst₂}
use mathlib.Core.Bool.{Bool}
use mathlib.Core.List.{List, [], ◌∷◌, ◌++◌, append_assoc}
use lib.ListN.{length, get_or, take, drop, set, length-append, length-drop, take-append-drop}
use lib.Seq.{drop-cons, set_at, length-take-le}
use Rattle.text.specs.Token.{letter, word, w, s}
use Rattle.text.specs.Tokens.{◌at◌}
use denote.Enum.Bare.{sameb}
use Rattle.text.specs.contracts.Word.{the_type}
use Rattle.text.specs.declared.Word.{Word}
use Rattle.text.specs.declared.Sign.{Sign}
use Rattle.table.specs.Form.{letters_place, rows_place}
use Rattle.table.specs.Image.{encode}
use Rattle.rule.specs.Tree.{Letter, Order, Program, letter_bytes}
use Rattle.rule.specs.Grammar.{
  Ts,
  IsStatements,
  block,
  IsLetters,
  one,
  more,
  alphabet,
  IsDecrement,
  is_true,
  is_false,
  IsSettings,
  alphabet_first,
  decrement_first,
  IsProgram,
  program,
}
use Rattle.rule.proofs.Letters.{some_letter_lem}
use Rattle.rule.proofs.Within.{length-letter_bytes, program_within}
use Rattle.construction.specs.Construction.{program_part, construct}
use Rattle.construction.specs.Compile.{image_room}
use Rattle.bits.specs.Inside.Over.{over}
use Rattle.compiler.specs.Inside.Writing.{accept_bytes, written, row_place, Holds, Heads}
use Rattle.compiler.specs.Inside.Seeing.{Here, Behind, SeesWord, SeesSign, NotWord, NotSign, GoesPast, AtWord, AtLetter, ReadsLetter}
use Rattle.compiler.specs.Inside.Emission.{Emits, RestTask, the_rest}
use Rattle.compiler.specs.Inside.Setting.{LettersAt, Letters, Listing, Lists, TruthAt, yes_at, no_at, AtTruth, Tells, SettingsAt, Settings, Settling, Settles, Fits, sheet_of, Beginning, IsImage}
use Rattle.compiler.specs.declared.Emitter.{Emitter}
use Rattle.compiler.specs.declared.see.Cursor.{Cursor}
use Rattle.compiler.specs.declared.write.Image.{Image}
use Rattle.std.specs.Borrow.{MutBor}
use Rattle.compiler.specs.declared.settings.Settled.{Settled}
use Rattle.compiler.proofs.Writing.{length-written, written_whole}
use Rattle.compiler.proofs.Seeing.{word_behind, sign_behind, word_first_is, sign_first_is}

-- no byte is over any, and one more goes behind those that are there
over_none : (old : List ℕ) → old ≡ over old letters_place []
over_none old = sym (take-append-drop letters_place old)

over_more : (old bytes : List ℕ) (b n : ℕ) → n ≡ length bytes → n + letters_place < length old → set (over old letters_place bytes) (n + letters_place) b ≡ over old letters_place (bytes ++ (b ∷ []))
over_more old bytes b n many fits =
    let first = take letters_place old in
    let rest = drop (suc (letters_place + length bytes)) old in
    let long : length (first ++ bytes) ≡ n + letters_place = omega (arith, length-append first bytes, length-take-le letters_place old (omega arith)) in
    let opened : over old letters_place bytes ≡ (first ++ bytes) ++ (get_or old (letters_place + length bytes) 0 ∷ rest) =
    ap (λ (l : List ℕ). first ++ (bytes ++ l)) (drop-cons old (letters_place + length bytes) 0 (omega arith))
    ∙ sym (append_assoc first bytes (get_or old (letters_place + length bytes) 0 ∷ rest))
    in
    let ends : suc (letters_place + length bytes) ≡ letters_place + length (bytes ++ (b ∷ [])) = omega (arith, length-append bytes (b ∷ [])) in
    ap (λ (l : List ℕ). set l (n + letters_place) b) opened
    ∙ set_at (first ++ bytes) (get_or old (letters_place + length bytes) 0) rest b (n + letters_place) long
    ∙ append_assoc first bytes (b ∷ rest)
    ∙ ap (λ (l : List ℕ). first ++ l) (sym (append_assoc bytes (b ∷ []) rest))
    ∙ ap (λ (k : ℕ). first ++ ((bytes ++ (b ∷ [])) ++ drop k old)) ends

length_over : (old bytes : List ℕ) → letters_place + length bytes ≤ length old → length (over old letters_place bytes) ≡ length old
length_over old bytes fits =
    simp (length-append, length-drop) (omega (arith, length-take-le letters_place old (omega arith)))

-- the letters so far are in the image, and the others are to come
pub record SoFar (text before out : List ℕ) (place count : ℕ) (us : Ts) (l : List Letter) : Type 0 where
  pub rest : Ts
  pub left : List Letter
  pub bytes : List ℕ
  pub end : ℕ
  pub here : Here text place rest
  pub letters : IsLetters rest left ((s "]" at end) ∷ us)
  pub all : bytes ++ letter_bytes left ≡ letter_bytes l
  pub written : out ≡ over before letters_place bytes
  pub counted : count ≡ length bytes

pub so_far_none : {text before : List ℕ} {from : ℕ} {ts us : Ts} {l : List Letter} → LettersAt text from before ts us l → SoFar text before before from 0 us l
so_far_none {before = before} {ts = ts} {l = l} a =
    record {
      rest = ts;
      left = l;
      bytes = [];
      end = a.end;
      here = a.here;
      letters = a.letters;
      all = refl;
      written = over_none before;
      counted = refl;
    }

-- so it is of whatever letters stand there
pub record ListsSoFar (text before out : List ℕ) (from place count : ℕ) : Type 0 where
  pub lists : {ts us : Ts} {l : List Letter} → LettersAt text from before ts us l → SoFar text before out place count us l

-- the next of them stands there
record LetterStands (text : List ℕ) (place : ℕ) : Type 0 where
  pub byte : ℕ
  pub at₀ : ℕ
  pub us : Ts
  pub here : Here text place ((letter byte at at₀) ∷ us)

first_letter : {text : List ℕ} {place : ℕ} {ts us : Ts} {l : List Letter} → IsLetters ts l us → Here text place ts → LetterStands text place
first_letter one here = record { byte = _; at₀ = _; us = _; here = here }
first_letter (more m) here = record { byte = _; at₀ = _; us = _; here = here }

pub so_far_letter : {text before out : List ℕ} {count : ℕ} {us : Ts} {l : List Letter} {k : Cursor} → k.text.now ≡ text → SoFar text before out k.at count us l → AtLetter k
so_far_letter {k = k} same f =
    let l = first_letter f.letters f.here in
    record { byte = l.byte; place = l.at₀; us = l.us; here = subst (λ (t : List ℕ). Here t k.at ((letter l.byte at l.at₀) ∷ l.us)) (sym same) l.here }

-- there is room for one that is to come
pub so_far_room : {text before out : List ℕ} {from place count : ℕ} {ts us : Ts} {l : List Letter}
    → LettersAt text from before ts us l
    → SoFar text before out place count us l
    → (count < 16) × (count + letters_place < length out)
so_far_room {before = before} {out = out} {l = l} a f =
    let all : length f.bytes + length f.left ≡ length l = simp (length-append, length-letter_bytes) at (ap length f.all) in
    let fewer : length f.bytes < 16 = omega (arith, some_letter_lem f.letters, a.few, all) in
    let long : length out ≡ length before = ap length f.written ∙ length_over before f.bytes (omega (arith, a.room)) in
    (omega (arith, f.counted), omega (arith, f.counted, a.room))

-- a letter that is read
pub record LetterRead (text : List ℕ) (place mid b : ℕ) : Type 0 where
  pub reads : {byte q : ℕ} {vs : Ts} → Here text place ((letter byte at q) ∷ vs) → (b ≡ byte) × Behind text place mid vs

pub letter_read_in : {text : List ℕ} {k r : Cursor} {b : ℕ} → k.text.now ≡ text → ReadsLetter k r b → LetterRead text k.at r.at b
letter_read_in {k = k} {r = r} {b = b} same reads =
    subst (λ (t : List ℕ). LetterRead t k.at r.at b) same (record { reads = reads.reads })

module _ {text before out : List ℕ} {place mid count b : ℕ} {us : Ts} {l : List Letter} (reads : LetterRead text place mid b) where
  -- a comma behind it: another letter comes
  comma : {rest : Ts} {left : List Letter} {close end : ℕ} (bytes : List ℕ)
      → IsLetters rest left ((s "]" at close) ∷ us)
      → Here text place rest
      → bytes ++ letter_bytes left ≡ letter_bytes l
      → out ≡ over before letters_place (bytes ++ (b ∷ []))
      → count ≡ length (bytes ++ (b ∷ []))
      → SeesSign text mid end Sign.Comma
      → SoFar text before out end count us l
  unfolding letter_bytes
  comma bytes one here all written counted sees =
      let same : Sign.Comma ≡ Sign.CloseBracket = sign_first_is Sign.CloseBracket (sees.stands _ (reads.reads here).1.here) refl in
      absurd cc
  comma {close = close} bytes (more {ts = ts} {l = left} m) here all written counted sees =
      let r = reads.reads here in
      record {
        rest = ts;
        left = left;
        bytes = bytes ++ (b ∷ []);
        end = close;
        here = (sign_behind (sees.stands _ r.1.here)).here;
        letters = m;
        all = append_assoc bytes (b ∷ []) (letter_bytes left) ∙ ap (λ (x : ℕ). bytes ++ (x ∷ letter_bytes left)) r.0 ∙ all;
        written = written;
        counted = counted;
      }

  -- none: it was the last
  last : {rest : Ts} {left : List Letter} {close end : ℕ} (bytes : List ℕ)
      → IsLetters rest left ((s "]" at close) ∷ us)
      → Here text place rest
      → bytes ++ letter_bytes left ≡ letter_bytes l
      → out ≡ over before letters_place (bytes ++ (b ∷ []))
      → count ≡ length (bytes ++ (b ∷ []))
      → NotSign text mid Sign.Comma
      → GoesPast text mid 1 end
      → Listing text before out end us l count
  unfolding letter_bytes
  last bytes one here all written counted other pass =
      let r = reads.reads here in
      let whole : bytes ++ (b ∷ []) ≡ letter_bytes l = ap (λ (x : ℕ). bytes ++ (x ∷ [])) r.0 ∙ all in
      record {
        here = (pass.behind _ r.1.here (omega arith)).here;
        bytes = written ∙ ap (over before letters_place) whole;
        count = counted ∙ ap length whole ∙ length-letter_bytes l;
      }
  last bytes (more m) here all written counted other pass =
      absurd (other.other (reads.reads here).1.here refl)

-- a turn of the loop
module _ {text before out : List ℕ} {from place mid count b : ℕ} {ts us : Ts} {l : List Letter}
    (reads : LetterRead text place mid b) (a : LettersAt text from before ts us l) (f : SoFar text before out place count us l) where
  put : set out (count + letters_place) b ≡ over before letters_place (f.bytes ++ (b ∷ []))
  put =
      ap (λ (o : List ℕ). set o (count + letters_place) b) f.written
      ∙ over_more before f.bytes b count f.counted
      (omega (arith, so_far_room a f, ap length f.written, length_over before f.bytes (omega (arith, so_far_room a f, f.counted, a.room))))

  more_counted : count + 1 ≡ length (f.bytes ++ (b ∷ []))
  more_counted = omega (arith, f.counted, length-append f.bytes (b ∷ []))

  pub so_far_more : {end : ℕ} → SeesSign text mid end Sign.Comma → SoFar text before (set out (count + letters_place) b) end (count + 1) us l
  so_far_more sees = comma reads f.bytes f.letters f.here f.all put more_counted sees

  pub so_far_all : {end : ℕ} → NotSign text mid Sign.Comma → GoesPast text mid 1 end → Listing text before (set out (count + letters_place) b) end us l (count + 1)
  so_far_all other pass = last reads f.bytes f.letters f.here f.all put more_counted other pass

-- the truth that is told
record TruthStands (text : List ℕ) (place : ℕ) : Type 0 where
  pub bytes : List ℕ
  pub at₀ : ℕ
  pub us : Ts
  pub here : Here text place ((word bytes at at₀) ∷ us)

truth_stands : {text : List ℕ} {place : ℕ} {ts us : Ts} {d : Bool} → TruthAt ts d us → Here text place ts → TruthStands text place
truth_stands yes_at here = record { bytes = _; at₀ = _; us = _; here = here }
truth_stands no_at here = record { bytes = _; at₀ = _; us = _; here = here }

pub truth_at_word : {k : Cursor} → AtTruth k → AtWord k
truth_at_word a =
    let w = truth_stands a.is a.here in
    record { bytes = w.bytes; place = w.at₀; us = w.us; here = w.here }

module _ {text : List ℕ} {place mid end : ℕ} {x : Word} (sees : SeesWord text place mid x) (pass : GoesPast text mid 1 end) where
  pub truth_behind : {ts us : Ts} {d : Bool} → Here text place ts → TruthAt ts d us → Here text end us
  truth_behind here yes_at = (pass.behind _ (word_behind (sees.stands _ here)).here (omega arith)).here
  truth_behind here no_at = (pass.behind _ (word_behind (sees.stands _ here)).here (omega arith)).here

  pub told_is : {ts us : Ts} {d told : Bool} → told ≡ sameb the_type x Word.True → Here text place ts → TruthAt ts d us → told ≡ d
  told_is asked here yes_at =
      asked ∙ ap (λ (y : Word). sameb the_type y Word.True) (word_first_is Word.True (sees.stands _ here) refl)
  told_is asked here no_at =
      asked ∙ ap (λ (y : Word). sameb the_type y Word.True) (word_first_is Word.False (sees.stands _ here) refl)

-- `decr_on_zero`, two tokens before its truth
record DecrementOf (ts us : Ts) (d : Bool) : Type 0 where
  pub place : ℕ
  pub tail : Ts
  pub is : ts ≡ (w "decr_on_zero" at place) ∷ tail
  pub rest : Ts
  pub long : 2 ≤ length ts
  pub behind : drop 2 ts ≡ rest
  pub truth : TruthAt rest d us

decrement_of : {v : ℕ} {ts us : Ts} {d : Bool} → IsDecrement ts d v us → DecrementOf ts us d
decrement_of is_true =
    record { place = _; tail = _; is = refl; rest = _; long = omega arith; behind = refl; truth = yes_at }
decrement_of is_false =
    record { place = _; tail = _; is = refl; rest = _; long = omega arith; behind = refl; truth = no_at }

-- the letters stand from a place on, and `decr_on_zero` behind them
pub record LettersFirst (text out : List ℕ) (from : ℕ) (us : Ts) (l : List Letter) (d : Bool) : Type 0 where
  pub ts : Ts
  pub after : Ts
  pub rest : Ts
  pub stand : LettersAt text from out ts after l
  pub long : 3 ≤ length after
  pub is : drop 3 after ≡ rest
  pub truth : TruthAt rest d us

-- the other way round
pub record LettersLast (text out : List ℕ) (from : ℕ) (us : Ts) (l : List Letter) (d : Bool) : Type 0 where
  pub told : Ts
  pub middle : Ts
  pub inner : Ts
  pub after : Ts
  pub end : ℕ
  pub here : Here text from told
  pub truth : TruthAt told d middle
  pub long : 3 ≤ length middle
  pub opens : drop 3 middle ≡ inner
  pub letters : IsLetters inner l ((s "]" at end) ∷ after)
  pub few : length l ≤ 16
  pub room : image_room ≤ length out
  pub last : 1 ≤ length after
  pub ends : drop 1 after ≡ us

module _ {text out : List ℕ} {start : ℕ} where
  first : {v mid from : ℕ} {ts us : Ts} {f : Order} {l : List Letter} {d : Bool}
      → IsSettings ts f l d v us
      → Here text start ts
      → length l ≤ 16
      → image_room ≤ length out
      → SeesWord text start mid Word.Alphabet
      → GoesPast text mid 2 from
      → LettersFirst text out from us l d
  first (alphabet_first (alphabet {u = u} {v = v} {ts = inner} {us = after} letters) decrement) here few room sees pass =
      let o = decrement_of decrement in
      let r = pass.behind _ (word_behind (sees.stands _ here)).here (omega arith) in
      record {
        ts = inner;
        after = (s ";" at v) ∷ after;
        rest = o.rest;
        stand = record { end = u; here = r.here; letters = letters; few = few; room = room };
        long = omega (arith, o.long);
        is = o.behind;
        truth = o.truth;
      }
  first (decrement_first decrement letters) here few room sees pass =
      let o = decrement_of decrement in
      let same : Word.Alphabet ≡ Word.DecrOnZero = word_first_is Word.DecrOnZero (sees.stands _ (subst (Here text start) o.is here)) refl in
      absurd cc

  second : {v from : ℕ} {ts us : Ts} {f : Order} {l : List Letter} {d : Bool}
      → IsSettings ts f l d v us
      → Here text start ts
      → length l ≤ 16
      → image_room ≤ length out
      → NotWord text start Word.Alphabet
      → GoesPast text start 2 from
      → LettersLast text out from us l d
  second (alphabet_first (alphabet letters) decrement) here few room other pass =
      absurd (other.other here refl)
  second {from = from} (decrement_first decrement (alphabet {u = u} {v = v} {ts = inner} {us = after} letters)) here few room other pass =
      let o = decrement_of decrement in
      record {
        told = o.rest;
        middle = _;
        inner = inner;
        after = (s ";" at v) ∷ after;
        end = u;
        here = subst (Here text from) o.behind (pass.behind _ here o.long).here;
        truth = o.truth;
        long = omega arith;
        opens = refl;
        letters = letters;
        few = few;
        room = room;
        last = omega arith;
        ends = refl;
      }

  pub letters_first : {mid from : ℕ} {ts us : Ts} {l : List Letter} {d : Bool}
      → SeesWord text start mid Word.Alphabet
      → GoesPast text mid 2 from
      → SettingsAt text start out ts us l d
      → LettersFirst text out from us l d
  letters_first sees pass a = first a.settings a.here a.few a.room sees pass

  pub letters_last : {from : ℕ} {ts us : Ts} {l : List Letter} {d : Bool}
      → NotWord text start Word.Alphabet
      → GoesPast text start 2 from
      → SettingsAt text start out ts us l d
      → LettersLast text out from us l d
  letters_last other pass a = second a.settings a.here a.few a.room other pass

-- what a function goes past, sees, lists and tells, in the text that it goes over
pub lists_in : {k r : Cursor} {text before after : List ℕ} {many : ℕ} {ts us : Ts} {l : List Letter}
    → k.text.now ≡ text
    → Lists k r before after many
    → LettersAt text k.at before ts us l
    → Listing text before after r.at us l many
lists_in {k} {r} {before = before} {after = after} {many = many} {ts = ts} {us = us} {l = l} same lists =
    subst (λ (t : List ℕ). LettersAt t k.at before ts us l → Listing t before after r.at us l many) same lists.lists

pub tells_in : {k r : Cursor} {text : List ℕ} {told : Bool} {ts us : Ts} {d : Bool}
    → k.text.now ≡ text
    → Tells k r told
    → Here text k.at ts
    → TruthAt ts d us
    → (told ≡ d) × Here text r.at us
tells_in {k} {r} {told = told} {ts = ts} {us = us} {d = d} same tells =
    subst (λ (t : List ℕ). Here t k.at ts → TruthAt ts d us → (told ≡ d) × Here t r.at us) same tells.tells

pub truth_in : {k : Cursor} {text : List ℕ} {ts us : Ts} {d : Bool} → k.text.now ≡ text → Here text k.at ts → TruthAt ts d us → AtTruth k
truth_in {k} {ts = ts} same here is =
    record { ts = _; us = _; d = _; here = subst (λ (t : List ℕ). Here t k.at ts) (sym same) here; is = is }

pub letters_in : {k : Cursor} {text before : List ℕ} {ts us : Ts} {l : List Letter} → k.text.now ≡ text → LettersAt text k.at before ts us l → Letters k before
letters_in {k} {before = before} {ts = ts} {us = us} {l = l} same stand =
    record { ts = _; us = _; l = _; stand = subst (λ (t : List ℕ). LettersAt t k.at before ts us l) (sym same) stand }

-- both settings are read: the letters and then the truth
module _ {text before : List ℕ} {us : Ts} {l : List Letter} {d : Bool} where
  module _ {from mid behind : ℕ} {after : List ℕ} {many : ℕ} (f : LettersFirst text before from us l d)
      (listing : Listing text before after mid f.after l many) (pass : GoesPast text mid 3 behind) where
    pub truth_first : Here text behind f.rest
    truth_first = subst (Here text behind) f.is (pass.behind _ listing.here f.long).here

    pub settled_first : {end : ℕ} {told : Bool}
        → (told ≡ d) × Here text end us
        → Settling text before after end us l d (record { count = many; decr_on_zero = told })
    settled_first tells =
        record { here = tells.1; bytes = listing.bytes; count = listing.count; decr_on_zero = tells.0 }

  -- or the truth and then the letters
  module _ {from : ℕ} (f : LettersLast text before from us l d) where
    pub letters_then : {mid behind : ℕ} → Here text mid f.middle → GoesPast text mid 3 behind → LettersAt text behind before f.inner f.after l
    letters_then {behind = behind} here pass =
        record {
          end = f.end;
          here = subst (Here text behind) f.opens (pass.behind _ here f.long).here;
          letters = f.letters;
          few = f.few;
          room = f.room;
        }

    pub settled_last : {after : List ℕ} {mid end many : ℕ} {told : Bool}
        → told ≡ d
        → Listing text before after mid f.after l many
        → GoesPast text mid 1 end
        → Settling text before after end us l d (record { count = many; decr_on_zero = told })
    settled_last {end = end} is listing pass =
        record {
          here = subst (Here text end) f.ends (pass.behind _ listing.here f.last).here;
          bytes = listing.bytes;
          count = listing.count;
          decr_on_zero = is;
        }

-- a program: its settings, five tokens more, and the statements of its block
record Opening (ts : Ts) (p : Program) : Type 0 where
  pub front : Ts
  pub rest : Ts
  pub close : ℕ
  pub settings : IsSettings ts p.first p.alphabet p.decr_on_zero p.truth front
  pub long : 5 ≤ length front
  pub is : drop 5 front ≡ rest
  pub body : IsStatements rest p.body ((s "}" at close) ∷ [])

opening : {ts : Ts} {p : Program} → IsProgram ts p → Opening ts p
opening (program settings (block b)) =
    record { front = _; rest = _; close = _; settings = settings; long = omega arith; is = refl; body = b }

module _ {text before : List ℕ} {states rows : ℕ} {p : Program} (fits : Fits text before states rows p) where
  opens : Opening fits.reads.tokens p
  opens = opening fits.reads.derived

  few : length (letter_bytes p.alphabet) ≤ 16
  few = (program_within p fits.reads.faultless).few

  settings_at : SettingsAt text 0 before fits.reads.tokens opens.front p.alphabet p.decr_on_zero
  settings_at =
      record {
        here = record { ending = _; tokens = fits.reads.of_text };
        first = p.first;
        truth = p.truth;
        settings = opens.settings;
        few = omega (arith, few, length-letter_bytes p.alphabet);
        room = fits.room;
      }

  pub fits_settings : {k : Cursor} → k.text.now ≡ text → k.at ≡ 0 → Settings k before
  fits_settings {k} same zero =
      record {
        ts = _;
        us = _;
        l = _;
        d = _;
        stand = subst₂ (λ (t : List ℕ) (n : ℕ). SettingsAt t n before fits.reads.tokens opens.front p.alphabet p.decr_on_zero) (sym same) (sym zero) settings_at;
      }

  module _ {middle : List ℕ} {k r : Cursor} {settled : Settled} (same : k.text.now ≡ text) (zero : k.at ≡ 0) (settles : Settles k r before middle settled) where
    settling : Settling text before middle r.at opens.front p.alphabet p.decr_on_zero settled
    settling =
        subst₂ (λ (t : List ℕ) (n : ℕ). SettingsAt t n before fits.reads.tokens opens.front p.alphabet p.decr_on_zero → Settling t before middle r.at opens.front p.alphabet p.decr_on_zero settled) same zero settles.settles settings_at

    pub fits_header : (settled.count ≤ 16) × (states ≤ 128) × (rows ≤ 1024) × (image_room ≤ length middle)
    fits_header = (
      omega (arith, settling.count, settings_at.few),
      fits.few_states,
      fits.few_rows,
      omega (arith, fits.room, ap length settling.bytes, length_over before (letter_bytes p.alphabet) (omega (arith, few, fits.room))),
    )

    -- the header is written, and the block's statements are next
    pub fits_beginning : {k' : Cursor} {i : Image}
        → k'.text.now ≡ text
        → GoesPast text r.at 5 k'.at
        → Heads middle i.out.now settled.count settled.decr_on_zero states rows
        → i.row ≡ rows_place settled.count
        → Beginning before states rows p k' i
    unfolding program_part construct
    fits_beginning {k'} {i} text-is pass heads row =
        let alphabet = letter_bytes p.alphabet in
        let count : settled.count ≡ length alphabet = settling.count ∙ sym (length-letter_bytes p.alphabet) in
        let holds = heads.heads before alphabet settling.bytes count in
        record {
          ts = opens.rest;
          doing = record {
            stands = record {
              here =
                  subst (λ (t : List ℕ). Here t k'.at opens.rest) (sym text-is)
                  (subst (Here text k'.at) opens.is (pass.behind _ settling.here opens.long).here);
              filled = record {
                holds =
                    subst (λ (decr_on_zero : Bool). Holds (record { old = before; alphabet = alphabet; decr_on_zero = decr_on_zero; states = states; count = rows }) [] [] i.out.now)
                    settling.decr_on_zero
                    holds;
                here = omega (arith, count, row);
              };
              state = refl;
              takes = refl;
              taken = omega arith;
            };
            is = the_rest opens.body (program_within p fits.reads.faultless).body;
            states = omega (arith, fits.states_are, fits.few_states);
            fits = omega (arith, fits.rows_are);
          };
        }

-- when that is emitted too, the buffer begins with the image
pub whole_image : {text before after : List ℕ} {states rows end : ℕ} {p : Program} {k : Cursor} {i : MutBor Image} {r : Emitter}
    → Fits text before states rows p
    → Beginning before states rows p k i.now
    → Emits RestTask (record { cursor = k; image = i; state = 0; next = 1 }) r
    → after ≡ r.image.now.out.now
    → end ≡ r.image.now.row
    → IsImage before after p end
unfolding construct
whole_image {before = before} {states = states} {rows = rows} {p = p} {r = r} fits b emits last end =
    let h = sheet_of before states rows p in
    let part = program_part p in
    let filled = (emits.emits b.doing).stands.filled in
    let same : written h part.accepting part.rows ≡ encode (construct p) =
    written_whole h part.accepting part.rows fits.rows_are
    ∙ ap (λ (n : ℕ). encode (record {
      alphabet = h.alphabet;
      decr_on_zero = h.decr_on_zero;
      states = n;
      accepting = accept_bytes part.accepting;
      rows = part.rows;
    })) fits.states_are
    in
    record {
      written =
          last
          ∙ filled.holds.bytes
          ∙ ap (λ (l : List ℕ). l ++ drop (row_place h part.rows) before) same
          ∙ ap (λ (n : ℕ). encode (construct p) ++ drop n before) (sym (end ∙ filled.here));
      long = end ∙ filled.here ∙ sym (length-written h part.accepting part.rows) ∙ ap length same;
    }
