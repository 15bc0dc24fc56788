-- What a reader has to show, step by step: each token that it takes is a move of the machine, and what it calls goes on from there.
use Prim.Native.Nat.{ℕ, suc, ◌+◌, ◌-◌, ◌*◌, ◌≤◌, ◌<◌}
use native.Mathlib.Omega.{arith}
use mathlib.Core.Path.{◌≡◌, refl, sym, ap, ◌∙◌, subst, subst₂}
use mathlib.Core.Bool.{true, false}
use mathlib.Core.Logic.{◌⊎◌, ⊎_elim}
use mathlib.Core.Option.{none, some}
use mathlib.Core.List.{List, [], ◌∷◌, ◌++◌, append_assoc}
use Rattle.std.specs.Prelude.{Result, Ok, Err}
use lib.ListN.{length, drop}
use Rattle.text.specs.Tokens.{Placed, ◌at◌, Ending, Tokens}
use Rattle.text.specs.Inside.Scan.{scan_from}
use Rattle.text.proofs.Tokens.{scan_from_right, tokens_once}
use Rattle.rule.specs.Inside.Class.{Class}
use Rattle.rule.specs.Inside.Machine.{Expected, Stack, Value, Totals, Move, choices, pick, move, start, refused}
use Rattle.rule.proofs.Machine.Steps.{run_stops, run_breaks, run_passes}
use Rattle.table.specs.Refusal.{number_of}
use Rattle.table.specs.declared.reason.Reason.{Reason}
use Rattle.reader.specs.Inside.Answers.{Front, Starts, Moved, Counted, Spot, spot, totals, before, ComesTo, Stops, Arrives, Answers, Past, Eats}
use Rattle.reader.specs.declared.answers.Counts.{Counts}
use Rattle.reader.specs.declared.answers.Reader.{Reader}
use Rattle.table.specs.declared.reason.Refusal.{Refusal}

-- the tokens from any byte of a text on
tokens_there : (text : List ℕ) (from : ℕ) → (ts : List Placed) × (e : Ending) × Tokens from (drop from text) ts e
tokens_there text from =
    let found = scan_from (suc (length (drop from text))) from (drop from text) in
    (found.tokens, found.ending, scan_from_right (suc (length (drop from text))) from (drop from text) (omega arith))

module _ {text : List ℕ} where
  -- one move of the machine, by the class of the token
  module _ {from p q : ℕ} {k : Class} (x : Expected) (t : Totals) (f : Front text from k p q) where
    pub goes : {m : Move (Value x)}
        → pick (choices t p x) k ≡ some m
        → m.breaks ≡ false
        → ComesTo text (spot from (x ∷ []) t) (spot q m.push m.totals)
    unfolding move
    goes {m} h b =
        record {
          before = (f.token at p) ∷ f.after;
          after = f.after;
          ending = f.ending;
          here = f.all;
          there = f.rest;
          same = λ st. run_passes x t f.token p m (ap (pick (choices t p x)) f.is ∙ h) b st f.after f.ending;
          forth = omega (arith, f.back, f.some);
        }

    pub breaks : {m : Move (Value x)} {why : Reason}
        → pick (choices t p x) k ≡ some m
        → m.breaks ≡ true
        → m.fault ≡ number_of why
        → Stops text (spot from (x ∷ []) t) (record { reason = why; place = p })
    unfolding move
    breaks {m} h b n =
        record {
          before = (f.token at p) ∷ f.after;
          ending = f.ending;
          here = f.all;
          same = λ st. run_breaks x t f.token p m (ap (pick (choices t p x)) f.is ∙ h) b st f.after f.ending ∙ ap (λ (number : ℕ). refused number p) n;
        }

    pub misses : pick (choices t p x) k ≡ none → Stops text (spot from (x ∷ []) t) (record { reason = Reason.Misplaced; place = p })
    unfolding move
    misses h =
        record {
          before = (f.token at p) ∷ f.after;
          ending = f.ending;
          here = f.all;
          same = λ st. run_stops x t f.token p (ap (pick (choices t p x)) f.is ∙ h) st f.after f.ending;
        }

  -- more is expected behind
  pub under : {s z : Spot} (w : Stack)
      → ComesTo text s z
      → ComesTo text (spot s.from (s.expects ++ w) s.totals) (spot z.from (z.expects ++ w) z.totals)
  under {s} {z} w h =
      record {
        before = h.before;
        after = h.after;
        ending = h.ending;
        here = h.here;
        there = h.there;
        same = λ st. rw (append_assoc s.expects w st, append_assoc z.expects w st) (h.same (w ++ st));
        forth = h.forth;
      }

  pub under_stops : {s : Spot} {r : Refusal} (w : Stack) → Stops text s r → Stops text (spot s.from (s.expects ++ w) s.totals) r
  under_stops {s} w h =
      record {
        before = h.before;
        ending = h.ending;
        here = h.here;
        same = λ st. rw (append_assoc s.expects w st) (h.same (w ++ st));
      }

  -- from spot to spot, and on
  pub comes_then : {s y z : Spot} → ComesTo text s y → ComesTo text y z → ComesTo text s z
  comes_then {s} {y} {z} g h =
      let once = tokens_once g.there h.here in
      record {
        before = g.before;
        after = h.after;
        ending = g.ending;
        here = g.here;
        there = rw once.1 h.there;
        same = λ st. g.same st ∙ rw (once.0, once.1) (h.same st);
        forth = omega (arith, g.forth, h.forth);
      }

  pub comes_stops : {s y : Spot} {r : Refusal} → ComesTo text s y → Stops text y r → Stops text s r
  comes_stops {s} {y} g h =
      let once = tokens_once g.there h.here in
      record {
        before = g.before;
        ending = g.ending;
        here = g.here;
        same = λ st. g.same st ∙ rw (once.0, once.1) (h.same st);
      }

  pub stand : (s : Spot) → ComesTo text s s
  stand s =
      let there = tokens_there text s.from in
      record {
        before = there.0;
        after = there.0;
        ending = there.1;
        here = there.2;
        there = there.2;
        same = λ st. refl;
        forth = omega arith;
      }

  -- a token taken
  moves : {from p q : ℕ} {k : Class} {x : Expected} {t : Totals} {m : Move (Value x)} {w : Stack} {n : Totals}
      → Front text from k p q
      → pick (choices t p x) k ≡ some m
      → m.breaks ≡ false
      → m.totals ≡ n
      → ComesTo text (spot from (x ∷ w) t) (spot q (m.push ++ w) n)
  moves {from} {q = q} {x = x} {t = t} {m = m} {w = w} f h l e =
      subst (λ (n : Totals). ComesTo text (spot from (x ∷ w) t) (spot q (m.push ++ w) n)) e (under w (goes x t f h l))

  -- from a reader where the machine has come
  comes_on : {s y : Spot} {r : Reader} {x : Stack} {a : List ℕ} → Arrives text s x a r → ComesTo r.text.now (before r x a) y → ComesTo text s y
  comes_on {y = y} {r = r} {x = x} {a = a} g h = comes_then g.comes (subst (λ (l : List ℕ). ComesTo l (before r x a) y) g.same h)

  pub arrives_on : {s : Spot} {r z : Reader} {x y : Stack} {a b : List ℕ} → Arrives text s x a r → Arrives r.text.now (before r x a) y b z → Arrives text s y b z
  arrives_on g h = record { comes = comes_on g h.comes; same = h.same ∙ g.same }

  pub stops_on : {s : Spot} {r : Reader} {x : Stack} {a : List ℕ} {f : Refusal} → Arrives text s x a r → Stops r.text.now (before r x a) f → Stops text s f
  stops_on {r = r} {x = x} {a = a} {f = f} g h = comes_stops g.comes (subst (λ (l : List ℕ). Stops l (before r x a) f) g.same h)

  -- what is answered by a reader where the machine has come is answered
  pub onward : {s : Spot} {r : Reader} {x y : Stack} {a b : List ℕ} {u : Result Reader Refusal}
      → Arrives text s x a r
      → Answers r.text.now (before r x a) y b u
      → Answers text s y b u
  onward {u = Ok z} g h = record { right = arrives_on g h.right }
  onward {u = Err f} g h = record { right = stops_on g h.right }

  -- what was called has read something, and more is expected behind
  pub went : {from : ℕ} {x z : Stack} {t : Totals} {a : List ℕ} {u : Result Reader Refusal} {r : Reader} (w : Stack)
      → Answers text (spot from x t) z a u
      → u ≡ Ok r
      → Arrives text (spot from (x ++ w) t) (z ++ w) a r
  went {from} {x = x} {z = z} {t = t} {a = a} w h e =
      let here = (subst (λ (v : Result Reader Refusal). Answers text (spot from x t) z a v) e h).right in
      record { comes = under w here.comes; same = here.same }

  pub went_forth : {s : Spot} {z : Stack} {a : List ℕ} {u : Result Reader Refusal} {r : Reader} → Answers text s z a u → u ≡ Ok r → s.from ≤ r.at
  went_forth {s} {z} {a} h e = (subst (λ (v : Result Reader Refusal). Answers text s z a v) e h).right.comes.forth

  pub went_same : {s : Spot} {z : Stack} {a : List ℕ} {u : Result Reader Refusal} {r : Reader} → Answers text s z a u → u ≡ Ok r → r.text.now ≡ text
  went_same {s} {z} {a} h e = (subst (λ (v : Result Reader Refusal). Answers text s z a v) e h).right.same

  pub arrived : {s : Spot} {z : Stack} {a : List ℕ} {r : Reader} → Arrives text s z a r → Answers text s z a (Ok r)
  arrived h = record { right = h }

  module _ {y : Stack} {b : List ℕ} where
    -- what was called has read something, and the rest
    pub then : {from : ℕ} {x z : Stack} {t : Totals} {a : List ℕ} {u v : Result Reader Refusal} {r : Reader} (w : Stack)
        → Answers text (spot from x t) z a u
        → u ≡ Ok r
        → Answers r.text.now (spot r.at (z ++ w) (totals a r.counts)) y b v
        → Answers text (spot from (x ++ w) t) y b v
    then w h e g = onward (went w h e) g

    -- what was called has refused, and so does the caller
    pub stop : {from : ℕ} {x z : Stack} {t : Totals} {a : List ℕ} {u : Result Reader Refusal} {f : Refusal} (w : Stack)
        → Answers text (spot from x t) z a u
        → u ≡ Err f
        → Answers text (spot from (x ++ w) t) y b (Err f)
    stop {from} {x = x} {z = z} {t = t} {a = a} w h e =
        record { right = under_stops w (subst (λ (v : Result Reader Refusal). Answers text (spot from x t) z a v) e h).right }

    -- a limit is broken
    pub break : {from p q : ℕ} {k : Class} {x : Expected} {t : Totals} {m : Move (Value x)} {w : Stack} {why : Reason}
        → Front text from k p q
        → pick (choices t p x) k ≡ some m
        → m.breaks ≡ true
        → m.fault ≡ number_of why
        → Answers text (spot from (x ∷ w) t) y b (Err (record { reason = why; place = p }))
    break {x = x} {t = t} {w = w} f h l n = record { right = under_stops w (breaks x t f h l n) }

  -- more is expected behind
  pub over : {from : ℕ} {x z : Stack} {t : Totals} {a : List ℕ} {u : Result Reader Refusal} (w : Stack)
      → Answers text (spot from x t) z a u
      → Answers text (spot from (x ++ w) t) (z ++ w) a u
  over {u = Ok r} w h = record { right = record { comes = under w h.right.comes; same = h.right.same } }
  over {u = Err f} w h = record { right = under_stops w h.right }

-- nothing more to read
pub here : (r : Reader) (x : Stack) (a : List ℕ) → Arrives r.text.now (before r x a) x a r
here r x a = record { comes = stand (before r x a); same = refl }

-- where nothing is taken, the machine goes on
pub peeked : {r : Reader} {x y : Stack} {a : List ℕ} → ComesTo r.text.now (before r x a) (before r y a) → Arrives r.text.now (before r x a) y a r
peeked h = record { comes = h; same = refl }

-- a token taken; the place may have its part in the move
module _ {r z : Reader} {k : Class} {x : Expected} {a b : List ℕ} (h : Moved r k z) where
  pub took_with : {m : Move (Value x)} (w : Stack)
      → pick (choices (totals a r.counts) h.place x) k ≡ some m
      → m.breaks ≡ false
      → m.totals ≡ totals b r.counts
      → Arrives r.text.now (before r (x ∷ w) a) (m.push ++ w) b z
  took_with {m} w picked free counts =
      record { comes = moves h.front picked free (counts ∙ ap (totals b) (sym h.counts_are)); same = h.same }

  -- and counted
  pub took_counted : {m : Move (Value x)} {i j : ℕ} {c : Reader} (w : Stack)
      → Counted z i j c
      → pick (choices (totals a r.counts) h.place x) k ≡ some m
      → m.breaks ≡ false
      → m.totals ≡ totals b (record { states = r.counts.states + i; rows = r.counts.rows + j })
      → Arrives r.text.now (before r (x ∷ w) a) (m.push ++ w) b c
  took_counted {m} {i} {j} {c} w more picked free counts =
      let counts_are : record { states = r.counts.states + i; rows = r.counts.rows + j } ≡ c.counts =
      ap (λ (n : Counts). record { states = n.states + i; rows = n.rows + j }) (sym h.counts_are) ∙ sym more.counts_are
      in
      record {
        comes =
            subst
            (λ (q : ℕ). ComesTo r.text.now (before r (x ∷ w) a) (spot q (m.push ++ w) (totals b c.counts)))
            (sym more.at_is)
            (moves h.front picked free (counts ∙ ap (totals b) counts_are));
        same = more.same ∙ h.same;
      }

-- behind a token there is room for what it counts
pub room : {r z : Reader} {k : Class} {i j : ℕ} → Moved r k z → i ≤ 3 → j ≤ 18 → (z.counts.states + i ≤ 3 * z.at + 1) × (z.counts.rows + j ≤ 18 * z.at)
room {r} {z} h few_states few_rows =
    let states = ap (λ (n : Counts). n.states) h.counts_are in
    let rows = ap (λ (n : Counts). n.rows) h.counts_are in (
      omega (arith, h.front.back, h.front.some, states, r.few_states),
      omega (arith, h.front.back, h.front.some, rows, r.few_rows),
    )

-- and it is further on
pub further : {r z : Reader} {k : Class} → Moved r k z → r.at < z.at
further h = omega (arith, h.front.back, h.front.some)

pub nearer : {r z : Reader} {k : Class} → Moved r k z → length z.text.now - z.at < length r.text.now - r.at
nearer h = omega (arith, h.front.back, h.front.some, h.front.within, ap (length {A = ℕ}) h.same)

-- at a text's first byte there is state 0
pub started : {text : List ℕ} {r : Reader} (x : Stack) → Starts text r → Arrives text (spot 0 x start) x [] r
started {text} x h =
    record {
      comes = subst₂ (λ (q : ℕ) (n : Counts). ComesTo text (spot 0 x start) (spot q x (totals [] n))) (sym h.at_is) (sym h.counts_are) (stand (spot 0 x start));
      same = h.same;
    }

-- what counts stays where it is
pub counted_nearer : {r z c : Reader} {k : Class} {i j : ℕ} → Moved r k z → Counted z i j c → length c.text.now - c.at < length r.text.now - r.at
counted_nearer h more = omega (arith, nearer h, more.at_is, ap (length {A = ℕ}) more.same)

-- the same of one of two tokens
module _ {r z : Reader} {k l : Class} (one : Moved r k z ⊎ Moved r l z) where
  pub either_room : {i j : ℕ} → i ≤ 3 → j ≤ 18 → (z.counts.states + i ≤ 3 * z.at + 1) × (z.counts.rows + j ≤ 18 * z.at)
  either_room few_states few_rows = ⊎_elim (λ h. room h few_states few_rows) (λ h. room h few_states few_rows) one

  pub either_nearer : {i j : ℕ} {c : Reader} → Counted z i j c → length c.text.now - c.at < length r.text.now - r.at
  either_nearer more = ⊎_elim (λ h. counted_nearer h more) (λ h. counted_nearer h more) one

-- what is read lies ahead
pub went_no_nearer : (r : Reader) {z : Reader} {x y : Stack} {a b : List ℕ} {u : Result Reader Refusal}
    → Answers r.text.now (before r x a) y b u
    → u ≡ Ok z
    → length z.text.now - z.at ≤ length r.text.now - r.at
went_no_nearer r h e = omega (arith, went_forth h e, ap (length {A = ℕ}) (went_same h e))

past_lem : (r z : Reader) {x y : Stack} {a b : List ℕ} (u : Result Reader Refusal) → r.at < z.at → Answers z.text.now (before z x a) y b u → Past r.at u
past_lem r z (Ok y) h g = omega (arith, g.right.comes.forth)
past_lem r z (Err f) h g = tt

-- a token taken and the rest: that is past it
module _ {r z : Reader} {k : Class} {x : Expected} {w y : Stack} {a : List ℕ} {u : Result Reader Refusal} (h : Moved r k z) where
  pub eats : {m : Move (Value x)}
      → pick (choices (totals a r.counts) h.place x) k ≡ some m
      → m.breaks ≡ false
      → m.totals ≡ totals a r.counts
      → Answers z.text.now (before z (m.push ++ w) a) y a u
      → Eats r (x ∷ w) y a u
  eats picked free counts g = record { answers = onward (took_with h w picked free counts) g; past = past_lem r z u (further h) g }

  pub eats_counted : {m : Move (Value x)} {i j : ℕ} {c : Reader}
      → Counted z i j c
      → pick (choices (totals a r.counts) h.place x) k ≡ some m
      → m.breaks ≡ false
      → m.totals ≡ totals a (record { states = r.counts.states + i; rows = r.counts.rows + j })
      → Answers c.text.now (before c (m.push ++ w) a) y a u
      → Eats r (x ∷ w) y a u
  eats_counted {c = c} more picked free counts g =
      record {
        answers = onward (took_counted h w more picked free counts) g;
        past = past_lem r c u (omega (arith, further h, more.at_is)) g;
      }

-- a token ends ahead, and in the text
pub ahead : {text : List ℕ} {from p q : ℕ} {k : Class} → Front text from k p q → (from ≤ q) × (q ≤ length text)
ahead f = (omega (arith, f.back, f.some), f.within)
