-- "Some program goes on with these tokens" speaks of token lists. It loses nothing against texts: where some program goes on with a
-- text's first tokens, some text does, which begins with the same bytes up to the last of them and is a program.
use Prim.Native.Nat.{ℕ, ◌+◌}
use mathlib.Core.Path.{◌≡◌, refl, sym, ◌∙◌, ap, subst}
use mathlib.Core.Logic.{◌↔◌}
use mathlib.Core.Option.{some}
use mathlib.Core.List.Memᴰ
use mathlib.Core.List.{List, [], ◌∷◌, ◌++◌, append_assoc, Memᴰ, head-eq_of_cons-eq}
use lib.Dec.{T}
use Rattle.text.specs.Token.{Token}
use Rattle.text.specs.Tokens.{◌at◌, line_feed, Ending, ends, white, blank, TokensOf}
use Rattle.text.proofs.Rising.{rising}
use Rattle.text.proofs.Written.{writable, all_writable, written, written_tokens, laid, cut}
use Rattle.bits.proofs.Tests.{and_left, and_right, and_of}
use Rattle.rule.specs.Tree.{Program}
use Rattle.rule.specs.Grammar.{IsProgram}
use Rattle.rule.specs.Limits.{Fault, fault}
use Rattle.rule.specs.Faults.{GoesOn, Clean, Breaks}
use Rattle.rule.specs.Inside.Class.{Fixed, spell}
use Rattle.rule.specs.Inside.Machine as Machine
use Rattle.rule.specs.Inside.Machine.{Expected, Stack}
use Rattle.rule.proofs.Machine.Steps.{Ts, State, begin, eat, grown}
use Rattle.rule.proofs.Machine.Sound.{Ended, eaten_program}
use Rattle.rule.proofs.Machine.Viable.{short, short_all, completes}
use Rattle.rule.proofs.Outcomes.{eat_then, goes_taken, goes_adds, not_within, clean_passed}

-- another text: it begins with the same bytes up to the last of these tokens, and its tokens are these and then the program's others
pub record AsText (text : List ℕ) (ts : Ts) (c : GoesOn ts) : Type 0 where
  pub front : List ℕ
  pub back : List ℕ
  pub begins : text ≡ front ++ back
  pub tail : List ℕ
  pub place : ℕ
  pub of_text : TokensOf (front ++ tail) (ts ++ c.after) (ends place)

-- the tokens that complete a stack can be written
all_writable_lem : (ts us : List Token) → T (all_writable ts) → T (all_writable us) → T (all_writable (ts ++ us))
all_writable_lem [] us t u = u
all_writable_lem (x ∷ ts) us t u =
    and_of (writable x) (all_writable (ts ++ us)) (and_left (writable x) (all_writable ts) t)
    (all_writable_lem ts us (and_right (writable x) (all_writable ts) t) u)

mark_writable : (m : Fixed) → T (all_writable (spell m ∷ []))
mark_writable Fixed.alphabet = tt
mark_writable Fixed.decr_on_zero = tt
mark_writable Fixed.is_true = tt
mark_writable Fixed.is_false = tt
mark_writable Fixed.twoc = tt
mark_writable Fixed.string = tt
mark_writable Fixed.move = tt
mark_writable Fixed.goto = tt
mark_writable Fixed.lend = tt
mark_writable Fixed.rend = tt
mark_writable Fixed.c = tt
mark_writable Fixed.accept = tt
mark_writable Fixed.reject = tt
mark_writable Fixed.if = tt
mark_writable Fixed.else = tt
mark_writable Fixed.while = tt
mark_writable Fixed.choose = tt
mark_writable Fixed.branch = tt
mark_writable Fixed.also = tt
mark_writable Fixed.read = tt
mark_writable Fixed.equals = tt
mark_writable Fixed.same = tt
mark_writable Fixed.differs = tt
mark_writable Fixed.not = tt
mark_writable Fixed.and = tt
mark_writable Fixed.or = tt
mark_writable Fixed.plus_plus = tt
mark_writable Fixed.minus_minus = tt
mark_writable Fixed.plus_equals = tt
mark_writable Fixed.minus_equals = tt
mark_writable Fixed.minus = tt
mark_writable Fixed.opens = tt
mark_writable Fixed.closes = tt
mark_writable Fixed.begins = tt
mark_writable Fixed.ends = tt
mark_writable Fixed.open_list = tt
mark_writable Fixed.close_list = tt
mark_writable Fixed.comma = tt
mark_writable Fixed.semicolon = tt

short_writable : (x : Expected) → T (all_writable (short x))
short_writable (Machine.exact m) = mark_writable m
short_writable Machine.program = tt
short_writable Machine.alphabet = tt
short_writable Machine.decrement = tt
short_writable Machine.letters = tt
short_writable Machine.more_letters = tt
short_writable Machine.truth = tt
short_writable Machine.body = tt
short_writable (Machine.block d) = tt
short_writable (Machine.statements d) = tt
short_writable (Machine.or_else d) = tt
short_writable (Machine.arms d n) = tt
short_writable (Machine.or_also d n) = tt
short_writable (Machine.loop d) = tt
short_writable Machine.distance = tt
short_writable Machine.end = tt
short_writable Machine.change = tt
short_writable (Machine.number greatest) = tt
short_writable (Machine.operand n) = tt
short_writable (Machine.tail n) = tt
short_writable Machine.read_test = tt
short_writable Machine.counter_test = tt
short_writable Machine.symbol_name = tt

stack_writable : (st : Stack) → T (all_writable (short_all st))
stack_writable [] = tt
stack_writable (x ∷ st) = all_writable_lem (short x) (short_all st) (short_writable x) (stack_writable st)

-- so behind a text's first tokens that are taken, the text can go on to a program
taken_text : {text : List ℕ} (ts us : Ts) {e : Ending} (z : State)
    → TokensOf text (ts ++ us) e
    → eat begin ts ≡ some z
    → (c : GoesOn ts) × AsText text ts c
taken_text ts us z h taken =
    let cuts = cut h ts us refl in
    let more = short_all z.stack in
    let (end, tokens) = written_tokens (cuts.place + 1) more (stack_writable z.stack) in
    let whole = cuts.goes_on (written more) (laid (cuts.place + 1) more) (ends end) (blank (white tt) tokens) in
    let (x, d) =
    eaten_program
    (ts ++ laid (cuts.place + 1) more)
    (subst Ended (sym (eat_then ts taken (laid (cuts.place + 1) more))) (completes z.stack z.far z.build (cuts.place + 1)))
    in (
      record { after = laid (cuts.place + 1) more; program = x; rising = rising whole; derived = d },
      record {
        front = cuts.front;
        back = cuts.back;
        begins = cuts.begins;
        tail = line_feed ∷ written more;
        place = end;
        of_text = whole;
      },
    )

-- where some program goes on with a text's first tokens, some text does
pub goes_on_text : {text : List ℕ} (ts us : Ts) {e : Ending} → TokensOf text (ts ++ us) e → GoesOn ts → (c : GoesOn ts) × AsText text ts c
goes_on_text ts us h c = let (z, taken) = goes_taken c in taken_text ts us z h taken

-- so a token that no program can have here, no text that is a program has here: what refusal 4 says of token lists holds of texts
pub not_here_text : {text : List ℕ} (ts us : Ts) {e : Ending}
    → TokensOf text (ts ++ us) e
    → (¬ GoesOn ts)
    ↔ ((other : List ℕ) (after : Ts) (place : ℕ) (q : Program) → TokensOf other (ts ++ after) (ends place) → ¬ IsProgram (ts ++ after) q)
not_here_text ts us h = (
  λ never other after place q tokens d. never (record { after = after; program = q; rising = rising tokens; derived = d }),
  λ never c.
      let (g, a) = goes_on_text ts us h c in
      never (a.front ++ a.tail) g.after a.place g.program a.of_text g.derived,
)

-- the same of programs that break no limit within these tokens
pub clean_text : {text : List ℕ} (ts us : Ts) {e : Ending}
    → TokensOf text (ts ++ us) e
    → Clean ts
    → (c : Clean ts) × AsText text ts c.goes_on
clean_text ts us h clean =
    let x = clean_passed clean in
    let (c, a) = taken_text ts us x.state h x.eaten in
    let adds = goes_adds c x.state x.eaten in (
      record {
        goes_on = c;
        within = λ n p t m k.
            not_within c k (adds.placed (fault n p) (subst (Memᴰ (fault n p)) (grown adds x.unseen) m)).1;
      },
      a,
    )

-- and of programs whose first broken limit stands at the last of these tokens
pub breaks_text : {text : List ℕ} (ts us : Ts) (t : Token) {e : Ending} {n p : ℕ}
    → TokensOf text (ts ++ ((t at p) ∷ us)) e
    → Breaks (ts ++ ((t at p) ∷ [])) (fault n p)
    → (b : Breaks (ts ++ ((t at p) ∷ [])) (fault n p)) × AsText text (ts ++ ((t at p) ∷ [])) b.goes_on
breaks_text {text} ts us t {e = e} {n = n} {p = p} h b =
    let (z, taken) = goes_taken b.goes_on in
    let here : TokensOf text ((ts ++ ((t at p) ∷ [])) ++ us) e = rw append_assoc h in
    let (c, a) = taken_text (ts ++ ((t at p) ∷ [])) us z here taken in
    let old = goes_adds b.goes_on z taken in
    let new = goes_adds c z taken in
    let first = head z.far.seen b.goes_on old.new b.others new.new old.placed (sym b.first ∙ old.seen) in
    (record { goes_on = c; others = first.0; first = new.seen ∙ first.1 }, a)
  where
    head
        : (seen : List Fault) (g : GoesOn (ts ++ ((t at p) ∷ []))) (later others more : List Fault)
        → ((f : Fault) → Memᴰ f later → (u : Token) × Memᴰ (u at f.place) g.after)
        → fault n p ∷ others ≡ seen ++ later
        → (rest : List Fault) × (seen ++ more ≡ fault n p ∷ rest)
    head [] g later others more stand same =
        let (u, k) = stand (fault n p) (subst (Memᴰ (fault n p)) same (Memᴰ.head refl)) in
        absurd (not_within g (Memᴰ.append_right ts (Memᴰ.head refl)) k)
    head (f ∷ seen) g later others more stand same = (seen ++ more, ap (λ (x : Fault). x ∷ (seen ++ more)) (sym (head-eq_of_cons-eq same)))
