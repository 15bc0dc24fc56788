-- Whatever the machine expects, some tokens complete it.
use Prim.Native.Nat.{ℕ}
use mathlib.Core.Path.{◌≡◌, refl}
use mathlib.Core.Option.{some}
use mathlib.Core.List.{List, [], ◌∷◌, ◌++◌}
use Rattle.text.specs.Token.{Token, w, s}
use Rattle.text.proofs.Runs.{T_true}
use Rattle.text.specs.Inside.Same.{same_token}
use Rattle.rule.specs.Tree.{Program}
use Rattle.rule.specs.Inside.Class.{Fixed, spell, classify}
use Rattle.rule.proofs.Machine.Class.{class_of_mark, same_self}
use Rattle.rule.specs.Inside.Machine as Machine
use Rattle.rule.specs.Inside.Machine.{Expected, Stack, Values, Move, on, pick}
use Rattle.rule.proofs.Machine.Steps.{Far, state, eat}
use Rattle.text.proofs.Written.{laid}
use Rattle.rule.proofs.Machine.Sound.{Ended}

-- the digit 0 and the letter a
abbrev pub zero_token : Token
zero_token = Token.number (48 ∷ [])

abbrev pub letter_token : Token
letter_token = Token.letter 97

-- a few tokens that a symbol takes, and nothing after them
abbrev pub short : Expected → List Token
short (Machine.exact m) = spell m ∷ []
short Machine.program =
    w "alphabet"
    ∷ s "="
    ∷ s "["
    ∷ letter_token
    ∷ s "]"
    ∷ s ";"
    ∷ w "decr_on_zero"
    ∷ s "="
    ∷ w "true"
    ∷ s ";"
    ∷ w "twoc"
    ∷ s "("
    ∷ w "string"
    ∷ s ")"
    ∷ s "{"
    ∷ s "}"
    ∷ []
short Machine.alphabet = w "alphabet" ∷ s "=" ∷ s "[" ∷ letter_token ∷ s "]" ∷ s ";" ∷ []
short Machine.decrement = w "decr_on_zero" ∷ s "=" ∷ w "true" ∷ s ";" ∷ []
short Machine.letters = letter_token ∷ s "]" ∷ []
short Machine.more_letters = s "]" ∷ []
short Machine.truth = w "true" ∷ s ";" ∷ []
short Machine.body = w "twoc" ∷ s "(" ∷ w "string" ∷ s ")" ∷ s "{" ∷ s "}" ∷ []
short (Machine.block d) = s "{" ∷ s "}" ∷ []
short (Machine.statements d) = s "}" ∷ []
short (Machine.or_else d) = s "}" ∷ []
short (Machine.arms d n) = w "also" ∷ s "{" ∷ s "}" ∷ s "}" ∷ []
short (Machine.or_also d n) = s "}" ∷ []
short (Machine.loop d) = w "choose" ∷ s "{" ∷ s "}" ∷ []
short Machine.distance = zero_token ∷ s ")" ∷ s ";" ∷ []
short Machine.end = w "lend" ∷ s ")" ∷ s ";" ∷ []
short Machine.change = s "++" ∷ s ";" ∷ []
short (Machine.number greatest) = zero_token ∷ []
short (Machine.operand n) = w "c" ∷ s "==" ∷ zero_token ∷ []
short (Machine.tail n) = s ")" ∷ []
short Machine.read_test = s "==" ∷ w "lend" ∷ []
short Machine.counter_test = s "==" ∷ zero_token ∷ []
short Machine.symbol_name = w "lend" ∷ []

-- and those that a whole stack takes
abbrev pub short_all : Stack → List Token
short_all [] = []
short_all (x ∷ st) = short x ++ short_all st

-- a mark that is expected is taken
exact_picked : {A : Type 0} (m : Fixed) (r : Move A) → pick (on m r ∷ []) (classify (spell m)) ≡ some r
exact_picked m r = rw (class_of_mark m) (rw (T_true (same_token (spell m) (spell m)) (same_self (spell m)), pick))

-- the tokens complete what is expected
pub completes : (st : Stack) (a : Far) (k : Values st → Program) (p : ℕ) → Ended (eat (state st a k) (laid p (short_all st)))
unfolding eat
completes [] a k p = refl
completes (Machine.exact m ∷ st) a k p = rw (exact_picked m) (completes st _ _ _)
completes (Machine.program ∷ st) a k p = completes st _ _ _
completes (Machine.alphabet ∷ st) a k p = completes st _ _ _
completes (Machine.decrement ∷ st) a k p = completes st _ _ _
completes (Machine.letters ∷ st) a k p = completes st _ _ _
completes (Machine.more_letters ∷ st) a k p = completes st _ _ _
completes (Machine.truth ∷ st) a k p = completes st _ _ _
completes (Machine.body ∷ st) a k p = completes st _ _ _
completes (Machine.block d ∷ st) a k p = completes st _ _ _
completes (Machine.statements d ∷ st) a k p = completes st _ _ _
completes (Machine.or_else d ∷ st) a k p = completes st _ _ _
completes (Machine.arms d n ∷ st) a k p = completes st _ _ _
completes (Machine.or_also d n ∷ st) a k p = completes st _ _ _
completes (Machine.loop d ∷ st) a k p = completes st _ _ _
completes (Machine.distance ∷ st) a k p = completes st _ _ _
completes (Machine.end ∷ st) a k p = completes st _ _ _
completes (Machine.change ∷ st) a k p = completes st _ _ _
completes (Machine.number greatest ∷ st) a k p = completes st _ _ _
completes (Machine.operand n ∷ st) a k p = completes st _ _ _
completes (Machine.tail n ∷ st) a k p = completes st _ _ _
completes (Machine.read_test ∷ st) a k p = completes st _ _ _
completes (Machine.counter_test ∷ st) a k p = completes st _ _ _
completes (Machine.symbol_name ∷ st) a k p = completes st _ _ _
