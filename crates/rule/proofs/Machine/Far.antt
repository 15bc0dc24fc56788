-- How far the machine has come behind a tree: its totals and the limits seen, added up in the order of the tokens.
use Prim.Native.Nat.{ℕ, suc, ◌+◌}
use mathlib.Core.Bool.{Bool, not}
use mathlib.Core.List.{List, [], ◌∷◌}
use lib.ListN.{length}
use lib.Dec.{leb}
use Rattle.rule.specs.Tree.{
  Number,
  Letter,
  SymbolName,
  letter,
  lend,
  rend,
  Atom,
  read_is,
  read_is_not,
  counter_is,
  counter_is_not,
  Condition,
  atom,
  parens,
  negation,
  both,
  either,
  Plain,
  move_by,
  move_back,
  goto_lend,
  goto_rend,
  increment,
  decrement,
  add,
  subtract,
  Statement,
  plain,
  accept,
  reject,
  if,
  while,
  choose,
  branch,
  Rest,
  nothing,
  else,
  Statements,
  done,
  ◌then◌,
  Arms,
  last_arm,
  more_arms,
  Order,
  alphabet_first,
  decrement_first,
  Program,
}
use Rattle.rule.specs.Limits.{is_in}
use Rattle.rule.specs.Inside.Machine.{counted, with_letter, outside, excess}
use Rattle.rule.proofs.Machine.Steps.{Far, noted}

-- so many states and rows more
abbrev pub counts : ℕ → ℕ → Far → Far
counts a b s = record { totals = counted a b s.totals; seen = s.seen }

-- a fault more, if the limit is broken
abbrev pub notes : Bool → ℕ → ℕ → Far → Far
notes b n p s = record { totals = s.totals; seen = noted b n p s.seen }

abbrev pub number_far : ℕ → Number → Far → Far
number_far greatest n = notes (outside greatest n.digits) 7 n.place

unfoldable pub sought_far : SymbolName → Far → Far
sought_far (letter l) s = notes (not (is_in l.byte s.totals.alphabet)) 6 l.place s
sought_far lend s = s
sought_far rend s = s

unfoldable pub atom_far : Atom → Far → Far
unfolding sought_far
atom_far (read_is x) s = sought_far x (counts 0 (length s.totals.alphabet + 2) s)
atom_far (read_is_not x) s = sought_far x (counts 0 (length s.totals.alphabet + 2) s)
atom_far (counter_is n) s = number_far 0 n (counts 0 2 s)
atom_far (counter_is_not n) s = number_far 0 n (counts 0 2 s)

unfoldable pub condition_far : ℕ → Condition → Far → Far
unfolding atom_far
condition_far n (atom p a) s = atom_far a s
condition_far n (parens p c) s = condition_far (suc n) c (notes (leb 16 n) 8 p s)
condition_far n (negation p c) s = condition_far (suc n) c (notes (leb 16 n) 8 p s)
condition_far n (both c d) s = condition_far n d (counts 1 0 (condition_far n c s))
condition_far n (either c d) s = condition_far n d (counts 1 0 (condition_far n c s))

unfoldable pub plain_far : Plain → Far → Far
plain_far (move_by n) s = number_far 63 n s
plain_far (move_back n) s = number_far 63 n s
plain_far goto_lend s = s
plain_far goto_rend s = s
plain_far increment s = s
plain_far decrement s = s
plain_far (add n) s = number_far 31 n s
plain_far (subtract n) s = number_far 31 n s

unfoldable mutual
  unfolding condition_far plain_far

  pub statement_far : ℕ → Statement → Far → Far
  statement_far d (plain p e) s = plain_far e (counts 1 1 s)
  statement_far d (accept p) s = counts 1 0 s
  statement_far d (reject p) s = counts 1 0 s
  statement_far d (if p c o b e) s =
      rest_far d e (statements_far (suc d) b (notes (leb 16 d) 8 o (condition_far 0 c (counts 3 2 s))))
  statement_far d (while p c o b) s = statements_far (suc d) b (notes (leb 16 d) 8 o (condition_far 0 c (counts 2 1 s)))
  statement_far d (choose p o b) s = statements_far (suc d) b (notes (leb 16 d) 8 o (counts 2 3 s))
  statement_far d (branch p o b a) s = arms_far d 1 a (statements_far (suc d) b (notes (leb 16 d) 8 o (counts 2 2 s)))

  pub rest_far : ℕ → Rest → Far → Far
  rest_far d nothing s = s
  rest_far d (else o b) s = statements_far (suc d) b (notes (leb 16 d) 8 o s)

  pub statements_far : ℕ → Statements → Far → Far
  statements_far d done s = s
  statements_far d (a then b) s = statements_far d b (statement_far d a s)

  pub arms_far : ℕ → ℕ → Arms → Far → Far
  arms_far d n (last_arm p o b) s = statements_far (suc d) b (notes (leb 16 d) 8 o (counts 1 2 (notes (leb 8 n) 9 p s)))
  arms_far d n (more_arms p o b a) s =
      arms_far d (suc n) a (statements_far (suc d) b (notes (leb 16 d) 8 o (counts 1 2 (notes (leb 8 n) 9 p s))))

unfoldable pub letters_far : List Letter → Far → Far
letters_far [] s = s
letters_far (l ∷ ls) s =
    letters_far
    ls
    (record {
      totals = with_letter l.byte s.totals;
      seen = noted (excess l.byte s.totals.alphabet) 5 l.place s.seen;
    })

unfoldable pub truth_far : Bool → ℕ → Far → Far
truth_far d p s = s

unfoldable pub settings_far : Order → List Letter → Bool → ℕ → Far → Far
unfolding letters_far truth_far
settings_far alphabet_first l d p s = truth_far d p (letters_far l s)
settings_far decrement_first l d p s = letters_far l (truth_far d p s)

unfoldable pub program_far : Program → Far → Far
unfolding settings_far statements_far
program_far p s =
    statements_far 1 p.body (notes (leb 16 0) 8 p.brace (settings_far p.first p.alphabet p.decr_on_zero p.truth s))
