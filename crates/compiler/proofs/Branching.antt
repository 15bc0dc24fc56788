-- A branch and its arms: what each call has to emit, and what is emitted behind it.
use Prim.Native.Nat.{ℕ, ◌+◌, ◌≤◌, ◌<◌}
use native.Mathlib.Omega.{arith}
use mathlib.Core.Path.{◌≡◌, refl, sym, subst}
use mathlib.Core.List.{List, [], ◌∷◌, ◌++◌}
use lib.ListN.{length}
use Rattle.text.specs.Token.{w}
use Rattle.text.specs.Tokens.{◌at◌}
use Rattle.text.specs.declared.Word.{Word}
use Rattle.table.specs.Table.{Row}
use Rattle.rule.specs.Tree.{Statement, Arms}
use Rattle.rule.specs.Grammar as Grammar
use Rattle.rule.specs.Grammar.{Ts, IsArms, block}
use Rattle.rule.proofs.Invert.{Branch, arms, statement_branch, Arm, lone, and_more, behind-also}
use Rattle.rule.specs.Inside.Within.{StatementWithin, ArmsWithin}
use Rattle.construction.specs.Construction.{free, Part, arm_part, and_then, statement_part, statements_part, arms_part}
use Rattle.compiler.specs.Inside.Writing.{Sheet, Room, Writes}
use Rattle.compiler.specs.Inside.Seeing.{Here, SeesWord, NotWord}
use Rattle.compiler.specs.Inside.Emission.{Doing, Emitted, rows_part, Follows, HeadedTask, closed_part, BodyTask, a_body, ArmsTask, the_arms}
use Rattle.compiler.specs.Inside.Place.{Place}
use Rattle.construction.proofs.Counts.{statements_next, arms_next}
use Rattle.compiler.proofs.Emission.{at_moved, fits_first, fits_then, emitted_as}
use Rattle.compiler.proofs.Stepping.{headed_of}
use Rattle.compiler.proofs.Nesting.{settled, at_anew, free_room, free_emitted, emitted_then, HeadAt, head_at}

-- arms: the row to the first, its block, and what stands behind it
abbrev pub arm_row : ℕ → ℕ → Part
arm_row p next = rows_part (free p next ∷ []) p next

pub data ArmsEnd (to : ℕ) (alphabet : List ℕ) (p : ℕ) (first : Part) : Ts → Ts → Part → Type 0 where
  last : {us : Ts} → Follows us → ArmsEnd to alphabet p first us us first
  more : {k : ℕ} {ts us : Ts} {later : Part}
      → ArmsTask to alphabet p first.next ts us later
      → first.next ≤ later.next
      → ArmsEnd to alphabet p first ((w "also" at k) ∷ ts) us (and_then first later)

pub record ArmsOf (to : ℕ) (alphabet : List ℕ) (p next : ℕ) (ts us : Ts) (part : Part) : Type 0 where
  pub behind : Ts
  pub arm : Part
  pub block : BodyTask to alphabet next (next + 1) ts behind arm
  pub grows : next + 1 ≤ arm.next
  pub end : ArmsEnd to alphabet p (and_then (arm_row p next) arm) behind us part

-- arms begin with `also`
record AlsoAt (us : Ts) : Type 0 where
  pub place : ℕ
  pub rest : Ts
  pub is : us ≡ (w "also" at place) ∷ rest

arms_also : {us vs : Ts} {a : Arms} → IsArms us a vs → AlsoAt us
arms_also (Grammar.last_arm b) = record { place = _; rest = _; is = refl }
arms_also (Grammar.more_arms b a) = record { place = _; rest = _; is = refl }

arms_end : {to : ℕ} {alphabet : List ℕ} {p : ℕ} {us vs : Ts} (first : Part) (a : Arms)
    → IsArms us a vs
    → Follows vs
    → ArmsWithin alphabet a
    → to < first.next
    → ArmsEnd to alphabet p first us vs (and_then first (arms_part alphabet a p to first.next))
arms_end {to} {alphabet} {p} {us} {vs} first a d follows within below =
    let later = arms_part alphabet a p to first.next in
    let also = arms_also d in
    subst (λ (xs : Ts). ArmsEnd to alphabet p first xs vs (and_then first later)) (sym also.is)
    (more (the_arms (subst (λ (xs : Ts). IsArms xs a vs) also.is d) follows within below)
    (omega (arith, arms_next a alphabet p to first.next)))

arms_case : {to : ℕ} {alphabet : List ℕ} {p next : ℕ} {ts us : Ts} {a : Arms} → Arm ts a us → Follows us → ArmsWithin alphabet a → to < next → ArmsOf to alphabet p next ts us (arms_part alphabet a p to next)
unfolding arms_part arm_part and_then ArmsWithin
arms_case {to} {alphabet} {p} {next} (lone {b = b} d) follows within below =
    record {
      behind = _;
      arm = _;
      block = a_body d within (omega arith);
      grows = omega (arith, statements_next b alphabet next (next + 1));
      end = last follows;
    }
arms_case {to} {alphabet} {p} {next} (and_more {b = b} {a = a} d e) follows (within, later) below =
    let grown = statements_next b alphabet next (next + 1) in
    record {
      behind = _;
      arm = _;
      block = a_body d within (omega arith);
      grows = omega (arith, grown);
      end = arms_end (and_then (arm_row p next) (closed_part (statements_part alphabet b next (next + 1)) to)) a e follows later (omega (arith, grown));
    }

pub arms_of : {to : ℕ} {alphabet : List ℕ} {p next : ℕ} {ts us : Ts} {part : Part} → ArmsTask to alphabet p next ts us part → ArmsOf to alphabet p next ts us part
arms_of (the_arms d follows within below) = arms_case (behind-also d) follows within below

-- the first part of them fits
end_fits : {to : ℕ} {alphabet : List ℕ} {p : ℕ} {ts us : Ts} {part first : Part} {n : ℕ} (rows : List Row) → ArmsEnd to alphabet p first ts us part → length rows + length part.rows ≤ n → length rows + length first.rows ≤ n
unfolding and_then
end_fits rows (last follows) fits = fits
end_fits {first = first} rows (more {later = later} t grows) fits = fits_first rows first.rows later.rows fits

end_states : {to : ℕ} {alphabet : List ℕ} {p : ℕ} {ts us : Ts} {part first : Part} → ArmsEnd to alphabet p first ts us part → first.next ≤ part.next
unfolding and_then
end_states (last follows) = omega arith
end_states (more t grows) = grows

-- with no `also` that is all
record NoAlso (first : Part) (ts us : Ts) (part : Part) : Type 0 where
  pub same : ts ≡ us
  pub is : part ≡ first

no_also_lem : {text : List ℕ} {from to : ℕ} {alphabet : List ℕ} {p : ℕ} {first : Part} {ts us : Ts} {part : Part}
    → ArmsEnd to alphabet p first ts us part
    → Here text from ts
    → NotWord text from Word.Also
    → NoAlso first ts us part
no_also_lem (last follows) here other = record { same = refl; is = refl }
no_also_lem (more t grows) here other = absurd (other.other here refl)

-- and else there are more
pub record MoreArms (to : ℕ) (alphabet : List ℕ) (p : ℕ) (first : Part) (ts us : Ts) (part : Part) : Type 0 where
  pub later : Part
  pub arms : ArmsTask to alphabet p first.next ts us later
  pub is : part ≡ and_then first later
  pub grows : first.next ≤ later.next

pub more_arms_lem : {to : ℕ} {alphabet : List ℕ} {p k : ℕ} {first : Part} {ts us : Ts} {part : Part} → ArmsEnd to alphabet p first ((w "also" at k) ∷ ts) us part → MoreArms to alphabet p first ts us part
more_arms_lem (last follows) = absurd (follows.no_also _ _ refl)
more_arms_lem (more t grows) = record { later = _; arms = t; is = refl; grows = grows }

module _ {text out : List ℕ} {place : Place} {to : ℕ} {h : Sheet} {accepting : List ℕ} {rows : List Row} {ts us : Ts} {part : Part}
    (d : Doing (ArmsTask to) text out place h accepting rows place.state place.next ts us part) where
  pub arms_here : ArmsOf to h.alphabet place.state place.next ts us part
  arms_here = arms_of d.is

  abbrev first_arm_lem : Part
  first_arm_lem = and_then (arm_row place.state place.next) arms_here.arm

  arms_states_lem : arms_here.arm.next ≤ 128
  unfolding and_then
  arms_states_lem = omega (arith, end_states arms_here.end, d.states)

  arms_fits : length rows + length ((free place.state place.next ∷ []) ++ arms_here.arm.rows) ≤ h.count
  unfolding and_then
  arms_fits = end_fits rows arms_here.end d.fits

  row_fits_lem : length rows + 1 ≤ h.count
  row_fits_lem = fits_first rows (free place.state place.next ∷ []) arms_here.arm.rows arms_fits

  pub arms_few : place.next + 1 ≤ 128
  arms_few = omega (arith, arms_here.grows, arms_states_lem)

  pub arms_room : Room out place.row (λ _. free place.state place.next ∷ []) × (place.state ≤ 128) × (place.next ≤ 128)
  arms_room = (
    free_room d.stands place.next row_fits_lem,
    omega (arith, d.stands.taken, arms_few),
    omega (arith, arms_few),
  )

  module _ {middle : List ℕ} {row : ℕ} (writes : Writes out middle place.row row (λ _. free place.state place.next ∷ [])) where
    pub arm_doing : Doing (BodyTask to) text middle (record { at = place.at; state = place.next; next = place.next + 1; row = row }) h (accepting ++ []) (rows ++ (free place.state place.next ∷ [])) place.next (place.next + 1) ts arms_here.behind arms_here.arm
    arm_doing =
        record {
          stands = at_anew (free_emitted d.stands place.next row_fits_lem writes).stands refl refl (omega arith);
          is = arms_here.block;
          states = arms_states_lem;
          fits = fits_then rows (free place.state place.next ∷ []) arms_here.arm.rows arms_fits;
        }

  module _ {middle : List ℕ} {arm : Place} (e : Emitted text middle arm h (accepting ++ []) (rows ++ (free place.state place.next ∷ [])) arms_here.behind arms_here.arm) where
    first_emitted : Emitted text middle arm h accepting rows arms_here.behind first_arm_lem
    first_emitted = emitted_then (arm_row place.state place.next) arms_here.arm e

    pub arms_last : NotWord text arm.at Word.Also → Emitted text middle arm h accepting rows us part
    arms_last other =
        let n = no_also_lem arms_here.end e.stands.here other in
        emitted_as n.is (subst (λ (xs : Ts). Emitted text middle arm h accepting rows xs first_arm_lem) n.same first_emitted)

    module _ {end : ℕ} (sees : SeesWord text arm.at end Word.Also) where
      abbrev also_here : HeadAt text arm.at end (w "also") arms_here.behind
      also_here = head_at _ (λ bytes which. which) (sees.stands arms_here.behind e.stands.here)

      abbrev more_here : MoreArms to h.alphabet place.state first_arm_lem also_here.rest us part
      more_here = more_arms_lem (subst (λ (xs : Ts). ArmsEnd to h.alphabet place.state first_arm_lem xs us part) also_here.is arms_here.end)

      pub also-onward : (arm.at < end) × (end ≤ length text)
      also-onward = (also_here.behind.onward, also_here.behind.within)

      pub more_doing : Doing (ArmsTask to) text middle (record { at = end; state = place.state; next = arm.next; row = arm.row }) h (accepting ++ first_arm_lem.accepting) (rows ++ first_arm_lem.rows) place.state first_arm_lem.next also_here.rest us more_here.later
      unfolding and_then
      more_doing =
          record {
            stands = at_moved end (at_anew first_emitted.stands refl e.stands.takes (omega (arith, d.stands.taken, arms_here.grows))) also_here.behind.here;
            is = more_here.arms;
            states = subst (λ (x : Part). x.next ≤ 128) more_here.is d.states;
            fits = fits_then rows first_arm_lem.rows more_here.later.rows (subst (λ (x : Part). length rows + length x.rows ≤ h.count) more_here.is d.fits);
          }

      pub more_emitted : {after : List ℕ} {last : Place}
          → Emitted text after last h (accepting ++ first_arm_lem.accepting) (rows ++ first_arm_lem.rows) us more_here.later
          → Emitted text after last h accepting rows us part
      more_emitted f = emitted_as more_here.is (emitted_then first_arm_lem more_here.later f)

-- a branch is its arms, with a state to leave by
branch_arms : {alphabet : List ℕ} {p next k : ℕ} {ts us : Ts} {a : Statement} → Branch k ts a us → Follows us → StatementWithin alphabet a → ArmsTask next alphabet p (next + 1) ts us (statement_part alphabet a p next)
unfolding statement_part arms_part StatementWithin ArmsWithin
branch_arms {alphabet} {p} {next} {ts} {us} (arms {o = o} {b = b} {a = a} d e) follows within =
    let same : next + 1 + 1 ≡ next + 2 = omega arith in
    subst (λ (n : ℕ). ArmsTask next alphabet p (next + 1) ts us
    (let first : Part = arm_part (statements_part alphabet b (next + 1) n) p (next + 1) next in and_then first (arms_part alphabet a p next first.next)))
    same
    (the_arms (Grammar.more_arms {p = 0} d e) follows within (omega arith))

pub branch_doing : {text out : List ℕ} {place : Place} {h : Sheet} {accepting : List ℕ} {rows : List Row} {ts us : Ts} {part : Part}
    → Doing (HeadedTask (w "branch")) text out place h accepting rows place.state place.next ts us part
    → Doing (ArmsTask place.next) text out (record { at = place.at; state = place.state; next = place.next + 1; row = place.row }) h accepting rows place.state (place.next + 1) ts us part
branch_doing {place = place} {h = h} {ts = ts} {us = us} d =
    let o = headed_of d.is in
    record {
      stands = at_anew d.stands refl refl (omega (arith, d.stands.taken));
      is = subst (ArmsTask place.next h.alphabet place.state (place.next + 1) ts us) (sym o.is) (branch_arms (statement_branch o.derived) o.follows o.within);
      states = d.states;
      fits = d.fits;
    }

-- a state can be taken
pub branch_few : {text out : List ℕ} {place : Place} {h : Sheet} {accepting : List ℕ} {rows : List Row} {ts us : Ts} {part : Part}
    → Doing (HeadedTask (w "branch")) text out place h accepting rows place.state place.next ts us part
    → place.next + 1 ≤ 128
branch_few d = omega (arith, arms_few (settled (branch_doing d)))
