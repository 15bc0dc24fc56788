-- The loop's invariant: the letters so far are in the image.
use native.Mathlib.Omega.{arith}
use mathlib.Core.Path.{refl, ◌∙◌}
use lib.ListN.{length-set}
use Rattle.compiler.proofs.Seeing.{sign_in_text, no_sign_in_text, skips_again, passes_in}
use Rattle.compiler.proofs.Setting.{so_far_none, so_far_letter, so_far_room, letter_read_in, so_far_more, so_far_all}
use Rattle.compiler.proofs.settings.letters.Goals as goal

pub loop-cursor-init : goal.loop-cursor-init
loop-cursor-init c = (refl, refl, record { lists = λ a. so_far_none a })

pub letter-requires : goal.letter-requires
letter-requires c =
    let i = c.loop-cursor.invariant in
    so_far_letter i.1 (i.2.lists c.requires.stand)

pub overflow_add-out : goal.overflow_add-out
overflow_add-out c = omega (arith, so_far_room c.requires.stand (c.loop-cursor.invariant.2.lists c.requires.stand))

pub bounds-out-count : goal.bounds-out-count
bounds-out-count c = (so_far_room c.requires.stand (c.loop-cursor.invariant.2.lists c.requires.stand)).1

pub overflow_add-count : goal.overflow_add-count
overflow_add-count c = omega (arith, so_far_room c.requires.stand (c.loop-cursor.invariant.2.lists c.requires.stand))

pub returns-then-not-past_sign : goal.returns-then-not-past_sign
returns-then-not-past_sign c =
    let i = c.loop-cursor.invariant in
    let reads = letter_read_in i.1 c.letter.ensures in
    let text = c.letter.ensures.text ∙ i.1 in
    let miss = (c.past_sign.ensures c.next-token.ensures).miss c.if-not-past_sign.true in
    let skips = skips_again miss.1 c.next-token.ensures c.past.ensures in
    record {
      lists = λ a. so_far_all reads a (i.2.lists a) (no_sign_in_text text miss.0) (passes_in text skips);
      text = skips.text ∙ text;
    }

pub loop-cursor-smaller : goal.loop-cursor-smaller
loop-cursor-smaller c = omega (arith, so_far_room c.requires.stand (c.loop-cursor.invariant.2.lists c.requires.stand))

pub loop-cursor-preserved : goal.loop-cursor-preserved
loop-cursor-preserved c =
    let i = c.loop-cursor.invariant in
    let reads = letter_read_in i.1 c.letter.ensures in
    let text = c.letter.ensures.text ∙ i.1 in
    let hit = sign_in_text text ((c.past_sign.ensures c.next-token.ensures).hit c.if-not-past_sign.false) in (
      simp length-set i.0,
      (c.past_sign.ensures c.next-token.ensures).text ∙ text,
      record { lists = λ a. so_far_more reads a (i.2.lists a) hit },
    )
