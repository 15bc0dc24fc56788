-- Which word comes first says in which order the settings stand.
use mathlib.Core.Path.{◌∙◌}
use Rattle.compiler.proofs.Seeing.{passes_in, skips_again, skips_on}
use Rattle.compiler.proofs.Setting.{letters_first, letters_last, letters_in, lists_in, truth_in, tells_in, truth_first, settled_first, letters_then, settled_last}
use Rattle.compiler.proofs.settings.emit_settings.Goals as goal

pub letters-count-requires : goal.letters-count-requires
letters-count-requires c =
    let eats = c.past_word.ensures c.next-token.ensures in
    let hit = eats.hit c.if-past_word.true in
    let skips = c.skip.ensures in
    let text = skips.text ∙ eats.text in
    letters_in text (letters_first hit (passes_in eats.text skips) c.requires.stand).stand

pub truth-decr_on_zero-requires : goal.truth-decr_on_zero-requires
truth-decr_on_zero-requires c =
    let eats = c.past_word.ensures c.next-token.ensures in
    let hit = eats.hit c.if-past_word.true in
    let skips = c.skip.ensures in
    let text = skips.text ∙ eats.text in
    let f = letters_first hit (passes_in eats.text skips) c.requires.stand in
    let lists = c.letters-count.ensures in
    let pass = passes_in (lists.text ∙ text) c.skip-then-past_word.ensures in
    truth_in (c.skip-then-past_word.ensures.text ∙ lists.text ∙ text) (truth_first f (lists_in text lists f.stand) pass) f.truth

pub returns-then-past_word : goal.returns-then-past_word
returns-then-past_word c =
    let eats = c.past_word.ensures c.next-token.ensures in
    let hit = eats.hit c.if-past_word.true in
    let skips = c.skip.ensures in
    let text = skips.text ∙ eats.text in
    let lists = c.letters-count.ensures in
    let pass = passes_in (lists.text ∙ text) c.skip-then-past_word.ensures in
    let behind = c.skip-then-past_word.ensures.text ∙ lists.text ∙ text in
    let tells = c.truth-decr_on_zero.ensures in
    record {
      settles = λ a.
          let f = letters_first hit (passes_in eats.text skips) a in
          let listing = lists_in text lists f.stand in
          settled_first f listing pass (tells_in behind tells (truth_first f listing pass) f.truth);
      text = tells.text ∙ behind;
    }

pub truth-decr_on_zero-requires-else-past_word : goal.truth-decr_on_zero-requires-else-past_word
truth-decr_on_zero-requires-else-past_word c =
    let miss = (c.past_word.ensures c.next-token.ensures).miss c.if-past_word.false in
    let skips = skips_on (skips_again miss.1 c.next-token.ensures c.past.ensures) c.skip-else-past_word.ensures in
    let f = letters_last miss.0 skips.passes c.requires.stand in
    truth_in skips.text f.here f.truth

pub letters-count-requires-else-past_word : goal.letters-count-requires-else-past_word
letters-count-requires-else-past_word c =
    let miss = (c.past_word.ensures c.next-token.ensures).miss c.if-past_word.false in
    let skips = skips_on (skips_again miss.1 c.next-token.ensures c.past.ensures) c.skip-else-past_word.ensures in
    let f = letters_last miss.0 skips.passes c.requires.stand in
    let tells = c.truth-decr_on_zero-else-past_word.ensures in
    let text = tells.text ∙ skips.text in
    letters_in (c.skip-else-past_word-2.ensures.text ∙ text)
    (letters_then f (tells_in skips.text tells f.here f.truth).1 (passes_in text c.skip-else-past_word-2.ensures))

pub returns-else-past_word : goal.returns-else-past_word
returns-else-past_word c =
    let miss = (c.past_word.ensures c.next-token.ensures).miss c.if-past_word.false in
    let skips = skips_on (skips_again miss.1 c.next-token.ensures c.past.ensures) c.skip-else-past_word.ensures in
    let tells = c.truth-decr_on_zero-else-past_word.ensures in
    let text = tells.text ∙ skips.text in
    let opens = passes_in text c.skip-else-past_word-2.ensures in
    let inner = c.skip-else-past_word-2.ensures.text ∙ text in
    let lists = c.letters-count-else-past_word.ensures in
    let behind = lists.text ∙ inner in
    record {
      settles = λ a.
          let f = letters_last miss.0 skips.passes a in
          let told = tells_in skips.text tells f.here f.truth in
          settled_last f told.0 (lists_in inner lists (letters_then f told.1 opens)) (passes_in behind c.skip-else-past_word-3.ensures);
      text = c.skip-else-past_word-3.ensures.text ∙ behind;
    }
