-- The sign is the one that is wanted, or it is another, or no sign comes next.
use mathlib.Core.Path.{refl, sym, ap, ◌∙◌}
use mathlib.Core.Bool.{true≢false}
use borrow.Author.Rules.{rules}
use denote.Enum.Bare.{differs_true, differs_false}
use Rattle.text.specs.contracts.Sign.{the_type}
use Rattle.compiler.proofs.Seeing.{sign_in, sign_hit, sign_miss}
use Rattle.compiler.proofs.see.Cursor.past_sign.Goals as goal

pub returns-in_default : goal.returns-in_default
returns-in_default c first =
    record {
      text = refl;
      hit = λ e. absurd (true≢false (sym e));
      miss = λ _. (sign_miss first (λ p e x is same. c.in_default.not-Sign p e x is), refl);
    }

pub returns-then-ne : goal.returns-then-ne
returns-then-ne c first =
    let other = differs_true the_type c.in-Sign.sign c.args.wanted (sym c.if-ne.ensures) in
    record {
      text = refl;
      hit = λ e. absurd (true≢false (sym e));
      miss = λ _. (sign_miss first (λ p e x is same. other (ap sign_in (sym c.in-Sign.is ∙ is) ∙ same)), refl);
    }

pub returns : goal.returns
returns c first =
    let same = differs_false the_type (search rules) c.in-Sign.sign c.args.wanted (sym c.if-ne.ensures) in
    record { text = refl; hit = λ _. sign_hit first c.in-Sign.is same; miss = λ e. absurd (true≢false e) }
