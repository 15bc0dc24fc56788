-- The loop's invariant: what is left to look at says as much as all of it.
use native.Mathlib.Omega.{arith}
use mathlib.Core.Path.{sym, ◌∙◌, ap}
use Rattle.text.specs.declared.Token.{Token}
use Rattle.compiler.specs.Inside.Seeing.{end_of}
use Rattle.compiler.proofs.Seeing.{first_seen, first_falls, unsigned}
use Rattle.compiler.proofs.Operators.{looked_answer, looked_on, looked_past, looked_end, looked_deeper}
use Rattle.compiler.proofs.see.Cursor.operator_ahead.Goals as goal

pub look-requires : goal.look-requires
look-requires c =
    omega (arith, first_falls _ c.token_at-token.ensures (ap end_of c.in-Sign.is), c.loop-end.invariant.0)

pub returns-in-Break : goal.returns-in-Break
returns-in-Break c =
    record {
      finds = λ ts h.
          let l = c.loop-end.invariant.1 ts h in
          looked_answer _ _ _ l (first_seen (Token.Sign _ _ _) c.token_at-token.ensures c.in-Sign.is _ l.here) _
          (first_falls _ c.token_at-token.ensures (ap end_of c.in-Sign.is)).0
          (sym c.look.ensures ∙ c.in-Break.is);
    }

pub loop-end-smaller-in-Continue : goal.loop-end-smaller-in-Continue
loop-end-smaller-in-Continue c = omega (arith, first_falls _ c.token_at-token.ensures (ap end_of c.in-Sign.is))

pub loop-end-preserved-in-Continue : goal.loop-end-preserved-in-Continue
loop-end-preserved-in-Continue c =
    let falls = first_falls _ c.token_at-token.ensures (ap end_of c.in-Sign.is) in
    let on = sym c.look.ensures ∙ c.in-Continue.is in (
      omega (arith, falls, c.loop-end.invariant.0, looked_deeper _ _ _ _ on),
      λ ts h.
          let l = c.loop-end.invariant.1 ts h in
          looked_on _ _ _ l (first_seen (Token.Sign _ _ _) c.token_at-token.ensures c.in-Sign.is _ l.here) _ falls.0 on,
    )

pub loop-end-smaller : goal.loop-end-smaller
loop-end-smaller c = omega (arith, first_falls _ c.token_at-token.ensures (sym c.end_of.ensures ∙ c.in-Some.is))

pub loop-end-preserved : goal.loop-end-preserved
loop-end-preserved c =
    let end = sym c.end_of.ensures ∙ c.in-Some.is in
    let falls = first_falls _ c.token_at-token.ensures end in (
      omega (arith, falls, c.loop-end.invariant.0),
      λ ts h. looked_past _ _ _ (c.loop-end.invariant.1 ts h) c.token_at-token.ensures (unsigned _ c.in_default.not-Sign) end,
    )

pub returns-in_default-end_of : goal.returns-in_default-end_of
returns-in_default-end_of c =
    record {
      finds = λ ts h. looked_end _ _ _ (c.loop-end.invariant.1 ts h) c.token_at-token.ensures (sym c.end_of.ensures ∙ c.in_default-end_of.is);
    }
