-- The row is that of the symbol, or there is none.
use mathlib.Core.Path.{refl, sym}
use Rattle.compiler.proofs.AtomRows.{writes_none, same_room, same_writes, without_same, without_other}
use Rattle.compiler.proofs.write.Image.add_unless.Goals as goal

pub add_test-requires : goal.add_test-requires
add_test-requires c = (same_room _ _ (λ _. without_other _ _ _ _ c.if-symbol-left_out.true) c.requires.0, c.requires.1, c.requires.2)

pub returns-then-symbol-left_out : goal.returns-then-symbol-left_out
returns-then-symbol-left_out c =
    record {
      writes = same_writes _ _ (λ _. sym (without_other _ _ _ _ c.if-symbol-left_out.true)) c.add_test.ensures.writes;
      out = c.add_test.ensures.out;
    }

pub returns-else-symbol-left_out : goal.returns-else-symbol-left_out
returns-else-symbol-left_out c =
    record { writes = same_writes _ _ (λ _. sym (without_same _ _ _ _ c.if-symbol-left_out.false)) writes_none; out = refl }
