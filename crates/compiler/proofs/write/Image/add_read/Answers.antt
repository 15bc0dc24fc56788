-- Assumes nothing.
use mathlib.Core.Path.{sym}
use Rattle.compiler.proofs.AtomRows.{same_room, same_writes, read_is_lem}
use Rattle.compiler.proofs.write.Image.add_read.Goals as goal

pub add_test-requires : goal.add_test-requires
add_test-requires c = (same_room _ _ (λ alphabet. read_is_lem c.if-is.true alphabet _ _ _) c.requires.0, c.requires.1, c.requires.2)

pub returns-then-is : goal.returns-then-is
returns-then-is c = record { writes = same_writes _ _ (λ alphabet. sym (read_is_lem c.if-is.true alphabet _ _ _)) c.add_test.ensures.writes; out = c.add_test.ensures.out }
