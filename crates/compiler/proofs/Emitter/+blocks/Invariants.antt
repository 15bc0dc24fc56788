-- The cycle of calls of blocks and statements. The measure is three for each byte of the text that is left, and a rank.
use Prim.Native.Nat.{◌+◌, ◌-◌, ◌*◌}
use lib.ListN.{length}
use Rattle.compiler.proofs.Emitter.+blocks.Given as goal

abbrev pub decreases-emit_arms : goal.decreases-emit_arms
decreases-emit_arms l = 3 * (length l.self.now.cursor.text.now - l.self.now.cursor.at) + 1

abbrev pub decreases-emit_block : goal.decreases-emit_block
decreases-emit_block l = 3 * (length l.self.now.cursor.text.now - l.self.now.cursor.at)

abbrev pub decreases-emit_branch : goal.decreases-emit_branch
decreases-emit_branch l = 3 * (length l.self.now.cursor.text.now - l.self.now.cursor.at) + 2

abbrev pub decreases-emit_else : goal.decreases-emit_else
decreases-emit_else l = 3 * (length l.self.now.cursor.text.now - l.self.now.cursor.at) + 1

abbrev pub decreases-emit_if : goal.decreases-emit_if
decreases-emit_if l = 3 * (length l.self.now.cursor.text.now - l.self.now.cursor.at) + 2

abbrev pub decreases-emit_statement : goal.decreases-emit_statement
decreases-emit_statement l = 3 * (length l.self.now.cursor.text.now - l.self.now.cursor.at)

abbrev pub decreases-emit_statements : goal.decreases-emit_statements
decreases-emit_statements l = 3 * (length l.self.now.cursor.text.now - l.self.now.cursor.at) + 1

abbrev pub decreases-emit_while : goal.decreases-emit_while
decreases-emit_while l = 3 * (length l.self.now.cursor.text.now - l.self.now.cursor.at) + 1
