-- The walker's cycle of calls. The measure is five for each byte of the text that is left, and a rank: a chain of `||`, a side of it,
-- a chain of `&&`, a side of it, an operand.
use Prim.Native.Nat.{◌+◌, ◌-◌, ◌*◌}
use lib.ListN.{length}
use Rattle.compiler.specs.Inside.Operators.{is_or}
use Rattle.compiler.proofs.Walking.{rank}
use Rattle.compiler.proofs.Emitter.+walk.Given as goal

abbrev pub decreases-emit_chain : goal.decreases-emit_chain
decreases-emit_chain l = 5 * (length l.self.now.cursor.text.now - l.self.now.cursor.at) + rank (is_or l.operator) 4 2

abbrev pub decreases-emit_operand : goal.decreases-emit_operand
decreases-emit_operand l = 5 * (length l.self.now.cursor.text.now - l.self.now.cursor.at)

abbrev pub decreases-emit_side : goal.decreases-emit_side
decreases-emit_side l = 5 * (length l.self.now.cursor.text.now - l.self.now.cursor.at) + rank (is_or l.operator) 3 1
