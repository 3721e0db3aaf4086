use Rattle.std.proofs.Common.{◌≡◌, length}
use Rattle.awk_grammar.specs.definitions.Height.{max_height}
use Rattle.awk_grammar.specs.support.Parser as parser
use Rattle.awk_frames.specs.support.FrameView.{role_of, operand_of, stack_of}
use Rattle.awk_frames.proofs.reduce.reduce.Given as goal

abbrev pub invariant-loop-frame : goal.invariant-loop-frame
invariant-loop-frame l = parser.reduce max_height (role_of l.role) (operand_of l.operand) (stack_of l.stack.items) ≡ parser.reduce max_height (role_of l.role) (operand_of l.fn.operand) (stack_of l.fn.stack.items)

abbrev pub decreases-loop-frame : goal.decreases-loop-frame
decreases-loop-frame l = length (stack_of l.stack.items)
