use Rattle.awk_frames.specs.support.FrameView.{role_of, operand_of, stack_of}
use Rattle.awk_frames.proofs.Reductions.{pop_ends}
use Rattle.std.proofs.Common.{sym, ◌∙◌}
use Rattle.awk_frames.proofs.reduce.pop_ended.Goals as goal

pub returns-then-is_top_ended : goal.returns-then-is_top_ended
returns-then-is_top_ended c = pop_ends (role_of c.args.role) (operand_of c.args.operand.now) (stack_of c.args.stack.now.items) c.pop.result c.pop.new.stack.items c.pop.ensures (sym c.is_top_ended.ensures ∙ c.if-is_top_ended.true)
