use Rattle.std.proofs.Common.{◌∙◌}
use Rattle.awk_evaluator.proofs.KeysTaken.{left_off}
use Rattle.awk_evaluator.proofs.machine.Machine.leave_walk.Goals as goal

pub returns-clause-operands : goal.returns-clause-operands
returns-clause-operands c = c.drop_many.ensures ∙ left_off c.args.self.now.operands c.pop-count.ensures.rest c.pop-count.ensures.top c.keys_left-left.ensures
