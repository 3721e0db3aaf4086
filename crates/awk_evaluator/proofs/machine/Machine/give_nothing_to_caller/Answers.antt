use Rattle.awk_evaluator.proofs.Returning.{nothing_given}
use Rattle.awk_evaluator.proofs.machine.Machine.give_nothing_to_caller.Goals as goal

pub returns : goal.returns
returns c = nothing_given c.args.self.now _ c.drop_all.ensures c.give_back.ensures
