use Rattle.std.proofs.Common.{Option, subst}
use Rattle.awk_storage.specs.declared.entry.Caller.{Caller}
use Rattle.awk_runtime.specs.Calling.{LeavesCallBy}
use Rattle.awk_evaluator.proofs.Returning.{given_back, not_given}
use Rattle.awk_evaluator.proofs.machine.Machine.give_back.Goals as goal

pub returns-in-Ok : goal.returns-in-Ok
returns-in-Ok c =
    given_back c.in-Some.caller (subst (λ (o : Option Caller). LeavesCallBy c.args.self.now.runtime o c.leave_call.new.self) c.in-Some.is c.leave_call.ensures.leaves) c.in-Ok.ensures

pub returns-in-Err : goal.returns-in-Err
returns-in-Err c =
    let left = subst (λ (o : Option Caller). LeavesCallBy c.args.self.now.runtime o c.leave_call.new.self) c.in-Some.is c.leave_call.ensures.leaves in
    rw (c.halt_by.ensures.halted, c.halt_by.ensures.kept) (not_given c.in-Some.caller left c.from.ensures)
