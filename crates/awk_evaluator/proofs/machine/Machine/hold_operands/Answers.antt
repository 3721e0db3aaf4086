use Rattle.std.proofs.Common.{Ok, refl, sym, subst}
use Rattle.awk_runtime.proofs.Composition.{ready_same}
use Rattle.awk_evaluator.specs.declared.machine.Machine.{Machine}
use Rattle.awk_evaluator.specs.Lines.{SameMachine}
use Rattle.awk_evaluator.proofs.OperandLines.{printed_behind, printed_before, room_changed, same_twice}
use Rattle.awk_evaluator.proofs.machine.Machine.hold_operands.Goals as goal

pub hold_line-holds-requires-clause-ready : goal.hold_line-holds-requires-clause-ready
hold_line-holds-requires-clause-ready g c = ready_same c.lend_line-line.ensures.same.streams c.requires.ready

pub returns-clause-ready : goal.returns-clause-ready
returns-clause-ready g c = ready_same c.take_line_back.ensures.streams c.hold_line-holds.ensures.ready

pub returns-clause-kept : goal.returns-clause-kept
returns-clause-kept g c = λ no.
    let m = c.args.self.now in
    let lent : Machine = record m { runtime = c.lend_line-line.new.self } in
    same_twice (subst (λ (x : Machine). SameMachine m x) (sym (c.hold_line-holds.ensures.kept no)) (room_changed {m = m} {m' = lent} refl c.lend_line-line.ensures.same)) (room_changed refl c.take_line_back.ensures)

pub returns-clause-prints : goal.returns-clause-prints
returns-clause-prints g c = λ holds. printed_before (printed_behind (Ok tt) (room_changed refl c.lend_line-line.ensures.same) (c.hold_line-holds.ensures.prints holds)) (room_changed refl c.take_line_back.ensures)
