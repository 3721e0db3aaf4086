use Rattle.awk_semantics.proofs.fault.fault_line.Goals as goal

pub returns-in-DivisionByZero : goal.returns-in-DivisionByZero
returns-in-DivisionByZero c = rw c.in-DivisionByZero.is
