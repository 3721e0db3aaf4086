use Rattle.awk_evaluator.proofs.machine.Machine.append_in.Goals as goal

pub returns-in-Some-clause-appended : goal.returns-in-Some-clause-appended
returns-in-Some-clause-appended c = λ done.
    let h = c.in-Some.ensures.some in
    record { key = h.key; at_hand = h.at_hand; operands = h.acted.operands; calls = (h.acted.appends done).appends.callers; appends = h.acted.appends done }

pub returns-in-Some-clause-kept : goal.returns-in-Some-clause-kept
returns-in-Some-clause-kept c = λ no. c.in-Some.ensures.some.acted.keeps no

pub returns-in-Some-clause-refused : goal.returns-in-Some-clause-refused
returns-in-Some-clause-refused c = c.in-Some.ensures.some.acted.refused
