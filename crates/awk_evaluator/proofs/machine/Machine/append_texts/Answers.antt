use Rattle.awk_evaluator.proofs.machine.Machine.append_texts.Goals as goal

pub returns-in-Err : goal.returns-in-Err
returns-in-Err c = record { done = record { operands = tt; calls = tt; changes = ((c.in-Err.ensures {u = tt}).refused).changes } }
