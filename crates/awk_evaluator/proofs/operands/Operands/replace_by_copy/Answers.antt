use Rattle.awk_evaluator.proofs.operands.Operands.replace_by_copy.Goals as goal

pub returns-clause-replaced : goal.returns-clause-replaced
returns-clause-replaced c = λ _. rw (← c.in-Ok.ensures.cases) c.replace.ensures
