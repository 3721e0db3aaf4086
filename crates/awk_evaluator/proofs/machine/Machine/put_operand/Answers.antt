use Rattle.awk_evaluator.proofs.machine.Machine.put_operand.Goals as goal

pub returns-in-Constant-clause-puts : goal.returns-in-Constant-clause-puts
returns-in-Constant-clause-puts c = λ ok. rw c.in-Constant.is (c.put_constant.ensures.puts ok)

pub returns-in-Variable-clause-puts : goal.returns-in-Variable-clause-puts
returns-in-Variable-clause-puts c = λ ok. rw c.in-Variable.is (c.put_variable.ensures.puts ok)
