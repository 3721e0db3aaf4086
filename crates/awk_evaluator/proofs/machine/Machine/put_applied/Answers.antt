use Rattle.awk_evaluator.proofs.machine.Machine.put_applied.Goals as goal

pub returns-in-Substr-clause-puts : goal.returns-in-Substr-clause-puts
returns-in-Substr-clause-puts c = λ ok. rw c.in-Substr.is (c.put_substring.ensures.puts ok)

pub returns-in-Index-clause-puts : goal.returns-in-Index-clause-puts
returns-in-Index-clause-puts c = λ ok. rw c.in-Index.is (c.put_position.ensures.puts ok)

pub returns-in-Length-clause-puts : goal.returns-in-Length-clause-puts
returns-in-Length-clause-puts c = λ ok. rw c.in-Length.is (c.put_text_length.ensures.puts ok)
