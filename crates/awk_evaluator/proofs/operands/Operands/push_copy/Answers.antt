use Rattle.awk_runtime.proofs.ElementWords.{put_of}
use Rattle.awk_evaluator.proofs.operands.Operands.push_copy.Goals as goal

pub returns-clause-pushed : goal.returns-clause-pushed
returns-clause-pushed c = λ ok. rw (← c.in-Ok.ensures.cases) (put_of c.push.result c.is_ok.ensures.value ok c.push.ensures.pushed)
