use Rattle.std.proofs.Common.{refl}
use Rattle.awk_evaluator.proofs.QuickValues.{contains_puts}
use Rattle.awk_evaluator.proofs.machine.Machine.put_contains.Goals as goal

pub returns-clause-puts : goal.returns-clause-puts
returns-clause-puts c = λ _. contains_puts c.in-Some.ensures.top (c.in-Some-has_element.ensures {u = tt}) (rw c.truth_value.ensures at c.replace.ensures) refl refl
