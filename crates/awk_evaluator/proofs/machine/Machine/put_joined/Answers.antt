use Rattle.std.proofs.Common.{refl, sym, ◌∙◌}
use Rattle.awk_evaluator.proofs.QuickValues.{pushed_by, joined_puts}
use Rattle.awk_evaluator.proofs.machine.Machine.put_joined.Goals as goal

pub returns-clause-puts : goal.returns-clause-puts
returns-clause-puts c = λ ok. joined_puts c.in-Some.ensures c.in-Some-value_at.ensures c.in-Ok.ensures.text (pushed_by c.push.result (sym c.is_ok.ensures.value ∙ ok) c.push.ensures.pushed refl refl)
