use Rattle.std.proofs.Common.{refl, sym, ◌∙◌}
use Rattle.awk_evaluator.proofs.QuickValues.{pushed_by, operand_puts_behind}
use Rattle.awk_evaluator.proofs.machine.Machine.put_field_of.Goals as goal

pub returns-clause-puts : goal.returns-clause-puts
returns-clause-puts c = λ ok. operand_puts_behind c.field_of.ensures.same c.in-Some.ensures.some (pushed_by c.push.result (sym c.is_ok.ensures.value ∙ ok) c.push.ensures.pushed refl refl)
