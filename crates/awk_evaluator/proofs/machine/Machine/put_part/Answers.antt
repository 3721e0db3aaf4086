use Rattle.std.proofs.Common.{refl, sym, ◌∙◌}
use Rattle.awk_evaluator.proofs.QuickValues.{pushed_by}
use Rattle.awk_evaluator.proofs.AppliedValues.{part_applied, pushed_behind}
use Rattle.awk_evaluator.proofs.machine.Machine.put_part.Goals as goal

pub returns-in-Some-part_at-clause-puts : goal.returns-in-Some-part_at-clause-puts
returns-in-Some-part_at-clause-puts c = λ ok.
    part_applied c.in-Some.positions c.in-Some-part_at.ensures.some c.in-Some.ensures
    (pushed_behind c.part_at.ensures.same (pushed_by c.push.result (sym c.is_ok.ensures.value ∙ ok) c.push.ensures.pushed refl refl))
