use Rattle.std.proofs.Common.{ap, ◌∙◌}
use Rattle.std.specs.Result.{result_ok}
use Rattle.awk_evaluator.proofs.QuickValues.{number_alike}
use Rattle.awk_evaluator.proofs.updates.number_alike.Goals as goal

pub returns-in_default : goal.returns-in_default
returns-in_default c = number_alike c.args.operator _ c.ok.result c.in_default.not-Plain (c.ok.ensures.value ∙ ap result_ok c.number_of.ensures)
