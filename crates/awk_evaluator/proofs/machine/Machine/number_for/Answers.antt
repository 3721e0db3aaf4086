use Rattle.std.specs.Prelude.{IfSome}
use Rattle.std.proofs.Common.{subst}
use Rattle.awk_value.specs.declared.value.Value.{Value}
use Rattle.awk_value.specs.declared.value.Value.TheVariants.{Number}
use Rattle.awk_evaluator.specs.Quick.{AssignsAlike}
use Rattle.awk_evaluator.proofs.machine.Machine.number_for.Goals as goal

pub returns : goal.returns
returns c = subst (λ (w : Value). IfSome c.number_alike.result (λ n. AssignsAlike c.args.operator w (Number n))) (c.in_ok-top.ensures {u = tt}).top c.number_alike.ensures
