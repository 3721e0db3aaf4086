use Rattle.std.proofs.Common.{rules, ◌≡◌, ap, ◌∙◌, to_z, of_z}
use mir.Syntax.{w128}
use Rattle.awk_value.specs.declared.value.Value.TheVariants.{Number}
use Rattle.awk_resolve.specs.declared.node.Operand.TheVariants.{Constant}
use Rattle.awk_evaluator.proofs.QuickValues.{constant_at_hand}
use Rattle.awk_evaluator.proofs.machine.Machine.number_at.Goals as goal

pub returns-in-Constant-Number : goal.returns-in-Constant-Number
returns-in-Constant-Number c =
    let number : to_z w128 (of_z w128 c.in-Constant-Number.n) ≡ c.in-Constant-Number.n = search rules in
    let is = c.in-Constant-Number.is in
    let inner = c.in-Constant-Number.field-0-is in
    let value : c.in-Constant-Number.field-0 ≡ Number c.in-Constant-Number.n = rw is at inner in
    rw (is ∙ ap Constant value, number) (constant_at_hand _)
