use Rattle.std.proofs.Common.{List, ap, ◌∙◌, refl, drop}
use Rattle.awk_value.specs.declared.value.Value.{Value}
use Rattle.awk_resolve.specs.Nodes.{first}
use Rattle.awk_evaluator.specs.Operands.{OperandsView}
use Rattle.awk_evaluator.proofs.Computing.{drop_two, second_is, given_callers}
use Rattle.awk_evaluator.proofs.Parts.{field_given}
use Rattle.awk_evaluator.proofs.machine.Machine.assign_field.Goals as goal

pub returns : goal.returns
returns c =
    let vs = c.args.self.now.operands.values in
    let number = c.top_or-number.ensures ∙ (ap (λ (o : OperandsView). first o.values) c.pop-value.ensures.rest ∙ second_is vs) in
    let left = c.drop-2.ensures ∙ (ap (λ (o : OperandsView). record o { values = drop 1 o.values }) c.pop-value.ensures.rest ∙ ap (λ (l : List Value). record c.args.self.now.operands { values = l }) (drop_two vs)) in
    field_given c.assign_field-assigned.result c.is_done.ensures.came c.is_done.ensures.kept (rw (c.pop-value.ensures.top, number) at c.assign_field-assigned.ensures) left (given_callers c.assign_field-assigned.result c.assign_field-assigned.ensures)
