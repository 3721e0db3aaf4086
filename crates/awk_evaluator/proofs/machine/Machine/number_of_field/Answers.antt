use Rattle.awk_evaluator.proofs.ReadFields.{good_number}
use Rattle.awk_evaluator.proofs.machine.Machine.number_of_field.Goals as goal

pub returns : goal.returns
returns c = record {
  some = good_number c.args.operator c.args.operand.now c.args.self.now c.number_at_field.result c.in_default.not-Plain c.number_at_field.ensures.some;
  same = c.number_at_field.ensures.same;
}
