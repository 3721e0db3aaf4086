use Rattle.awk_evaluator.proofs.Computing.{given_callers}
use Rattle.std.proofs.Common.{refl}
use Rattle.awk_lex.specs.declared.token.AssignmentOperator.TheVariants as assignment
use Rattle.awk_evaluator.proofs.Parts.{part_done, leaves_kept}
use Rattle.awk_evaluator.proofs.Keys.{value_given, changed_leaves}
use Rattle.awk_evaluator.proofs.machine.Machine.put_at.Goals as goal

pub returns-in-Plain : goal.returns-in-Plain
returns-in-Plain c = rw c.in-Plain.is (value_given assignment.Plain c.args.array c.args.key.now c.args.value c.assign_element-assigned.result c.is_done.ensures.came c.is_done.ensures.kept c.assign_element-assigned.ensures refl (given_callers c.assign_element-assigned.result c.assign_element-assigned.ensures))

pub returns : goal.returns
returns c = part_done _ c.is_done-2.ensures.came (leaves_kept c.is_done-2.ensures.kept _ (changed_leaves _ (rw c.operator_of.ensures at c.assign_by_at-assigned.ensures) refl c.assign_by_at-assigned.ensures.callers))
