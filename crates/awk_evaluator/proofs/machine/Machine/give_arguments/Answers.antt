use Rattle.std.proofs.Common.{refl, sym, ◌∙◌}
use Rattle.awk_evaluator.proofs.Arguments.{no_form, nothing_given}
use Rattle.awk_evaluator.proofs.machine.Machine.give_arguments.Goals as goal

pub returns-then-is_one_value : goal.returns-then-is_one_value
returns-then-is_one_value c = rw (c.if-is_one_value.ensures {u = tt} refl) c.give_top.ensures

pub returns-then-is_empty : goal.returns-then-is_empty
returns-then-is_empty c = rw (no_form c.args.forms.now (sym c.is_empty.ensures ∙ c.if-is_empty.true)) nothing_given

pub give_two-requires : goal.give_two-requires
give_two-requires c = c.if-are_two_values.ensures {u = tt} refl
