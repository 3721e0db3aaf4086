use Rattle.std.proofs.Common.{sym, ◌∙◌}
use Rattle.awk_runtime.proofs.Prints.{printed_to_output, some_values}
use Rattle.awk_runtime.proofs.runtime.Runtime.hold_values.Goals as goal

pub returns-then-not-is_empty-clause-follows : goal.returns-then-not-is_empty-clause-follows
returns-then-not-is_empty-clause-follows g c = λ holds functions. printed_to_output _ (some_values _ functions c.args.values.now (sym c.is_empty.ensures ∙ c.if-not-is_empty.true) (c.hold_line.ensures.prints holds))
