use Rattle.std.proofs.Common.{Some, sym, ap, ◌∙◌}
use Rattle.awk_runtime.proofs.VariableWords.{local_read, value_in}
use Rattle.awk_runtime.proofs.runtime.Runtime.value_of_parameter.Goals as goal

pub returns-in-Some-Value : goal.returns-in-Some-Value
returns-in-Some-Value c = local_read c.args.index c.args.self.now (ap value_in (ap Some (sym c.in-Some-Value.field-0-is) ∙ c.in-Some-Value.ensures))
