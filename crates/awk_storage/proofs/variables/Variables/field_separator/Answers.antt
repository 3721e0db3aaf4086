use Rattle.std.proofs.Common.{rules}
use Rattle.awk_storage.proofs.variables.Variables.field_separator.Goals as goal

pub returns-clause-text : goal.returns-clause-text
returns-clause-text c = search rules
