use Rattle.std.proofs.Common.{rules}
use Rattle.awk_storage.proofs.variables.Variables.newlines_separate.Goals as goal

pub returns : goal.returns
returns c = search rules
