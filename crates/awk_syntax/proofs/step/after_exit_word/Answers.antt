use Rattle.std.proofs.Common.{rules}
use Rattle.awk_syntax.proofs.step.after_exit_word.Goals as goal

pub returns : goal.returns
returns c = search rules
