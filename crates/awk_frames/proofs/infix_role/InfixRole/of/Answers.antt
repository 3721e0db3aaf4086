use Rattle.std.proofs.Common.{rules}
use Rattle.awk_frames.proofs.infix_role.InfixRole.of.Goals as goal

pub returns-in-Operator-Greater : goal.returns-in-Operator-Greater
returns-in-Operator-Greater c = search rules
