use Rattle.std.proofs.Common.{sym, arith}
use Rattle.awk_resolve.proofs.ListForms.{one_expr}
use Rattle.awk_resolve.proofs.targets.only.Goals as goal

pub returns-in-len1 : goal.returns-in-len1
returns-in-len1 c = one_expr c.args.list.now c.e-item.result (omega arith) (sym c.e-item.is)
