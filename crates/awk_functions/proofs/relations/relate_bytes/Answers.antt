use Rattle.std.proofs.Common.{◌∙◌}
use Rattle.awk_functions.proofs.Orders.{bytes_equal, bytes_differ}
use Rattle.awk_functions.proofs.relations.relate_bytes.Goals as goal

pub returns-in-Equal-clause-holds : goal.returns-in-Equal-clause-holds
returns-in-Equal-clause-holds c = rw c.in-Equal.is (c.eq.ensures ∙ bytes_equal c.args.x.now c.args.y.now)

pub returns-in-NotEqual-clause-holds : goal.returns-in-NotEqual-clause-holds
returns-in-NotEqual-clause-holds c = rw c.in-NotEqual.is (c.ne.ensures ∙ bytes_differ c.args.x.now c.args.y.now)
