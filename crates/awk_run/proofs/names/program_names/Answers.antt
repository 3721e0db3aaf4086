use Rattle.std.proofs.Common.{sym, subst}
use Rattle.awk_kinds.specs.Names.{AreDistinct}
use Rattle.awk_runtime.specs.support.Naming.{AreOwn}
use Rattle.awk_run.proofs.Starting.{own_names}
use Rattle.awk_run.proofs.names.program_names.Goals as goal

pub new-requires-clause-distinct : goal.new-requires-clause-distinct
new-requires-clause-distinct c = subst AreDistinct (sym c.in_ok-scalars.ensures) c.requires.distinct

pub new-requires-clause-own : goal.new-requires-clause-own
new-requires-clause-own c = subst AreOwn (sym c.in_ok-scalars.ensures) (own_names c.requires)
