use Rattle.std.proofs.Common.{subst}
use Rattle.awk_kinds.specs.definitions.Names.{AreDistinct}
use Rattle.awk_kinds.proofs.Slots.{are_distinct}
use Rattle.awk_kinds.proofs.names.Names.len.Goals as goal

pub returns-clause-distinct : goal.returns-clause-distinct
returns-clause-distinct c = subst AreDistinct c.self.view_is (are_distinct c.self.inside.names.keys c.self.invariant.0)
