use Rattle.std.proofs.Common.{◌+◌, ◌*◌, drop}
use Rattle.awk_grammar.proofs.tree.Statement.TheLaws.{the_size}
use Rattle.awk_grammar.specs.View.{statements_of}
use Rattle.awk_resolve.specs.support.Builds.{ExecuteAll}
use Rattle.awk_resolve.specs.support.Scopes.{Builds}
use Rattle.awk_resolve.proofs.builder.Builder.+statements.Given as goal

abbrev pub decreases-lower_statement : goal.decreases-lower_statement
decreases-lower_statement l = 2 * the_size l.s.now

abbrev pub decreases-lower_if : goal.decreases-lower_if
decreases-lower_if l = 2 * the_size l.s.now + 1

abbrev pub decreases-lower_while : goal.decreases-lower_while
decreases-lower_while l = 2 * the_size l.s.now + 1

abbrev pub decreases-lower_do : goal.decreases-lower_do
decreases-lower_do l = 2 * the_size l.s.now + 1

abbrev pub decreases-lower_for : goal.decreases-lower_for
decreases-lower_for l = 2 * the_size l.s.now + 1

abbrev pub decreases-lower_for_in : goal.decreases-lower_for_in
decreases-lower_for_in l = 2 * the_size l.s.now + 1

abbrev pub decreases-lower_block : goal.decreases-lower_block
decreases-lower_block l = 2 * goal.size-lower_block l + 1

abbrev pub invariant-lower_block-loop-i : goal.invariant-lower_block-loop-i
invariant-lower_block-loop-i l = Builds l.scope l.fn.self l.self l.next (ExecuteAll (statements_of (drop l.i l.all)) l.exits)
