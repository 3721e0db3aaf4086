use Rattle.std.proofs.Common.{[], drop}
use Rattle.awk_grammar.specs.View.{items_of}
use Rattle.awk_resolve.specs.support.Plans.{rules_run}
use Rattle.awk_resolve.specs.support.Holding.{AddsPlace}
use Rattle.awk_resolve.proofs.builder.Builder.lower_rules.Given as goal

abbrev pub invariant-loop-i : goal.invariant-loop-i
invariant-loop-i l = AddsPlace l.kinds l.fn.self l.self [] l.next (rules_run l.i (items_of (drop l.i l.items)))
