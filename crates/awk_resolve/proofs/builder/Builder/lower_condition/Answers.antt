use Rattle.std.proofs.Common.{ap}
use Rattle.awk_grammar.specs.View.{optional_expr_of}
use Rattle.awk_resolve.proofs.Building.{ok_map}
use Rattle.awk_resolve.proofs.SimpleStatements.{no_condition_built, condition_built}
use Rattle.awk_resolve.proofs.builder.Builder.lower_condition.Goals as goal

pub returns-in-None : goal.returns-in-None
returns-in-None c = rw (ap optional_expr_of c.in-None.is) (no_condition_built c.requires.here)

pub returns-in-Some : goal.returns-in-Some
returns-in-Some c = rw (ap optional_expr_of c.in-Some.is) (ok_map _ (λ i q. condition_built q) (rw c.deref.ensures at c.lower_test.ensures))
