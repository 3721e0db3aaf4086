use Rattle.std.proofs.Common.{ap}
use Rattle.awk_grammar.specs.View.{optional_expr_of}
use Rattle.awk_resolve.proofs.Building.{ok_map}
use Rattle.awk_resolve.proofs.SimpleStatements.{exit_built, exit_with_built}
use Rattle.awk_resolve.proofs.builder.Builder.lower_exit.Goals as goal

pub returns-in-None : goal.returns-in-None
returns-in-None c = rw (ap optional_expr_of c.in-None.is) (ok_map _ (λ i r. exit_built c.in_ok-stop.ensures r) c.step.ensures)

pub returns-in_ok-value-in-Some : goal.returns-in_ok-value-in-Some
returns-in_ok-value-in-Some c = rw (ap optional_expr_of c.in-Some.is) (ok_map _ (λ i r. exit_with_built c.in_ok-stop.ensures c.in_ok-status-in-Some.ensures (rw c.deref.ensures at c.in_ok-value-in-Some.ensures) r) c.step-in-Some.ensures)
