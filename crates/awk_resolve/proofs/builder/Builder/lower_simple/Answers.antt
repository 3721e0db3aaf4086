use Rattle.std.proofs.Common.{ap}
use Rattle.awk_grammar.specs.View.{simple_of}
use Rattle.awk_resolve.proofs.Building.{ok_map}
use Rattle.awk_resolve.proofs.SimpleStatements.{next_built, break_built, continue_built}
use Rattle.awk_resolve.proofs.builder.Builder.lower_simple.Goals as goal

pub returns-in_ok-stop-in-Next : goal.returns-in_ok-stop-in-Next
returns-in_ok-stop-in-Next c = rw (ap simple_of c.in-Next.is) (ok_map _ (λ i r. next_built c.in_ok-stop-in-Next.ensures r) c.step.ensures)

pub returns-in-Break : goal.returns-in-Break
returns-in-Break c = rw (ap simple_of c.in-Break.is) (ok_map _ (λ i r. break_built c.requires.breaks r) c.step-in-Break.ensures)

pub returns-in-Continue : goal.returns-in-Continue
returns-in-Continue c = rw (ap simple_of c.in-Continue.is) (ok_map _ (λ i r. continue_built c.requires.continues r) c.step-in-Continue.ensures)
