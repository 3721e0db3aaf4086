use Rattle.awk_resolve.proofs.Building.{ok_map}
use Rattle.awk_resolve.proofs.SimpleStatements.{next_file_built}
use Rattle.awk_resolve.proofs.builder.Builder.lower_next_file.Goals as goal

pub returns : goal.returns
returns c = ok_map _ (λ i r. next_file_built c.in_ok-stop.ensures c.in_ok-end.ensures r) c.step.ensures
