use Rattle.awk_resolve.proofs.Building.{ok_map}
use Rattle.awk_resolve.proofs.PrintStatements.{delete_all_built}
use Rattle.awk_resolve.proofs.builder.Builder.lower_delete_all.Goals as goal

pub returns : goal.returns
returns c = ok_map _ (λ i r. delete_all_built c.requires.next (rw c.as_slice.ensures at c.in_ok-array.ensures) c.in_ok-clear.ensures r) c.step.ensures
