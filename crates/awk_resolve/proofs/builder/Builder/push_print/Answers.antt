use Rattle.awk_resolve.proofs.Building.{ok_map}
use Rattle.awk_resolve.proofs.ItemForms.{print_passes}
use Rattle.awk_resolve.proofs.builder.Builder.push_print.Goals as goal

pub returns : goal.returns
returns c = ok_map _ (λ i q. print_passes c.requires c.in_ok-print.ensures q) c.step.ensures
