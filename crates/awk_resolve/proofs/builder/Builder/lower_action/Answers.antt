use Rattle.awk_resolve.proofs.Building.{ok_map}
use Rattle.awk_resolve.proofs.ItemForms.{action_passes}
use Rattle.awk_resolve.proofs.builder.Builder.lower_action.Goals as goal

pub returns : goal.returns
returns c = ok_map _ (λ i q. action_passes c.requires.action q) c.lower_body.ensures
