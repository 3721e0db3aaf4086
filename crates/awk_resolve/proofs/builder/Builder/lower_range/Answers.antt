use Rattle.awk_resolve.proofs.Building.{ok_map}
use Rattle.awk_resolve.proofs.ItemForms.{range_selects}
use Rattle.awk_resolve.proofs.builder.Builder.lower_range.Goals as goal

pub returns : goal.returns
returns c = ok_map _ (λ i q. range_selects c.requires.here c.in_ok-ends.ensures c.in_ok-through.ensures c.in_ok-begins.ensures c.in_ok-outside.ensures q) c.push-3.ensures
