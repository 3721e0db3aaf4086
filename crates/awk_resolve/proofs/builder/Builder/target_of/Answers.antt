use Rattle.awk_resolve.proofs.TreeForms.{element_is}
use Rattle.awk_resolve.proofs.builder.Builder.target_of.Goals as goal

pub returns-in-Element : goal.returns-in-Element
returns-in-Element c = rw (element_is c.args.place.now c.in-Element.x c.in-Element.list c.in-Element.is) (rw c.deref.ensures.value at c.element_target.ensures)
