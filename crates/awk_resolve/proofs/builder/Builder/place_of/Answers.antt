use Rattle.std.proofs.Common.{ap}
use Rattle.awk_grammar.specs.View.{expr_of}
use Rattle.awk_resolve.proofs.Building.{same}
use Rattle.awk_resolve.proofs.Positions.{name_is_place, element_is_place, field_is_place}
use Rattle.awk_resolve.proofs.TreeForms.{element_is}
use Rattle.awk_resolve.proofs.builder.Builder.place_of.Goals as goal

pub returns-in_ok-variable_of-in-Name : goal.returns-in_ok-variable_of-in-Name
returns-in_ok-variable_of-in-Name c =
    let found = rw c.as_slice.ensures at c.in_ok-variable_of-in-Name.ensures in
    rw (ap expr_of c.in-Name.is) (record { extends = found.extends; is = name_is_place found.is })

pub returns-in_ok-array_of-in-Element : goal.returns-in_ok-array_of-in-Element
returns-in_ok-array_of-in-Element c =
    rw (element_is c.args.p.now c.in-Element.x c.in-Element.field-1 c.in-Element.is) (record { extends = same; is = element_is_place _ (rw c.as_slice-in-Element.ensures at c.in_ok-array_of-in-Element.ensures) })

pub returns-in-Field : goal.returns-in-Field
returns-in-Field c = rw (ap expr_of c.in-Field.is) (record { extends = same; is = field_is_place _ })
