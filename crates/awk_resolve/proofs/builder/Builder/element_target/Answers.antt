use Rattle.std.proofs.Common.{refl}
use Rattle.awk_resolve.proofs.builder.Builder.element_target.Goals as goal

pub returns-in_default : goal.returns-in_default
returns-in_default c = rw c.in_default.is at c.in_ok-key.ensures

pub returns : goal.returns
returns c =
    let found = rw c.in-Some.is at c.in_ok-key.ensures in
    record { extends = found.extends; is = record { name = _; subscripts = _; is = refl; array = rw c.as_slice.ensures at c.in_ok-array.ensures; key = found.is } }
