use Rattle.std.proofs.Common.{refl}
use Rattle.awk_resolve.proofs.builder.Builder.joined_key.Goals as goal

pub returns-in-Some : goal.returns-in-Some
returns-in-Some c =
    let found = rw c.in-Some.is at c.in_ok-parts.ensures in
    record { extends = found.extends; is = record { subscript = _; is = refl; joined = c.requires; stand = found.are } }

pub returns-in-None : goal.returns-in-None
returns-in-None c = rw c.in-None.is at c.in_ok-parts.ensures
