use Rattle.std.proofs.Common.{ap}
use Rattle.awk_grammar.specs.View.{pattern_of}
use Rattle.awk_resolve.proofs.Building.{ok_map}
use Rattle.awk_resolve.proofs.ItemForms.{single_selects}
use Rattle.awk_resolve.proofs.builder.Builder.lower_record_pattern.Goals as goal

pub returns-in-Single : goal.returns-in-Single
returns-in-Single c =
    let tested = rw c.deref.ensures at c.lower_test.ensures in
    rw (ap pattern_of c.in-Single.is) (ok_map _ (λ i q. single_selects q) tested)

pub returns-in-Range : goal.returns-in-Range
returns-in-Range c = rw (ap pattern_of c.in-Range.is, ← c.deref-in-Range.ensures, ← c.deref-in-Range-2.ensures) c.lower_range.ensures
