use Rattle.std.proofs.Common.{ap, ◌∙◌}
use Rattle.std.proofs.lemmas.Int.{to_z-of_z}
use mir.Syntax.{w128}
use Rattle.awk_text.specs.definitions.Directives.{prefix_of, magnitude_of}
use Rattle.awk_text.proofs.FieldLemmas.{integer_at}
use Rattle.awk_text.proofs.field.add_integer.Goals as goal

pub returns-clause-text : goal.returns-clause-text
returns-clause-text c =
    integer_at c.args.directive.now c.args.notation c.args.number c.magnitude-magnitude.result c.prefix-prefix.result.now c.args.out.now.items c.add_magnitude.new.out.items
    (c.prefix-prefix.ensures.text ∙ ap (prefix_of c.args.notation c.args.directive.now.flags) (to_z-of_z w128 c.args.number c.ranges.number))
    (c.magnitude-magnitude.ensures ∙ ap (magnitude_of c.args.notation) (to_z-of_z w128 c.args.number c.ranges.number)) c.in_ok-add_magnitude.ensures.text
