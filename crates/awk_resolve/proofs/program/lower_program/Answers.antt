use Rattle.std.proofs.Common.{map, ap, ◌∙◌}
use Rattle.awk_grammar.specs.View.{items_of}
use Rattle.awk_kinds.specs.definitions.Signatures.{Signature, ProgramKinds, kinds_of}
use Rattle.awk_resolve.specs.support.Builds.{arrays_among}
use Rattle.awk_resolve.proofs.Building.{grows}
use Rattle.awk_resolve.proofs.Planning.{planned, over_later}
use Rattle.awk_resolve.proofs.program.lower_program.Goals as goal

pub lower_functions-requires-clause-over : goal.lower_functions-requires-clause-over
lower_functions-requires-clause-over c = (c.in_ok-over.ensures {u = tt} c.args.kinds).over

pub lower_end-requires-clause-over : goal.lower_end-requires-clause-over
lower_end-requires-clause-over c = over_later c.in_ok-functions.ensures.grows (c.in_ok-over.ensures {u = tt} c.args.kinds).over

pub lower_rules-requires-clause-over : goal.lower_rules-requires-clause-over
lower_rules-requires-clause-over c = over_later (grows c.in_ok-functions.ensures.grows c.in_ok-end.ensures.grows) (c.in_ok-over.ensures {u = tt} c.args.kinds).over

pub lower_begin-requires-clause-over : goal.lower_begin-requires-clause-over
lower_begin-requires-clause-over c = over_later (grows c.in_ok-functions.ensures.grows (grows c.in_ok-end.ensures.grows c.in_ok-rules.ensures.grows)) (c.in_ok-over.ensures {u = tt} c.args.kinds).over

pub returns-clause-plan : goal.returns-clause-plan
returns-clause-plan c =
    let kinds = kinds_of (items_of c.args.items.now) in
    let functions = rw c.requires.kinds at (c.in_ok-functions.ensures {u = tt}) in
    let last = rw c.requires.kinds at (c.in_ok-end.ensures {u = tt}) in
    let rules = rw c.requires.kinds at (c.in_ok-rules.ensures {u = tt}) in
    let begin = rw c.requires.kinds at (c.in_ok-begin.ensures {u = tt}) in
    planned c.new.ensures.items c.new-4.ensures (c.in_ok-array_parameters.ensures ∙ ap (λ (k : ProgramKinds). map (λ (f : Signature). arrays_among f.parameters) k.functions) c.requires.kinds) (c.in_ok-over.ensures {u = tt} kinds) functions last rules begin c.has_rule.ensures
