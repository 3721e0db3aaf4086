use Rattle.std.proofs.Common.{drop}
use Rattle.awk_grammar.specs.View.{exprs_of}
use Rattle.awk_kinds.specs.declared.uses.Uses.{Uses}
use Rattle.awk_kinds.specs.definitions.Kinds.{uses_in_list, uses_in_arguments}
use Rattle.awk_kinds.specs.definitions.NameUses.{names_in_list, names_in_call, names_in_built_in}
use Rattle.awk_kinds.specs.support.Adds.{Adds}
use Rattle.awk_kinds.proofs.uses.Uses.+expressions.Given as goal

abbrev pub invariant-add_list-loop-e : goal.invariant-add_list-loop-e
invariant-add_list-loop-e l = (new : Uses)
    → Adds l.self new (uses_in_list l.scope (exprs_of (drop l.e-index l.list))) (names_in_list l.scope (exprs_of (drop l.e-index l.list)))
    → Adds l.fn.self new (uses_in_list l.scope (exprs_of l.list)) (names_in_list l.scope (exprs_of l.list))

abbrev pub invariant-add_arguments-loop-i : goal.invariant-add_arguments-loop-i
invariant-add_arguments-loop-i l = (new : Uses)
    → Adds l.self new (uses_in_arguments l.scope l.function l.i (exprs_of (drop l.i l.list))) (names_in_call l.scope l.function l.i (exprs_of (drop l.i l.list)))
    → Adds l.fn.self new (uses_in_arguments l.scope l.function 0 (exprs_of l.list)) (names_in_call l.scope l.function 0 (exprs_of l.list))

abbrev pub invariant-add_built_in-loop-i : goal.invariant-add_built_in-loop-i
invariant-add_built_in-loop-i l = (new : Uses)
    → Adds l.self new (uses_in_list l.scope (exprs_of (drop l.i l.list))) (names_in_built_in l.scope l.function l.i (exprs_of (drop l.i l.list)))
    → Adds l.fn.self new (uses_in_list l.scope (exprs_of l.list)) (names_in_built_in l.scope l.function 0 (exprs_of l.list))
