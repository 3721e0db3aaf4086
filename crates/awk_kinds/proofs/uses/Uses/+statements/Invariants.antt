use Rattle.std.proofs.Common.{drop}
use Rattle.awk_grammar.specs.View.{statements_of}
use Rattle.awk_kinds.specs.declared.uses.Uses.{Uses}
use Rattle.awk_kinds.specs.definitions.Kinds.{uses_in_block}
use Rattle.awk_kinds.specs.definitions.NameUses.{names_in_block}
use Rattle.awk_kinds.specs.support.Adds.{Adds}
use Rattle.awk_kinds.proofs.uses.Uses.+statements.Given as goal

abbrev pub invariant-add_block-loop-s : goal.invariant-add_block-loop-s
invariant-add_block-loop-s l = (new : Uses)
    → Adds l.self new (uses_in_block l.scope (statements_of (drop l.s-index l.all))) (names_in_block l.scope (statements_of (drop l.s-index l.all)))
    → Adds l.fn.self new (uses_in_block l.scope (statements_of l.all)) (names_in_block l.scope (statements_of l.all))
