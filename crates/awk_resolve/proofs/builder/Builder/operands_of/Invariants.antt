use Rattle.std.proofs.Common.{List, ◌++◌, drop}
use Rattle.awk_grammar.specs.View.{exprs_of}
use Rattle.awk_resolve.specs.declared.builder.Builder.{Builder}
use Rattle.awk_resolve.specs.declared.node.Operand.{Operand}
use Rattle.awk_resolve.specs.support.Builds.{Extends, AreOperandsOf}
use Rattle.awk_resolve.specs.support.Scopes.{parameters_of}
use Rattle.awk_resolve.proofs.builder.Builder.operands_of.Given as goal

-- with operands of the others behind them, they are those of the whole list, also later
abbrev pub invariant-loop-e : goal.invariant-loop-e
invariant-loop-e l =
    Extends l.fn.self l.self × ((later : Builder) (more : List Operand) → Extends l.self later → AreOperandsOf l.scope.kinds.now (parameters_of l.scope) later more (exprs_of (drop l.e-index l.list))
    → AreOperandsOf l.scope.kinds.now (parameters_of l.scope) later (l.operands.items ++ more) (exprs_of l.list))
