use Rattle.std.proofs.Common.{◌≡◌, ◌∷◌, take}
use Rattle.std.specs.Prelude.{codes}
use Rattle.awk_runtime.specs.support.Beginning.{texts_of}
use Rattle.awk_runtime.proofs.start.argument_texts.Given as goal

abbrev pub invariant-loop-operand : goal.invariant-loop-operand
invariant-loop-operand l = l.texts.items ≡ codes "awk" ∷ texts_of (take l.operand-index l.operands)
