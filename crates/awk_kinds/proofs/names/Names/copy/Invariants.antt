use Rattle.std.proofs.Common.{◌≡◌, take}
use Rattle.awk_kinds.proofs.names.Names.copy.Given as goal

abbrev pub invariant-loop-number : goal.invariant-loop-number
invariant-loop-number l = l.names ≡ take l.number l.self
