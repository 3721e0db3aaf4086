use Rattle.std.proofs.Common.{◌≡◌, Bool, map, take}
use Rattle.std.specs.Global.{Vec}
use Rattle.awk_kinds.specs.definitions.Signatures.{Signature}
use Rattle.awk_resolve.specs.support.Builds.{arrays_among}
use Rattle.awk_resolve.proofs.program.array_parameters.Given as goal

abbrev pub invariant-loop-number : goal.invariant-loop-number
invariant-loop-number l = map (λ (v : Vec Bool). v.items) l.all.items ≡ map (λ (f : Signature). arrays_among f.parameters) (take l.number l.kinds.functions)
