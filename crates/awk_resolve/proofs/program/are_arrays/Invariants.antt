use Rattle.std.proofs.Common.{◌≡◌, map, take}
use Rattle.awk_kinds.specs.definitions.Kinds.{FormalParameter}
use Rattle.awk_resolve.proofs.program.are_arrays.Given as goal

abbrev pub invariant-loop-place : goal.invariant-loop-place
invariant-loop-place l = l.arrays.items ≡ map (λ (p : FormalParameter). p.is_array) (take l.place l.parameters)
