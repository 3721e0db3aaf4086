use Rattle.std.proofs.Common.{length}
use Rattle.awk_ere.specs.support.CompilerState.{state_of}
use Rattle.awk_ere.proofs.CompilerMakesProgram.{Reaches}
use Rattle.awk_ere.proofs.compile.compile_checked.Given as goal

abbrev pub invariant-loop-token : goal.invariant-loop-token
invariant-loop-token l = Reaches l.text l.rest (state_of l.compiler)

abbrev pub decreases-loop-token : goal.decreases-loop-token
decreases-loop-token l = length l.rest
