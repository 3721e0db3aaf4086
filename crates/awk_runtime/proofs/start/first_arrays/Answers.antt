use Rattle.std.proofs.Common.{◌∙◌, arith}
use Rattle.awk_runtime.specs.support.Beginning.{start_of}
use Rattle.awk_runtime.proofs.StartLemmas.{arrays_next, name_there}
use Rattle.awk_runtime.proofs.start.first_arrays.Goals as goal
use Rattle.awk_runtime.proofs.start.first_arrays.Goals.{in-Some+in_ok-add_array, in_default}

pub loop-number-preserved : goal.loop-number-preserved
loop-number-preserved c = elim c.match-array_name.branch [
  | in-Some+in_ok-add_array w ↦ arrays_next (start_of c.args.operands.now c.args.environ.now) c.args.names.now.arrays c.loop-number.number w.in-Some.name.now w.in-Some.ensures c.loop-number.invariant (w.arrays-is ∙ w.in_ok-add_array.ensures.added)
  | in_default w ↦ absurd (name_there c.args.names.now.arrays c.loop-number.number (omega (arith, c.array_count-number-end.ensures, c.loop-number-test.true)) w.in_default.ensures)
]
