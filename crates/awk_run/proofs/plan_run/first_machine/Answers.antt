use Rattle.std.proofs.Common.{ap}
use Rattle.awk_storage.specs.support.Frames.{FramesView}
use Rattle.awk_run.proofs.Starting.{first_starts}
use Rattle.awk_run.proofs.plan_run.first_machine.Goals as goal

pub program_names-requires : goal.program_names-requires
program_names-requires c = c.requires.program.is.is.scalars

pub returns : goal.returns
returns c = first_starts c.in_ok-names.ensures (rw (c.deref.ensures.value, c.deref-2.ensures.value) at c.in_ok-runtime.ensures.start) c.new-2.ensures.runtime (c.new-2.ensures.idle (ap (λ (f : FramesView). f.callers) c.in_ok-runtime.ensures.start.frames))
