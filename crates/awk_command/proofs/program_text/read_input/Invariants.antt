use Rattle.std.proofs.Common.{◌<◌, ◌-◌, ◌+◌, length}
use Rattle.awk_streams.specs.WorldState.{SameOpen}
use Rattle.awk_streams.specs.Writes.{GoesOn}
use Rattle.awk_run.specs.Accepted.{longest_text}
use Rattle.awk_command.specs.ProgramText.{ReadsBytes}
use Rattle.awk_command.proofs.program_text.read_input.Given as goal

pub record SoFar (same room logged : Type 0) : Type 0 where
  pub same_open : same
  pub has_room : room
  pub log : logged

abbrev pub invariant-loop-chunk : goal.invariant-loop-chunk
invariant-loop-chunk g l = let w = g.W.World in SoFar (SameOpen (w.state l.fn.world) (w.state l.world)) (0 < length l.chunk)
    (w.is_logged → GoesOn (ReadsBytes l.id l.bytes.items) (w.state l.fn.world).log (w.state l.world).log)

abbrev pub decreases-loop-chunk : goal.decreases-loop-chunk
decreases-loop-chunk g l = longest_text + 1 - length l.bytes.items
