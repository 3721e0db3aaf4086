-- A flush that is interrupted gives nothing to the writer.
use Rattle.std.specs.Io.KnownBytes.{Keeps}
use Rattle.awk_system.proofs.calls.flush_of.Given as goal

abbrev pub invariant-loop : goal.invariant-loop
invariant-loop g l = Keeps (g.W.Write.contents l.initial.writer) (g.W.Write.contents l.writer)
