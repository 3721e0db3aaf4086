use Rattle.std.proofs.Common.{take}
use Rattle.awk_command.specs.CommandLine.{texts}
use Rattle.awk_command.specs.ProgramText.{ReadsFiles}
use Rattle.awk_command.proofs.program_text.read_files.Given as goal

abbrev pub invariant-loop-name : goal.invariant-loop-name
invariant-loop-name g l = let w = g.W.World in w.is_logged → ReadsFiles (take l.name-index (texts l.names)) l.text.items (w.state l.fn.world).log (w.state l.world).log
