use Rattle.std.proofs.Common.{◌≡◌, take}
use Rattle.awk_command.specs.CommandLine.{texts}
use Rattle.awk_command.proofs.command_line.copies.Given as goal

abbrev pub invariant-loop-word : goal.invariant-loop-word
invariant-loop-word l = texts l.copies.items ≡ take l.word-index (texts l.words)
