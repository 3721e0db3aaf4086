use Rattle.std.proofs.Common.{◌≡◌, None, drop}
use Rattle.awk_command.specs.CommandLine.{no_settings, parse_options, texts}
use Rattle.awk_command.specs.Parts.{settings_of}
use Rattle.awk_command.proofs.options.read_options.Given as goal

abbrev pub invariant-loop-at : goal.invariant-loop-at
invariant-loop-at l = parse_options None no_settings (texts l.words) ≡ parse_options l.wanting (settings_of l.settings) (drop l.at (texts l.words))
