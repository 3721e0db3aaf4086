use Rattle.std.proofs.Common.{rules}
use Rattle.std.proofs.lemmas.Str.{is_utf8-from_IsUtf8}
use Rattle.awk_command.proofs.CommandLineLemmas.{not_utf8}
use Rattle.awk_command.proofs.command_line.is_utf8.Goals as goal

pub returns : goal.returns
returns c = search (rules, is_utf8-from_IsUtf8, not_utf8)
