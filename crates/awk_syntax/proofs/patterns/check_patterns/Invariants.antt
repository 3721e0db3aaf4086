use Rattle.std.proofs.Common.{take}
use Rattle.awk_lex.specs.Told.{kinds_of}
use Rattle.awk_syntax.specs.definitions.Patterns.{AreReadable}
use Rattle.awk_syntax.proofs.patterns.check_patterns.Given as goal

abbrev pub invariant-loop-token : goal.invariant-loop-token
invariant-loop-token l = AreReadable (kinds_of (take l.token-index l.tokens))
