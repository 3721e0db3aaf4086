use Rattle.std.proofs.Common.{rules}
use Rattle.awk_ere.proofs.NewlineBranch.{newline_code}
use Rattle.awk_ere.proofs.pattern.Pattern.or_newline.Goals as goal

pub returns : goal.returns
returns c = λ t means. ((means.0, (tt, tt)), newline_code t c.args.self.program.classes.items c.args.self.program.instructions.items _ means.1 (search rules))
