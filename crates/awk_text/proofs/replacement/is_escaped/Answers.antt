use Rattle.awk_text.proofs.ReplacementInSteps.{no_escape_at_end}
use Rattle.awk_text.proofs.replacement.is_escaped.Goals as goal

pub returns-else-i-replacement-clause-value : goal.returns-else-i-replacement-clause-value
returns-else-i-replacement-clause-value c = no_escape_at_end c.args.replacement.now c.args.i c.requires c.if-i-replacement.false
