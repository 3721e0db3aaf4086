use Rattle.awk_functions.proofs.PatternFinds.{matched_is}
use Rattle.awk_functions.proofs.compiled.Compiled.is_match.Goals as goal

pub returns-clause-found : goal.returns-clause-found
returns-clause-found c = matched_is c.args.self.now.text c.args.text.now c.args.self.now.pattern c.is_match.result c.args.self.now.means c.is_match.ensures.decided
