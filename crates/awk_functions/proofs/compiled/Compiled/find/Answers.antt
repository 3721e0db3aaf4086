use Rattle.awk_functions.proofs.PatternFinds.{found_is}
use Rattle.awk_functions.proofs.compiled.Compiled.find.Goals as goal

pub returns-clause-found : goal.returns-clause-found
returns-clause-found c = found_is c.law_of_matches.ensures.first c.args.self.now.text c.args.text.now c.args.self.now.pattern c.match_at.result c.args.self.now.means c.match_at.ensures.found
