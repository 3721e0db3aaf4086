use Rattle.awk_functions.proofs.PatternFinds.{none_matched}
use Rattle.awk_functions.proofs.compiled.Compiled.skippable.Goals as goal

pub returns-clause-none : goal.returns-clause-none
returns-clause-none c = none_matched c.args.self.now.text c.args.text.now c.args.self.now.pattern c.skippable.result c.args.self.now.means c.skippable.ensures.none
