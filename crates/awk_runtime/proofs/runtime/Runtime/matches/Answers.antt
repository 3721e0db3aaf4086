use Rattle.std.proofs.Common.{refl}
use Rattle.awk_runtime.proofs.TextChanges.{room, match_test, match_holds, match_refused}
use Rattle.awk_runtime.proofs.runtime.Runtime.matches.Goals as goal

pub returns-clause-holds : goal.returns-clause-holds
returns-clause-holds c = let m = c.args.self.now in match_holds c.matches.result (match_test c.args.text.now c.matches.result refl (room m c.matches.new.self m.formats m.spans) c.matches.ensures)

pub returns-clause-refused : goal.returns-clause-refused
returns-clause-refused c = let m = c.args.self.now in match_refused c.matches.result (match_test c.args.text.now c.matches.result refl (room m c.matches.new.self m.formats m.spans) c.matches.ensures)
