use Rattle.std.proofs.Common.{Ok, Err, refl}
use Rattle.awk_command.specs.CommandLine.{texts}
use Rattle.awk_command.proofs.InvocationLemmas.{runs_utility}
use Rattle.awk_command.proofs.invocation.main_words_watched.Goals as goal

pub returns-in-Ok : goal.returns-in-Ok
returns-in-Ok g c =
    let w = g.W.World in
    let before = w.state c.args.world.now in
    let left = w.state c.invoke.new.world in
    let after = w.state c.report_outcome.new.world in
    runs_utility w.is_logged (texts c.args.words.now) c.args.environ.items before left after c.status.result (Ok c.in-Ok.outcome) c.in-Ok.ensures c.status.ensures c.report_outcome.ensures

pub returns-in-Err : goal.returns-in-Err
returns-in-Err g c =
    let w = g.W.World in
    let before = w.state c.args.world.now in
    let left = w.state c.invoke.new.world in
    let after = w.state c.report_not_run.new.world in
    runs_utility w.is_logged (texts c.args.words.now) c.args.environ.items before left after 2 (Err c.in-Err.why) c.in-Err.ensures refl c.report_not_run.ensures
