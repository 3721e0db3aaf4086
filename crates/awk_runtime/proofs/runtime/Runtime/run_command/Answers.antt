use mir.Syntax.{w128}
use mir.Val.{to_z, of_z}
use Rattle.std.proofs.Common.{rules, ◌≡◌, Ok, Err, ◌∙◌, refl}
use Rattle.std.proofs.lemmas.Result.{err_from_is_err_and}
use Rattle.awk_runtime.proofs.Composition.{memory_simulates}
use Rattle.awk_runtime.proofs.Turns.{written}
use Rattle.awk_runtime.proofs.Closings.{run_follows}
use Rattle.awk_runtime.proofs.runtime.Runtime.run_command.Goals as goal

pub returns-in_err-command-clause-follows : goal.returns-in_err-command-clause-follows
returns-in_err-command-clause-follows g c =
    let p = err_from_is_err_and c.from_residual.result c.from_residual.ensures.1 in
    rw (p.1, p.2, c.in_err-command.ensures.fault) (record { simulates = memory_simulates c.args.self.now (g.W.World.state c.args.world.now) _; callers = refl })

pub returns-in_err-run-clause-follows : goal.returns-in_err-run-clause-follows
returns-in_err-run-clause-follows g c =
    let p = err_from_is_err_and c.from_residual-in_err-run.result c.from_residual-in_err-run.ensures.1 in
    rw (p.1, p.2) (run_follows _ c.as_slice.result.now (Err c.in_err-run.field-0.0) (c.as_slice.ensures ∙ c.in_ok-command.ensures.text) (written _ _ _ _) c.in_err-run.ensures.told)

pub returns-clause-follows : goal.returns-clause-follows
returns-clause-follows g c =
    let same : to_z w128 (of_z w128 c.in_ok-run.field-0) ≡ c.in_ok-run.field-0 = search rules in
    rw same (run_follows _ c.as_slice.result.now (Ok c.in_ok-run.field-0) (c.as_slice.ensures ∙ c.in_ok-command.ensures.text) (written _ _ _ _) c.in_ok-run.ensures.told)
