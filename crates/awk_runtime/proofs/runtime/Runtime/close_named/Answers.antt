use mir.Syntax.{w128}
use mir.Val.{to_z, of_z}
use Rattle.std.proofs.Common.{rules, ◌≡◌, Ok, Err, ◌∙◌, refl}
use Rattle.std.proofs.lemmas.Result.{err_from_is_err_and}
use Rattle.awk_runtime.proofs.Composition.{memory_simulates}
use Rattle.awk_runtime.proofs.Turns.{written}
use Rattle.awk_runtime.proofs.Closings.{close_follows}
use Rattle.awk_runtime.proofs.runtime.Runtime.close_named.Goals as goal

pub returns-in_err-name-clause-follows : goal.returns-in_err-name-clause-follows
returns-in_err-name-clause-follows g c =
    let p = err_from_is_err_and c.from_residual.result c.from_residual.ensures.1 in
    rw (p.1, p.2, c.in_err-name.ensures.fault) (record { simulates = memory_simulates c.args.self.now (g.W.World.state c.args.world.now) _; callers = refl })

pub returns-in_err-close-clause-follows : goal.returns-in_err-close-clause-follows
returns-in_err-close-clause-follows g c =
    let p = err_from_is_err_and c.from_residual-in_err-close.result c.from_residual-in_err-close.ensures.1 in
    rw (p.1, p.2) (close_follows _ c.as_slice.result.now (Err c.in_err-close.field-0.0) (c.as_slice.ensures ∙ c.in_ok-name.ensures.text) (written _ _ _ _) c.in_err-close.ensures.told)

pub returns-clause-follows : goal.returns-clause-follows
returns-clause-follows g c =
    let same : to_z w128 (of_z w128 c.in_ok-close.field-0) ≡ c.in_ok-close.field-0 = search rules in
    rw same (close_follows _ c.as_slice.result.now (Ok c.in_ok-close.field-0) (c.as_slice.ensures ∙ c.in_ok-name.ensures.text) (written _ _ _ _) c.in_ok-close.ensures.told)
