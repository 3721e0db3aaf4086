use Rattle.std.proofs.Common.{true, false, ◌∙◌, refl}
use Rattle.std.proofs.lemmas.Result.{err_from_is_err_and}
use Rattle.awk_runtime.proofs.Composition.{memory_simulates}
use Rattle.awk_runtime.proofs.Flushes.{flush_follows, flush_fails}
use Rattle.awk_runtime.proofs.Turns.{written}
use Rattle.awk_runtime.proofs.runtime.Runtime.flush_named.Goals as goal

pub returns-in_err-name-clause-follows : goal.returns-in_err-name-clause-follows
returns-in_err-name-clause-follows g c =
    let p = err_from_is_err_and c.from_residual.result c.from_residual.ensures.1 in
    rw (p.1, p.2, c.in_err-name.ensures.fault) (record { simulates = memory_simulates c.args.self.now (g.W.World.state c.args.world.now) _; callers = refl })

pub returns-in_err-flush-clause-follows : goal.returns-in_err-flush-clause-follows
returns-in_err-flush-clause-follows g c =
    let p = err_from_is_err_and c.from_residual-in_err-flush.result c.from_residual-in_err-flush.ensures.1 in
    rw (p.1, p.2) (flush_fails _ c.as_slice.result.now c.in_err-flush.field-0.0 (c.as_slice.ensures ∙ c.in_ok-name.ensures.text) (written _ _ _ _) c.in_err-flush.ensures.told)

pub returns-then-branch-clause-follows : goal.returns-then-branch-clause-follows
returns-then-branch-clause-follows g c = flush_follows _ c.as_slice.result.now c.in_ok-flush.field-0 true c.if-branch.true (c.as_slice.ensures ∙ c.in_ok-name.ensures.text) (written _ _ _ _) c.in_ok-flush.ensures.told

pub returns-clause-follows : goal.returns-clause-follows
returns-clause-follows g c = flush_follows _ c.as_slice.result.now c.in_ok-flush.field-0 false c.if-branch.false (c.as_slice.ensures ∙ c.in_ok-name.ensures.text) (written _ _ _ _) c.in_ok-flush.ensures.told
