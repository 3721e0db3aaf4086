use Rattle.std.proofs.Common.{Ok, Err, ap, ◌∙◌, refl}
use Rattle.std.proofs.lemmas.Result.{err_from_is_err_and}
use Rattle.awk_value.specs.Values.{str_of}
use Rattle.awk_runtime.proofs.Composition.{memory_simulates}
use Rattle.awk_runtime.proofs.Turns.{written}
use Rattle.awk_runtime.proofs.NamedInputs.{next_follows}
use Rattle.awk_runtime.proofs.runtime.Runtime.next_of_any.Goals as goal

pub returns-in_err-name-clause-follows : goal.returns-in_err-name-clause-follows
returns-in_err-name-clause-follows g c =
    let p = err_from_is_err_and c.from_residual.result c.from_residual.ensures.1 in
    rw (p.1, p.2, c.in_err-name.ensures.fault) (record { simulates = memory_simulates c.args.self.now (g.W.World.state c.args.world.now) _; callers = refl })

pub returns-in_err-separator-clause-follows : goal.returns-in_err-separator-clause-follows
returns-in_err-separator-clause-follows g c =
    let p = err_from_is_err_and c.from_residual-in_err-separator.result c.from_residual-in_err-separator.ensures.1 in
    rw (p.1, p.2, c.in_err-separator.ensures.fault) (record { simulates = memory_simulates c.args.self.now (g.W.World.state c.args.world.now) _; callers = refl })

pub returns-in_err-next_named-clause-follows : goal.returns-in_err-next_named-clause-follows
returns-in_err-next_named-clause-follows g c =
    let p = err_from_is_err_and c.from_residual-in_err-next_named.result c.from_residual-in_err-next_named.ensures.1 in
    rw (p.1, p.2) (next_follows _ _ _ c.as_slice.result.now (Err c.in_err-next_named.field-0.0) c.in_ok-name.ensures.text (c.as_slice.ensures ∙ c.in_ok-separator.ensures.text ∙ ap str_of c.special.ensures) (written _ _ _ _) (record { are_open = c.in_err-next_named.ensures.open; are_sound = c.in_err-next_named.ensures.sound }) c.in_err-next_named.ensures.told)

pub returns-clause-follows : goal.returns-clause-follows
returns-clause-follows g c =
    next_follows _ _ _ c.as_slice.result.now (Ok c.in_ok-next_named.field-0) c.in_ok-name.ensures.text (c.as_slice.ensures ∙ c.in_ok-separator.ensures.text ∙ ap str_of c.special.ensures) (written _ _ _ _) (record { are_open = c.in_ok-next_named.ensures.open; are_sound = c.in_ok-next_named.ensures.sound }) c.in_ok-next_named.ensures.told
