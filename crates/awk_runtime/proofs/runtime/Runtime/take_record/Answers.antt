use Rattle.std.proofs.Common.{Ok, Err, sym, ap, ◌∙◌, refl}
use Rattle.std.proofs.lemmas.Result.{err_from_is_err_and}
use Rattle.awk_value.specs.Values.{str_of}
use Rattle.awk_runtime.proofs.Turns.{written}
use Rattle.awk_runtime.proofs.MainInput.{asks_simulates, takes_none, none_of, writes_nothing}
use Rattle.awk_runtime.proofs.Composition.{memory_simulates}
use Rattle.awk_runtime.proofs.runtime.Runtime.take_record.Goals as goal

pub returns-then-not-has_main-clause-follows : goal.returns-then-not-has_main-clause-follows
returns-then-not-has_main-clause-follows g c = record { simulates = takes_none (none_of _ (sym c.has_main.ensures ∙ c.if-not-has_main.true)); callers = refl }

pub returns-in_err-separator-clause-follows : goal.returns-in_err-separator-clause-follows
returns-in_err-separator-clause-follows g c =
    let p = err_from_is_err_and c.from_residual.result c.from_residual.ensures.1 in
    rw (p.1, p.2, c.in_err-separator.ensures.fault) (record { simulates = memory_simulates c.args.self.now (g.W.World.state c.args.world.now) _; callers = refl })

pub returns-in_err-next_main-clause-follows : goal.returns-in_err-next_main-clause-follows
returns-in_err-next_main-clause-follows g c =
    let p = err_from_is_err_and c.from_residual-in_err-next_main.result c.from_residual-in_err-next_main.ensures.1 in
    rw (p.1, p.2) (record {
      simulates = asks_simulates c.as_slice.result.now (Err c.in_err-next_main.field-0.0) (c.as_slice.ensures ∙ c.in_ok-separator.ensures.text ∙ ap str_of c.special.ensures) (written _ _ _ _) (sym c.has_main.ensures ∙ c.if-not-has_main.false) c.in_err-next_main.ensures.same c.in_err-next_main.ensures.told (writes_nothing (Err c.in_err-next_main.field-0.0) c.in_err-next_main.ensures.fault);
      callers = refl;
    })

pub returns-clause-follows : goal.returns-clause-follows
returns-clause-follows g c = record {
  simulates = asks_simulates c.as_slice.result.now _ (c.as_slice.ensures ∙ c.in_ok-separator.ensures.text ∙ ap str_of c.special.ensures) (written _ _ _ _) (sym c.has_main.ensures ∙ c.if-not-has_main.false) c.in_ok-next_main.ensures.same c.in_ok-next_main.ensures.told (writes_nothing (Ok c.in_ok-next_main.field-0) c.in_ok-next_main.ensures.fault);
  callers = refl;
}
