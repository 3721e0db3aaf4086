use Rattle.std.proofs.Common.{◌≡◌, Ok, Err, refl}
use Rattle.awk_streams.specs.declared.fault.StreamFault.TheVariants.{InputNotReadable}
use Rattle.std.proofs.lemmas.Result.{err_from_is_err_and}
use Rattle.awk_runtime.proofs.Turns.{written}
use Rattle.awk_runtime.proofs.MainInput.{opens_simulates, fresh_some}
use Rattle.awk_runtime.proofs.runtime.Runtime.open_main.Goals as goal

pub returns-in_err-open_main-clause-opens : goal.returns-in_err-open_main-clause-opens
returns-in_err-open_main-clause-opens g c =
    let p = err_from_is_err_and c.from_residual.result c.from_residual.ensures.1 in
    rw (p.1, p.2) (record {
      simulates = opens_simulates _ _ (Err c.in_err-open_main.field-0.0) (written _ _ _ _) c.requires.none (λ _. c.in_err-open_main.ensures.err) c.in_err-open_main.ensures.told c.in_err-open_main.ensures.fault;
      callers = refl;
      main = tt;
    })

pub returns-clause-opens : goal.returns-clause-opens
returns-clause-opens g c = record {
  simulates = opens_simulates _ _ _ (written _ _ _ _) c.requires.none (λ (e : Ok c.in_ok-open_main.field-0 ≡ Err InputNotReadable). absurd (cc)) c.in_ok-open_main.ensures.told c.in_ok-open_main.ensures.fault;
  callers = refl;
  main = fresh_some _ c.in_ok-open_main.ensures.opened;
}
