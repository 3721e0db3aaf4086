use Rattle.std.proofs.lemmas.Result.{err_from_is_err_and}
use Rattle.awk_run.proofs.program.execute_watched.Goals as goal

pub returns-in_err-program-clause-executed : goal.returns-in_err-program-clause-executed
returns-in_err-program-clause-executed g c =
    let p = err_from_is_err_and c.from_residual.result c.from_residual.ensures.1 in
    rw (p.1, p.2) (record { cause = c.in_err-program.ensures.cause; refused = c.in_err-program.ensures.refused; run = tt; since = tt })

pub run_over_log-requires : goal.run_over_log-requires
run_over_log-requires g c = record {
  program = record { items = c.in_ok-program.ensures.program.0; holds = c.in_ok-program.ensures.program.2 };
}

pub returns-clause-executed : goal.returns-clause-executed
returns-clause-executed g c =
    let read = c.in_ok-program.ensures.program in
    record {
      cause = tt;
      refused = tt;
      run = (read.0, read.1, λ t fresh. (c.run_over_log.ensures.runs read.0 read.2).runs t fresh);
      since = (read.0, read.1, c.run_over_log.ensures.since read.0 read.2);
    }
