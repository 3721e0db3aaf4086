use Rattle.std.proofs.Common.{ap, Ok}
use Rattle.std.proofs.lemmas.Result.{err_from_is_err_and}
use Rattle.awk_command.proofs.invocation.run_command_line.Goals as goal

pub returns-in_err-execute_watched : goal.returns-in_err-execute_watched
returns-in_err-execute_watched g c =
    let w = g.W.World in
    let p = err_from_is_err_and c.from_residual-in_err-execute_watched.result c.from_residual-in_err-execute_watched.ensures.1 in
    let executed = rw (c.deref.ensures.value, c.in_ok-environ.ensures) at c.in_err-execute_watched.ensures.executed in
    rw (p.1, p.2) (record {
      text = Ok c.in_ok-text.text;
      between = w.state c.program_text.new.world;
      provided = c.in_ok-text.ensures.text;
      ran = (executed, ap (λ v. w.state v) c.in_err-execute_watched.ensures.untouched);
    })
