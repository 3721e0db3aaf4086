use Rattle.std.proofs.lemmas.Result.{err_from_is_err_and}
use Rattle.awk_runtime.proofs.CallWords.{call_refused, entered_behind, refused_behind}
use Rattle.awk_runtime.proofs.runtime.Runtime.enter_call.Goals as goal

pub returns-in_err-complete_given : goal.returns-in_err-complete_given
returns-in_err-complete_given c =
    let p = err_from_is_err_and c.from_residual.result c.from_residual.ensures.1 in
    rw (p.1, p.2, c.in_err-complete_given.ensures.memory) (call_refused c.args.kinds.now c.args.height c.args.caller c.in_err-complete_given.ensures.refused)

pub returns-in_err-enter : goal.returns-in_err-enter
returns-in_err-enter c =
    let p = err_from_is_err_and c.from_residual-in_err-enter.result c.from_residual-in_err-enter.ensures.1 in
    rw (p.1, p.2) (refused_behind c.args.self.now c.complete_given.new.self c.args.kinds.now c.args.height c.args.caller c.in_ok-complete_given.ensures.given)

pub returns : goal.returns
returns c = entered_behind c.args.self.now c.complete_given.new.self c.args.kinds.now c.args.height c.args.caller c.in_ok-complete_given.ensures.given c.len-arrays_before.result c.len-arrays_before.ensures c.in_ok-enter.ensures.entered
