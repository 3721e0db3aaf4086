use Rattle.std.proofs.lemmas.Result.{err_from_is_err_and}
use Rattle.awk_runtime.proofs.Received.{named_unreceived, named_uncounted, named_received}
use Rattle.awk_runtime.proofs.runtime.Runtime.receive_named.Goals as goal

pub returns-in_err-receive : goal.returns-in_err-receive
returns-in_err-receive c =
    let p = err_from_is_err_and c.from_residual.result c.from_residual.ensures.1 in
    rw (p.1, p.2) (named_unreceived _ _ _ _ (c.in_err-receive.ensures {u = tt}))

pub returns-in_err-count_of : goal.returns-in_err-count_of
returns-in_err-count_of c =
    let p = err_from_is_err_and c.from_residual-in_err-count_of.result c.from_residual-in_err-count_of.ensures.1 in
    rw (p.1, p.2) (named_uncounted _ _ _ _ (c.in_ok-receive.ensures {u = tt}) (c.in_err-count_of.ensures {u = tt}))

pub returns : goal.returns
returns c = named_received _ _ _ _ (c.in_ok-receive.ensures {u = tt}) (c.in_ok-count_of.ensures {u = tt})
