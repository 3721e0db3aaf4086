use Rattle.std.proofs.lemmas.Result.{err_from_is_err_and}
use Rattle.awk_runtime.proofs.Received.{main_unspent, main_unreceived, main_uncounted, main_half_counted, main_received}
use Rattle.awk_runtime.proofs.runtime.Runtime.receive_main.Goals as goal

pub returns-in_err-spend : goal.returns-in_err-spend
returns-in_err-spend c =
    let p = err_from_is_err_and c.from_residual.result c.from_residual.ensures.1 in
    rw (p.1, p.2) (main_unspent _ _ _ c.in_err-spend.ensures)

pub returns-in_err-receive : goal.returns-in_err-receive
returns-in_err-receive c =
    let p = err_from_is_err_and c.from_residual-in_err-receive.result c.from_residual-in_err-receive.ensures.1 in
    rw (p.1, p.2) (main_unreceived _ _ _ c.in_ok-spend.ensures (c.in_err-receive.ensures {u = tt}))

pub returns-in_err-count_in : goal.returns-in_err-count_in
returns-in_err-count_in c =
    let p = err_from_is_err_and c.from_residual-in_err-count_in.result c.from_residual-in_err-count_in.ensures.1 in
    rw (p.1, p.2) (main_uncounted _ _ _ c.in_ok-spend.ensures (c.in_ok-receive.ensures {u = tt}) (c.in_err-count_in.ensures {u = tt}))

pub returns-in_err-count_in-2 : goal.returns-in_err-count_in-2
returns-in_err-count_in-2 c =
    let p = err_from_is_err_and c.from_residual-in_err-count_in-2.result c.from_residual-in_err-count_in-2.ensures.1 in
    rw (p.1, p.2) (main_half_counted _ _ _ c.in_ok-spend.ensures (c.in_ok-receive.ensures {u = tt}) (c.in_ok-count_in.ensures {u = tt}) (c.in_err-count_in-2.ensures {u = tt}))

pub returns : goal.returns
returns c = main_received _ _ _ c.in_ok-spend.ensures (c.in_ok-receive.ensures {u = tt}) (c.in_ok-count_in.ensures {u = tt}) (c.in_ok-count_in-2.ensures {u = tt})
