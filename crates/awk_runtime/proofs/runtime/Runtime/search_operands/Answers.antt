use Rattle.std.proofs.lemmas.Result.{err_from_is_err_and}
use Rattle.awk_runtime.proofs.Seeks.{search_ends, search_stops, search_halts, search_gives, search_goes, search_over, searches_all}
use Rattle.awk_runtime.proofs.runtime.Runtime.search_operands.Goals as goal

pub returns-in_err-word-clause-seeks : goal.returns-in_err-word-clause-seeks
returns-in_err-word-clause-seeks g c =
    let p = err_from_is_err_and c.from_residual.result c.from_residual.ensures.1 in
    rw (p.1, p.2) (searches_all tt (c.loop-word.invariant.on _ _ _ (search_ends c.in_err-word.ensures)))

pub returns-in_err-spend-clause-seeks : goal.returns-in_err-spend-clause-seeks
returns-in_err-spend-clause-seeks g c =
    let p = err_from_is_err_and c.from_residual-in_err-spend.result c.from_residual-in_err-spend.ensures.1 in
    rw (p.1, p.2) (searches_all tt (c.loop-word.invariant.on _ _ _ (search_stops (rw c.in-Some.is at (c.in_ok-word.ensures {u = tt})) c.in_err-spend.ensures)))

pub returns-in_err-text-clause-seeks : goal.returns-in_err-text-clause-seeks
returns-in_err-text-clause-seeks g c =
    let p = err_from_is_err_and c.from_residual-in_err-text.result c.from_residual-in_err-text.ensures.1 in
    rw (p.1, p.2) (searches_all tt (c.loop-word.invariant.on _ _ _ (search_halts (rw c.in-Some.is at (c.in_ok-word.ensures {u = tt})) c.in_ok-spend.ensures c.in_err-text.ensures.seeks)))

pub returns-in-Some-2-clause-seeks : goal.returns-in-Some-2-clause-seeks
returns-in-Some-2-clause-seeks g c = searches_all tt (c.loop-word.invariant.on _ _ _ (search_gives (rw c.in-Some.is at (c.in_ok-word.ensures {u = tt})) c.in_ok-spend.ensures (rw c.in-Some-2.is at c.in_ok-text.ensures.seeks)))

pub loop-word-preserved : goal.loop-word-preserved
loop-word-preserved g c =
    let taken = rw c.in-Some.is at (c.in_ok-word.ensures {u = tt}) in
    let sought = rw c.in_default-2.is at c.in_ok-text.ensures.seeks in
    record {
      on = λ new after r h. c.loop-word.invariant.on new after r (search_goes taken c.in_ok-spend.ensures sought h);
      none = sought.closed;
      ready = c.in_ok-text.ensures.ready;
    }

pub returns-clause-seeks : goal.returns-clause-seeks
returns-clause-seeks g c = searches_all c.standard_record.ensures.seeks.closed (c.loop-word.invariant.on _ _ _ (search_over (rw c.in_default.is at (c.in_ok-word.ensures {u = tt})) c.standard_record.ensures.seeks))
