use Rattle.std.proofs.lemmas.Result.{err_from_is_err_and}
use Rattle.awk_runtime.proofs.Words.{record_ends, record_ends_later, record_begins, record_counted}
use Rattle.awk_runtime.proofs.runtime.Runtime.begin_record.Goals as goal

pub returns-in_err-set_record : goal.returns-in_err-set_record
returns-in_err-set_record c =
    let p = err_from_is_err_and c.from_residual.result c.from_residual.ensures.1 in
    rw (p.1, p.2) (record_ends _ c.in_err-set_record.ensures)

pub returns-in_err-count_in : goal.returns-in_err-count_in
returns-in_err-count_in c =
    let p = err_from_is_err_and c.from_residual-in_err-count_in.result c.from_residual-in_err-count_in.ensures.1 in
    rw (p.1, p.2) (record_ends_later _ c.in_ok-set_record.ensures (rw (c.count_in_place.ensures.kept c.if-count_in_place.false) at c.in_err-count_in.ensures))

pub returns : goal.returns
returns c = record_begins _ c.in_ok-set_record.ensures (rw (c.count_in_place.ensures.kept c.if-count_in_place.false) at c.in_ok-count_in.ensures) c.count_in-2.ensures

pub returns-then-count_in_place : goal.returns-then-count_in_place
returns-then-count_in_place c = record_counted _ c.in_ok-set_record.ensures (c.count_in_place.ensures.counted c.if-count_in_place.true)
