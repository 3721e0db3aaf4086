use Rattle.std.proofs.Common.{◌∙◌}
use Rattle.std.proofs.lemmas.Result.{err_from_is_err_and}
use Rattle.awk_run.proofs.PlanParts.{set_behind, set_follows}
use Rattle.awk_run.proofs.Reading.{reading_ends, reading_stops, reading_unset, begun_set}
use Rattle.awk_run.proofs.records.search_next.Goals as goal

pub returns-in_err-text-clause-next : goal.returns-in_err-text-clause-next
returns-in_err-text-clause-next g c =
    let p = err_from_is_err_and c.from_residual.result c.from_residual.ensures.1 in
    rw (p.1, p.2) (record { finds = λ plan. reading_ends c.in_err-text.ensures.follows; set = λ plan set. set_follows c.in_err-text.ensures.follows c.in_err-text.ensures.ready set })

pub returns-in_default-clause-next : goal.returns-in_default-clause-next
returns-in_default-clause-next g c =
    record { finds = rw c.in_default.is at c.in_ok-text.ensures.follows; set = λ plan set. set_follows c.in_ok-text.ensures.follows c.in_ok-text.ensures.ready set }

pub returns-in_err-spend-clause-next : goal.returns-in_err-spend-clause-next
returns-in_err-spend-clause-next g c =
    let p = err_from_is_err_and c.from_residual-in_err-spend.result c.from_residual-in_err-spend.ensures.1 in
    rw (p.1, p.2) (record { finds = λ plan. reading_stops (rw c.in-Some.is at c.in_ok-text.ensures.follows) c.in_err-spend.ensures; set = λ plan set. set_behind c.in_err-spend.ensures.changes (set_follows c.in_ok-text.ensures.follows c.in_ok-text.ensures.ready set) })

pub returns-in_err-begin_record-clause-next : goal.returns-in_err-begin_record-clause-next
returns-in_err-begin_record-clause-next g c =
    let p = err_from_is_err_and c.from_residual-in_err-begin_record.result c.from_residual-in_err-begin_record.ensures.1 in
    rw (p.1, p.2) (record { finds = λ plan. reading_unset (rw c.in-Some.is at c.in_ok-text.ensures.follows) c.in_ok-spend.ensures c.in_err-begin_record.ensures; set = λ plan set. begun_set _ c.in_ok-spend.ensures c.in_err-begin_record.ensures (set_follows c.in_ok-text.ensures.follows c.in_ok-text.ensures.ready set) })

pub returns-clause-next : goal.returns-clause-next
returns-clause-next g c = record {
  finds = record { text = _; read = _; spent = _; reads = rw c.in-Some.is at c.in_ok-text.ensures.follows; ready = c.in_ok-text.ensures.ready; spends = c.in_ok-spend.ensures; begins = c.in_ok-begin_record.ensures };
  set = λ plan set. begun_set _ c.in_ok-spend.ensures c.in_ok-begin_record.ensures (set_follows c.in_ok-text.ensures.follows c.in_ok-text.ensures.ready set);
}

pub returns-in_err-text-clause-idle : goal.returns-in_err-text-clause-idle
returns-in_err-text-clause-idle g c = λ idle. record { operands = idle.operands; calls = c.in_err-text.ensures.follows.callers ∙ idle.calls }

pub returns-in_default-clause-idle : goal.returns-in_default-clause-idle
returns-in_default-clause-idle g c = λ idle. record { operands = idle.operands; calls = c.in_ok-text.ensures.follows.callers ∙ idle.calls }

pub returns-in_err-spend-clause-idle : goal.returns-in_err-spend-clause-idle
returns-in_err-spend-clause-idle g c = λ idle. record { operands = idle.operands; calls = c.in_err-spend.ensures.changes.callers ∙ (c.in_ok-text.ensures.follows.callers ∙ idle.calls) }

pub returns-in_err-begin_record-clause-idle : goal.returns-in_err-begin_record-clause-idle
returns-in_err-begin_record-clause-idle g c = λ idle.
    record { operands = idle.operands; calls = c.in_err-begin_record.ensures.callers ∙ (c.in_ok-spend.ensures.changes.callers ∙ (c.in_ok-text.ensures.follows.callers ∙ idle.calls)) }

pub returns-clause-idle : goal.returns-clause-idle
returns-clause-idle g c = λ idle.
    record { operands = idle.operands; calls = c.in_ok-begin_record.ensures.callers ∙ (c.in_ok-spend.ensures.changes.callers ∙ (c.in_ok-text.ensures.follows.callers ∙ idle.calls)) }
