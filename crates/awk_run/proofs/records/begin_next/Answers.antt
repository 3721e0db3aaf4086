use Rattle.std.proofs.Common.{◌∙◌}
use Rattle.std.proofs.lemmas.Result.{err_from_is_err_and}
use Rattle.awk_run.proofs.Reading.{found_at_hand, unset_at_hand, none_at_hand, keeps_callers}
use Rattle.awk_run.proofs.records.begin_next.Goals as goal

pub search_next-requires : goal.search_next-requires
search_next-requires g c = record { ready = rw (none_at_hand _ _ _ (c.in_ok-begin_at_hand.ensures.begins _ c.requires.ready) c.if-branch.false) c.requires.ready }

pub returns-in_err-begin_at_hand-clause-next : goal.returns-in_err-begin_at_hand-clause-next
returns-in_err-begin_at_hand-clause-next g c =
    let p = err_from_is_err_and c.from_residual.result c.from_residual.ensures.1 in
    rw (p.1, p.2) (unset_at_hand (c.in_err-begin_at_hand.ensures.begins _ c.requires.ready))

pub returns-then-branch-clause-next : goal.returns-then-branch-clause-next
returns-then-branch-clause-next g c = found_at_hand (c.in_ok-begin_at_hand.ensures.begins _ c.requires.ready) c.if-branch.true

pub returns-clause-next : goal.returns-clause-next
returns-clause-next g c = rw (none_at_hand _ _ _ (c.in_ok-begin_at_hand.ensures.begins _ c.requires.ready) c.if-branch.false) at c.search_next.ensures.next

pub returns-in_err-begin_at_hand-clause-idle : goal.returns-in_err-begin_at_hand-clause-idle
returns-in_err-begin_at_hand-clause-idle g c = λ idle.
    let k = g.W.World.state c.args.world.now in
    record { operands = idle.operands; calls = keeps_callers g.W.World.is_logged c.args.machine.now.runtime c.begin_at_hand.new.self k k c.begin_at_hand.result (c.begin_at_hand.ensures.begins k c.requires.ready) ∙ idle.calls }

pub returns-then-branch-clause-idle : goal.returns-then-branch-clause-idle
returns-then-branch-clause-idle g c = λ idle.
    let k = g.W.World.state c.args.world.now in
    record { operands = idle.operands; calls = keeps_callers g.W.World.is_logged c.args.machine.now.runtime c.begin_at_hand.new.self k k c.begin_at_hand.result (c.begin_at_hand.ensures.begins k c.requires.ready) ∙ idle.calls }

pub returns-clause-idle : goal.returns-clause-idle
returns-clause-idle g c = λ idle.
    let k = g.W.World.state c.args.world.now in
    c.search_next.ensures.idle
    (record { operands = idle.operands; calls = keeps_callers g.W.World.is_logged c.args.machine.now.runtime c.begin_at_hand.new.self k k c.begin_at_hand.result (c.begin_at_hand.ensures.begins k c.requires.ready) ∙ idle.calls })
