use Rattle.std.proofs.Common.{sym, ◌∙◌}
use Rattle.awk_record.proofs.AssignedFields.{resized_is}
use Rattle.awk_record.proofs.assigned.resize.Goals as goal

pub returns-clause-ok : goal.returns-clause-ok
returns-clause-ok c =
    let new = c.resize.new.self in
    resized_is c.args.count c.args.values.now.items new.items c.in_ok-resize.ensures.items (sym new.ok.0 ∙ c.in_ok-resize.ensures.len)
