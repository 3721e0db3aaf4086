use Rattle.std.proofs.Common.{◌∙◌}
use Rattle.awk_record.proofs.AssignedFields.{cuts_more}
use Rattle.awk_record.proofs.assigned.cut_all.Goals as goal

pub loop-span-preserved : goal.loop-span-preserved
loop-span-preserved c =
    let loop = c.loop-span in
    cuts_more c.args.text.now c.args.spans.now loop.span-index loop.values.items c.push.new.self.items c.len-last.result _ c.cut_in.new.place _ c.loop-span-test.true
    loop.invariant c.in_ok-push.ensures.items (c.len-last.ensures ∙ c.push.new.self.ok.0) (c.cut_in.ensures c.if-not-cut_in.false)
