use Rattle.std.proofs.Common.{◌≡◌, refl}
use Rattle.awk_evaluator.proofs.ReadFields.{cut_at_hand}
use Rattle.awk_evaluator.proofs.machine.Machine.text_of_field.Goals as goal

pub returns-clause-some : goal.returns-clause-some
returns-clause-some c =
    let counted = c.count_for.ensures.same in
    let same = c.span_of.ensures.same in
    let field = c.in_ok-span.ensures.field in
    let within = c.in_ok-span.ensures.within in
    let text = c.in_ok-record.ensures in
    let cut = c.if-not-cut_to.ensures.cut refl in
    cut_at_hand c.args.self.now.runtime.current.text _ c.in_ok-span.span (rw counted at field) (rw counted at within) (rw (text, same, counted) at cut)
