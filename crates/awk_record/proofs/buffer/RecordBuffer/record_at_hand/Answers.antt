use Rattle.std.proofs.Common.{refl, arith}
use Rattle.awk_record.proofs.RecordAtHand.{Steps-at_byte}
use Rattle.awk_record.proofs.buffer.RecordBuffer.record_at_hand.Goals as goal

pub returns-clause-some : goal.returns-clause-some
returns-clause-some c =
    let b = c.self.inside in
    Steps-at_byte c.args.separator c.as_slice.result.now b.held c.in_ok-to.to b.supply c.args.self.now _ c.in-Ok.record c.in_ok-to.ensures c.as_slice.ensures
    (omega arith) c.self.view_is c.in-Ok.ensures c.advance.ensures refl
