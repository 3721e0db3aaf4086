use Rattle.std.proofs.Common.{◌<◌, arith}
use Rattle.awk_ere.specs.support.Layout.{byte_count}
use Rattle.awk_ere.proofs.LiteralOccurs.{one_more_read, one_more_small}
use Rattle.awk_ere.proofs.pattern.Pattern.literal_bytes.Goals as goal

pub loop-instruction-preserved : goal.loop-instruction-preserved
loop-instruction-preserved c =
    let l = c.deref-instruction-items.result.now in
    let i = c.loop-instruction.instruction-index in
    let old = c.loop-instruction.bytes.items in
    let new = c.push.new.self.items in
    let h = c.loop-instruction.invariant in
    let byte : c.in-Byte.byte < byte_count = omega arith in
    record {
      read = one_more_read old new c.in-Byte.byte c.in_ok-push.ensures.items l i c.loop-instruction-test.true c.in-Byte.is h.read;
      small = one_more_small old new c.in-Byte.byte c.in_ok-push.ensures.items byte h.small;
    }
