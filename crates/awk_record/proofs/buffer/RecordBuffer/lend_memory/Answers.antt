use Rattle.std.proofs.Common.{◌≡◌, length, sym, ap, ◌∙◌, arith}
use Rattle.awk_record.specs.definitions.Buffer.{Pending}
use Rattle.awk_record.proofs.RecordAtHand.{front_written}
use Rattle.awk_record.proofs.buffer.RecordBuffer.lend_memory.Goals as goal

pub returns-clause-front : goal.returns-clause-front
returns-clause-front c =
    let bytes_are : c.as_slice.result.now ≡ c.args.self.now.bytes =
    c.as_slice.ensures ∙ ap (λ (p : Pending). p.bytes) (c.self-2.view_is ∙ c.in_ok-memory.ensures.same) in
    let count : c.len-left.result ≡ length c.as_slice.result.now =
    c.len-left.ensures ∙ (ap (λ (p : Pending). length p.bytes) c.self.view_is ∙ ap length (sym bytes_are)) in
    front_written c.write_front.new.memory c.as_slice.result.now _ _ c.len-left.result c.in_ok-memory.memory.len c.write_front.ensures count (omega (arith, c.in_ok-memory.ensures.size)) ∙ bytes_are
