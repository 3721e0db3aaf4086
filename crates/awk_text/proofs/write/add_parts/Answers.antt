use Rattle.std.proofs.Common.{arith}
use Rattle.awk_text.proofs.FieldLemmas.{begun_trans}
use Rattle.awk_text.proofs.WrittenLemmas.{part_done}
use Rattle.awk_text.proofs.write.add_parts.Goals as goal

pub loop-part-preserved : goal.loop-part-preserved
loop-part-preserved c = record {
  text = part_done c.args.parts.now c.loop-part.part-index c.part-item.result c.first_or.result.now c.loop-part.left.now c.left_after-left.result.now c.loop-part.out.items c.add_part.new.out.items _
      (omega arith) c.part-item.is c.first_or.ensures c.left_after-left.ensures c.in_ok-add_part.ensures.text c.loop-part.invariant.text;
  begun = begun_trans _ _ _ c.loop-part.invariant.begun c.add_part.ensures.begun;
}
