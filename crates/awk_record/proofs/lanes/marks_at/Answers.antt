use Rattle.std.proofs.Common.{w8, ◌==◌, arith}
use Rattle.std.proofs.lemmas.Simd.{bitmask_splat, length-chunk}
use lib.Lanes.{chunk}
use Rattle.memchr.specs.Find.{is_byte}
use Rattle.awk_record.proofs.FirstByLanes.{marks_of_mask}
use Rattle.awk_record.proofs.lanes.marks_at.Goals as goal

pub returns : goal.returns
returns c =
    let bytes = c.args.bytes.now in
    let v = chunk c.args.at 64 bytes in
    marks_of_mask (is_byte c.args.byte) bytes c.args.at 64 _ c.requires (omega arith) (omega arith)
    (bitmask_splat w8 (λ x y. x == y) v 64 c.args.byte (length-chunk c.args.at 64 bytes c.requires) (omega arith))
