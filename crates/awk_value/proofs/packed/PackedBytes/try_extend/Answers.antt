use Rattle.std.proofs.Common.{◌≡◌, ◌≤◌, length, arith}
use Rattle.awk_value.proofs.PackedEnd.{extended_end}
use Rattle.awk_value.proofs.packed.PackedBytes.try_extend.Goals as goal

pub returns : goal.returns
returns c =
    let room : c.in-Some.room.now ≡ c.self.inside.memory.value = c.in-Some.ensures.value in
    let within : c.self.inside.end ≤ length c.in-Some.room.now = grind arith in
    let put = extended_end c.in-Some.room.now c.args.bytes.now c.copy_from_slice.new.self c.self.inside.start c.self.inside.end c.self.invariant.0 within c.copy_from_slice.ensures.after in
    let view = c.self.view_is in
    cc
