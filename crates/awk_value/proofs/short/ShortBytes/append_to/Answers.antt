use Rattle.std.proofs.Common.{◌≤◌, length, arith}
use Rattle.awk_value.proofs.PaddedEnd.{padded_end}
use Rattle.awk_value.proofs.short.ShortBytes.append_to.Goals as goal

pub returns-clause-bytes : goal.returns-clause-bytes
returns-clause-bytes c =
    let few : c.self.inside.len ≤ length c.self.inside.bytes = grind arith in
    let end = padded_end c.args.buffer.now.items c.self.inside.bytes c.self.inside.len few in
    let text = c.as_slice-text.ensures.bytes in
    let view = c.self.view_is in
    let appended = c.in_ok-extend_from_slice.ensures.items in
    let truncated = c.truncate.ensures.items in
    let len = c.len-2.ensures in
    cc
