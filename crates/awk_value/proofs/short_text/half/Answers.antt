use Rattle.std.proofs.Common.{◌≡◌, ◌+◌, ◌-◌, ◌∙◌, ap, arith, w32}
use Rattle.std.specs.Int.{from_le_bytes}
use Rattle.awk_value.proofs.Worth.{copied_half}
use Rattle.awk_value.proofs.short_text.half.Goals as goal

pub returns : goal.returns
returns c =
    let read : c.from_le_bytes.result ≡ from_le_bytes w32 c.copy_from_slice.new.self = c.from_le_bytes.ensures in
    read ∙ ap (from_le_bytes w32) c.copy_from_slice.ensures.after ∙ copied_half c.args.bytes.now c.args.at (c.args.at + 4 - c.args.at) (omega arith)
