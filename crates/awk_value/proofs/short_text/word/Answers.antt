use Rattle.std.proofs.Common.{◌≡◌, ◌+◌, ◌-◌, ◌∙◌, ap, arith, w64}
use Rattle.std.specs.Int.{from_le_bytes}
use Rattle.awk_value.proofs.Worth.{copied_word}
use Rattle.awk_value.proofs.short_text.word.Goals as goal

pub returns : goal.returns
returns c =
    let read : c.from_le_bytes.result ≡ from_le_bytes w64 c.copy_from_slice.new.self = c.from_le_bytes.ensures in
    read ∙ ap (from_le_bytes w64) c.copy_from_slice.ensures.after ∙ copied_word c.args.bytes.now c.args.at (c.args.at + 8 - c.args.at) (omega arith)
