use Rattle.std.proofs.Common.{Some, None, sym, ◌∙◌}
use Rattle.awk_ere.proofs.BracketValue.{range_goes}
use Rattle.awk_ere.proofs.reading.bracket.range_at.Goals as goal

pub returns-in_ok-high-in-len1-up : goal.returns-in_ok-high-in-len1-up
returns-in_ok-high-in-len1-up c =
    let to = c.in_ok-high-in-len1-up in
    range_goes c.args.low c.args.rest.now (Some (to.high, to.rest.now)) c.in-len1-up.len_at_least (sym c.begins_range.ensures ∙ c.if-begins_range.true) to.ensures

pub returns-in_err-high-in-len1-up : goal.returns-in_err-high-in-len1-up
returns-in_err-high-in-len1-up c =
    rw c.from_residual.ensures
    (range_goes c.args.low c.args.rest.now None c.in-len1-up.len_at_least (sym c.begins_range.ensures ∙ c.if-begins_range.true) c.in_err-high-in-len1-up.ensures)
