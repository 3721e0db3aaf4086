use Rattle.std.proofs.Common.{sym}
use Rattle.awk_value.proofs.Calls.{keeps, number-hit, number-miss}
use Rattle.awk_value.proofs.table.Table.get_number.Goals as goal

pub returns-in-Some : goal.returns-in-Some
returns-in-Some c =
    let b = c.self.inside in
    let now = keeps b.next b.numbers b.shorts.entries b.longs.entries _ c.self.invariant c.self.view_is in
    sym (number-hit now c.args.key c.ranges.key _ c.in-Some.ensures)

pub returns-in-None : goal.returns-in-None
returns-in-None c =
    let b = c.self.inside in
    let now = keeps b.next b.numbers b.shorts.entries b.longs.entries _ c.self.invariant c.self.view_is in
    sym (number-miss now c.args.key c.ranges.key c.in-None.ensures)
