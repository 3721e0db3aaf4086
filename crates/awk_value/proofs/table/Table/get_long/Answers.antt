use Rattle.std.proofs.Common.{sym}
use Rattle.awk_value.proofs.Calls.{keeps, long-hit, long-miss}
use Rattle.awk_value.proofs.table.Table.get_long.Goals as goal

pub returns-in-Some : goal.returns-in-Some
returns-in-Some c =
    let b = c.self.inside in
    let now = keeps b.next b.numbers b.shorts.entries b.longs.entries _ c.self.invariant c.self.view_is in
    sym (long-hit now c.args.key.now c.requires.text c.requires.long _ c.in-Some.ensures.value)

pub returns-in-None : goal.returns-in-None
returns-in-None c =
    let b = c.self.inside in
    let now = keeps b.next b.numbers b.shorts.entries b.longs.entries _ c.self.invariant c.self.view_is in
    sym (long-miss now c.args.key.now c.requires.text c.requires.long c.in-None.ensures.value)
