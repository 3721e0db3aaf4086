use Rattle.awk_value.proofs.Calls.{keeps, number-removed}
use Rattle.awk_value.proofs.table.Table.remove_number.Goals as goal

pub invariant_of-self : goal.invariant_of-self
invariant_of-self c =
    let b = c.self.inside in
    let now = keeps b.next b.numbers b.shorts.entries b.longs.entries _ c.self.invariant c.self.view_is in
    (number-removed now c.args.key c.ranges.key c.remove.new.self c.remove.ensures).consistent

pub returns : goal.returns
returns c =
    let b = c.self.inside in
    let now = keeps b.next b.numbers b.shorts.entries b.longs.entries _ c.self.invariant c.self.view_is in
    (number-removed now c.args.key c.ranges.key c.remove.new.self c.remove.ensures).view
