use Rattle.awk_value.proofs.Calls.{keeps, long-removed}
use Rattle.awk_value.proofs.table.Table.remove_long.Goals as goal

pub invariant_of-self : goal.invariant_of-self
invariant_of-self c =
    let b = c.self.inside in
    let now = keeps b.next b.numbers b.shorts.entries b.longs.entries _ c.self.invariant c.self.view_is in
    (long-removed now c.args.key.now c.requires.text c.requires.long c.take_text.new.entries.entries c.take_text.ensures).consistent

pub returns : goal.returns
returns c =
    let b = c.self.inside in
    let now = keeps b.next b.numbers b.shorts.entries b.longs.entries _ c.self.invariant c.self.view_is in
    (long-removed now c.args.key.now c.requires.text c.requires.long c.take_text.new.entries.entries c.take_text.ensures).view
