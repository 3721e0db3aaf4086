use Rattle.awk_value.proofs.Calls.{keeps, short-removed}
use Rattle.awk_value.proofs.table.Table.remove_short.Goals as goal

pub invariant_of-self : goal.invariant_of-self
invariant_of-self c =
    let b = c.self.inside in
    let now = keeps b.next b.numbers b.shorts.entries b.longs.entries _ c.self.invariant c.self.view_is in
    (short-removed now c.args.key c.requires.text c.requires.padded c.take_entry.new.entries.entries c.take_entry.ensures).consistent

pub returns : goal.returns
returns c =
    let b = c.self.inside in
    let now = keeps b.next b.numbers b.shorts.entries b.longs.entries _ c.self.invariant c.self.view_is in
    (short-removed now c.args.key c.requires.text c.requires.padded c.take_entry.new.entries.entries c.take_entry.ensures).view
