use Rattle.std.proofs.Common.{◌∙◌, refl, nat_eq, ◌&&◌}
use Rattle.indexmap.proofs.CallerLemmas.{insert_entry-new}
use Rattle.awk_value.specs.declared.entry.Entry.{Entry}
use Rattle.awk_value.proofs.Calls.{keeps, short-absent, short-add}
use Rattle.awk_value.proofs.table.Table.add_short.Goals as goal

pub invariant_of-self-2 : goal.invariant_of-self-2
invariant_of-self-2 c =
    let b = c.self.inside in
    let now = keeps b.next b.numbers b.shorts.entries b.longs.entries _ c.self.invariant c.self.view_is in
    let x : Entry = record { stamp = b.next; value = c.args.value } in
    let absent = short-absent now c.args.key c.requires.text c.requires.padded c.requires.new in
    let entries =
    c.in_ok-add_entry.ensures.added
    ∙ insert_entry-new (λ x y. nat_eq x.first y.first && (nat_eq x.second y.second && nat_eq x.third y.third)) b.shorts c.args.key x absent in
    (short-add now c.args.key c.requires.text c.requires.padded
    c.requires.new x refl c.in-Some.next c.in-Some.ensures.1 c.add_entry.new.entries.entries entries).consistent

pub returns-clause-added : goal.returns-clause-added
returns-clause-added c =
    let b = c.self.inside in
    let now = keeps b.next b.numbers b.shorts.entries b.longs.entries _ c.self.invariant c.self.view_is in
    let x : Entry = record { stamp = b.next; value = c.args.value } in
    let absent = short-absent now c.args.key c.requires.text c.requires.padded c.requires.new in
    let entries =
    c.in_ok-add_entry.ensures.added
    ∙ insert_entry-new (λ x y. nat_eq x.first y.first && (nat_eq x.second y.second && nat_eq x.third y.third)) b.shorts c.args.key x absent in
    (short-add now c.args.key c.requires.text c.requires.padded
    c.requires.new x refl c.in-Some.next c.in-Some.ensures.1 c.add_entry.new.entries.entries entries).view
