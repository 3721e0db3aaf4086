use Rattle.std.proofs.Common.{ap, ◌∙◌, refl}
use Rattle.std.specs.Map.{lookup}
use Rattle.std.specs.Prelude.{bytes_eq}
use Rattle.indexmap.proofs.CallerLemmas.{insert_entry-new}
use Rattle.awk_value.specs.declared.entry.Entry.{Entry}
use Rattle.awk_value.proofs.Calls.{keeps, long-absent, long-add}
use Rattle.awk_value.proofs.table.Table.add_long.Goals as goal

pub invariant_of-self-2 : goal.invariant_of-self-2
invariant_of-self-2 c =
    let b = c.self.inside in
    let now = keeps b.next b.numbers b.shorts.entries b.longs.entries _ c.self.invariant c.self.view_is in
    let x : Entry = record { stamp = b.next; value = c.args.value } in
    let told = c.in_ok-add_text.ensures.added in
    let absent = long-absent now c.args.key.now c.requires.text c.requires.long c.requires.new in
    let entries =
    told.added
    ∙ insert_entry-new (λ x y. bytes_eq x.items y.items) b.longs told.copy x
    (ap (λ k. lookup (λ t. bytes_eq k t.items) b.longs.entries) told.same ∙ absent) in
    (long-add now c.args.key.now c.requires.text c.requires.long
    c.requires.new told.copy told.same x refl c.in-Some.next c.in-Some.ensures.1 c.add_text.new.entries.entries entries).consistent

pub returns-clause-added : goal.returns-clause-added
returns-clause-added c =
    let b = c.self.inside in
    let now = keeps b.next b.numbers b.shorts.entries b.longs.entries _ c.self.invariant c.self.view_is in
    let x : Entry = record { stamp = b.next; value = c.args.value } in
    let told = c.in_ok-add_text.ensures.added in
    let absent = long-absent now c.args.key.now c.requires.text c.requires.long c.requires.new in
    let entries =
    told.added
    ∙ insert_entry-new (λ x y. bytes_eq x.items y.items) b.longs told.copy x
    (ap (λ k. lookup (λ t. bytes_eq k t.items) b.longs.entries) told.same ∙ absent) in
    (long-add now c.args.key.now c.requires.text c.requires.long
    c.requires.new told.copy told.same x refl c.in-Some.next c.in-Some.ensures.1 c.add_text.new.entries.entries entries).view
