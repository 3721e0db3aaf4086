use Rattle.std.proofs.Common.{ap, subst, sym, ◌∙◌, refl}
use Rattle.awk_value.specs.definitions.Arrays.{value_at}
use Rattle.awk_value.proofs.Calls.{Keeps, keeps, put_new, long-miss, long-put}
use Rattle.awk_value.proofs.NamedKeys.{on_err}
use Rattle.awk_value.proofs.table.Table.put_long.Goals as goal

pub invariant_of-self-in-None : goal.invariant_of-self-in-None
invariant_of-self-in-None c =
    let b = c.self.inside in
    let now = keeps b.next b.numbers b.shorts.entries b.longs.entries _ c.self.invariant c.self.view_is in
    let set = c.in-None.ensures.set in
    (long-put now c.args.key.now c.requires.text c.requires.long set.entry c.args.value (sym set.there) c.set_text.new.entries.entries set.set).consistent

pub returns-in-None-clause-put : goal.returns-in-None-clause-put
returns-in-None-clause-put c =
    let b = c.self.inside in
    let now = keeps b.next b.numbers b.shorts.entries b.longs.entries _ c.self.invariant c.self.view_is in
    let set = c.in-None.ensures.set in
    (long-put now c.args.key.now c.requires.text c.requires.long set.entry c.args.value (sym set.there) c.set_text.new.entries.entries set.set).view

pub add_long-requires-clause-new : goal.add_long-requires-clause-new
add_long-requires-clause-new c =
    let b = c.self.inside in
    let now = keeps b.next b.numbers b.shorts.entries b.longs.entries _ c.self.invariant c.self.view_is in
    let miss = long-miss now c.args.key.now c.requires.text c.requires.long (sym c.in-Some.ensures.absent) in
    let still = subst (λ l. Keeps b.next b.numbers b.shorts.entries l c.args.self.now) (sym c.in-Some.ensures.unchanged) now in
    ap (λ t. value_at t c.args.key.now) still.view ∙ miss

pub returns-in-Some-clause-put : goal.returns-in-Some-clause-put
returns-in-Some-clause-put c =
    let b = c.self.inside in
    let now = keeps b.next b.numbers b.shorts.entries b.longs.entries _ c.self.invariant c.self.view_is in
    let miss = long-miss now c.args.key.now c.requires.text c.requires.long (sym c.in-Some.ensures.absent) in
    let still = subst (λ l. Keeps b.next b.numbers b.shorts.entries l c.args.self.now) (sym c.in-Some.ensures.unchanged) now in
    put_new c.add_long.result _ _ c.args.self.now c.args.key.now _ c.args.value _ c.add_long.ensures.added still.view refl c.in-Some.ensures.value miss

pub returns-in-Some-clause-absent : goal.returns-in-Some-clause-absent
returns-in-Some-clause-absent c =
    let b = c.self.inside in
    let now = keeps b.next b.numbers b.shorts.entries b.longs.entries _ c.self.invariant c.self.view_is in
    let miss = long-miss now c.args.key.now c.requires.text c.requires.long (sym c.in-Some.ensures.absent) in
    on_err c.add_long.result miss
