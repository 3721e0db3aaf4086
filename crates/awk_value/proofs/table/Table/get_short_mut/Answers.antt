use Rattle.std.proofs.Common.{sym, inr, ap, ◌∙◌}
use Rattle.awk_value.specs.declared.value.Value.{Value}
use Rattle.awk_value.specs.contracts.table.Table.{the_view}
use Rattle.awk_value.specs.declared.entry.Entry.{Entry}
use Rattle.awk_value.proofs.Lent.{lent_as}
use Rattle.awk_value.proofs.Calls.{keeps, short-hit, short-miss, short-put}
use Rattle.awk_value.proofs.table.Table.get_short_mut.Goals as goal

pub invariant_of-self-lent : goal.invariant_of-self-lent
invariant_of-self-lent c w =
    let b = c.self.inside in
    let now = keeps b.next b.numbers b.shorts.entries b.longs.entries _ c.self.invariant c.self.view_is in
    let x = c.in-Some.entry.now in
    let y : Entry = record { stamp = x.stamp; value = w } in
    (short-put now c.args.key c.requires.text c.requires.padded x w c.in-Some.ensures.value (c.get_mut.follows.lender y).entries (c.get_mut.follows.holds y).0).consistent

pub returns-in-Some : goal.returns-in-Some
returns-in-Some c =
    let b = c.self.inside in
    let now = keeps b.next b.numbers b.shorts.entries b.longs.entries _ c.self.invariant c.self.view_is in
    let x = c.in-Some.entry.now in
    let given : Value → Entry = λ w. record { stamp = x.stamp; value = w } in
    let put = λ (w : Value). (short-put now c.args.key c.requires.text c.requires.padded x w c.in-Some.ensures.value (c.get_mut.follows.lender (given w)).entries (c.get_mut.follows.holds (given w)).0).view in (
      lent_as _ _ _ put,
      record { writes_back = tt; value = sym (short-hit now c.args.key c.requires.text c.requires.padded x c.in-Some.ensures.value) },
    )

pub returns-in-None : goal.returns-in-None
returns-in-None c =
    let b = c.self.inside in
    let now = keeps b.next b.numbers b.shorts.entries b.longs.entries _ c.self.invariant c.self.view_is in (
      (λ i. inr (the_view (record b { shorts = c.get_mut.follows.holds-at-none i }))) ∙ ap inr c.self.view_is,
      record { writes_back = tt; value = sym (short-miss now c.args.key c.requires.text c.requires.padded c.in-None.ensures.value) },
    )
