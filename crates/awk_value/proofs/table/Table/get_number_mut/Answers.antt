use Rattle.std.proofs.Common.{Some, ap, sym, inr, ◌∙◌}
use Rattle.awk_value.specs.declared.value.Value.{Value}
use Rattle.awk_value.proofs.Lent.{lent_as}
use Rattle.awk_value.proofs.Calls.{keeps, number-hit, number-miss, number-put, seen, unseen}
use Rattle.awk_value.proofs.table.Table.get_number_mut.Goals as goal

pub invariant_of-self-lent : goal.invariant_of-self-lent
invariant_of-self-lent c w =
    let b = c.self.inside in
    let now = keeps b.next b.numbers b.shorts.entries b.longs.entries _ c.self.invariant c.self.view_is in
    let x = seen _ _ c.in-Some.ensures.value in
    (number-put now c.args.key c.ranges.key x.entry w x.is).consistent

pub returns-in-Some : goal.returns-in-Some
returns-in-Some c =
    let b = c.self.inside in
    let now = keeps b.next b.numbers b.shorts.entries b.longs.entries _ c.self.invariant c.self.view_is in
    let x = seen _ _ c.in-Some.ensures.value in
    let put = λ (w : Value). (number-put now c.args.key c.ranges.key x.entry w x.is).view in (
      lent_as _ _ _ put,
      record { writes_back = tt; value = ap Some x.value ∙ sym (number-hit now c.args.key c.ranges.key x.entry x.is) },
    )

pub returns-in-None : goal.returns-in-None
returns-in-None c =
    let b = c.self.inside in
    let now = keeps b.next b.numbers b.shorts.entries b.longs.entries _ c.self.invariant c.self.view_is in (
      ap inr c.self.view_is,
      record { writes_back = tt; value = sym (number-miss now c.args.key c.ranges.key (unseen _ c.in-None.ensures.value)) },
    )
