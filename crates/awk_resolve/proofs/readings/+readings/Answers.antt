use Rattle.std.proofs.Common.{◌≡◌, true, inl, inr, sym, ◌∙◌}
use Rattle.awk_grammar.specs.View.{exprs_of}
use Rattle.awk_resolve.specs.support.Readings.{all_read}
use Rattle.awk_resolve.proofs.ReadingForms.{and_true}
use Rattle.awk_resolve.proofs.TreeForms.{element_is, list_membership_is, built_in_is}
use Rattle.awk_resolve.proofs.readings.+readings.Goals as goal

pub only_reads-returns-then-is_of_values : goal.only_reads-returns-then-is_of_values
only_reads-returns-then-is_of_values t c h =
    rw (built_in_is c.args.e.now c.in-BuiltIn.function c.in-BuiltIn.list c.in-BuiltIn.is) (and_true _ _ (sym c.is_of_values.ensures ∙ c.if-is_of_values.true) (rw c.deref.ensures.value at (c.all_read.ensures h)))

pub only_reads-returns-in-Element : goal.only_reads-returns-in-Element
only_reads-returns-in-Element t c h =
    let read : all_read (exprs_of c.in-Element.list.items) ≡ true = rw c.deref-in-Element.ensures.value at (c.all_read-in-Element.ensures h) in
    elim c.in-Element.is [
      | inl k ↦ rw (element_is c.args.e.now k.0 c.in-Element.list k.1) read
      | inr k ↦ rw (list_membership_is c.args.e.now c.in-Element.list k.0 k.1) read
    ]
