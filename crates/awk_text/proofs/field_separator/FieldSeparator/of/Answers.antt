use Rattle.std.proofs.Common.{ℕ, List, sym, subst}
use Rattle.awk_text.specs.definitions.Separators.{separator_of, IsMadeFor}
use Rattle.awk_text.proofs.SplitterStands.{made_stands}
use Rattle.awk_text.proofs.field_separator.FieldSeparator.of.Goals as goal

pub invariant_of-result : goal.invariant_of-result
invariant_of-result c =
    let made = c.in_ok-separator.separator in
    made_stands (separator_of c.in_ok-text.text.items) c.args.newline_too made c.in_ok-splitter.splitter c.in_ok-splitter.ensures.stands
    (subst (λ (text : List ℕ). IsMadeFor (separator_of text) made) (sym c.in_ok-text.ensures.items) c.in_ok-separator.ensures.separator)
