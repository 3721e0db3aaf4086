use Rattle.std.proofs.Common.{◌≡◌, ap₂, ◌∙◌}
use Rattle.awk_grammar.specs.View.{items_of}
use Rattle.awk_pieces.specs.definitions.Pieceable.{names_set_in_rules, arrays_filled_in_rules, is_own_variable, is_own_array}
use Rattle.awk_pieces.proofs.KnownNames.{told_pieceable}
use Rattle.awk_pieces.proofs.pieceable.is_pieceable.Goals as goal

pub returns : goal.returns
returns c =
    let items = items_of c.args.tree.now.items.items in
    let names : c.deref-3.result.now ≡ names_set_in_rules items = c.deref-3.ensures.value ∙ (rw c.deref.ensures.value at c.in_ok-names.ensures) in
    let arrays : c.deref-4.result.now ≡ arrays_filled_in_rules items = c.deref-4.ensures.value ∙ (rw c.deref-2.ensures.value at c.in_ok-arrays.ensures) in
    told_pieceable c.with_arrays-known.result (names_set_in_rules items) (arrays_filled_in_rules items) items (c.with_arrays-known.ensures.own ∙ ap₂ is_own_variable names arrays) (c.with_arrays-known.ensures.arrays ∙ ap₂ is_own_array names arrays) c.with_arrays-known.ensures.set
    c.are_rules_for_themselves.result (rw c.deref-5.ensures.value at c.are_rules_for_themselves.ensures)
