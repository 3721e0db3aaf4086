use Rattle.std.proofs.Common.{◌≡◌, ℕ, Bool, suc, ◌+◌, ◌<◌, List, ◌∷◌, length, get_or, drop, sym, ap, ◌∙◌, add-one, drop-cons}
use Rattle.awk_grammar.specs.View.{item_of, items_of}
use Rattle.awk_grammar.specs.declared.tree.Item.{Item}
use Rattle.awk_pieces.specs.definitions.Pieceable.{is_own}
use Rattle.awk_merging.specs.definitions.Sums.{Sum}
use Rattle.awk_merging.specs.definitions.Mergeable.{sums_in_item, sums_in_items}
use Rattle.awk_merging.specs.support.WithSums.{with_sums}
use Rattle.awk_merging.proofs.SumsFound.{with_sums-append, with_sums-none}
use Rattle.awk_merging.proofs.sums.sums_of.Goals as goal

pub loop-item-init : goal.loop-item-init
loop-item-init c = rw c.new-sums.ensures.items (with_sums-none (sums_in_items (is_own c.in_ok-names.names.items) (items_of c.args.tree.now.items.items)))

next : (own : List ℕ → Bool) (all : List Item) (i : ℕ) (x : Item) (old new end : List Sum) → i < length all → x ≡ get_or all i x →
    new ≡ with_sums old (sums_in_item own (item_of x)) → with_sums old (sums_in_items own (items_of (drop i all))) ≡ end →
    with_sums new (sums_in_items own (items_of (drop (i + 1) all))) ≡ end
next own all i x old new end within is added so_far =
    let left : drop i all ≡ x ∷ drop (i + 1) all =
    rw (add-one, drop-cons all i x) (ap (λ (y : Item). y ∷ drop (suc i) all) (sym is)) in
    ap (λ (l : List Sum). with_sums l (sums_in_items own (items_of (drop (i + 1) all)))) added
    ∙ sym (with_sums-append old (sums_in_item own (item_of x)) (sums_in_items own (items_of (drop (i + 1) all))))
    ∙ ap (λ (l : List Item). with_sums old (sums_in_items own (items_of l))) (sym left)
    ∙ so_far

pub loop-item-preserved : goal.loop-item-preserved
loop-item-preserved c =
    let within = rw c.as_slice-item-items.ensures.value at c.loop-item-test.true in
    let is = rw c.as_slice-item-items.ensures.value at c.item-item.is in
    next (is_own c.in_ok-names.names.items) c.args.tree.now.items.items c.loop-item.item-index c.item-item.result _ _ _ within is (rw c.deref-in-loop-item.ensures.value at c.in_ok-add_of_item.ensures) c.loop-item.invariant
