use Rattle.std.proofs.Common.{◌≡◌, ◌+◌, ◌∷◌, [], ◌++◌, take, sym, ap, ◌∙◌}
use Rattle.std.proofs.lemmas.List.{take_more}
use Rattle.awk_grammar.specs.View.{item_of, items_of, statements_of}
use Rattle.awk_kinds.specs.support.Functions.{HoldsFunctions}
use Rattle.awk_kinds.proofs.Defined.{items_push, other_item, function_item}
use Rattle.awk_kinds.proofs.functions.Functions.of_items.Goals as goal
use Rattle.awk_kinds.proofs.functions.Functions.of_items.Goals.{in-Function+in_ok-add, in_default}

pub loop-item-preserved : goal.loop-item-preserved
loop-item-preserved c =
    let i = c.loop-item.item-index in
    let all = c.args.items.now in
    let x = c.item-item.result in
    let before = items_of (take i all) in
    let more : items_of (take (i + 1) all) ≡ before ++ item_of x ∷ [] =
    ap items_of (take_more all i x c.loop-item-test.true ∙ ap (λ y. take i all ++ y ∷ []) (sym c.item-item.is)) ∙ items_push (take i all) x in
    let step : HoldsFunctions (before ++ item_of x ∷ []) c.match-item.functions =
    elim c.match-item.branch [
      | in-Function+in_ok-add w ↦
          rw (w.functions-is, ap item_of w.in-Function.is)
          (function_item before w.in-Function.name w.in-Function.parameters.items (statements_of w.in-Function.field-2.items) c.loop-item.invariant (rw w.deref.ensures.value at w.in_ok-add.ensures))
      | in_default w ↦ rw w.functions-is (other_item c.loop-item.functions before x (λ f ps block e. w.in_default.not-Function f ps block e) c.loop-item.invariant)
    ] in
    rw more step
