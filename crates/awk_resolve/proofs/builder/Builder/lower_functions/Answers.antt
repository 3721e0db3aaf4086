use Rattle.std.proofs.Common.{◌≡◌, ◌+◌, [], ◌∷◌, ◌++◌, arith, length, map, take, Some, None, ap, ◌∙◌}
use Rattle.std.specs.Option.{option_map}
use Rattle.awk_grammar.specs.Tree.{Function}
use Rattle.awk_grammar.specs.View.{item_of, items_of, statements_of}
use Rattle.awk_kinds.specs.definitions.Kinds.{arrays_of, parameter_by}
use Rattle.awk_kinds.specs.definitions.Signatures.{Signature}
use Rattle.awk_kinds.proofs.KindsMade.{items_to}
use Rattle.awk_resolve.proofs.Planning.{no_functions_added, next_function_added, other_item_added, no_definition, signature_at, over_later}
use Rattle.awk_resolve.proofs.builder.Builder.lower_functions.Goals as goal
use Rattle.awk_resolve.proofs.builder.Builder.lower_functions.Goals.{in-Function+in_ok-number+in-Some+in_ok-lower_function+in_ok-push, in_default}

pub loop-item-init : goal.loop-item-init
loop-item-init c = rw c.new-made.ensures.items (no_functions_added c.args.self.now)

pub unreachable-requires : goal.unreachable-requires
unreachable-requires c =
    let all = c.args.items.now in
    let f = c.in-Function.field-0 in
    let ps = c.in-Function.field-1.items in
    let number = c.in_ok-number.ensures in
    let many : c.in_ok-number.number ≡ length c.loop-item.made.items = omega (arith, number, c.len.ensures) in
    let signature = signature_at all c.loop-item.item-index c.item-item.result f ps (statements_of c.in-Function.all.items) c.in_ok-number.number c.loop-item-test.true c.item-item.is (ap item_of c.in-Function.is) c.requires.kinds c.loop-item.invariant many in
    let none : None ≡ Some (map (parameter_by (arrays_of (items_of all)) f) ps) = c.in_default-parameters.ensures ∙ ap (option_map (λ (g : Signature). g.parameters)) signature in
    cc

pub lower_function-requires : goal.lower_function-requires
lower_function-requires c = over_later c.loop-item.invariant.grows c.requires.over

pub loop-item-preserved : goal.loop-item-preserved
loop-item-preserved c =
    let all = c.args.items.now in
    let i = c.loop-item.item-index in
    let x = c.item-item.result in
    let arrays = arrays_of (items_of all) in
    let before = items_of (take i all) in
    let to : items_of (take (i + 1) all) ≡ before ++ item_of x ∷ [] = items_to all i x c.loop-item-test.true c.item-item.is in
    elim c.match-item.branch [
      | in-Function+in_ok-number+in-Some+in_ok-lower_function+in_ok-push w ↦
          let f = w.in-Function.field-0 in
          let ps = w.in-Function.field-1.items in
          let block = statements_of w.in-Function.all.items in
          let is : item_of x ≡ Function f ps block = ap item_of w.in-Function.is in
          let number = w.in_ok-number.ensures in
          let many : w.in_ok-number.number ≡ length c.loop-item.made.items = omega (arith, number, w.len.ensures) in
          let signature = signature_at all i x f ps block w.in_ok-number.number c.loop-item-test.true c.item-item.is is c.requires.kinds c.loop-item.invariant many in
          let some : Some w.in-Some.parameters.now ≡ Some (map (parameter_by arrays f) ps) = w.in-Some.ensures ∙ ap (option_map (λ (g : Signature). g.parameters)) signature in
          let parameters : w.in-Some.parameters.now ≡ map (parameter_by arrays f) ps = cc in
          let body = rw (w.deref.ensures.value, parameters) at w.in_ok-lower_function.ensures in
          rw (w.self-is, w.made-is, w.in_ok-push.ensures.items, to, is) (next_function_added arrays before f ps block c.loop-item.invariant body)
      | in_default w ↦ rw (w.self-is, w.made-is, to) (other_item_added arrays before (item_of x) (no_definition arrays x (λ f ps block e. w.in_default.not-Function f ps block e)) c.loop-item.invariant)
    ]
