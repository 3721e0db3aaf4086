use Rattle.std.proofs.Common.{ap}
use Rattle.awk_grammar.specs.View.{item_of, statements_of, pattern_of}
use Rattle.awk_resolve.proofs.Building.{ok_map}
use Rattle.awk_resolve.proofs.ItemForms.{every_tried, pattern_action_tried, pattern_only_tried, other_tried}
use Rattle.awk_resolve.proofs.builder.Builder.lower_item.Goals as goal

pub returns-in-Action : goal.returns-in-Action
returns-in-Action c =
    let action = rw c.deref.ensures.value at c.lower_action.ensures in
    rw (ap item_of c.in-Action.is) (ok_map _ (λ i q. every_tried c.args.number (statements_of c.in-Action.all.items) q) action)

pub returns-in_ok-action-in-PatternAction : goal.returns-in_ok-action-in-PatternAction
returns-in_ok-action-in-PatternAction c =
    let action = rw c.deref-in-PatternAction.ensures.value at (c.in_ok-action-in-PatternAction.ensures {u = tt}) in
    rw (ap item_of c.in-PatternAction.is) (ok_map _ (λ i q. pattern_action_tried c.args.number (pattern_of c.in-PatternAction.pattern) (statements_of c.in-PatternAction.all.items) action q) c.lower_record_pattern.ensures)

pub returns-in_ok-print-in-PatternOnly : goal.returns-in_ok-print-in-PatternOnly
returns-in_ok-print-in-PatternOnly c =
    rw (ap item_of c.in-PatternOnly.is) (ok_map _ (λ i q. pattern_only_tried c.args.number (pattern_of c.in-PatternOnly.pattern) c.in_ok-print-in-PatternOnly.ensures q) c.lower_record_pattern-in-PatternOnly.ensures)

pub returns-in_default : goal.returns-in_default
returns-in_default c = other_tried c.args.number c.args.item.now (λ all e. c.in_default.not-Action all e) (λ p all e. c.in_default.not-PatternAction p all e) (λ p e. c.in_default.not-PatternOnly p e) c.requires.next
