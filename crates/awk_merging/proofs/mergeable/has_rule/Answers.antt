use Rattle.std.proofs.Common.{◌≡◌, ◌||◌, List, [], ◌∷◌, refl, ap, ◌∙◌, rules, tests}
use Rattle.std.proofs.lemmas.Iterator.{YieldsList-from_slice}
use Rattle.std.proofs.lemmas.Iterator.Search.{any_from_yields_List}
use Rattle.std.specs.List.{list_any}
use Rattle.awk_grammar.specs.declared.tree.Item.{Item}
use Rattle.awk_grammar.specs.View.{item_of, items_of}
use Rattle.awk_semantics.specs.definitions.Items.{is_rule, has_rule}
use Rattle.awk_merging.proofs.mergeable.has_rule.Goals as goal

list_any-has_rule : (items : List Item) → list_any (λ (x : Item). is_rule (item_of x)) items ≡ has_rule (items_of items)
list_any-has_rule [] = refl
list_any-has_rule (x ∷ xs) = ap (λ b. is_rule (item_of x) || b) (list_any-has_rule xs)

pub returns : goal.returns
returns c =
    any_from_yields_List (λ (x : Item). is_rule (item_of x)) _ _ c.any.result c.any.ensures.ran (YieldsList-from_slice c.args.tree.now.items.items cc) (λ x b q k. search (rules, tests))
    ∙ list_any-has_rule c.args.tree.now.items.items
