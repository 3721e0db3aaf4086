use Rattle.std.proofs.Common.{◌≡◌, ℕ, suc, ◌+◌, true, false, ◌∷◌, refl, arith, sym, ap, ◌∙◌, Ok, drop}
use Rattle.std.proofs.Math.Seq.{drop-cons}
use Rattle.awk_grammar.specs.View.{item_of, items_of}
use Rattle.awk_pieces.specs.definitions.Pieceable.{is_rule_for_itself, are_rules_for_themselves}
use Rattle.awk_pieces.specs.support.Known.{own_of, arrays_of, known_of}
use Rattle.awk_pieces.proofs.KnownNames.{unchanged, same_three}
use Rattle.awk_pieces.proofs.pieceable.are_rules_for_themselves.Goals as goal

pub returns-then-not-branch : goal.returns-then-not-branch
returns-then-not-branch c =
    let told = c.in_ok-is_rule_for_itself.ensures {u = tt} in
    let before = c.loop-item.known in
    let at : ℕ = c.loop-item.item-index in
    let item = item_of c.item-item.result in
    let step = ap items_of (drop-cons c.args.items.now at c.item-item.result (omega arith)) ∙ ap (λ x. item_of x ∷ items_of (drop (suc at) c.args.items.now)) (sym c.item-item.is) in
    let is : is_rule_for_itself (own_of before) (arrays_of before) (known_of before) item ≡ false = sym told.is ∙ c.if-not-branch.true in
    let none : are_rules_for_themselves (own_of before) (arrays_of before) (known_of before) (items_of (drop at c.args.items.now)) ≡ false = rw (step, is) refl in
    sym none ∙ c.loop-item.invariant.3

pub loop-item-preserved : goal.loop-item-preserved
loop-item-preserved c =
    let told = c.in_ok-is_rule_for_itself.ensures {u = tt} in
    let before = c.loop-item.known in
    let set = told.set (ap Ok c.if-not-branch.false) in
    let rest = items_of (drop (c.loop-item.item-index + 1) c.args.items.now) in
    let next : c.loop-item.item-index + 1 ≡ suc c.loop-item.item-index = omega arith in
    let item = item_of c.item-item.result in
    let step : items_of (drop c.loop-item.item-index c.args.items.now) ≡ item ∷ rest =
    rw next (ap items_of (drop-cons c.args.items.now c.loop-item.item-index c.item-item.result (omega arith)) ∙ ap (λ x. item_of x ∷ items_of (drop (suc c.loop-item.item-index) c.args.items.now)) (sym c.item-item.is)) in
    let is : is_rule_for_itself (own_of before) (arrays_of before) (known_of before) item ≡ true = sym told.is ∙ c.if-not-branch.false in (
      told.own ∙ c.loop-item.invariant.0,
      told.arrays ∙ c.loop-item.invariant.1,
      set ∙ c.loop-item.invariant.2,
      same_three (λ o a k. are_rules_for_themselves o a k rest) _ _ _ _ _ _ told.own told.arrays (unchanged before c.is_rule_for_itself.new.known told.own told.arrays set) ∙ (rw (step, is) refl ∙ c.loop-item.invariant.3),
    )
