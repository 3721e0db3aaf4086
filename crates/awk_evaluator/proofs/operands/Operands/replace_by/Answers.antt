use Rattle.std.proofs.Common.{rules, ◌≡◌, ◌<◌, ◌∷◌, ◌-◌, List, length, drop, take, reverse, ap, ◌∙◌, arith, to_z, of_z}
use Rattle.std.proofs.Common.{length-drop}
use Rattle.std.proofs.lemmas.List.{length-reverse, set-set}
use Rattle.std.proofs.Math.ListN.{set}
use mir.Syntax.{w128}
use Rattle.awk_value.specs.declared.value.Value.{Value}
use Rattle.awk_value.specs.declared.value.Value.TheVariants.{Number}
use Rattle.awk_evaluator.specs.support.Operands.{OperandsView}
use Rattle.awk_evaluator.proofs.Stacks.{replaced_view}
use Rattle.awk_evaluator.proofs.operands.Operands.replace_by.Goals as goal

pub returns-in-Number : goal.returns-in-Number
returns-in-Number c =
    let base = c.self.inside.base in
    let items = c.self.inside.values.items in
    let v : Value = Number c.args.n in
    let seen : OperandsView → OperandsView = λ o. record { values = v ∷ drop 1 o.values; below = o.below } in
    let view : List Value → OperandsView = λ l. record { values = reverse (drop base l); below = take base l } in
    let there : length (reverse (drop base items)) ≡ length c.args.self.now.values = ap (λ (o : OperandsView). length o.values) c.self.view_is in
    let turned = length-reverse (drop base items) in
    let long = length-drop base items in
    let low : base < length items = omega (arith, there, turned, long) in
    let count : c.len-last.result ≡ length items = search rules in
    let number : to_z w128 (of_z w128 c.args.n) ≡ c.args.n = search rules in
    rw number (ap (λ n. view (set items (n - 1) v)) count ∙ replaced_view items base v low ∙ ap seen c.self.view_is)

pub returns : goal.returns
returns c =
    let base = c.self.inside.base in
    let items = c.self.inside.values.items in
    let v : Value = Number c.args.n in
    let old : Value = c.index_mut.result.now in
    let seen : OperandsView → OperandsView = λ o. record { values = v ∷ drop 1 o.values; below = o.below } in
    let view : List Value → OperandsView = λ l. record { values = reverse (drop base l); below = take base l } in
    let there : length (reverse (drop base items)) ≡ length c.args.self.now.values = ap (λ (o : OperandsView). length o.values) c.self.view_is in
    let turned = length-reverse (drop base items) in
    let long = length-drop base items in
    let low : base < length items = omega (arith, there, turned, long) in
    let count : c.len-last.result ≡ length items = search rules in
    let number : to_z w128 (of_z w128 c.args.n) ≡ c.args.n = search rules in
    rw number (ap (λ n. view (set (set items (n - 1) old) (n - 1) v)) count ∙ ap view (set-set items (length items - 1) old v) ∙ replaced_view items base v low ∙ ap seen c.self.view_is)
