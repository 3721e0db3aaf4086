use Rattle.std.proofs.Common.{rules, ◌≡◌, ◌<◌, ◌∷◌, ◌-◌, List, length, drop, take, reverse, ap, ◌∙◌, arith}
use Rattle.std.proofs.Common.{length-drop}
use Rattle.std.proofs.lemmas.List.{length-reverse}
use Rattle.std.proofs.Math.ListN.{set}
use Rattle.awk_value.specs.declared.value.Value.{Value}
use Rattle.awk_evaluator.specs.support.Operands.{OperandsView}
use Rattle.awk_evaluator.proofs.Stacks.{replaced_view}
use Rattle.awk_evaluator.proofs.operands.Operands.replace.Goals as goal

pub returns : goal.returns
returns c =
    let base = c.self.inside.base in
    let items = c.self.inside.values.items in
    let seen : OperandsView → OperandsView = λ v. record { values = c.args.value ∷ drop 1 v.values; below = v.below } in
    let view : List Value → OperandsView = λ l. record { values = reverse (drop base l); below = take base l } in
    let there : length (reverse (drop base items)) ≡ length c.args.self.now.values = ap (λ (v : OperandsView). length v.values) c.self.view_is in
    let turned = length-reverse (drop base items) in
    let long = length-drop base items in
    let low : base < length items = omega (arith, there, turned, long) in
    let count : c.len-last.result ≡ length items = search rules in
    ap (λ n. view (set items (n - 1) c.args.value)) count ∙ replaced_view items base c.args.value low ∙ ap seen c.self.view_is
