use Rattle.std.proofs.Common.{rules, ◌≡◌, ◌+◌, ◌∷◌, ℕ, length, drop, take, reverse, min, ap, ◌∙◌, arith}
use Rattle.awk_resolve.specs.Nodes.{first}
use Rattle.awk_evaluator.specs.support.Operands.{OperandsView}
use Rattle.awk_evaluator.proofs.Stacks.{handed_view}
use Rattle.awk_evaluator.proofs.operands.Operands.hand_over.Goals as goal

pub returns-then-len-self-eq1 : goal.returns-then-len-self-eq1
returns-then-len-self-eq1 c =
    let base = c.self.inside.base in
    let items = c.self.inside.values.items in
    let count : c.len.result ≡ length items = search rules in
    let one = c.if-len-self-eq1.true in
    let low = c.self.invariant in
    let long : length items ≡ base + 1 = omega (arith, count, one, low) in
    let is : c.min-self-inside.result ≡ min c.args.base base = omega (arith, c.min-self-inside.ensures) in
    let view : ℕ → OperandsView = λ n. record { values = reverse (drop n items); below = take n items } in
    let seen : OperandsView → OperandsView = λ v. record { values = first v.values ∷ reverse (drop c.args.base v.below); below = take c.args.base v.below } in
    ap view is ∙ handed_view items base c.args.base long ∙ ap seen c.self.view_is
