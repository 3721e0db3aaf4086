use Rattle.std.proofs.Common.{◌≡◌, ◌+◌, suc, take, sym, ap, ◌∙◌, arith}
use Rattle.awk_kinds.specs.definitions.Names.{with_name}
use Rattle.awk_kinds.proofs.Copied.{next_added}
use Rattle.awk_kinds.proofs.names.Names.copy.Goals as goal

pub loop-number-preserved : goal.loop-number-preserved
loop-number-preserved c =
    let i = c.loop-number.number in
    let name = c.in-Some.name.now in
    let next : suc i ≡ i + 1 = omega arith in
    c.in_ok-add.ensures.names ∙ (ap (λ l. with_name l name) c.loop-number.invariant ∙ (next_added c.args.self.now i name c.len-number-end.ensures.distinct (sym c.in-Some.ensures) ∙ ap (λ k. take k c.args.self.now) next))
