use Rattle.std.proofs.Common.{◌∙◌, sym, to_z, of_z, w64}
use Rattle.std.specs.Map.{lookup}
use Rattle.std.specs.Ordering.{int_eq}
use Rattle.awk_value.specs.support.DenseKeys.{numbered}
use Rattle.awk_value.proofs.BothNumbers.{first-lookup, second-lookup}
use Rattle.awk_value.proofs.Int64.{passed}
use Rattle.awk_value.proofs.numbers.Numbers.get.Goals as goal

pub returns-in-Some : goal.returns-in-Some
returns-in-Some c =
    let b = c.self.inside in
    let ds = numbered 0 b.dense in
    let key = passed c.args.key c.ranges.key in
    let t = int_eq (to_z w64 (of_z w64 c.args.key)) in
    sym (first-lookup t ds b.sparse.entries c.in-Some.entry.now (sym c.in-Some.ensures)) ∙ (λ i. lookup (int_eq (key i)) (c.self.view_is i))

pub returns : goal.returns
returns c =
    let b = c.self.inside in
    let ds = numbered 0 b.dense in
    let key = passed c.args.key c.ranges.key in
    let t = int_eq (to_z w64 (of_z w64 c.args.key)) in
    c.get-2.ensures.value ∙ sym (second-lookup t ds b.sparse.entries (sym c.in_default.ensures)) ∙ (λ i. lookup (int_eq (key i)) (c.self.view_is i))
