use Rattle.std.proofs.Common.{◌≡◌, Some, ap, sym, ◌∙◌, get_or}
use Rattle.std.specs.Map.{lookup}
use Rattle.std.specs.Ordering.{int_eq}
use Rattle.awk_value.specs.support.DenseKeys.{numbered}
use Rattle.awk_value.proofs.Int64.{passed}
use Rattle.awk_value.proofs.Places.{entry-at, hit-at}
use Rattle.awk_value.proofs.dense.Dense.get.Goals as goal

pub returns-in-Some : goal.returns-in-Some
returns-in-Some c =
    let p = c.in-Some.ensures.found in
    let x = c.index.result.now in
    let es = c.args.self.now in
    let read : x ≡ get_or es c.in-Some.place x = c.index.ensures ∙ ap (λ l. get_or l c.in-Some.place x) c.self.view_is in
    ap Some (entry-at es c.in-Some.place _ p x read) ∙ sym (hit-at es c.in-Some.place _ p)
    ∙ ap (λ z. lookup (int_eq z) (numbered 0 es)) (passed c.args.key c.ranges.key)

pub returns-in-None : goal.returns-in-None
returns-in-None c =
    sym c.in-None.ensures.absent ∙ ap (λ z. lookup (int_eq z) (numbered 0 c.args.self.now)) (passed c.args.key c.ranges.key)
