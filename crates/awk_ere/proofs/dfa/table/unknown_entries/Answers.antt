use Rattle.std.proofs.Common.{◌≡◌, suc, ◌+◌, ◌*◌, replicate, arith, ap, ◌∙◌}
use Rattle.awk_ere.specs.support.Layout.{stride}
use Rattle.awk_ere.proofs.dfa.table.unknown_entries.Goals as goal

pub returns-clause-entries : goal.returns-clause-entries
returns-clause-entries c =
    let n = c.args.limit in
    let entries : stride * (n + 1) ≡ stride * suc n = omega arith in
    c.in_ok-vec.ensures.items_if_clones_equal (λ y e. e) ∙ ap (λ k. replicate k 0) entries
