use Rattle.std.proofs.Common.{◌∙◌, ap}
use Rattle.awk_value.specs.declared.entry.Entry.{Entry}
use Rattle.awk_value.specs.support.DenseKeys.{numbered, is_gone}
use Rattle.awk_value.proofs.Places.{pushed-gap}
use Rattle.awk_value.proofs.dense.reach.Goals as goal

pub returns-in_ok-push-clause-same : goal.returns-in_ok-push-clause-same
returns-in_ok-push-clause-same c =
    ap (numbered 0) c.in_ok-push.ensures.items ∙ pushed-gap c.args.entries.now.items c.gap.result (ap (λ (e : Entry). is_gone e) c.gap.ensures)
