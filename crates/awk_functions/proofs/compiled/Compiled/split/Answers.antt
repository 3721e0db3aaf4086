use Rattle.std.proofs.Common.{Ok}
use Rattle.awk_text.specs.Pieces.{stretches_at}
use Rattle.awk_functions.proofs.PatternFinds.{split_written}
use Rattle.awk_functions.proofs.compiled.Compiled.split.Goals as goal

pub returns-clause-pieces : goal.returns-clause-pieces
returns-clause-pieces c =
    let kept = c.args.self.now in
    split_written kept.text c.args.text.now kept.pattern (stretches_at c.args.text.now c.split_between.new.spans.items) (Ok tt) kept.means c.in_ok-split_between.ensures.pieces tt
