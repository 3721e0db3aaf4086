use Rattle.awk_resolve.proofs.Planning.{end_made}
use Rattle.awk_resolve.proofs.builder.Builder.push_end.Goals as goal

pub returns : goal.returns
returns c = end_made c.push-2.new.self _ c.in_ok-push.ensures c.push-2.ensures
