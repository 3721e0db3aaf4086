use Rattle.std.proofs.Common.{rules}
use Rattle.awk_syntax.proofs.items.end_item.Goals as goal

pub returns-in_ok-push-in-Some-Program : goal.returns-in_ok-push-in-Some-Program
returns-in_ok-push-in-Some-Program c = search rules
