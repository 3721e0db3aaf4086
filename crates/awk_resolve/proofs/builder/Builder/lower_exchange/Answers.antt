use Rattle.awk_resolve.proofs.ChangeForms.{exchange_built}
use Rattle.awk_resolve.proofs.builder.Builder.lower_exchange.Goals as goal

pub returns : goal.returns
returns c = exchange_built c.requires.next (rw c.in-Some.is at c.in_ok-exchange.ensures) c.in_ok-exchanges.ensures
