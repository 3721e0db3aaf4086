use Rattle.std.proofs.lemmas.Result.{err_from_is_err_and}
use Rattle.awk_value.specs.Values.{str_of}
use Rattle.awk_runtime.specs.support.Naming.{ere_at}
use Rattle.awk_runtime.proofs.TextChanges.{exchanged_later, not_exchanged}
use Rattle.awk_runtime.proofs.runtime.Runtime.exchange_in_copy.Goals as goal

pub returns-in_err-old : goal.returns-in_err-old
returns-in_err-old c =
    let p = err_from_is_err_and c.from_residual.result c.from_residual.ensures.1 in
    rw (p.1, p.2) (not_exchanged c.args.all (str_of c.args.replacement.now) (ere_at c.args.self.now.names c.args.ere) c.in_err-old.ensures)

pub returns : goal.returns
returns c = exchanged_later c.args.all (str_of c.args.replacement.now) (λ n. ere_at n c.args.ere) c.args.self.now.names c.in_ok-old.ensures.names c.in_ok-old.ensures c.exchange.ensures
