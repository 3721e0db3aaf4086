use Rattle.std.proofs.lemmas.Result.{err_from_is_err_and}
use Rattle.awk_value.specs.Values.{str_of}
use Rattle.awk_runtime.specs.support.Spelled.{spelled}
use Rattle.awk_runtime.proofs.Steps.{still}
use Rattle.awk_runtime.proofs.TextChanges.{room, text_read, exchanged_there, exchanged_later, not_exchanged}
use Rattle.awk_runtime.proofs.runtime.Runtime.exchange_in_record.Goals as goal

pub returns-in-Some : goal.returns-in-Some
returns-in-Some c =
    let m = c.args.self.now in
    exchanged_there c.args.all (str_of c.args.replacement.now) (text_read (still m) c.in-Some.ensures) c.operand-pattern.ensures.spelling (room m c.exchange_in.new.self m.formats m.spans) c.exchange_in.ensures

pub returns-in_err-old : goal.returns-in_err-old
returns-in_err-old c =
    let p = err_from_is_err_and c.from_residual.result c.from_residual.ensures.1 in
    rw (p.1, p.2) (not_exchanged c.args.all (str_of c.args.replacement.now) (spelled c.args.self.now.names c.args.pattern) c.in_err-old.ensures)

pub returns : goal.returns
returns c = exchanged_later c.args.all (str_of c.args.replacement.now) (λ n. spelled n c.args.pattern) c.args.self.now.names c.in_ok-old.ensures.names c.in_ok-old.ensures c.exchange.ensures
