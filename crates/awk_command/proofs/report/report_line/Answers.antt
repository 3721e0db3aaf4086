use Rattle.std.proofs.Common.{◌≡◌, true, false}
use Rattle.std.specs.Result.{is_err}
use Rattle.awk_command.proofs.ReportLemmas.{says_part, says_all}
use Rattle.awk_command.proofs.report.report_line.Goals as goal

pub returns-then-is_err : goal.returns-then-is_err
returns-then-is_err g c = λ t.
    let w = g.W.World in
    let old = w.state c.args.world.now in
    let new = w.state c.print_error.new.world in
    let failed : is_err c.print_error.result ≡ true = cc in
    says_part c.args.line.now old new c.print_error.result failed (rw c.as_bytes.ensures.value at (c.print_error.ensures.told t))

pub returns : goal.returns
returns g c = λ t.
    let w = g.W.World in
    let old = w.state c.args.world.now in
    let between = w.state c.print_error.new.world in
    let new = w.state c.print_error-2.new.world in
    let passed : is_err c.print_error.result ≡ false = cc in
    says_all c.args.line.now old between new c.print_error.result c.print_error-2.result passed (rw c.as_bytes.ensures.value at (c.print_error.ensures.told t)) (c.print_error-2.ensures.told t)
