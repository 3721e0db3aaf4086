use Rattle.std.proofs.Common.{Ok, Err}
use Rattle.awk_text.proofs.SplitterStands.{longer_made, refused_for}
use Rattle.awk_text.proofs.separator.Separator.of.Goals as goal

pub returns-in_ok-read-in_default-clause-separator : goal.returns-in_ok-read-in_default-clause-separator
returns-in_ok-read-in_default-clause-separator c =
    let text = c.args.text.now in
    let p = c.in_ok-read-in_default.field-0 in
    longer_made text p c.in_default.len_at_least (c.read_law.ensures text (Ok p) c.in_ok-read-in_default.ensures.found tt)

pub returns-in_err-read-in_default-clause-refused : goal.returns-in_err-read-in_default-clause-refused
returns-in_err-read-in_default-clause-refused c =
    let text = c.args.text.now in
    let fault = c.in_err-read-in_default.field-0.0 in
    refused_for text fault c.from_residual.result c.in_default.len_at_least (c.read_law.ensures text (Err fault) tt c.in_err-read-in_default.ensures.refused) c.from_residual.ensures.1
