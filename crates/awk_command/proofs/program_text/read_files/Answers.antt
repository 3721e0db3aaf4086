use Rattle.std.proofs.Common.{take}
use Rattle.std.proofs.lemmas.Result.{err_from_is_err_and}
use Rattle.awk_command.specs.CommandLine.{texts}
use Rattle.awk_command.specs.declared.report.NotRun.TheVariants.{Memory}
use Rattle.awk_command.proofs.CommandLineLemmas.{take_one}
use Rattle.awk_command.proofs.ProgramTextLemmas.{ReadsFiles-push, leaves_read, reads_until}
use Rattle.awk_command.proofs.program_text.read_files.Goals as goal

pub loop-name-preserved : goal.loop-name-preserved
loop-name-preserved g c = λ t.
    let some = take_one c.args.names.now c.loop-name.name-index c.name-item.result c.loop-name-test.true c.name-item.is in
    let file = rw c.deref.ensures.value at (c.in_ok-bytes.ensures.read t) in
    let whole = ReadsFiles-push (take c.loop-name.name-index (texts c.args.names.now)) c.name-item.result.items c.loop-name.text.items c.in_ok-bytes.bytes.items (g.W.World.state c.args.world.now).log (g.W.World.state c.loop-name.world).log (g.W.World.state c.read_file.new.world).log (c.loop-name.invariant t) file in
    rw (some, c.in_ok-append_file.ensures, c.deref-in-loop-name.ensures.value) whole

pub returns-in_err-bytes-clause-left : goal.returns-in_err-bytes-clause-left
returns-in_err-bytes-clause-left g c =
    let w = g.W.World in
    let before = w.state c.args.world.now in
    let between = w.state c.loop-name.world in
    let after = w.state c.read_file.new.world in
    let p = err_from_is_err_and c.from_residual.result c.from_residual.ensures.1 in
    rw (p.1, p.2) (λ t. reads_until c.in_err-bytes.field-0.0 c.args.names.now c.loop-name.name-index c.name-item.result c.deref.result.now c.loop-name.text.items before.log between.log after.log c.loop-name-test.true c.name-item.is c.deref.ensures.value (c.loop-name.invariant t) (c.in_err-bytes.ensures.left t))

pub returns-in_err-append_file-clause-left : goal.returns-in_err-append_file-clause-left
returns-in_err-append_file-clause-left g c =
    let w = g.W.World in
    let before = w.state c.args.world.now in
    let between = w.state c.loop-name.world in
    let after = w.state c.read_file.new.world in
    let p = err_from_is_err_and c.from_residual-in_err-append_file.result c.from_residual-in_err-append_file.ensures.1 in
    rw (p.1, p.2) (λ t. reads_until Memory c.args.names.now c.loop-name.name-index c.name-item.result c.deref.result.now c.loop-name.text.items before.log between.log after.log c.loop-name-test.true c.name-item.is c.deref.ensures.value (c.loop-name.invariant t) (leaves_read c.deref.result.now c.in_ok-bytes.bytes.items between.log after.log (c.in_ok-bytes.ensures.read t)))
