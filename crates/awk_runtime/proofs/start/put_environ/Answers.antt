use Rattle.std.proofs.Common.{◌∙◌}
use Rattle.awk_runtime.proofs.StartLemmas.{array_same, environ_next}
use Rattle.awk_runtime.proofs.start.put_environ.Goals as goal

pub loop-entry-init : goal.loop-entry-init
loop-entry-init c = array_same c.args.arrays.now c.args.number

pub loop-entry-preserved : goal.loop-entry-preserved
loop-entry-preserved c =
    environ_next c.args.arrays.now c.loop-entry.arrays c.put.new.self c.args.number c.args.environ.now c.loop-entry.entry-index c.entry-item.result c.deref-in-loop-entry.result.now c.in_ok-text.text
    c.requires c.loop-entry-test.true c.entry-item.is c.deref-in-loop-entry.ensures.value (c.in_ok-text.ensures ∙ c.deref.ensures.value) c.loop-entry.invariant c.in_ok-put.ensures.put
