use Rattle.std.proofs.Common.{◌∙◌, arith}
use Rattle.std.proofs.lemmas.Result.{err_from_is_err_and}
use Rattle.awk_command.proofs.ProgramTextLemmas.{read_on, read_last, read_enough, leaves_input}
use Rattle.awk_command.proofs.program_text.read_input.Goals as goal

pub returns-then-not-branch-clause-read : goal.returns-then-not-branch-clause-read
returns-then-not-branch-clause-read g c = λ t.
    read_last c.args.id (g.W.World.state c.args.world.now).log c.loop-chunk.bytes.items c.read_chunk.new.bytes.items (g.W.World.state c.loop-chunk.world).log (g.W.World.state c.read_chunk.new.world).log c.in_ok-read_chunk.field-0 (cc) (c.loop-chunk.invariant.log t) (c.in_ok-read_chunk.ensures.read t)

pub loop-chunk-preserved : goal.loop-chunk-preserved
loop-chunk-preserved g c =
    record {
      same_open = λ j. c.in_ok-read_chunk.ensures.open j ∙ c.loop-chunk.invariant.same_open j;
      has_room = omega arith;
      log = λ t. read_on c.args.id (g.W.World.state c.args.world.now).log c.loop-chunk.bytes.items c.read_chunk.new.bytes.items (g.W.World.state c.loop-chunk.world).log (g.W.World.state c.read_chunk.new.world).log c.in_ok-read_chunk.field-0 (cc) (c.loop-chunk.invariant.log t) (c.in_ok-read_chunk.ensures.read t);
    }

pub returns-clause-read : goal.returns-clause-read
returns-clause-read g c = λ t.
    read_enough c.args.id (g.W.World.state c.args.world.now).log c.loop-chunk.bytes.items (g.W.World.state c.loop-chunk.world).log (omega arith) (c.loop-chunk.invariant.log t)

pub returns-in_err-read_chunk-clause-left : goal.returns-in_err-read_chunk-clause-left
returns-in_err-read_chunk-clause-left g c =
    let w = g.W.World in
    let before = w.state c.args.world.now in
    let between = w.state c.loop-chunk.world in
    let after = w.state c.read_chunk.new.world in
    let why = c.in_err-read_chunk.field-0.0 in
    let p = err_from_is_err_and c.from_residual.result c.from_residual.ensures.1 in
    rw (p.1, p.2) (λ t. leaves_input c.args.id before.log c.loop-chunk.bytes.items between.log after.log why (c.loop-chunk.invariant.log t) (c.in_err-read_chunk.ensures.left t))
