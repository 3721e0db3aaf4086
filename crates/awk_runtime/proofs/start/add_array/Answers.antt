use Rattle.std.proofs.Common.{sym, ◌∙◌}
use Rattle.awk_runtime.specs.support.Beginning.{start_of}
use Rattle.awk_runtime.proofs.StartLemmas.{argv_added, environ_added, empty_added, where_ok}
use Rattle.awk_runtime.proofs.start.add_array.Goals as goal

pub returns-then-is_argv-clause-added : goal.returns-then-is_argv-clause-added
returns-then-is_argv-clause-added c =
    argv_added c.args.arrays.now c.add.new.self c.len-number.result c.in_ok-add.ensures.added c.len-number.ensures (start_of c.args.operands.now c.args.environ.now) c.args.name.now
    (sym c.is_argv.ensures ∙ c.if-is_argv.true) c.in_ok-argument_texts.ensures c.in_ok-fill.ensures.filled

pub returns-then-is_environ-clause-added : goal.returns-then-is_environ-clause-added
returns-then-is_environ-clause-added c = where_ok c.put_environ.result
    (environ_added c.args.arrays.now c.add.new.self c.len-number.result c.in_ok-add.ensures.added c.len-number.ensures (start_of c.args.operands.now c.args.environ.now) c.args.name.now
    (sym c.is_argv.ensures ∙ c.if-is_argv.false) (sym c.is_environ.ensures ∙ c.if-is_environ.true)) c.put_environ.ensures.put

pub returns-clause-added : goal.returns-clause-added
returns-clause-added c =
    empty_added c.args.arrays.now c.add.new.self c.len-number.result c.in_ok-add.ensures.added c.len-number.ensures (start_of c.args.operands.now c.args.environ.now) c.args.name.now
    (sym c.is_argv.ensures ∙ c.if-is_argv.false) (sym c.is_environ.ensures ∙ c.if-is_environ.false)
