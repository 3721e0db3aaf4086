use Rattle.std.proofs.Common.{◌≡◌, drop}
use Rattle.awk_grammar.specs.View.{exprs_of}
use Rattle.awk_pieces.specs.definitions.Pieceable.{all_keep_to_record, arguments_keep_to_record}
use Rattle.awk_pieces.proofs.expressions.+expressions.Given as goal

abbrev pub invariant-all_keep_to_record-loop-e : goal.invariant-all_keep_to_record-loop-e
invariant-all_keep_to_record-loop-e g l =
    all_keep_to_record (g.R.Readable.own l.readable) (g.R.Readable.arrays l.readable) (g.R.Readable.known l.readable) (exprs_of (drop l.e-index l.list))
    ≡ all_keep_to_record (g.R.Readable.own l.readable) (g.R.Readable.arrays l.readable) (g.R.Readable.known l.readable) (exprs_of l.list)

abbrev pub invariant-arguments_keep_to_record-loop-e : goal.invariant-arguments_keep_to_record-loop-e
invariant-arguments_keep_to_record-loop-e g l =
    arguments_keep_to_record (g.R.Readable.own l.readable) (g.R.Readable.arrays l.readable) (g.R.Readable.known l.readable) l.fills (exprs_of (drop l.e-index l.arguments))
    ≡ arguments_keep_to_record (g.R.Readable.own l.readable) (g.R.Readable.arrays l.readable) (g.R.Readable.known l.readable) l.fills (exprs_of l.arguments)
