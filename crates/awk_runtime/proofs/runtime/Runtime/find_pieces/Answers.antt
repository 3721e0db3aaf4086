use Rattle.awk_text.specs.Pieces.{stretches_at}
use Rattle.awk_runtime.specs.support.Spelled.{separator_spelled}
use Rattle.awk_runtime.proofs.TextChanges.{room, pieces_found, fields_found}
use Rattle.awk_runtime.proofs.runtime.Runtime.find_pieces.Goals as goal

pub returns-in-Some-clause-pieces : goal.returns-in-Some-clause-pieces
returns-in-Some-clause-pieces c =
    let m = c.args.self.now in
    rw c.in-Some.is (pieces_found (separator_spelled m.names c.in-Some.source) c.args.text.now (stretches_at c.args.text.now c.split.new.spans.items) c.split.result c.operand-source.ensures.separator (room m c.split.new.self m.formats c.split.new.spans) c.split.ensures.pieces)

pub returns-in-None-clause-pieces : goal.returns-in-None-clause-pieces
returns-in-None-clause-pieces c =
    let m = c.args.self.now in
    let fs = c.field_separator-separator in
    rw c.in-None.is (fields_found fs.result.now c.args.text.now (stretches_at c.args.text.now c.split_by_text.new.spans.items) c.split_by_text.result (room m c.split_by_text.new.self m.formats c.split_by_text.new.spans) fs.ensures.text fs.ensures.accepted c.split_by_text.ensures.pieces)
