use Rattle.std.proofs.Common.{◌*◌, ◌∙◌, ap, length, take, drop, arith}
use Rattle.awk_ere.proofs.TableKept.{written}
use Rattle.awk_ere.proofs.dfa.table.Table.store.Goals as goal

pub returns-clause-row : goal.returns-clause-row
returns-clause-row c =
    let rows = c.args.self.now.rows in
    let n = length c.args.positions.now in
    let is = written rows.len c.write_row.new.rows rows.items (omega (arith, rows.ok.0, c.write_row.ensures.len, ap length c.as_mut_slice.ensures.value)) in
    ap (λ l. take n (drop (c.args.number * n) l)) is ∙ c.write_row.ensures.row

pub returns-clause-others : goal.returns-clause-others
returns-clause-others c = λ d lt.
    let rows = c.args.self.now.rows in
    let n = length c.args.positions.now in
    let is = written rows.len c.write_row.new.rows rows.items (omega (arith, rows.ok.0, c.write_row.ensures.len, ap length c.as_mut_slice.ensures.value)) in
    ap (λ l. take n (drop (d * n) l)) is ∙ c.write_row.ensures.others d lt ∙ ap (λ l. take n (drop (d * n) l)) c.as_mut_slice.ensures.value

pub returns-clause-len : goal.returns-clause-len
returns-clause-len c =
    let rows = c.args.self.now.rows in
    ap length (written rows.len c.write_row.new.rows rows.items (omega (arith, rows.ok.0, c.write_row.ensures.len, ap length c.as_mut_slice.ensures.value)))
    ∙ c.write_row.ensures.len ∙ ap length c.as_mut_slice.ensures.value
