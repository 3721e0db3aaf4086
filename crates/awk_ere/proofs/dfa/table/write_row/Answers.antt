use Rattle.std.proofs.Common.{suc, ◌+◌, ◌*◌, ◌≤◌, length, drop, sym, ap, ◌∙◌, arith}
use Rattle.std.proofs.Math.Nat.{mul-le-mul_right}
use Rattle.std.proofs.lemmas.List.{drop-take}
use Rattle.std.proofs.lemmas.Slice.{take-put_mid_below}
use Rattle.awk_ere.proofs.dfa.table.write_row.Goals as goal

pub returns-clause-others : goal.returns-clause-others
returns-clause-others c = λ d lt.
    let n = length c.args.row.now in
    let a = c.args.number * n in
    let times : suc d * n ≤ a = mul-le-mul_right n lt in
    let room : d * n + n ≤ a = omega (arith, times) in
    sym (drop-take (d * n) n _)
    ∙ ap (drop (d * n)) (take-put_mid_below a _ c.args.rows.now c.copy_from_slice.new.self (d * n + n) room (omega (arith, c.requires)))
    ∙ drop-take (d * n) n c.args.rows.now
