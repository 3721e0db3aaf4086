use Rattle.std.proofs.Common.{◌∙◌, ap, length, arith}
use Rattle.std.specs.Prelude.{slice_index}
use Rattle.awk_ere.proofs.TableKept.{written}
use Rattle.awk_ere.proofs.dfa.table.Table.clear.Goals as goal

pub returns-clause-unanchored : goal.returns-clause-unanchored
returns-clause-unanchored c = λ i.
    let old = c.args.self.now.unanchored in
    ap (λ l. slice_index l i) (written old.len c.forget.new.entries old.items (omega (arith, old.ok.0, c.forget.ensures.len, ap length c.as_mut_slice.ensures.value)))
    ∙ c.forget.ensures.unknown i

pub returns-clause-anchored : goal.returns-clause-anchored
returns-clause-anchored c = λ i.
    let old = c.args.self.now.anchored in
    ap (λ l. slice_index l i) (written old.len c.forget-2.new.entries old.items (omega (arith, old.ok.0, c.forget-2.ensures.len, ap length c.as_mut_slice-2.ensures.value)))
    ∙ c.forget-2.ensures.unknown i

pub returns-clause-unanchored_len : goal.returns-clause-unanchored_len
returns-clause-unanchored_len c =
    let old = c.args.self.now.unanchored in
    ap length (written old.len c.forget.new.entries old.items (omega (arith, old.ok.0, c.forget.ensures.len, ap length c.as_mut_slice.ensures.value)))
    ∙ c.forget.ensures.len ∙ ap length c.as_mut_slice.ensures.value

pub returns-clause-anchored_len : goal.returns-clause-anchored_len
returns-clause-anchored_len c =
    let old = c.args.self.now.anchored in
    ap length (written old.len c.forget-2.new.entries old.items (omega (arith, old.ok.0, c.forget-2.ensures.len, ap length c.as_mut_slice-2.ensures.value)))
    ∙ c.forget-2.ensures.len ∙ ap length c.as_mut_slice-2.ensures.value
