use Rattle.std.proofs.Common.{◌≡◌, rules, ◌++◌, ◌∷◌, [], map, length, ap, ap₂, ◌∙◌}
use Rattle.awk_value.specs.support.Rows.{row_in}
use Rattle.awk_value.proofs.KeyBlocks.{one_added}
use Rattle.awk_value.proofs.key_rows.KeyRows.add.Goals as goal

pub returns : goal.returns
returns c =
    let b = c.self.inside in
    let block = c.in_ok-extend_from_slice.ensures.items in
    let start : c.len-start.result ≡ length b.block.items = search rules in
    let end' : c.len-end.result ≡ length (b.block.items ++ c.args.text.now) = search rules ∙ ap length block in
    let rows = c.in_ok-push.ensures.items ∙ ap₂ (λ s e. b.rows.items ++ record { stamp = c.args.stamp; start = s; end = e } ∷ []) start end' in
    ap₂ (λ block rows. map (row_in block) rows) block rows
    ∙ (one_added b.block.items c.args.text.now b.rows.items c.args.stamp c.self.invariant
    ∙ ap (λ l. l ++ (c.args.stamp, c.args.text.now) ∷ []) c.self.view_is)
