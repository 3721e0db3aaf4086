use Rattle.std.proofs.Common.{map, ap, sym, ◌∙◌, subst}
use Rattle.std.specs.List.{All}
use Rattle.awk_value.specs.support.Rows.{row_in, IsRowIn}
use Rattle.awk_value.proofs.Rows.{map-twice, if_ok_same}
use Rattle.awk_value.proofs.key_rows.KeyRows.into_texts.Goals as goal

pub texts_in-requires : goal.texts_in-requires
texts_in-requires c =
    let b = c.self.inside in
    subst (λ block. All (IsRowIn block) b.rows.items) (sym c.in_ok-block.ensures) c.self.invariant

pub returns : goal.returns
returns c =
    let b = c.self.inside in
    let rows = ap (λ block. map (λ row. (row_in block row).1) b.rows.items) c.in_ok-block.ensures
    ∙ sym (map-twice (λ r. r.1) (row_in b.block.items) b.rows.items)
    ∙ ap (map (λ r. r.1)) c.self.view_is in
    if_ok_same c.texts_in.result c.texts_in.ensures rows
