use Rattle.std.proofs.Common.{refl, ◌∙◌}
use Rattle.awk_value.proofs.Calls.{keeps, keys-are}
use Rattle.awk_value.proofs.NamedKeys.{if_ok_map}
use Rattle.awk_value.proofs.table.Table.keys.Goals as goal

pub returns-clause-keys : goal.returns-clause-keys
returns-clause-keys c =
    let b = c.self.inside in
    let now = keeps b.next b.numbers b.shorts.entries b.longs.entries _ c.self.invariant c.self.view_is in
    if_ok_map c.keys_by_stamp.result _ _ c.keys_by_stamp.ensures.keys
    (λ texts told. told.are ∙ keys-are now _ told.sorted refl told.moved told.ordered)
