use Rattle.std.proofs.Common.{slice_get, ap, ◌∙◌}
use Rattle.std.specs.Option.{option_map}
use Rattle.awk_kinds.specs.definitions.Kinds.{FormalParameter}
use Rattle.awk_kinds.proofs.Tabled.{item_at, formal_kind_at}
use Rattle.awk_kinds.proofs.parameters.Parameters.is_array.Goals as goal

pub returns : goal.returns
returns c =
    c.copied.ensures ∙ item_at c.deref.result.now c.args.place c.get.result c.get.ensures.lookup ∙ ap (λ all. slice_get all c.args.place) c.deref.ensures.value
    ∙ formal_kind_at c.self.inside.names c.self.inside.arrays.items c.args.place c.self.invariant
    ∙ ap (λ all. option_map (λ (p : FormalParameter). p.is_array) (slice_get all c.args.place)) c.self.view_is
