use Rattle.std.proofs.Common.{slice_get, ap, ◌∙◌}
use Rattle.std.specs.Option.{option_map}
use Rattle.awk_kinds.specs.definitions.Signatures.{ProgramKinds, Signature}
use Rattle.awk_kinds.proofs.Tabled.{item_at, parameters_at}
use Rattle.awk_kinds.proofs.kinds.Kinds.parameters.Goals as goal

pub returns : goal.returns
returns c =
    item_at c.deref.result.now c.args.number c.get.result c.get.ensures.lookup ∙ ap (λ all. slice_get all c.args.number) c.deref.ensures.value
    ∙ parameters_at c.self.inside.functions c.self.inside.parameters.items c.args.number c.self.invariant
    ∙ ap (λ (k : ProgramKinds). option_map (λ (f : Signature). f.parameters) (slice_get k.functions c.args.number)) c.self.view_is
