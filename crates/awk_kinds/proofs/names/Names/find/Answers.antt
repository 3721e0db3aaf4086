use Rattle.std.proofs.Common.{ap, ◌∙◌}
use Rattle.awk_kinds.specs.definitions.Signatures.{place_of}
use Rattle.awk_kinds.proofs.Places.{position_place}
use Rattle.awk_kinds.proofs.names.Names.find.Goals as goal

pub returns-in_err-index : goal.returns-in_err-index
returns-in_err-index c = c.from_residual.ensures ∙ c.in_err-index.ensures.index ∙ position_place c.args.name.now c.self.inside.names.keys ∙ ap (λ names. place_of names c.args.name.now) c.self.view_is

pub returns : goal.returns
returns c = c.in_ok-index.ensures.index ∙ position_place c.args.name.now c.self.inside.names.keys ∙ ap (λ names. place_of names c.args.name.now) c.self.view_is
