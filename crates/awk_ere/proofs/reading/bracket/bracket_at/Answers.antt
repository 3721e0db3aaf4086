use Rattle.std.proofs.Common.{[], ◌∷◌, ◌∙◌}
use Rattle.std.specs.Prelude.{None, Some}
use Rattle.std.proofs.lemmas.Bool.Decides.{Decides-eqb}
use Rattle.std.proofs.lemmas.Slice.Eq.{strip_prefix_is}
use Rattle.awk_ere.proofs.BracketValue.{none_set, these_found, these_set, others_set}
use Rattle.awk_ere.proofs.reading.bracket.bracket_at.Goals as goal

pub items_at-found-requires : goal.items_at-found-requires
items_at-found-requires c = λ b lt. none_set 256 b

pub items_at-requires : goal.items_at-requires
items_at-requires c = λ b lt. none_set 256 b

pub returns-in-Some-clause-set : goal.returns-in-Some-clause-set
returns-in-Some-clause-set c =
    let text = c.args.bytes.now in
    let behind = c.in-Some.rest.now in
    let front = strip_prefix_is Decides-eqb text (94 ∷ []) (Some c.in-Some.rest) c.in-Some.ensures.cases in
    others_set text behind c.items_at-found.new.set c.flip.new.set c.flip.array_long front c.items_at-found.ensures.set c.flip.ensures

pub returns-in_default-clause-found : goal.returns-in_default-clause-found
returns-in_default-clause-found c =
    c.items_at.ensures.found ∙ these_found c.args.bytes.now (strip_prefix_is Decides-eqb c.args.bytes.now (94 ∷ []) None c.in_default.ensures.cases)

pub returns-in_default-clause-set : goal.returns-in_default-clause-set
returns-in_default-clause-set c =
    these_set c.args.bytes.now c.items_at.new.set c.items_at.array_long (strip_prefix_is Decides-eqb c.args.bytes.now (94 ∷ []) None c.in_default.ensures.cases) c.items_at.ensures.set
