use Rattle.std.proofs.Common.{◌≡◌, ap, ◌∙◌, rules, length}
use Rattle.awk_kinds.specs.definitions.Variables.{value_of, name_of, Pairs}
use Rattle.awk_storage.proofs.SpecialLemmas.{value_of-at}
use Rattle.awk_storage.proofs.variables.Variables.special.Goals as goal

pub returns : goal.returns
returns c =
    let inside = c.self.inside in
    let len : length inside.specials ≡ 13 = search rules in
    value_of-at inside.specials c.args.special _ _ len c.index.ensures
    ∙ ap (λ (p : Pairs). value_of p (name_of c.args.special)) c.self.view_is
