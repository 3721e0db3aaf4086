use Rattle.std.proofs.Common.{◌∙◌}
use Rattle.awk_kinds.proofs.SpecialNaming.{own_named, named-names}
use Rattle.awk_kinds.proofs.special.Special.named.Goals as goal

pub returns-clause-named : goal.returns-clause-named
returns-clause-named c = c.kept_among.ensures ∙ own_named c.args.name.now

pub returns-clause-names : goal.returns-clause-names
returns-clause-names c = named-names c.args.name.now _ (returns-clause-named c)
