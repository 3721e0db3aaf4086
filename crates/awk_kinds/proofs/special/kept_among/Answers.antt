use Rattle.std.proofs.Common.{ap, ◌∙◌}
use Rattle.awk_kinds.specs.support.SpecialIndices.{kept}
use Rattle.awk_kinds.proofs.SpecialNaming.{found_by}
use Rattle.awk_kinds.proofs.special.kept_among.Goals as goal

pub returns : goal.returns
returns c = c.kept.ensures ∙ ap kept c.look_up.ensures ∙ found_by c.args.name.now c.args.rows.now
