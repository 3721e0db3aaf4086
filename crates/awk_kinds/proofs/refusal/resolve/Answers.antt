use Rattle.std.proofs.Common.{◌∙◌, sym}
use Rattle.awk_grammar.specs.View.{items_of}
use Rattle.awk_kinds.proofs.FitsLaw.{law_of_refusals}
use Rattle.awk_kinds.proofs.refusal.resolve.Goals as goal

pub of_items-requires-2-clause-fits : goal.of_items-requires-2-clause-fits
of_items-requires-2-clause-fits c = (law_of_refusals (items_of c.args.items.now)).fits (sym c.in_ok-code.ensures ∙ c.in_default.is)
