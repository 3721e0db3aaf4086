use Rattle.std.proofs.Common.{◌≡◌, drop}
use Rattle.awk_grammar.specs.View.{items_of}
use Rattle.awk_kinds.specs.definitions.Fits.{first_of}
use Rattle.awk_kinds.proofs.refusal.Known.first_of.Given as goal

abbrev pub invariant-loop-code : goal.invariant-loop-code
invariant-loop-code l = first_of (drop l.code-index l.codes) (items_of l.items) ≡ first_of l.codes (items_of l.items)
