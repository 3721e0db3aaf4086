use Rattle.std.proofs.Common.{ℕ, List, sym, ap, ◌∙◌}
use Rattle.awk_runtime.specs.support.Printing.{standard_named}
use Rattle.awk_runtime.proofs.Openings.{standard_opens}
use Rattle.awk_runtime.proofs.runtime.Runtime.open_file.Goals as goal

pub returns-in-Some-clause-opens : goal.returns-in-Some-clause-opens
returns-in-Some-clause-opens g c =
    standard_opens c.args.name.now c.args.mode c.in-Some.target _ _ (ap (λ (l : List ℕ). standard_named l) (sym c.as_slice.ensures) ∙ (sym c.standard_named.ensures ∙ c.in-Some.is))
