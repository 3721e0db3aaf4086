use Rattle.std.proofs.Common.{Some, None, sym, ap, ◌∙◌}
use Rattle.awk_kinds.specs.Signatures.{place_of}
use Rattle.awk_runtime.specs.support.Naming.{Naming}
use Rattle.awk_runtime.proofs.NameWords.{if_found, if_absent}
use Rattle.awk_runtime.proofs.names.ProgramNames.slot_of.Goals as goal

pub returns-in_err-slot-clause-none : goal.returns-in_err-slot-clause-none
returns-in_err-slot-clause-none c =
    rw c.from_residual.ensures (if_absent c.args.name.now c.args.self.now.scalars None (sym (c.in_err-slot.was {u = tt}) ∙ (c.find.ensures ∙ ap (λ (n : Naming). place_of n.scalars c.args.name.now) c.self.view_is)))

pub returns-clause-some : goal.returns-clause-some
returns-clause-some c =
    if_found c.args.name.now c.args.self.now.scalars (Some c.in_ok-slot.slot) (sym (c.in_ok-slot.was {u = tt}) ∙ (c.find.ensures ∙ ap (λ (n : Naming). place_of n.scalars c.args.name.now) c.self.view_is))
