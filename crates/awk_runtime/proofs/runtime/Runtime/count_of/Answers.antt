use Rattle.std.proofs.Common.{Ok, inl, inr, refl}
use Rattle.awk_runtime.proofs.Composition.{lift_changes}
use Rattle.awk_runtime.proofs.runtime.Runtime.count_of.Goals as goal

pub returns-in-Standard : goal.returns-in-Standard
returns-in-Standard c = elim c.in-Standard.is [ inl e ↦ rw e (lift_changes (Ok tt) c.args.self.now refl) | inr e ↦ rw e (lift_changes (Ok tt) c.args.self.now refl) ]
