use Rattle.std.proofs.Common.{refl, arith}
use Rattle.awk_runtime.proofs.EndWords.{range_set, one_set}
use Rattle.awk_runtime.proofs.runtime.Runtime.put_inside.Goals as goal

pub returns-clause-puts : goal.returns-clause-puts
returns-clause-puts c = λ _. range_set _ _ (record { names = refl; current = refl; specials = refl; globals = refl; arrays = refl; frames = refl; streams = refl; next = refl; steps = refl }) refl refl (λ m. one_set c.args.self.now.inside.items c.args.number m c.args.is_inside (omega (arith, c.len.ensures, c.if-number-len.false, c.args.self.now.inside.ok.0)))
