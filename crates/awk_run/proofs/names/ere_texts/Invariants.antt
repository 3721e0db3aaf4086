use Rattle.std.proofs.Common.{◌≡◌, take}
use Rattle.awk_run.proofs.names.ere_texts.Given as goal

abbrev pub invariant-loop-text : goal.invariant-loop-text
invariant-loop-text l = l.texts.items ≡ take l.text-index l.plan.eres.items
