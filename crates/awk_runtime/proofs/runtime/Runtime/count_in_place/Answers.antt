use Rattle.std.proofs.Common.{refl}
use Rattle.awk_runtime.proofs.CountWords.{counted_both}
use Rattle.awk_runtime.proofs.runtime.Runtime.count_in_place.Goals as goal

pub returns-clause-counted : goal.returns-clause-counted
returns-clause-counted c counted = counted_both c.law_of_slots.ensures.own (c.count_record.ensures.counted counted) refl (record { names = refl; current = refl; arrays = refl; frames = refl; streams = refl; next = refl; input_seen = refl; inside = refl; status = refl; steps = refl })
