use Rattle.std.proofs.Common.{refl}
use Rattle.awk_runtime.proofs.EndWords.{input_noted}
use Rattle.awk_runtime.proofs.runtime.Runtime.note_input.Goals as goal

pub returns : goal.returns
returns c = input_noted (record { names = refl; current = refl; specials = refl; globals = refl; arrays = refl; frames = refl; streams = refl; next = refl; steps = refl }) refl refl refl
