-- What there is to note of a call, by its arguments and its answer.
use Rattle.awk_world.specs.Log.{Noted, Did, Closed, input_opening, output_opening, reading, writing, flushing, running}
use Rattle.awk_journal.specs.declared.call.Call.{Call}
use Rattle.awk_journal.specs.declared.call.Call.TheVariants as call

abbrev pub noted : Call → Noted
noted (call.OpenInput kind name answer) = input_opening kind name.now answer
noted (call.Read id into answer) = reading id answer into.now
noted (call.OpenOutput kind name mode answer) = output_opening kind name.now mode answer
noted (call.Write id bytes answer) = writing id answer bytes.now
noted (call.Flush id answer) = flushing id answer
noted (call.Close id answer) = Did (Closed id answer)
noted (call.Run command answer) = running command.now answer
