-- What goes before the opening of a stream.
use Rattle.std.proofs.Common.{true, false, [], Result, Ok, Err, refl}
use Rattle.std.specs.Prelude.{OnOk, IfErr}
use Rattle.awk_world.specs.definitions.WorldState.{WorldState}
use Rattle.awk_world.specs.definitions.Openings.{openings, in_order}
use Rattle.awk_streams.specs.declared.fault.StreamFault.{StreamFault}
use Rattle.awk_streams.specs.definitions.Outputs.{IsOutputFault, FailsWith}
use Rattle.awk_streams.specs.definitions.Streams.{StreamsView, held_of, with_held, is_output_among}
use Rattle.awk_streams.specs.support.Held.{HoldsNothing}
use Rattle.awk_streams.specs.support.Brings.{BringsHeld, AreFlushedBut}
use Rattle.awk_streams.specs.support.Asks.{Prepares}
use Rattle.awk_streams.proofs.BringLemmas.{touches-self, begins-self}
use Rattle.awk_streams.proofs.LostLemmas.{spares-self}
use Rattle.awk_streams.proofs.ViewLemmas.{brings_of, fails_as}

pub prepares_command : (before after : WorldState) (old new : StreamsView) (result : Result (Unit {0}) StreamFault) → BringsHeld before (held_of old) result after (held_of new) → OnOk result (HoldsNothing new) → OnOk result (AreFlushedBut [] after.log) → IfErr result (λ fault. FailsWith fault before after) →
    IfErr result IsOutputFault → Prepares true before old result after new
prepares_command before after old new (Ok u) b empty flushed fails fault = record {
  touches = b.touches;
  printed = b.printed;
  begins = b.begins;
  spares = b.spares;
  brings = brings_of before after old new u b empty flushed;
  marked = tt;
  failure = b.no_failure;
}
prepares_command before after old new (Err e) b empty flushed fails fault = record {
  touches = b.touches;
  printed = tt;
  begins = b.begins;
  spares = b.spares;
  brings = tt;
  marked = b.failure;
  failure = fails_as before after e fault fails;
}

pub prepares_file : (world : WorldState) (s : StreamsView) (u : Unit {0}) → Prepares false world s (Ok u) world s
prepares_file world s u = record {
  touches = touches-self (λ j. is_output_among j (held_of s)) world;
  printed = refl;
  begins = begins-self (in_order (with_held (held_of s) (openings world.log)));
  spares = spares-self world (held_of s);
  brings = refl;
  marked = tt;
  failure = refl;
}

-- under a premise
pub ok_given : (L P : Type 0) (r : Result (Unit {0}) StreamFault) → OnOk r (L → P) → L → OnOk r P
ok_given L P (Ok u) f t = f t
ok_given L P (Err e) f t = tt

pub err_given : (L : Type 0) (P : StreamFault → Type 0) (r : Result (Unit {0}) StreamFault) → IfErr r (λ e. L → P e) → L → IfErr r P
err_given L P (Ok u) f t = tt
err_given L P (Err e) f t = f t
