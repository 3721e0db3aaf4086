-- What a run that was cut short leaves: the first of the meaning's requests were met, and then it only ended.
use Rattle.std.proofs.Common.{inl, inr, List, [], Result, refl, sym, ◌∙◌, subst}
use Rattle.awk_world.specs.declared.failure.Failure.{Failure}
use Rattle.awk_streams.specs.declared.fault.StreamFault.{StreamFault}
use Rattle.awk_streams.specs.Oracle.{Oracle}
use Rattle.awk_streams.specs.WorldState.{WorldState}
use Rattle.awk_streams.specs.Streams.{StreamsView}
use Rattle.awk_streams.specs.Lost.{AreSilentBehind}
use Rattle.awk_streams.specs.Commands.{Finishes}
use Rattle.awk_semantics.specs.definitions.State.{Out}
use Rattle.awk_semantics.specs.definitions.Failure.{IsCutShort, IsCutBetween}
use Rattle.awk_semantics.specs.support.Unended.{AreUnended}
use Rattle.awk_runtime.specs.support.Simulation.{FailureRelation}
use Rattle.awk_run.proofs.LostOutputs.{kept_at_end}
use Rattle.awk_run.proofs.RunEnds.{read_off, FailedAtMostOnce, met_first}

-- a body that was cut off, and its end
pub short_at : {failure : Type 0} (oracle : Oracle) (k1 k2 : WorldState) (streams last : StreamsView) (f : Result (Unit {0}) StreamFault) (o : Out (Unit {0})) → Finishes k1 streams f k2 last → AreUnended o.effects → FailureRelation oracle failure streams k1 o.effects → IsCutShort oracle (read_off o) k2.log
short_at oracle k1 k2 streams last f o told unended fails = record {
  earlier = k1.log;
  later = told.only.events;
  parts = told.only.log;
  turn = met_first oracle k1 streams o [] tt unended fails;
  ends = told.only.each;
}

-- and the body was cut between two effects
pub cut_at : {failure : Type 0} (oracle : Oracle) (k1 k2 : WorldState) (streams last : StreamsView) (f : Result (Unit {0}) StreamFault) (o : Out (Unit {0})) → Finishes k1 streams f k2 last → FailureRelation oracle failure streams k1 o.effects → IsCutBetween oracle o.effects k2.failures k2.log
cut_at oracle k1 k2 streams last f o told fails = record {
  done = fails.done;
  others = fails.others;
  parts = fails.parts;
  earlier = k1.log;
  later = told.only.events;
  adds = told.only.log;
  last = fails.last;
  at = fails.at;
  turn = fails.turn;
  ends = told.only.each;
  brought = record {
    received = λ n kept. told.others.received n kept ∙ fails.keeps.same n (kept_at_end k1 k2 told.only.events told.grows.newer n told.only.log told.only.each told.grows.failures kept);
    flushed = told.others.flushed;
  };
}

-- the one failure of the body, if there was one, stands where its log ends
silent_yet : (k : WorldState) → FailedAtMostOnce k → AreSilentBehind k.log k.failures
silent_yet k (inl none) = subst (λ (fs : List Failure). AreSilentBehind k.log fs) (sym none) tt
silent_yet k (inr (what, last)) = subst (λ (fs : List Failure). AreSilentBehind k.log fs) (sym last.1) (record { earlier = k.log; later = []; parts = refl; count = refl; nothing = tt }, tt)

-- and an output that failed got no more bytes
pub silent_at : (oracle : Oracle) (k1 k2 : WorldState) (streams last : StreamsView) (f : Result (Unit {0}) StreamFault) (o : Out (Unit {0})) → Finishes k1 streams f k2 last → FailureRelation oracle (FailedAtMostOnce k1) streams k1 o.effects → AreSilentBehind k2.log k2.failures
silent_at oracle k1 k2 streams last f o told fails = told.silent fails.keeps.spent (silent_yet k1 fails.failure)
