-- What a run of a command tells.
use Rattle.std.proofs.Common.{◌≡◌, ◌+◌, inl, inr, ℕ, ℤ, List, [], ◌∷◌, None, Result, Ok, Err, refl, sym, ◌∙◌, ap, subst, arith}
use Rattle.std.specs.Prelude.{IfErr}
use Rattle.awk_world.specs.declared.world.WorldFault.{WorldFault}
use Rattle.awk_world.specs.declared.world.WorldFault.TheVariants.{Memory as WorldMemory, Failed}
use Rattle.awk_world.specs.definitions.Log.{Event, DidNot, Ran, running}
use Rattle.awk_world.specs.definitions.Writes.{GoesOn}
use Rattle.awk_world.specs.definitions.WorldState.{WorldState, Logs, SameOpen}
use Rattle.awk_world.specs.definitions.Openings.{openings, in_order, Begins}
use Rattle.awk_streams.specs.declared.fault.StreamFault.{StreamFault}
use Rattle.awk_streams.specs.declared.fault.StreamFault.TheVariants as fault
use Rattle.awk_streams.specs.definitions.Outputs.{IsOutputFault, FailsWith}
use Rattle.awk_streams.specs.definitions.Streams.{StreamsView, AreSound, held_of, with_held, printed_openings, AreBringing, FailsBy}
use Rattle.awk_streams.specs.definitions.Commands.{BringsAll, RunsCommand}
use Rattle.awk_streams.specs.support.Brings.{BringsHeld}
use Rattle.awk_streams.specs.support.Closes.{run_answer_of}
use Rattle.awk_streams.proofs.LostLemmas.{spares_all, spent_inside}
use Rattle.awk_streams.proofs.GrowsLemmas.{failed_there, grows_on, logs_grow, Grows-then, fails_now, fails_later}
use Rattle.awk_streams.proofs.BringLemmas.{begins-self}
use Rattle.awk_streams.proofs.ViewLemmas.{keeps_as, loses_bytes}
use Rattle.awk_streams.proofs.OpenLemmas.{LeavesAll, left_sound, same_sound}

none_more : (n : ℕ) → 0 + n ≡ n
none_more n = omega arith

runs_leave : (command : List ℕ) (answer : ℤ) (log : List Event) → LeavesAll (Ran command answer) log
runs_leave command answer log = record { same = λ j. record { stands = refl; reads = refl; place = refl }; orderly = tt; flushed = λ j. refl }

pub run_sound : (command : List ℕ) (mid after : WorldState) (s : StreamsView) (answer : Result ℤ WorldFault) → SameOpen mid after → Logs (running command answer) mid after → AreSound mid s → AreSound after s
run_sound command mid after s (Ok n) same logs h = left_sound mid after s (Ran command n) h (runs_leave command n mid.log) same logs.0
run_sound command mid after s (Err e) same logs h = same_sound mid after s h same logs.0

ran_told : (command : List ℕ) (before mid after : WorldState) (old s : StreamsView) (n : ℤ) → BringsAll before old mid s → after.log ≡ Ran command n ∷ mid.log → after.failures ≡ mid.failures → RunsCommand command before old (Ok n) after s
ran_told command before mid after old s n all is same_failure =
    let event : Event = Ran command n in
    let leaves = runs_leave command n mid.log in
    subst (λ (l : List Event). RunsCommand command before old (Ok n) record after { log = l } s) (sym is) record {
      grows = Grows-then all.grows (grows_on (event ∷ []) mid record after { log = event ∷ mid.log } refl same_failure);
      ran = record {
        log = mid.log;
        brings = all.brings;
        adds = refl;
        main = all.main;
        numbers = all.numbers;
        printed = all.printed;
        counts = record {
          inputs = λ k m. none_more _ ∙ all.counts.inputs k m;
          outputs = λ k m. none_more _ ∙ all.counts.outputs k m;
          closings = none_more _ ∙ all.counts.closings;
          runs = ap (λ m. 1 + m) all.counts.runs;
        };
        answered = λ a consistent. ap a.running (sym all.counts.runs) ∙ consistent.0;
        same = λ a main zs h. keeps_as mid record after { log = event ∷ mid.log } s s leaves.same refl refl a main zs (all.same a main zs h);
      };
      failure = same_failure ∙ all.no_failure;
    }

ran_unasked : (command : List ℕ) (before mid after : WorldState) (old s : StreamsView) → BringsAll before old mid s → Logs (DidNot None WorldMemory) mid after → RunsCommand command before old (Err fault.Memory) after s
ran_unasked command before mid after old s all (is, fails) = record {
  grows = Grows-then all.grows (logs_grow (DidNot None WorldMemory) mid after (is, fails));
  ran = record {
    only = subst (λ (l : List Event). GoesOn AreBringing before.log l) (sym is) all.brings.only;
    begins =
        let same : printed_openings after s ≡ printed_openings before old = ap (λ l. in_order (with_held (held_of s) (openings l))) is ∙ all.printed in
        subst (λ l. Begins l (printed_openings before old)) (sym same) (begins-self (printed_openings before old));
    spares = spares_all before after (held_of old) (held_of s) (ap (λ l. in_order (with_held (held_of s) (openings l))) is ∙ all.printed) (λ spent. spent_inside mid after (held_of s) (inr (failed_there None WorldMemory mid after (is, fails))) (all.spares.spent spent));
  };
  failure = inr (fails_later WorldMemory before mid after all.no_failure (fails_now None WorldMemory mid after (is, fails)));
}

never : (answer : Result ℤ WorldFault) (e : WorldFault) → answer ≡ Err e → (answer ≡ Err Failed → ⊥) → e ≡ Failed → ⊥
never answer e is differs failed = differs (is ∙ ap Err failed)

pub run_told : (command : List ℕ) (before mid after : WorldState) (old s : StreamsView) (answer : Result ℤ WorldFault) → BringsAll before old mid s → (answer ≡ Err Failed → ⊥) → Logs (running command answer) mid after → RunsCommand command before old (run_answer_of answer) after s
run_told command before mid after old s (Ok n) all differs logs = ran_told command before mid after old s n all logs.0 logs.1
run_told command before mid after old s (Err WorldMemory) all differs logs = ran_unasked command before mid after old s all logs
run_told command before mid after old s (Err Failed) all differs logs = absurd (differs refl)

-- the outputs could not be brought
pub run_unbrought : (command : List ℕ) (before mid : WorldState) (old s : StreamsView) (e : StreamFault) → IsOutputFault e → BringsHeld before (held_of old) (Err e) mid (held_of s) → FailsBy e before mid → RunsCommand command before old (Err e) mid s
run_unbrought command before mid old s e (inl memory) brings fails =
    subst (λ (f : StreamFault). RunsCommand command before old (Err f) mid s) (sym memory) record {
      grows = brings.touches.grows;
      ran = loses_bytes before mid old s (Err e) brings;
      failure = subst (λ (f : StreamFault). FailsBy f before mid) memory fails;
    }
run_unbrought command before mid old s e (inr failed) brings fails =
    subst (λ (f : StreamFault). RunsCommand command before old (Err f) mid s) (sym failed) record {
      grows = brings.touches.grows;
      ran = loses_bytes before mid old s (Err e) brings;
      failure = subst (λ (f : StreamFault). FailsBy f before mid) failed fails;
    }

-- a run that fails is the world's failure
pub run_fails : (command : List ℕ) (before mid after : WorldState) (r : Result ℤ WorldFault) → mid.failures ≡ before.failures → Logs (running command r) mid after → IfErr (run_answer_of r) (λ fault. FailsWith fault before after)
run_fails command before mid after (Ok n) same logs = tt
run_fails command before mid after (Err fault) same logs = (fault, refl, fails_later fault before mid after same (fails_now None fault mid after logs))
