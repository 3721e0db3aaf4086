-- Writing bytes to an output, and flushing it.
use Rattle.std.proofs.Common.{◌≡◌, ◌≤◌, arith, ℕ, true, List, ◌∷◌, length, take, Some, Result, Ok, Err, refl, ◌∙◌, ap}
use Rattle.std.specs.Prelude.{IfErr}
use Rattle.std.proofs.lemmas.Result.{IfErr-weaker}
use Rattle.awk_world.specs.declared.failure.Failure.{Failure}
use Rattle.awk_world.specs.declared.world.WorldFault.{WorldFault}
use Rattle.awk_streams.specs.declared.fault.StreamFault.{StreamFault}
use Rattle.awk_world.specs.definitions.WorldState.{WorldState, Logs, is_any}
use Rattle.awk_world.specs.definitions.Log.{Flushed, Did, DidNot}
use Rattle.awk_world.specs.definitions.Writes.{GoesOn, Writes}
use Rattle.awk_world.specs.definitions.Grows.{Grows}
use Rattle.awk_streams.specs.definitions.Outputs.{output_fault_of, FailsWith, FailsAtOutput, WritesAll, Flushes}
use Rattle.awk_streams.proofs.GrowsLemmas.{Grows-then, logs_grow, failed_there, fails_later}

-- the writing of all bytes, done or broken off by a failure
pub writes_done : (id : ℕ) (bytes : List ℕ) (count : ℕ) (before after : WorldState) (u : Unit {0}) → count ≡ length bytes → GoesOn (Writes id (take count bytes)) before.log after.log → after.failures ≡ before.failures → Grows before after →
    WritesAll id bytes before (Ok u) after
writes_done id bytes count before after u all writes same grows = record {
  count = count;
  within = omega (arith, all);
  writes = writes;
  all = all;
  no_failure = same;
  failure = tt;
  fails = tt;
  grows = grows;
}

-- what failed, told as the failure of this output

pub fails_at_output : (id : ℕ) (what : WorldFault) (e : StreamFault) (before mid after : WorldState) → e ≡ output_fault_of what → mid.failures ≡ before.failures → Logs (DidNot (Some id) what) mid after → FailsAtOutput id e before after
fails_at_output id what e before mid after is same logs = (what, is, failed_there (Some id) what mid after logs ∙ ap (λ (fs : List Failure). record { at = length after.log; output = Some id; what = what } ∷ fs) same)

pub fails_at_later : (id : ℕ) (e : StreamFault) (before mid after : WorldState) → mid.failures ≡ before.failures → FailsAtOutput id e mid after → FailsAtOutput id e before after
fails_at_later id e before mid after same (what, is, fails) = (what, is, fails ∙ ap (λ (fs : List Failure). record { at = length after.log; output = Some id; what = what } ∷ fs) same)

pub fails_with : (id : ℕ) (e : StreamFault) (before after : WorldState) → FailsAtOutput id e before after → FailsWith e before after
fails_with id e before after (what, is, fails) = (what, is, (Some id, fails))

pub fails_with_later : (e : StreamFault) (before mid after : WorldState) → mid.failures ≡ before.failures → FailsWith e mid after → FailsWith e before after
fails_with_later e before mid after same (what, is, fails) = (what, is, fails_later what before mid after same fails)

-- that of all that was to be written
pub writing_fails : (id : ℕ) (bytes : List ℕ) (before after : WorldState) (r : Result (Unit {0}) StreamFault) → WritesAll id bytes before r after → IfErr r (λ e. FailsWith e before after)
writing_fails id bytes before after r w = IfErr-weaker r (λ e. FailsAtOutput id e before after) (λ e. FailsWith e before after) (λ e f. fails_with id e before after f) w.fails

marked : (id : ℕ) (e : StreamFault) (before after : WorldState) → FailsAtOutput id e before after → is_any after.failures ≡ true
marked id e before after (what, is, fails) = ap is_any fails

pub writes_failed : (id : ℕ) (bytes : List ℕ) (count : ℕ) (before mid after : WorldState) (e : StreamFault) (what : WorldFault) → e ≡ output_fault_of what → count ≤ length bytes → GoesOn (Writes id (take count bytes)) before.log mid.log → mid.failures ≡ before.failures → Grows before mid → Logs (DidNot (Some id) what) mid after →
    WritesAll id bytes before (Err e) after
writes_failed id bytes count before mid after e what is within writes same grows logs =
    let all : Grows before after = Grows-then grows (logs_grow (DidNot (Some id) what) mid after logs) in
    let fails : FailsAtOutput id e before after = fails_at_output id what e before mid after is same logs in
    record {
      count = count;
      within = within;
      writes = record { events = writes.events; log = logs.0 ∙ writes.log; each = writes.each };
      all = tt;
      no_failure = tt;
      failure = marked id e before after fails;
      fails = fails;
      grows = all;
    }

-- a flush, done or not
pub flush_done : (id : ℕ) (before after : WorldState) (u : Unit {0}) → Logs (Did (Flushed id)) before after → Flushes id before (Ok u) after
flush_done id before after u logs = record {
  adds = logs.0;
  no_failure = logs.1;
  failure = tt;
  fails = tt;
  grows = logs_grow (Did (Flushed id)) before after logs;
}

pub flush_failed : (id : ℕ) (before after : WorldState) (e : StreamFault) (what : WorldFault) → e ≡ output_fault_of what → Logs (DidNot (Some id) what) before after → Flushes id before (Err e) after
flush_failed id before after e what is logs =
    let fails : FailsAtOutput id e before after = fails_at_output id what e before before after is refl logs in
    record {
      adds = logs.0;
      no_failure = tt;
      failure = marked id e before after fails;
      fails = fails;
      grows = logs_grow (DidNot (Some id) what) before after logs;
    }
