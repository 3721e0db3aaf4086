-- Printing to an output that holds back, and writing what is held.
use Rattle.std.proofs.Common.{◌≡◌, ◌+◌, ℕ, List, [], ◌∷◌, ◌++◌, length, take, Result, Ok, Err, refl, sym, ◌∙◌, ap, subst, arith, append_assoc, append-nil}
use Rattle.std.specs.Prelude.{OnOk, OnErr}
use Rattle.std.proofs.Math.Seq.{take-append-add, take-length}
use Rattle.std.proofs.lemmas.List.{length-append}
use Rattle.awk_streams.specs.declared.fault.StreamFault.{StreamFault}
use Rattle.awk_world.specs.definitions.Log.{Event, Wrote}
use Rattle.awk_world.specs.definitions.WorldState.{WorldState}
use Rattle.awk_world.specs.definitions.Writes.{GoesOn, Writes, with_events}
use Rattle.awk_streams.specs.definitions.Outputs.{WritesAll, Flushes, WritesAndFlushes, FailsAtOutput}
use Rattle.awk_streams.specs.support.Buffered.{PrintsOrHolds}
use Rattle.awk_streams.proofs.GrowsLemmas.{Grows-self, Grows-then, with_events-append}
use Rattle.awk_streams.proofs.WritingLemmas.{fails_at_later}
use Rattle.std.proofs.lemmas.Result.{IfErr-weaker}

on_ok : {P Q : Type 0} (r : Result (Unit {0}) StreamFault) → (P → Q) → OnOk r P → OnOk r Q
on_ok (Ok u) f p = f p
on_ok (Err e) f p = tt

pub on_err : {P Q : Type 0} (r : Result (Unit {0}) StreamFault) → (P → Q) → OnErr r P → OnErr r Q
on_err (Ok u) f p = tt
on_err (Err e) f p = f p

-- nothing is written
writes_none : (id : ℕ) (world : WorldState) (u : Unit {0}) → WritesAll id [] world (Ok u) world
writes_none id world u = record {
  count = 0;
  within = omega arith;
  writes = record { events = []; log = refl; each = refl };
  all = refl;
  no_failure = refl;
  failure = tt;
  fails = tt;
  grows = Grows-self world;
}

-- bytes are written behind bytes

Writes-append : (id : ℕ) (xs ys : List ℕ) (es fs : List Event) → Writes id xs es → Writes id ys fs → Writes id (xs ++ ys) (es ++ fs)
Writes-append id xs ys [] fs none then = subst (λ b. Writes id (b ++ ys) fs) (sym none) then
Writes-append id xs ys (Wrote i bs ∷ es) fs (same, (rest, is, later)) then =
    (same, (rest ++ ys, ap (λ b. b ++ ys) is ∙ append_assoc bs rest ys, Writes-append id rest ys es fs later then))
Writes-append id xs ys (e ∷ es) fs h then = absurd h

GoesOn-append : (id : ℕ) (xs ys : List ℕ) (old mid new : List Event) → GoesOn (Writes id xs) old mid → GoesOn (Writes id ys) mid new → GoesOn (Writes id (xs ++ ys)) old new
GoesOn-append id xs ys old mid new first then = record {
  events = first.events ++ then.events;
  log = then.log ∙ (ap (with_events then.events) first.log ∙ sym (with_events-append first.events then.events old));
  each = Writes-append id xs ys first.events then.events first.each then.each;
}

pub writes_then : (id : ℕ) (xs ys : List ℕ) (before mid after : WorldState) (u : Unit {0}) (r : Result (Unit {0}) StreamFault) → WritesAll id xs before (Ok u) mid → WritesAll id ys mid r after → WritesAll id (xs ++ ys) before r after
writes_then id xs ys before mid after u r first then =
    let long : length (xs ++ ys) ≡ length xs + length ys = length-append xs ys in
    let whole : take first.count xs ≡ xs = ap (λ n. take n xs) first.all ∙ take-length xs in
    let parts : take first.count xs ++ take then.count ys ≡ take (length xs + then.count) (xs ++ ys) = ap (λ b. b ++ take then.count ys) whole ∙ sym (take-append-add xs ys then.count) in
    record {
      count = length xs + then.count;
      within = omega (arith, then.within, long);
      writes = subst (λ b. GoesOn (Writes id b) before.log after.log) parts (GoesOn-append id (take first.count xs) (take then.count ys) before.log mid.log after.log first.writes then.writes);
      all = on_ok r (λ (e : then.count ≡ length ys). ap (λ n. length xs + n) e ∙ sym long) then.all;
      no_failure = on_ok r (λ (e : after.failures ≡ mid.failures). e ∙ first.no_failure) then.no_failure;
      failure = then.failure;
      fails = IfErr-weaker r (λ e. FailsAtOutput id e mid after) (λ e. FailsAtOutput id e before after) (λ e f. fails_at_later id e before mid after first.no_failure f) then.fails;
      grows = Grows-then first.grows then.grows;
    }

-- a print, by what became of it

pub holds_all : (id : ℕ) (held bytes held' : List ℕ) (world : WorldState) (u : Unit {0}) → held' ≡ held ++ bytes → PrintsOrHolds id held bytes world (Ok u) held' world
holds_all id held bytes held' world u is = record {
  written = [];
  more = held ++ bytes;
  parts = refl;
  writes = writes_none id world u;
  holds = is;
  empty = tt;
}

-- what was held is written, or that fails
pub writes_held : (id : ℕ) (held bytes held' : List ℕ) (before after : WorldState) (r : Result (Unit {0}) StreamFault) → OnOk r (held' ≡ bytes) → OnErr r (held' ≡ []) → WritesAll id held before r after → PrintsOrHolds id held bytes before r held' after
writes_held id held bytes held' before after r holds empty writes = record {
  written = held;
  more = bytes;
  parts = refl;
  writes = writes;
  holds = holds;
  empty = empty;
}

both_empty : (r : Result (Unit {0}) StreamFault) (held' : List ℕ) → held' ≡ [] → OnOk r (held' ≡ []) × OnErr r (held' ≡ [])
both_empty (Ok u) held' is = (is, tt)
both_empty (Err e) held' is = (tt, is)

pub writes_both : (id : ℕ) (held bytes held' : List ℕ) (before mid after : WorldState) (u : Unit {0}) (r : Result (Unit {0}) StreamFault) → held' ≡ [] → WritesAll id held before (Ok u) mid → WritesAll id bytes mid r after →
    PrintsOrHolds id held bytes before r held' after
writes_both id held bytes held' before mid after u r none first then = record {
  written = held ++ bytes;
  more = [];
  parts = sym (append-nil (held ++ bytes));
  writes = writes_then id held bytes before mid after u r first then;
  holds = (both_empty r held' none).0;
  empty = (both_empty r held' none).1;
}

-- what was held is written, and the output flushed

pub write_failed : (id : ℕ) (held : List ℕ) (before after : WorldState) (e : StreamFault) → WritesAll id held before (Err e) after → WritesAndFlushes id held before (Err e) after
write_failed id held before after e writes = record {
  count = writes.count;
  within = writes.within;
  written = after.log;
  writes = writes.writes;
  adds = refl;
  all = tt;
  no_failure = tt;
  failure = writes.failure;
  fails = writes.fails;
  grows = writes.grows;
}

pub flushes_written : (id : ℕ) (held : List ℕ) (before mid after : WorldState) (u : Unit {0}) (r : Result (Unit {0}) StreamFault) → WritesAll id held before (Ok u) mid → Flushes id mid r after → WritesAndFlushes id held before r after
flushes_written id held before mid after u r writes flush = record {
  count = writes.count;
  within = writes.within;
  written = mid.log;
  writes = writes.writes;
  adds = flush.adds;
  all = on_ok r (λ (e : after.failures ≡ mid.failures). writes.all) flush.no_failure;
  no_failure = on_ok r (λ (e : after.failures ≡ mid.failures). e ∙ writes.no_failure) flush.no_failure;
  failure = flush.failure;
  fails = IfErr-weaker r (λ e. FailsAtOutput id e mid after) (λ e. FailsAtOutput id e before after) (λ e f. fails_at_later id e before mid after writes.no_failure f) flush.fails;
  grows = Grows-then writes.grows flush.grows;
}
