-- Requests that are met one after the other.
use Rattle.std.proofs.Common.{◌≡◌, ℕ, List, [], ◌∷◌, ◌++◌, Option, Some, None, refl, sym, ap, ◌∙◌, subst, append-nil}
use Rattle.awk_streams.specs.Log.{Event, OpenedInput, OpenedOutput, Read, Ended, Broke, Wrote, Flushed, Closed, Ran}
use Rattle.awk_streams.specs.Oracle.{Oracle}
use Rattle.awk_streams.specs.Writes.{with_events}
use Rattle.awk_streams.proofs.GrowsLemmas.{with_events-append}
use Rattle.awk_streams.specs.Openings.{Opening}
use Rattle.awk_semantics.specs.definitions.State.{Effect, Printed, Requested}
use Rattle.awk_semantics.specs.definitions.Meaning.{Asked, with_bytes, outputs_asked, outputs_from, requests_from}
use Rattle.awk_semantics.specs.definitions.Order.{Stage, AreBetween, GoesBetween, MeetsAll}

pub between-append : (m n o : Option ℕ) (xs ys : List Event) → AreBetween m xs n → AreBetween n ys o → AreBetween m (xs ++ ys) o
between-append m n o [] ys h k = subst (λ (x : Option ℕ). AreBetween x ys o) h k
between-append m n o (Wrote id bytes ∷ xs) ys h k = between-append m n o xs ys h k
between-append m n o (Flushed id ∷ xs) ys h k = between-append m n o xs ys h k
between-append None n o (Closed id x ∷ xs) ys h k = absurd h
between-append (Some i) n o (Closed id x ∷ xs) ys h k = (h.0, between-append None n o xs ys h.1 k)
between-append m n o (OpenedInput kind name id ∷ xs) ys h k = absurd h
between-append m n o (OpenedOutput kind name mode id ∷ xs) ys h k = absurd h
between-append m n o (Read id bytes ∷ xs) ys h k = absurd h
between-append m n o (Ended id ∷ xs) ys h k = absurd h
between-append m n o (Broke id ∷ xs) ys h k = absurd h
between-append m n o (Ran command x ∷ xs) ys h k = absurd h

pub goes-self : (a : Stage) → GoesBetween a a
goes-self a = record { events = []; log = refl; between = refl; streams = refl }

pub goes-append : (a b c : Stage) → GoesBetween a b → GoesBetween b c → GoesBetween a c
goes-append a b c x y = record {
  events = x.events ++ y.events;
  log = y.log ∙ (ap (with_events y.events) x.log ∙ sym (with_events-append x.events y.events a.log));
  between = between-append a.main b.main c.main x.events y.events x.between y.between;
  streams = y.streams ∙ x.streams;
}

pub goes_first : (oracle : Oracle) (ys : List Asked) (a b c : Stage) → GoesBetween a b → MeetsAll oracle ys b c → MeetsAll oracle ys a c
goes_first oracle [] a b c x y = goes-append a b c x y
goes_first oracle (asked ∷ more) a b c x y = (y.0, y.1, goes-append a b y.0 x y.2, y.3, y.4)

pub meets_append : (oracle : Oracle) (xs ys : List Asked) (a b c : Stage) → MeetsAll oracle xs a b → MeetsAll oracle ys b c → MeetsAll oracle (xs ++ ys) a c
meets_append oracle [] ys a b c h k = goes_first oracle ys a b c h k
meets_append oracle (asked ∷ more) ys a b c h k = (h.0, h.1, h.2, h.3, meets_append oracle more ys h.1 b c h.4 k)

-- behind the last of them the log may go on without a request
pub goes_last : (oracle : Oracle) (xs : List Asked) (a b c : Stage) → MeetsAll oracle xs a b → GoesBetween b c → MeetsAll oracle xs a c
goes_last oracle xs a b c h k = subst (λ (l : List Asked). MeetsAll oracle l a c) (append-nil xs) (meets_append oracle xs [] a b c h k)

pub requests-append : (os : List Opening) (xs ys : List Effect) → requests_from os (xs ++ ys) ≡ requests_from os xs ++ requests_from (outputs_from os xs) ys
requests-append os [] ys = refl
requests-append os (Printed n bytes ∷ xs) ys = requests-append (with_bytes n bytes os) xs ys
requests-append os (Requested what ∷ xs) ys = ap (λ l. record { what = what; outputs = os } ∷ l) (requests-append (outputs_asked what os) xs ys)
