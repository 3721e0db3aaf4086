-- Stretches of a log that keep it in order, and what they leave as it was.
use Rattle.std.proofs.Common.{◌≡◌, ℕ, ◌+◌, List, [], ◌∷◌, ◌++◌, Option, None, refl, sym, ◌∙◌, ap, subst, arith}
use Rattle.std.proofs.lemmas.Bool.{cond-true, eq-eqb}
use Rattle.awk_world.specs.definitions.Log.{Event, Read, Ended, Broke, Wrote, Flushed}
use Rattle.awk_record.specs.Cut.{Ending}
use Rattle.awk_world.specs.definitions.Oracle.{read_on}
use Rattle.awk_world.specs.definitions.Orderly.{IsReadable, IsOrderly}
use Rattle.awk_world.specs.definitions.Writes.{with_events}
use Rattle.awk_streams.specs.definitions.Inputs.{NeededReads}
use Rattle.awk_streams.specs.support.Kept.{IsQuiet, SameStreams}
use Rattle.awk_world.specs.definitions.Oracle.{SameCounts}

none_more : (n : ℕ) → 0 + n ≡ n
none_more n = omega arith

-- events that open, close and run nothing
pub same_counts-self : (log : List Event) → SameCounts log log
same_counts-self log = record { inputs = λ kind name. refl; outputs = λ kind name. refl; closings = refl; runs = refl }

pub same_counts-then : {x y z : List Event} → SameCounts x y → SameCounts y z → SameCounts x z
same_counts-then p q = record {
  inputs = λ kind name. q.inputs kind name ∙ p.inputs kind name;
  outputs = λ kind name. q.outputs kind name ∙ p.outputs kind name;
  closings = q.closings ∙ p.closings;
  runs = q.runs ∙ p.runs;
}

pub same_streams-then : {x y z : List Event} → SameStreams x y → SameStreams y z → SameStreams x z
same_streams-then p q = record {
  stands = λ id. q.stands id ∙ p.stands id;
  counts = same_counts-then p.counts q.counts;
}

quiet_counts : (e : Event) (log : List Event) → IsQuiet (e ∷ []) → SameCounts log (e ∷ log)
quiet_counts (Read id bytes) log h = record { inputs = λ kind name. none_more _; outputs = λ kind name. none_more _; closings = none_more _; runs = none_more _ }
quiet_counts (Ended id) log h = record { inputs = λ kind name. none_more _; outputs = λ kind name. none_more _; closings = none_more _; runs = none_more _ }
quiet_counts (Broke id) log h = record { inputs = λ kind name. none_more _; outputs = λ kind name. none_more _; closings = none_more _; runs = none_more _ }
quiet_counts (Wrote id bytes) log h = record { inputs = λ kind name. none_more _; outputs = λ kind name. none_more _; closings = none_more _; runs = none_more _ }
quiet_counts (Flushed id) log h = record { inputs = λ kind name. none_more _; outputs = λ kind name. none_more _; closings = none_more _; runs = none_more _ }
quiet_counts e log h = absurd h

quiet_step : (e : Event) (log : List Event) → IsQuiet (e ∷ []) → SameStreams log (e ∷ log)
quiet_step (Read id bytes) log h = record { stands = λ j. refl; counts = quiet_counts (Read id bytes) log h }
quiet_step (Ended id) log h = record { stands = λ j. refl; counts = quiet_counts (Ended id) log h }
quiet_step (Broke id) log h = record { stands = λ j. refl; counts = quiet_counts (Broke id) log h }
quiet_step (Wrote id bytes) log h = record { stands = λ j. refl; counts = quiet_counts (Wrote id bytes) log h }
quiet_step (Flushed id) log h = record { stands = λ j. refl; counts = quiet_counts (Flushed id) log h }
quiet_step e log h = absurd h

pub quiet_streams : (es log : List Event) → IsQuiet es → SameStreams log (with_events es log)
quiet_streams [] log h = record { stands = λ j. refl; counts = same_counts-self log }
quiet_streams (Read id bytes ∷ es) log h = same_streams-then (quiet_step (Read id bytes) log tt) (quiet_streams es (Read id bytes ∷ log) h)
quiet_streams (Ended id ∷ es) log h = same_streams-then (quiet_step (Ended id) log tt) (quiet_streams es (Ended id ∷ log) h)
quiet_streams (Broke id ∷ es) log h = same_streams-then (quiet_step (Broke id) log tt) (quiet_streams es (Broke id ∷ log) h)
quiet_streams (Wrote id bytes ∷ es) log h = same_streams-then (quiet_step (Wrote id bytes) log tt) (quiet_streams es (Wrote id bytes ∷ log) h)
quiet_streams (Flushed id ∷ es) log h = same_streams-then (quiet_step (Flushed id) log tt) (quiet_streams es (Flushed id ∷ log) h)
quiet_streams (e ∷ es) log h = absurd h

-- needed reads
readable_at : (id i : ℕ) (log : List Event) → i ≡ id → IsReadable id log → IsReadable i log
readable_at id i log same r = subst (λ (j : ℕ). IsReadable j log) (sym same) r

readable_on : (id i : ℕ) (bs : List ℕ) (log : List Event) → i ≡ id → IsReadable id log → IsReadable id (Read i bs ∷ log)
readable_on id i bs log same r = record {
  reading = record r.reading { bytes = r.reading.bytes ++ bs };
  stands = cond-true _ _ _ (eq-eqb i id same) ∙ ap (read_on bs) r.stands;
  unended = r.unended;
}

pub reads_orderly : (id : ℕ) (separator b b' : List ℕ) (ending : Option Ending) (es log : List Event) → NeededReads id separator b b' ending es → IsReadable id log → IsOrderly log → IsOrderly (with_events es log)
reads_orderly id separator b b' ending [] log h r orderly = orderly
reads_orderly id separator b b' ending (Read i bs ∷ es) log (same, undecided, later) r orderly =
    reads_orderly id separator (b ++ bs) b' ending es (Read i bs ∷ log) later (readable_on id i bs log same r) (readable_at id i log same r, orderly)
reads_orderly id separator b b' ending (Ended i ∷ []) log (same, undecided, last, bytes, met) r orderly = (readable_at id i log same r, orderly)
reads_orderly id separator b b' ending (Broke i ∷ []) log (same, undecided, last, bytes, met) r orderly = (readable_at id i log same r, orderly)
reads_orderly id separator b b' ending (Ended i ∷ e ∷ es) log (same, undecided, last, bytes, met) r orderly = cc
reads_orderly id separator b b' ending (Broke i ∷ e ∷ es) log (same, undecided, last, bytes, met) r orderly = cc
reads_orderly id separator b b' ending (e ∷ es) log h r orderly = absurd h

-- and the input readable, unless its ending was met, in whatever order the log was
pub reads_readable : (id : ℕ) (separator b b' : List ℕ) (ending : Option Ending) (es log : List Event) → NeededReads id separator b b' ending es → IsReadable id log → ending ≡ None → IsReadable id (with_events es log)
reads_readable id separator b b' ending [] log h r none = r
reads_readable id separator b b' ending (Read i bs ∷ es) log (same, undecided, later) r none =
    reads_readable id separator (b ++ bs) b' ending es (Read i bs ∷ log) later (readable_on id i bs log same r) none
reads_readable id separator b b' ending (Ended i ∷ es) log (same, undecided, last, bytes, met) r none = cc
reads_readable id separator b b' ending (Broke i ∷ es) log (same, undecided, last, bytes, met) r none = cc
reads_readable id separator b b' ending (e ∷ es) log h r none = absurd h

pub reads_quiet : (id : ℕ) (separator b b' : List ℕ) (ending : Option Ending) (es : List Event) → NeededReads id separator b b' ending es → IsQuiet es
reads_quiet id separator b b' ending [] h = tt
reads_quiet id separator b b' ending (Read i bs ∷ es) (same, undecided, later) = reads_quiet id separator (b ++ bs) b' ending es later
reads_quiet id separator b b' ending (Ended i ∷ es) (same, undecided, last, bytes, met) = subst (λ (x : List Event). IsQuiet x) (sym last) tt
reads_quiet id separator b b' ending (Broke i ∷ es) (same, undecided, last, bytes, met) = subst (λ (x : List Event). IsQuiet x) (sym last) tt
reads_quiet id separator b b' ending (e ∷ es) h = absurd h
