-- What events of one output leave as it was.
use Rattle.std.proofs.Common.{◌≡◌, ◌≢◌, inl, inr, ℕ, Bool, true, false, List, [], ◌∷◌, ◌++◌, refl, sym, ◌∙◌, ap, subst}
use Rattle.std.specs.Prelude.{is_some}
use Rattle.std.proofs.lemmas.Bool.{cond-true, cond-false, ne_eqb, eq-eqb}
use Rattle.awk_world.specs.definitions.Log.{Event, Wrote, Flushed}
use Rattle.awk_world.specs.definitions.Oracle.{standing}
use Rattle.awk_world.specs.definitions.Orderly.{IsWritable, IsOrderly, IsInOrder}
use Rattle.awk_world.specs.definitions.Writes.{with_events, Writes, flushed_if}
use Rattle.awk_world.specs.definitions.Openings.{openings, is_flushed}
use Rattle.awk_streams.specs.definitions.Streams.{AreBringing}
use Rattle.awk_streams.specs.support.Kept.{IsQuiet, SameAt, AreOfOutput}
use Rattle.awk_streams.proofs.HeldLemmas.{place-receives}

pub same_at-self : (id : ℕ) (log : List Event) → SameAt id log log
same_at-self id log = record { stands = refl; reads = refl; place = refl }

pub same_at-then : {id : ℕ} {x y z : List Event} → SameAt id x y → SameAt id y z → SameAt id x z
same_at-then p q = record { stands = q.stands ∙ p.stands; reads = q.reads ∙ p.reads; place = q.place ∙ p.place }

pub writes_of : (id : ℕ) (bytes : List ℕ) (es : List Event) → Writes id bytes es → AreOfOutput id es
writes_of id bytes [] h = tt
writes_of id bytes (Wrote i bs ∷ es) (same, (rest, is, later)) = (same, writes_of id rest es later)
writes_of id bytes (e ∷ es) h = absurd h

pub of_output_quiet : (id : ℕ) (es : List Event) → AreOfOutput id es → IsQuiet es
of_output_quiet id [] h = tt
of_output_quiet id (Wrote i bytes ∷ es) h = of_output_quiet id es h.1
of_output_quiet id (Flushed i ∷ es) h = of_output_quiet id es h.1
of_output_quiet id (e ∷ es) h = absurd h

pub of_output_bringing : (id : ℕ) (es : List Event) → AreOfOutput id es → AreBringing es
of_output_bringing id [] h = tt
of_output_bringing id (Wrote i bytes ∷ es) h = of_output_bringing id es h.1
of_output_bringing id (Flushed i ∷ es) h = of_output_bringing id es h.1
of_output_bringing id (e ∷ es) h = absurd h

pub of_output_append : (id : ℕ) (es fs : List Event) → AreOfOutput id es → AreOfOutput id fs → AreOfOutput id (es ++ fs)
of_output_append id [] fs h k = k
of_output_append id (Wrote i bytes ∷ es) fs h k = (h.0, of_output_append id es fs h.1 k)
of_output_append id (Flushed i ∷ es) fs h k = (h.0, of_output_append id es fs h.1 k)
of_output_append id (e ∷ es) fs h k = absurd h

pub of_output_same : (id j : ℕ) (es log : List Event) → AreOfOutput id es → SameAt j log (with_events es log)
of_output_same id j [] log h = same_at-self j log
of_output_same id j (Wrote i bytes ∷ es) log h =
    same_at-then (record { stands = refl; reads = refl; place = place-receives j i bytes (openings log) }) (of_output_same id j es (Wrote i bytes ∷ log) h.1)
of_output_same id j (Flushed i ∷ es) log h = same_at-then (record { stands = refl; reads = refl; place = refl }) (of_output_same id j es (Flushed i ∷ log) h.1)
of_output_same id j (e ∷ es) log h = absurd h

-- where the output stands open, the log stays in order

pub writable_same : (id : ℕ) (log log' : List Event) → standing id log' ≡ standing id log → IsWritable id log → IsWritable id log'
writable_same id log log' same (inl low) = inl low
writable_same id log log' same (inr (kind, is)) = inr (kind, same ∙ is)

writable_at : (id i : ℕ) (log : List Event) → i ≡ id → IsWritable id log → IsWritable i log
writable_at id i log same w = subst (λ (j : ℕ). IsWritable j log) (sym same) w

pub of_output_orderly : (id : ℕ) (es log : List Event) → AreOfOutput id es → IsWritable id log → IsOrderly log → IsOrderly (with_events es log)
of_output_orderly id [] log h w orderly = orderly
of_output_orderly id (Wrote i bytes ∷ es) log h w orderly =
    of_output_orderly id es (Wrote i bytes ∷ log) h.1 (writable_same id log (Wrote i bytes ∷ log) refl w) (writable_at id i log h.0 w, orderly)
of_output_orderly id (Flushed i ∷ es) log h w orderly = of_output_orderly id es (Flushed i ∷ log) h.1 (writable_same id log (Flushed i ∷ log) refl w) (writable_at id i log h.0 w, orderly)
of_output_orderly id (e ∷ es) log h w orderly = absurd h

pub of_output_order : (old new : ℕ → Bool) (id : ℕ) (es log : List Event) → ((j : ℕ) → new j ≡ old j) → AreOfOutput id es → IsWritable id log → IsInOrder old log → IsInOrder new (with_events es log)
of_output_order old new id es log same h w order = record {
  orderly = of_output_orderly id es log h w order.orderly;
  known = λ j some. same j ∙ order.known j (ap is_some (sym ((of_output_same id j es log h).stands)) ∙ some);
}

-- what is flushed of other outputs

pub of_output_flushed : (id j : ℕ) (es log : List Event) → AreOfOutput id es → id ≢ j → is_flushed j (with_events es log) ≡ is_flushed j log
of_output_flushed id j [] log h differs = refl
of_output_flushed id j (Wrote i bytes ∷ es) log h differs =
    of_output_flushed id j es (Wrote i bytes ∷ log) h.1 differs ∙ cond-false _ _ _ (ne_eqb i j (λ (e : i ≡ j). differs (sym h.0 ∙ e)))
of_output_flushed id j (Flushed i ∷ es) log h differs =
    of_output_flushed id j es (Flushed i ∷ log) h.1 differs ∙ cond-false _ _ _ (ne_eqb i j (λ (e : i ≡ j). differs (sym h.0 ∙ e)))
of_output_flushed id j (e ∷ es) log h differs = absurd h

pub flushed_here : (id : ℕ) (log : List Event) → is_flushed id (Flushed id ∷ log) ≡ true
flushed_here id log = cond-true _ _ _ (eq-eqb id id refl)

unfoldable pub flushed_if_events : (done : Bool) (id : ℕ) → List Event
flushed_if_events true id = Flushed id ∷ []
flushed_if_events false id = []

pub flushed_if_is : (done : Bool) (id : ℕ) (log : List Event) → flushed_if done id log ≡ with_events (flushed_if_events done id) log
unfolding flushed_if_events
flushed_if_is true id log = refl
flushed_if_is false id log = refl

pub flushed_if_of : (done : Bool) (id : ℕ) → AreOfOutput id (flushed_if_events done id)
unfolding flushed_if_events
flushed_if_of true id = (refl, tt)
flushed_if_of false id = tt
