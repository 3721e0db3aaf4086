-- Outputs of which a write or a flush failed, as the log of a run and its failures go on.
use Rattle.std.proofs.Common.{◌≡◌, ℕ, suc, true, false, List, [], ◌∷◌, ◌++◌, slice_get, Some, None, refl, sym, ap₂, ◌∙◌, subst₂}
use Rattle.std.proofs.lemmas.Option.{same_Some}
use Rattle.awk_world.specs.declared.failure.Failure.{Failure}
use Rattle.awk_streams.specs.Log.{Event, Wrote, Flushed, Closed}
use Rattle.awk_streams.specs.Writes.{with_events}
use Rattle.awk_streams.specs.Openings.{Opening, openings, in_order, is_flushed, AreFlushed, AreBrought}
use Rattle.awk_streams.specs.WorldState.{WorldState}
use Rattle.awk_streams.specs.Streams.{place_of}
use Rattle.awk_streams.specs.Commands.{AreOfTheEnd}
use Rattle.awk_streams.specs.Lost.{is_lost, AreBroughtBut}
use Rattle.awk_streams.proofs.HeldLemmas.{place-receives}
use Rattle.awk_streams.proofs.LostLemmas.{lost_before, lost_same}

-- the end of a run opens nothing, so each opening keeps its place

place_at_end : (id : ℕ) (es log : List Event) → AreOfTheEnd es → place_of id (openings (with_events es log)) ≡ place_of id (openings log)
place_at_end id [] log ends = refl
place_at_end id (Wrote i bytes ∷ es) log ends = place_at_end id es (Wrote i bytes ∷ log) ends ∙ place-receives id i bytes (openings log)
place_at_end id (Flushed i ∷ es) log ends = place_at_end id es (Flushed i ∷ log) ends
place_at_end id (Closed i answer ∷ es) log ends = place_at_end id es (Closed i answer ∷ log) ends
place_at_end id (e ∷ es) log ends = absurd ends

pub kept_at_end : (k1 k2 : WorldState) (es : List Event) (newer : List Failure) (n : ℕ) → k2.log ≡ with_events es k1.log → AreOfTheEnd es → k2.failures ≡ newer ++ k1.failures → is_lost k2.log k2.failures n ≡ false → is_lost k1.log k1.failures n ≡ false
kept_at_end k1 k2 es newer n is ends fails kept =
    let log = with_events es k1.log in
    sym (lost_same k1.log log (λ id. place_at_end id es k1.log ends) k1.failures n)
    ∙ lost_before log newer k1.failures n (subst₂ (λ (l : List Event) (fs : List Failure). is_lost l fs n ≡ false) is fails kept)

-- where nothing failed, each opening has received what was printed, and was flushed

same_elements : (xs ys : List Opening) → ((n : ℕ) → slice_get xs n ≡ slice_get ys n) → xs ≡ ys
same_elements [] [] each = refl
same_elements [] (y ∷ ys) each = let e : None ≡ Some y = each 0 in absurd (cc)
same_elements (x ∷ xs) [] each = let e : Some x ≡ None = each 0 in absurd (cc)
same_elements (x ∷ xs) (y ∷ ys) each = ap₂ (λ (z : Opening) (zs : List Opening). z ∷ zs) (same_Some x y (each 0)) (same_elements xs ys (λ n. each (suc n)))

all_flushed : (os : List (ℕ × Opening)) (log : List Event) → ((id : ℕ) → is_flushed id log ≡ true) → AreFlushed os log
all_flushed [] log each = tt
all_flushed (o ∷ os) log each = (each o.0, all_flushed os log each)

pub brought_but_none : (outputs : List Opening) (log : List Event) → AreBroughtBut [] outputs log → AreBrought outputs log
brought_but_none outputs log brought = record {
  received = same_elements (in_order (openings log)) outputs (λ n. brought.received n refl);
  flushed = all_flushed (openings log) log (λ id. brought.flushed id refl);
}
