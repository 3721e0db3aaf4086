use Rattle.std.proofs.Common.{◌≡◌, ℕ, ◌+◌, ◌<◌, ◌-◌, List, [], ◌∷◌, ◌++◌, length, take, drop, Some, refl, sym, ◌∙◌, ap, arith, append_assoc, append-nil}
use Rattle.std.proofs.lemmas.Bool.{cond-true, cond-false, ne_eqb, eq-eqb}
use Rattle.std.proofs.lemmas.List.{take_rest, take-take, drop-take, take-append-drop}
use Rattle.awk_world.specs.definitions.Log.{Event, Wrote, Did, DidNot, taken_or_none}
use Rattle.awk_world.specs.declared.world.WorldFault.TheVariants.{Failed}
use Rattle.awk_world.specs.definitions.Writes.{with_events, GoesOn, Writes}

pub with_events-push : (es : List Event) (e : Event) (log : List Event) → with_events (es ++ e ∷ []) log ≡ e ∷ with_events es log
with_events-push [] e log = refl
with_events-push (x ∷ es) e log = with_events-push es e (x ∷ log)

pub Writes-push : (id : ℕ) (bytes bs : List ℕ) (es : List Event) → Writes id bytes es → Writes id (bytes ++ bs) (es ++ Wrote id bs ∷ [])
Writes-push id bytes bs [] none = (refl, ([], ap (λ b. b ++ bs) none ∙ sym (append-nil bs), refl))
Writes-push id bytes bs (Wrote i b ∷ es) (same, (rest, is, later)) =
    (same, (rest ++ bs, ap (λ x. x ++ bs) is ∙ append_assoc b rest bs, Writes-push id rest bs es later))
Writes-push id bytes bs (e ∷ es) h = absurd h

pub taken-some : (id n : ℕ) (bs : List ℕ) → 0 < n → 0 < length bs → taken_or_none id n bs ≡ Did (Wrote id (take n bs))
taken-some id n [] some room = absurd (omega arith)
taken-some id n (b ∷ bs) some room = cond-false _ _ _ (ne_eqb n 0 (λ (e : n ≡ 0). omega arith))

pub taken-none : (id n : ℕ) (bs : List ℕ) → n ≡ 0 → 0 < length bs → taken_or_none id n bs ≡ DidNot (Some id) Failed
taken-none id n [] none room = absurd (omega (arith, room))
taken-none id n (b ∷ bs) none room = cond-true _ _ _ (eq-eqb n 0 none)

pub GoesOn-write : (id : ℕ) (bytes bs : List ℕ) (old mid new : List Event) → GoesOn (Writes id bytes) old mid → new ≡ Wrote id bs ∷ mid → GoesOn (Writes id (bytes ++ bs)) old new
GoesOn-write id bytes bs old mid new so_far is = record {
  events = so_far.events ++ Wrote id bs ∷ [];
  log = is ∙ (ap (λ l. Wrote id bs ∷ l) so_far.log ∙ sym (with_events-push so_far.events (Wrote id bs) old));
  each = Writes-push id bytes bs so_far.events so_far.each;
}

-- a part more of what is written
pub take_on : (bytes : List ℕ) (done n : ℕ) → take done bytes ++ take n (take (length bytes - done) (drop done bytes)) ≡ take (done + n) bytes
take_on bytes done n =
    let front : take done (take (done + n) bytes) ≡ take done bytes = take-take done (done + n) bytes (omega arith) in
    let back : drop done (take (done + n) bytes) ≡ take n (drop done bytes) = drop-take done n bytes in
    ap (λ b. take done bytes ++ take n b) (take_rest bytes done) ∙ (ap (λ b. b ++ take n (drop done bytes)) (sym front) ∙ (ap (λ b. take done (take (done + n) bytes) ++ b) (sym back) ∙ take-append-drop done (take (done + n) bytes)))
