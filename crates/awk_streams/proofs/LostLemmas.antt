-- Outputs of which a write or a flush failed, and the others.
use Rattle.std.proofs.Common.{◌≡◌, ◌≢◌, inl, inr, ℕ, zero, suc, Bool, true, false, List, [], ◌∷◌, ◌++◌, length, Option, Some, None, Result, Ok, Err, refl, sym, ◌∙◌, ap, subst, arith}
use Rattle.std.specs.Prelude.{OnOk, IfErr, slice_get, ◌||◌}
use Rattle.std.proofs.lemmas.Bool.{cond-true, cond-false, ne_eqb, eq-eqb, cases_eq}
use Rattle.awk_world.specs.declared.failure.Failure.{Failure}
use Rattle.awk_world.specs.declared.world.WorldFault.TheVariants.{Memory}
use Rattle.awk_world.specs.definitions.Log.{Event}
use Rattle.awk_world.specs.definitions.Grows.{Grows}
use Rattle.awk_world.specs.definitions.WorldState.{WorldState, MayFailInside}
use Rattle.awk_world.specs.definitions.Openings.{Opening, openings, in_order, receives}
use Rattle.awk_streams.specs.declared.fault.StreamFault.{StreamFault}
use Rattle.awk_streams.specs.definitions.Outputs.{FailsAtOutput}
use Rattle.awk_streams.specs.definitions.Streams.{with_held, place_of, place_of_some}
use Rattle.awk_streams.specs.definitions.Lost.{is_number, has_failed, is_lost, AreSpent, Spares}
use Rattle.awk_streams.specs.support.Held.{AreOtherOutputs, ChangesHeld}
use Rattle.awk_streams.proofs.HeldLemmas.{receives_here, receives_there, length-receives, others_of, before_change, after_change}
use Rattle.awk_streams.proofs.PlaceLemmas.{length-in_order, place-held}

true_false : {P : Type 0} → true ≡ false → P
true_false e = cc

false_true : {P : Type 0} → false ≡ true → P
false_true e = cc

left_false : (x y : Bool) → (x || y) ≡ false → x ≡ false
left_false true y e = true_false e
left_false false y e = refl

right_false : (x y : Bool) → (x || y) ≡ false → y ≡ false
right_false true y e = true_false e
right_false false y e = e

-- what failed before failed among more

pub failed_before : (id : ℕ) (newer older : List Failure) → has_failed id (newer ++ older) ≡ false → has_failed id older ≡ false
failed_before id [] older none = none
failed_before id (f ∷ newer) older none = failed_before id newer older (right_false (is_number id f.output) (has_failed id (newer ++ older)) none)

pub lost_before : (log : List Event) (newer older : List Failure) (n : ℕ) → is_lost log (newer ++ older) n ≡ false → is_lost log older n ≡ false
lost_before log [] older n none = none
lost_before log (f ∷ newer) older n none = lost_before log newer older n (right_false (is_number n (place_of_some f.output (openings log))) (is_lost log (newer ++ older) n) none)

-- where no output is opened, the same is lost

abbrev pub SamePlaces : List Event → List Event → Type 0
SamePlaces old new = (id : ℕ) → place_of id (openings new) ≡ place_of id (openings old)

some_place : (old new : List Event) → SamePlaces old new → (output : Option ℕ) → place_of_some output (openings new) ≡ place_of_some output (openings old)
some_place old new same None = refl
some_place old new same (Some id) = same id

pub lost_same : (old new : List Event) → SamePlaces old new → (failures : List Failure) (n : ℕ) → is_lost new failures n ≡ is_lost old failures n
lost_same old new same [] n = refl
lost_same old new same (f ∷ failures) n =
    ap (λ (place : Option ℕ). is_number n place || is_lost new failures n) (some_place old new same f.output) ∙ ap (λ b. is_number n (place_of_some f.output (openings old)) || b) (lost_same old new same failures n)

-- one call after another

pub spares-self : (world : WorldState) (hs : List (ℕ × List ℕ)) → Spares world hs world hs
spares-self world hs = record { same = λ n kept. refl; spent = λ spent. spent }

pub spares-then : {before mid after : WorldState} {hs hs1 hs2 : List (ℕ × List ℕ)} → Grows mid after → SamePlaces mid.log after.log → Spares before hs mid hs1 → Spares mid hs1 after hs2 → Spares before hs after hs2
spares-then {mid = mid} {after = after} grows places p q = record {
  same = λ n kept.
      let behind : is_lost after.log mid.failures n ≡ false = lost_before after.log grows.newer mid.failures n (sym (ap (λ (fs : List Failure). is_lost after.log fs n) grows.failures) ∙ kept) in
      q.same n kept ∙ p.same n (sym (lost_same mid.log after.log places mid.failures n) ∙ behind);
  spent = λ spent. q.spent (p.spent spent);
}

-- where all is received as it was

pub spares_all : (before after : WorldState) (hs hs' : List (ℕ × List ℕ)) → in_order (with_held hs' (openings after.log)) ≡ in_order (with_held hs (openings before.log)) → (AreSpent before.failures hs → AreSpent after.failures hs') → Spares before hs after hs'
spares_all before after hs hs' same spent = record { same = λ n kept. ap (λ (os : List Opening). slice_get os n) same; spent = spent }

spent_elsewhere : (at : ℕ) (failures : List Failure) (hs : List (ℕ × List ℕ)) → AreSpent failures hs → AreSpent (record { at = at; output = None; what = Memory } ∷ failures) hs
spent_elsewhere at failures [] spent = tt
spent_elsewhere at failures (h ∷ hs) (here, spent) = (here, spent_elsewhere at failures hs spent)

pub spent_inside : (before after : WorldState) (hs : List (ℕ × List ℕ)) → MayFailInside before after → AreSpent before.failures hs → AreSpent after.failures hs
spent_inside before after hs (inl same) spent = subst (λ (fs : List Failure). AreSpent fs hs) (sym same) spent
spent_inside before after hs (inr fails) spent = subst (λ (fs : List Failure). AreSpent fs hs) (sym fails) (spent_elsewhere (length after.log) before.failures hs spent)

-- an output that holds nothing back any more

spent_emptied : (id : ℕ) (held : List ℕ) (failures : List Failure) (front back : List (ℕ × List ℕ)) → AreSpent failures (front ++ (id, held) ∷ back) → AreSpent failures (front ++ (id, []) ∷ back)
spent_emptied id held failures [] back (here, spent) = ((λ failed. refl), spent)
spent_emptied id held failures (h ∷ front) back (here, spent) = (here, spent_emptied id held failures front back spent)

-- another output failed
pub spent_others : (f : Failure) (id : ℕ) (failures : List Failure) (hs : List (ℕ × List ℕ)) → f.output ≡ Some id → AreOtherOutputs id hs → AreSpent failures hs → AreSpent (f ∷ failures) hs
spent_others f id failures [] is others spent = tt
spent_others f id failures (h ∷ hs) is others (here, spent) =
    let other : is_number h.0 f.output ≡ false = ap (is_number h.0) is ∙ ne_eqb id h.0 (λ (e : id ≡ h.0). others.0 (sym e)) in
    ((λ failed. here (sym (ap (λ b. b || has_failed h.0 failures) other) ∙ failed)), spent_others f id failures hs is others.1 spent)

spent_failing : (f : Failure) (id : ℕ) (held : List ℕ) (failures : List Failure) (front back : List (ℕ × List ℕ)) → f.output ≡ Some id → AreOtherOutputs id front → AreOtherOutputs id back → AreSpent failures (front ++ (id, held) ∷ back) → AreSpent (f ∷ failures) (front ++ (id, []) ∷ back)
spent_failing f id held failures [] back is others_front others_back (here, spent) = ((λ failed. refl), spent_others f id failures back is others_back spent)
spent_failing f id held failures (h ∷ front) back is others_front others_back (here, spent) =
    let other : is_number h.0 f.output ≡ false = ap (is_number h.0) is ∙ ne_eqb id h.0 (λ (e : id ≡ h.0). others_front.0 (sym e)) in
    ((λ failed. here (sym (ap (λ b. b || has_failed h.0 failures) other) ∙ failed)), spent_failing f id held failures front back is others_front.1 others_back spent)

-- what else an opening has received

last_but : (os : List Opening) (x y : Opening) (n : ℕ) → length os ≢ n → slice_get (os ++ x ∷ []) n ≡ slice_get (os ++ y ∷ []) n
last_but [] x y zero other = absurd (other refl)
last_but [] x y (suc n) other = refl
last_but (o ∷ os) x y zero other = refl
last_but (o ∷ os) x y (suc n) other = last_but os x y n (λ (e : length os ≡ n). other (ap (λ (k : ℕ). suc k) e))

before_last : (xs ys : List Opening) (o : Opening) (n : ℕ) → length xs ≡ length ys → slice_get xs n ≡ slice_get ys n → slice_get (xs ++ o ∷ []) n ≡ slice_get (ys ++ o ∷ []) n
before_last [] [] o n long same = refl
before_last [] (y ∷ ys) o n long same = absurd cc
before_last (x ∷ xs) [] o n long same = absurd cc
before_last (x ∷ xs) (y ∷ ys) o zero long same = same
before_last (x ∷ xs) (y ∷ ys) o (suc n) long same = (let shorter : length xs ≡ length ys = omega (arith, long) in before_last xs ys o n shorter same)

received_but : (id : ℕ) (xs ys : List ℕ) (os : List (ℕ × Opening)) (n : ℕ) → is_number n (place_of id os) ≡ false → slice_get (in_order (receives id xs os)) n ≡ slice_get (in_order (receives id ys os)) n
received_but id xs ys [] n other = refl
received_but id xs ys ((i, o) ∷ older) n other = elim (cases_eq i id) [
  | inl same ↦
      let place : place_of id ((i, o) ∷ older) ≡ Some (length older) = cond-true _ _ _ (eq-eqb i id same) in
      let not_last : length (in_order older) ≢ n = λ (e : length (in_order older) ≡ n). true_false (sym (eq-eqb (length older) n (sym (length-in_order older) ∙ e)) ∙ (sym (ap (is_number n) place) ∙ other)) in
      ap (λ (l : List (ℕ × Opening)). slice_get (in_order l) n) (receives_here id xs i o older same)
      ∙ (last_but (in_order older) (record { output = o.output; bytes = o.bytes ++ xs }) (record { output = o.output; bytes = o.bytes ++ ys }) n not_last
      ∙ ap (λ (l : List (ℕ × Opening)). slice_get (in_order l) n) (sym (receives_here id ys i o older same)))
  | inr differs ↦
      let place : place_of id ((i, o) ∷ older) ≡ place_of id older = cond-false _ _ _ (ne_eqb i id differs) in
      let long = λ (bytes : List ℕ). length-in_order (receives id bytes older) ∙ length-receives id bytes older in
      ap (λ (l : List (ℕ × Opening)). slice_get (in_order l) n) (receives_there id xs i o older differs)
      ∙ (before_last (in_order (receives id xs older)) (in_order (receives id ys older)) o n (long xs ∙ sym (long ys)) (received_but id xs ys older n (sym (ap (is_number n) place) ∙ other))
      ∙ ap (λ (l : List (ℕ × Opening)). slice_get (in_order l) n) (sym (receives_there id ys i o older differs)))
]

place_others : {id : ℕ} {held held' : List ℕ} {hs hs' : List (ℕ × List ℕ)} (c : ChangesHeld id held held' hs hs') (os : List (ℕ × Opening)) → place_of id (others_of c os) ≡ place_of id os
unfolding others_of
place_others {id = id} c os = place-held id c.back (with_held c.front os) ∙ place-held id c.front os

-- a write or a flush of an output failed, and it holds nothing back then
pub spares_failing : {id : ℕ} {held held' : List ℕ} {hs hs' : List (ℕ × List ℕ)} {before after : WorldState} (c : ChangesHeld id held held' hs hs') (part : List ℕ) (fault : StreamFault) → held' ≡ [] → openings after.log ≡ receives id part (openings before.log) → ((j : ℕ) → place_of j (openings after.log) ≡ place_of j (openings before.log))
    → FailsAtOutput id fault before after → Spares before hs after hs'
spares_failing {id = id} {held = held} {held' = held'} {hs = hs} {hs' = hs'} {before = before} {after = after} c part fault empty gains places fails =
    let os = openings before.log in
    let f : Failure = record { at = length after.log; output = Some id; what = fails.0 } in
    record {
      same = λ n kept.
          let here : is_number n (place_of id (openings after.log)) ≡ false = left_false (is_number n (place_of id (openings after.log))) (is_lost after.log before.failures n) (sym (ap (λ (fs : List Failure). is_lost after.log fs n) fails.2) ∙ kept) in
          let other : is_number n (place_of id (others_of c os)) ≡ false = ap (is_number n) (place_others c os ∙ sym (places id)) ∙ here in
          ap (λ (l : List (ℕ × Opening)). slice_get (in_order (with_held hs' l)) n) gains
          ∙ (ap (λ (l : List (ℕ × Opening)). slice_get (in_order l) n) (after_change c part os)
          ∙ (received_but id (part ++ held') held (others_of c os) n other
          ∙ ap (λ (l : List (ℕ × Opening)). slice_get (in_order l) n) (sym (before_change c os))));
      spent = λ spent.
          let old : AreSpent before.failures (c.front ++ (id, held) ∷ c.back) = subst (λ l. AreSpent before.failures l) c.old_is spent in
          let new : AreSpent (f ∷ before.failures) (c.front ++ (id, []) ∷ c.back) = spent_failing f id held before.failures c.front c.back refl c.others_front c.others_back old in
          let now : c.front ++ (id, []) ∷ c.back ≡ hs' = ap (λ (h : List ℕ). c.front ++ (id, h) ∷ c.back) (sym empty) ∙ sym c.new_is in
          subst (λ (fs : List Failure). AreSpent fs hs') (sym fails.2) (subst (λ l. AreSpent (f ∷ before.failures) l) now new);
    }

-- all that was held back for an output was brought
pub spares_emptied : {id : ℕ} {held : List ℕ} {hs hs' : List (ℕ × List ℕ)} {before after : WorldState} (c : ChangesHeld id held [] hs hs') → with_held hs' (openings after.log) ≡ with_held hs (openings before.log) → after.failures ≡ before.failures → Spares before hs after hs'
spares_emptied {id = id} {held = held} {hs = hs} {hs' = hs'} {before = before} {after = after} c printed same =
    spares_all before after hs hs' (ap in_order printed) (λ spent.
    let old : AreSpent before.failures (c.front ++ (id, held) ∷ c.back) = subst (λ l. AreSpent before.failures l) c.old_is spent in
    subst (λ (fs : List Failure). AreSpent fs hs') (sym same) (subst (λ l. AreSpent before.failures l) (sym c.new_is) (spent_emptied id held before.failures c.front c.back old)))

-- what the flush of an output comes to
pub spares_by : {id : ℕ} {held : List ℕ} {hs hs' : List (ℕ × List ℕ)} {before after : WorldState} (c : ChangesHeld id held [] hs hs') (result : Result (Unit {0}) StreamFault) (part : List ℕ) → openings after.log ≡ receives id part (openings before.log) → ((j : ℕ) → place_of j (openings after.log) ≡ place_of j (openings before.log))
    → OnOk result (with_held hs' (openings after.log) ≡ with_held hs (openings before.log)) → OnOk result (after.failures ≡ before.failures) → IfErr result (λ fault. FailsAtOutput id fault before after) → Spares before hs after hs'
spares_by c (Ok u) part gains places printed same fails = spares_emptied c printed same
spares_by c (Err fault) part gains places printed same fails = spares_failing c part fault refl gains places fails
