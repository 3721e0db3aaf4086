-- What a cursor by the table tells of the matches.
use Rattle.std.proofs.Common.{◌≡◌, ℕ, zero, suc, ◌+◌, ◌-◌, ◌<◌, ◌≤◌, List, length, Bool, true, false, Some, None, refl, sym, ap, ◌∙◌, subst, ⊎_elim, arith, get_or, replicate}
use Rattle.std.specs.Prelude.{nat_eq, IsSome, if◌then◌else◌}
use Rattle.std.proofs.lemmas.Bool.{cases_lt, false≢true, leb-true, le-leb, and_parts, and_from}
use Rattle.std.proofs.lemmas.List.{get_or-replicate, length-replicate}
use Rattle.std.proofs.Math.ListN.{get_or-eq_default}
use Rattle.awk_ere.specs.definitions.Tree.{Tree, Matches, NoneFrom}
use Rattle.awk_ere.specs.support.Layout.{byte_count, stride, start_state, dead_state, first_state, match_flag}
use Rattle.awk_ere.specs.definitions.Means.{Means}
use Rattle.awk_ere.specs.support.SimulationStep.{count_of, leaves, behind, dead_positions, IsStillAt, IsStill}
use Rattle.awk_ere.specs.support.Table.{IsKnown, state_number, IsState, IsEntry, AreTransitions, IsTable, positions_at}
use Rattle.awk_ere.specs.support.CursorState.{Starts, Runs, Stood, Enters}
use Rattle.awk_ere.specs.support.Failures.{NoneGoesOn}
use Rattle.awk_ere.specs.support.Found.{between, LastEnd, EndsBetween}
use Rattle.awk_ere.specs.declared.pattern.Pattern.{Pattern}
use Rattle.awk_ere.specs.declared.dfa.table.Table.{Table}
use Rattle.awk_ere.specs.declared.dfa.cursor.Cursor.{Cursor}
use Rattle.awk_ere.proofs.StepTellsMatches.{match_le, at_start, runs_fresh, next}
use Rattle.awk_ere.proofs.LastEnd.{last_hit, last_miss, last_idle, idle_none, between_in}
use Rattle.awk_ere.proofs.TableKept.{state_at, state_named}

-- behind the first place the text doesn't start
started : (k : ℕ) → Starts false (k + 1)
started k = ((λ e. absurd (false≢true e)), (λ e. absurd (omega (arith, e))))

-- one byte further, by an entry
module _ (p : Pattern) (tb tb' : Table) (s : List ℕ) (t : Tree) (means : Means t p) (from : ℕ → Bool) (w : Cursor) (h : Stood p tb s t from w)
    (m : Bool) (enters : m ≡ from w.place) (within : w.place < length s) (v : ℕ) (e : IsEntry p tb' h.start m h.positions (get_or s w.place 0) v) (w' : Cursor) (place : w'.place ≡ w.place + 1) where
  pub stood_miss : 0 < v → v < match_flag → w'.state ≡ v → w'.end ≡ w.end → Stood p tb' s t from w'
  stood_miss some small state end = record {
    start = false;
    positions = behind p h.positions h.start m false (get_or s w.place 0);
    state = subst (λ u. IsState p tb' u false (behind p h.positions h.start m false (get_or s w.place 0))) (sym state) (e.goes some small);
    starts = subst (Starts false) (sym place) (started w.place);
    runs = subst (λ k. Runs s t from k (behind p h.positions h.start m false (get_or s w.place 0))) (sym place)
        (next s t p means from w.place h.positions h.runs h.start m h.starts enters (get_or s w.place 0) refl within);
    last = subst (λ b. LastEnd t s from w'.place b) (sym end) (subst (λ k. LastEnd t s from k w.end) (sym place)
        (last_miss s t p means from w.place h.positions h.runs h.start m h.starts enters false (get_or s w.place 0) w.end
        (λ b. absurd (omega (arith, b, within))) (e.miss some small) h.last));
  }

  pub stood_hit : match_flag ≤ v → w'.state ≡ v - match_flag → w'.end ≡ Some w.place → Stood p tb' s t from w'
  stood_hit large state end = record {
    start = false;
    positions = behind p h.positions h.start m false (get_or s w.place 0);
    state = subst (λ u. IsState p tb' u false (behind p h.positions h.start m false (get_or s w.place 0))) (sym state) (e.leads large);
    starts = subst (Starts false) (sym place) (started w.place);
    runs = subst (λ k. Runs s t from k (behind p h.positions h.start m false (get_or s w.place 0))) (sym place)
        (next s t p means from w.place h.positions h.runs h.start m h.starts enters (get_or s w.place 0) refl within);
    last = subst (λ b. LastEnd t s from w'.place b) (sym end) (subst (λ k. LastEnd t s from k (Some w.place)) (sym place)
        (last_hit s t p means from w.place h.positions h.runs h.start m h.starts enters false (get_or s w.place 0)
        (λ b. absurd (false≢true b)) (e.hit large)));
  }

-- the entry of a state
table_steps : (p : Pattern) (tb : Table) (m : Bool) → IsTable p tb → AreTransitions p tb m (if m then tb.unanchored.items else tb.anchored.items)
table_steps p tb true h = h.unanchored
table_steps p tb false h = h.anchored

pub entry_of : (p : Pattern) (tb : Table) (m : Bool) → IsTable p tb → (v : ℕ) (st : Bool) (cs : List Bool) → IsState p tb v st cs → (x : ℕ) → x < byte_count → IsEntry p tb st m cs x (get_or (if m then tb.unanchored.items else tb.anchored.items) (v + x) 0)
entry_of p tb m h v st cs k x lt =
    let transitions = if m then tb.unanchored.items else tb.anchored.items in
    let d = state_number v in
    subst (λ l. IsEntry p tb st m l x (get_or transitions (v + x) 0)) k.positions
    (subst (λ b. IsEntry p tb b m (positions_at p tb.rows.items d) x (get_or transitions (v + x) 0)) (sym k.start)
    (subst (λ u. IsEntry p tb (nat_eq d 0) m (positions_at p tb.rows.items d) x (get_or transitions (u + x) 0)) (sym k.named)
    ((table_steps p tb m h).entries d x k.known lt)))

pub known_of : (p : Pattern) (tb : Table) (v : ℕ) (st : Bool) (cs : List Bool) → IsState p tb v st cs → IsKnown tb v
known_of p tb v st cs h = record { number = state_number v; known = h.known; named = h.named }

pub known_dead : (p : Pattern) (tb : Table) → IsTable p tb → IsKnown tb dead_state
known_dead p tb h = record { number = 1; known = omega (arith, h.least); named = refl }

-- the dead state stays where a byte leads to it
pub still_of : (p : Pattern) (old tb : Table) (m : Bool) (x v : ℕ) → IsTable p old → IsTable p tb → ((st : Bool) (cs : List Bool) → IsState p old dead_state st cs → IsEntry p tb st m cs x v) → v ≡ dead_state → IsStillAt p m x
still_of p old tb m x v before after entry dead =
    let e = entry false (dead_positions p) (state_at p old dead_state false (dead_positions p) 1 (omega (arith, before.least)) refl refl before.idle) in
    let one : state_number v ≡ 1 = omega (arith, dead) in
    let goes = e.goes (omega (arith, dead)) (omega (arith, dead)) in
    (e.miss (omega (arith, dead)) (omega (arith, dead)), sym goes.positions ∙ ap (positions_at p tb.rows.items) one ∙ after.idle)

-- the state at a place before which nothing has begun
pub known_first : (p : Pattern) (tb : Table) → IsTable p tb → (place v : ℕ) → v ≡ first_state place → IsKnown tb v
known_first p tb h place v e = subst (IsKnown tb) (sym e) (by_start (nat_eq place 0))
  where
    by_start : (b : Bool) → IsKnown tb (if b then start_state else dead_state)
    by_start true = record { number = 0; known = omega (arith, h.least); named = refl }
    by_start false = record { number = 1; known = omega (arith, h.least); named = refl }

-- within the table
pub entry_within : (p : Pattern) (tb : Table) (m : Bool) → IsTable p tb → (v x : ℕ) → IsKnown tb v → x < stride → v + x < length (if m then tb.unanchored.items else tb.anchored.items)
entry_within p tb m h v x k lt = let room = (table_steps p tb m h).room in omega (arith, room, lt, k.named, k.known, h.most)

pub stood_same : (p : Pattern) (tb : Table) (s : List ℕ) (t : Tree) (from : ℕ → Bool) (w w' : Cursor) → Stood p tb s t from w → w'.place ≡ w.place → w'.state ≡ w.state → w'.end ≡ w.end → Stood p tb s t from w'
stood_same p tb s t from w w' h place state end = record {
  start = h.start;
  positions = h.positions;
  state = subst (λ u. IsState p tb u h.start h.positions) (sym state) h.state;
  starts = subst (Starts h.start) (sym place) h.starts;
  runs = subst (λ k. Runs s t from k h.positions) (sym place) h.runs;
  last = subst (λ b. LastEnd t s from w'.place b) (sym end) (subst (λ k. LastEnd t s from k w.end) (sym place) h.last);
}

-- where nothing begins, the state stays
module _ (p : Pattern) (tb : Table) (table : IsTable p tb) (s : List ℕ) (bytes : (k : ℕ) → get_or s k 0 < byte_count) (t : Tree) (means : Means t p) (from : ℕ → Bool) (m : Bool) where
  idle_entry : (w : Cursor) (h : Stood p tb s t from w) → w.state ≡ dead_state → IsStillAt p m (get_or s w.place 0) → IsEntry p tb h.start m h.positions (get_or s w.place 0) dead_state
  idle_entry w h e stays =
      let one : state_number w.state ≡ 1 = omega (arith, e) in
      let start : h.start ≡ false = h.state.start ∙ ap (λ d. nat_eq d 0) one in
      let positions = sym h.state.positions ∙ ap (positions_at p tb.rows.items) one ∙ table.idle in
      let x = get_or s w.place 0 in
      record {
        miss = λ _ _. ap (λ b. leaves p h.positions b m false x) start ∙ ap (λ l. leaves p l false m false x) positions ∙ stays.0;
        goes = λ _ _. subst (IsState p tb dead_state false) (sym (ap (λ b. behind p h.positions b m false x) start ∙ ap (λ l. behind p l false m false x) positions ∙ stays.1))
            (state_named p tb 1 (dead_positions p) (omega arith) (omega (arith, table.least)) table.idle);
        hit = λ a. absurd (omega (arith, a));
        leads = λ a. absurd (omega (arith, a));
      }

  pub stood_idle : (n : ℕ) (w w' : Cursor) → Stood p tb s t from w → w.state ≡ dead_state → w'.state ≡ dead_state → w'.end ≡ w.end → w'.place ≡ w.place + n → w'.place ≤ length s → Enters from m w.place w'.place → ((k : ℕ) → w.place ≤ k → k < w'.place → IsStillAt p m (get_or s k 0)) → Stood p tb s t from w'
  stood_idle zero w w' h e e' end place within enters still =
      stood_same p tb s t from w w' h (omega (arith, place)) (omega (arith, e, e')) end
  stood_idle (suc n) w w' h e e' end place within enters still =
      let further : Cursor = record { place = w.place + 1; state = dead_state; end = w.end } in
      let here = idle_entry w h e (still w.place (omega arith) (omega (arith, place))) in
      let one = stood_miss p tb tb s t means from w h m (enters w.place (omega arith) (omega (arith, place))) (omega (arith, place, within)) dead_state here further refl (omega arith) (omega arith) refl refl in
      stood_idle n further w' one refl e' end (omega (arith, place)) within (λ k ge lt. enters k (omega (arith, ge)) lt) (λ k ge lt. still k (omega (arith, ge)) lt)

  pub stood_still : IsStill p m → (n : ℕ) (w w' : Cursor) → Stood p tb s t from w → w.state ≡ dead_state → w'.state ≡ dead_state → w'.end ≡ w.end → w'.place ≡ w.place + n → w'.place ≤ length s → Enters from m w.place w'.place → Stood p tb s t from w'
  stood_still still n w w' h e e' end place within enters =
      stood_idle n w w' h e e' end place within enters (λ k _ _. still (get_or s k 0) (bytes k))

-- at the first place nothing has begun
pub stood_begin : (p : Pattern) (tb : Table) → IsTable p tb → (s : List ℕ) (t : Tree) → Means t p → (from : ℕ → Bool) (w : Cursor) → ((i : ℕ) → from i ≡ true → w.place ≤ i) → w.state ≡ first_state w.place → w.end ≡ None → Stood p tb s t from w
stood_begin p tb table s t means from w begun state end = record {
  start = nat_eq w.place 0;
  positions = dead_positions p;
  state = subst (λ v. IsState p tb v (nat_eq w.place 0) (dead_positions p)) (sym state) (at_first (nat_eq w.place 0));
  starts = at_start w.place;
  runs = runs_fresh s t p means from w.place (dead_positions p) refl (λ i f lt. let le = begun i f in omega (arith, le, lt));
  last = subst (LastEnd t s from w.place) (sym end) (λ i j f lt m. let le = begun i f in let up = match_le s t i j m in omega (arith, le, lt, up));
}
  where
    at_first : (b : Bool) → IsState p tb (if b then start_state else dead_state) b (dead_positions p)
    at_first true = state_at p tb start_state true (dead_positions p) 0 (omega (arith, table.least)) refl refl table.start
    at_first false = state_at p tb dead_state false (dead_positions p) 1 (omega (arith, table.least)) refl refl table.idle

zeros : (n i : ℕ) → get_or (replicate n false) i false ≡ false
zeros n i =
    ⊎_elim (λ below. get_or-replicate n i false false below)
    (λ ge. get_or-eq_default (replicate n false) false {n = i} (subst (λ m. m ≤ i) (sym (length-replicate n false)) ge))
    (cases_lt i n)

-- where a byte leads nowhere, no match begins before it
pub none_at : (p : Pattern) (tb : Table) → IsTable p tb → (s : List ℕ) (t : Tree) → Means t p → (k : ℕ) → k < length s → get_or s k 0 < byte_count → get_or tb.unanchored.items (first_state k + get_or s k 0) 0 ≡ dead_state → (j : ℕ) → Matches s t k j → ⊥
none_at p tb table s t means k within byte e j mt =
    let only = between k k in
    let here : true ≡ only k = sym (and_from _ _ (le-leb k k (omega arith)) (le-leb k k (omega arith))) in
    let w : Cursor = record { place = k; state = first_state k; end = None } in
    let w' : Cursor = record { place = k + 1; state = dead_state; end = None } in
    let h = stood_begin p tb table s t means only w (λ i f. leb-true k i (and_parts _ _ f).0) refl refl in
    let entry = subst (IsEntry p tb h.start true h.positions (get_or s k 0)) e (entry_of p tb true table w.state h.start h.positions h.state (get_or s k 0) byte) in
    let h' = stood_miss p tb tb s t means only w h true here within dead_state entry w' refl (omega arith) (omega arith) refl refl in
    let idle = sym h'.state.positions ∙ table.idle in
    let up = match_le s t k j mt in
    last_idle s t p means only (k + 1) h'.positions h'.runs (j + 1) None (λ n. ap (λ l. get_or l n false) idle ∙ zeros (count_of p) n)
    (λ i f. let le = leb-true i k (and_parts _ _ f).1 in omega (arith, le)) h'.last k j (sym here) (omega arith) mt

-- where nothing that began goes on and none has ended, no match has begun
pub none_to_dead : (p : Pattern) (tb : Table) → IsTable p tb → (s : List ℕ) (t : Tree) → Means t p → (low : ℕ) (w : Cursor) → low < w.place → Stood p tb s t (between low (w.place - 1)) w → w.state ≡ dead_state → w.end ≡ None → NoneFrom t s low w.place
none_to_dead p tb table s t means low w lt h dead none i j ge below mt =
    let last = w.place - 1 in
    let one : state_number w.state ≡ 1 = omega (arith, dead) in
    let idle = sym h.state.positions ∙ ap (positions_at p tb.rows.items) one ∙ table.idle in
    let up = match_le s t i j mt in
    last_idle s t p means (between low last) w.place h.positions h.runs (j + 1) None (λ n. ap (λ l. get_or l n false) idle ∙ zeros (count_of p) n)
    (λ i f. let le = leb-true i last (and_parts _ _ f).1 in omega (arith, le, lt))
    (subst (LastEnd t s (between low last) w.place) none h.last) i j (sym (between_in low last i ge (omega (arith, below)))) (omega arith) mt

-- where nothing that began goes on, none ends further on
pub stood_idle_none : (p : Pattern) (tb : Table) → IsTable p tb → (s : List ℕ) (t : Tree) → Means t p → (from : ℕ → Bool) (w : Cursor) → Stood p tb s t from w → w.state ≡ dead_state → NoneGoesOn s t from w.place
stood_idle_none p tb table s t means from w h dead =
    let one : state_number w.state ≡ 1 = omega (arith, dead) in
    let idle = sym h.state.positions ∙ ap (positions_at p tb.rows.items) one ∙ table.idle in
    idle_none s t p means from w.place h.positions h.runs (λ n. ap (λ l. get_or l n false) idle ∙ zeros (count_of p) n)

-- what is known of the ends where a cursor stops
module _ (first : Bool) (p : Pattern) (tb : Table) (s : List ℕ) (t : Tree) (means : Means t p) (low high : ℕ) (w : Cursor) (h : Stood p tb s t (between low high) w) where
  pub end_first : first ≡ true → IsSome w.end → EndsBetween first t s low high w.end
  end_first f e = (w.place, h.last, λ _. (f, e))

  -- nothing that began goes on, and nothing more begins
  pub end_idle : IsTable p tb → high < w.place → w.state ≡ dead_state → EndsBetween first t s low high w.end
  end_idle table past dead =
      let one : state_number w.state ≡ 1 = omega (arith, dead) in
      let idle = sym h.state.positions ∙ ap (positions_at p tb.rows.items) one ∙ table.idle in (
        length s + 1,
        last_idle s t p means (between low high) w.place h.positions h.runs (length s + 1) w.end (λ n. ap (λ l. get_or l n false) idle ∙ zeros (count_of p) n)
            (λ i f. let le = leb-true i high (and_parts _ _ f).1 in omega (arith, le, past)) h.last,
        (λ le. absurd (omega (arith, le))),
      )

  module _ (end : w.place ≡ length s) (m left : Bool) (enters : m ≡ between low high w.place) (left_is : left ≡ leaves p h.positions h.start m true 0) where
    pub end_hit : left ≡ true → EndsBetween first t s low high (Some (length s))
    end_hit f =
        let l = last_hit s t p means (between low high) w.place h.positions h.runs h.start m h.starts enters true 0 (λ _. end) (sym left_is ∙ f) in
        (w.place + 1, subst (λ e. LastEnd t s (between low high) (w.place + 1) (Some e)) end l, λ le. absurd (omega (arith, le, end)))

    pub end_miss : left ≡ false → EndsBetween first t s low high w.end
    end_miss f =
        let l = last_miss s t p means (between low high) w.place h.positions h.runs h.start m h.starts enters true 0 w.end (λ _. refl) (sym left_is ∙ f) h.last in
        (w.place + 1, l, λ le. absurd (omega (arith, le, end)))
