-- A run over a text with more behind it, from a state that is ahead, does with the text what a run over the text alone does,
-- and is at the rest then; or a sum leaves the range.
use Rattle.std.proofs.Common.{◌≡◌, ◌⊎◌, inl, inr, ℕ, zero, suc, ◌+◌, ◌<◌, ◌^◌, true, false, List, [], ◌∷◌, ◌++◌, length, Result, Ok, Err, refl, sym, ap, ap₂, ◌∙◌, subst, codes, bytes_eq, arith, append_assoc}
use Rattle.std.specs.Prelude.{slice_get, unwrap_or}
use Rattle.std.proofs.lemmas.Bool.{cases_Bool}
use Rattle.awk_value.specs.Arrays.{Array}
use Rattle.awk_value.specs.Values.{str_of}
use Rattle.awk_text.specs.definitions.Separators.{Rule}
use Rattle.awk_record.specs.definitions.Cut.{AtEnd, Cut, Found, NoMore, BrokenOff, TooLong, cut_of}
use Rattle.awk_record.specs.Record.{RecordPair, split_by}
use Rattle.awk_kinds.specs.Names.{has_name}
use Rattle.awk_semantics.specs.declared.halt.Halt.{Halt}
use Rattle.awk_semantics.specs.declared.halt.Halt.TheVariants as halt
use Rattle.awk_semantics.specs.definitions.State.{RecordOfMain, Effect, Requested, State, Out, Run, go_on, ◌>>=◌, lift}
use Rattle.awk_semantics.specs.definitions.Primitives.{number_in}
use Rattle.awk_semantics.specs.definitions.Items.{each_record}
use Rattle.awk_pieces.specs.definitions.Pieceable.{tells_apart}
use Rattle.awk_pieces.proofs.Alike.{Outer, Names, Values, state_on as plain_state}
use Rattle.awk_pieces.proofs.LinesJoined.{newline, Joins, JoinedCut, joined_cut, no_more}
use Rattle.awk_pieces.proofs.RecordsFound.{reading, over, Counts, counted, rule_for, record_found, record_starved, record_over, record_broken, record_long}
use Rattle.awk_pieces.proofs.RecordsPassed.{EndsWell}
use Rattle.awk_merging.specs.definitions.Sums.{Sum, is_taken}
use Rattle.awk_merging.specs.definitions.LawOfStates.{Tables, AreReadings, state_reading}
use Rattle.awk_merging.specs.definitions.Mergeable.{is_sum, is_variable_sum, is_derived, knows}
use Rattle.awk_merging.specs.definitions.LawOfRules.{ahead, IsNoArray, IsAhead, KeepsOthers}
use Rattle.awk_merging.proofs.Gathering.{same_key, not_both, apart_turned}
use Rattle.awk_merging.proofs.Cells.{apart_from_taken}
use Rattle.awk_merging.proofs.ProgramSums.{AreProper, AreApart}
use Rattle.awk_merging.proofs.OwnVariables.{AreOwn, not_own, known_other}
use Rattle.awk_merging.proofs.SecondRun.{same_held}
use Rattle.awk_merging.proofs.Sound.{no_variable_sum, not_sum}
use Rattle.awk_merging.proofs.States.{readings_append}
use Rattle.awk_merging.proofs.Summing.{known_here, Lost, go_lost, Same, Told, Alike}
use Rattle.awk_merging.proofs.AdditionsAlike.{known_special}

-- a name that a rule may read isn't counted
pub uncounted : (name z : List ℕ) → tells_apart name ≡ true → tells_apart z ≡ false → bytes_eq name z ≡ false
uncounted name z tells not = elim (cases_Bool (bytes_eq name z)) [
  | inl same ↦ absurd (not_both (tells_apart z) (ap tells_apart (sym (same_key name z same)) ∙ tells) not)
  | inr other ↦ other
]

-- what is no sum, no variable of the record and not counted keeps its value
abbrev pub Steady : Names → List Sum → Values → Values → Type 0
Steady own xs v w = (z : List ℕ) → is_variable_sum xs z ≡ false → own z ≡ false → bytes_eq (codes "NR") z ≡ false → bytes_eq (codes "FNR") z ≡ false → w z ≡ v z

-- states with the same arrays, and the same variables as far as sums and rules go, are ahead as well
no_array_as : (s t : State) (x : List ℕ) → s.array_names ≡ t.array_names → s.arrays ≡ t.arrays → IsNoArray s x → IsNoArray t x
no_array_as s t x names arrays none = (ap (λ (l : List (List ℕ)). has_name l x) (sym names) ∙ none.0, ap₂ (λ (l : List Array) (n : List (List ℕ)). unwrap_or (slice_get l (number_in n x)) []) (sym arrays) (sym names) ∙ none.1)

pub ahead_as : (own : Names) (xs : List Sum) (before : Tables) (s t s' t' : State) → s.array_names ≡ s'.array_names → s.arrays ≡ s'.arrays → t.array_names ≡ t'.array_names → t.arrays ≡ t'.arrays →
    ((z : List ℕ) → is_taken z ≡ false → s'.variables z ≡ s.variables z) → ((z : List ℕ) → is_taken z ≡ false → t'.variables z ≡ t.variables z) →
    ((z : List ℕ) → knows own xs z ≡ true → t'.variables z ≡ s'.variables z) → IsAhead own xs before s t → IsAhead own xs before s' t'
ahead_as own xs before s t s' t' names arrays names' arrays' keeps keeps' agrees are = record {
  tables = are.tables;
  here = same_held s s' names arrays keeps xs are.tables are.here;
  there = same_held t t' names' arrays' keeps' xs (ahead before are.tables) are.there;
  sound = are.sound;
  sound_there = are.sound_there;
  variables = agrees;
  arrays = λ x no_sum here. (no_array_as s s' x names arrays (are.arrays x no_sum here).0, no_array_as t t' x names' arrays' (are.arrays x no_sum here).1);
}

abbrev behind : {A : Type 0} → List Effect → Out A → Out A
behind effects x = record { result = x.result; state = x.state; effects = effects ++ x.effects }

behind_lost : (effects : List Effect) (y : Out (Unit {0})) → Lost y → Lost (behind effects y)
behind_lost effects y lost = lost

module _ (own : Names) (xs : List Sum) (owned : AreOwn own xs) (proper : AreProper xs) (distinct : AreApart xs) (before : Tables) (base base' : State) (action action' : Run (Unit {0})) (alike : (o p : Outer) → Alike own xs owned before base base' o p (knows own xs) (knows own xs) action action') where
  abbrev at : List ℕ → RecordPair → List Array → Values → ℕ → State
  at = state_reading base

  abbrev at' : List ℕ → RecordPair → List Array → Values → ℕ → State
  at' = state_reading base'

  -- what a run over a text has done, and what is left of a run over more
  pub record Passed (more : List ℕ) (v w : Values) (e d : ℕ) (here there : Out (Unit {0})) : Type 0 where
    pub pair : RecordPair
    pub pair' : RecordPair
    pub arrays : List Array
    pub arrays' : List Array
    pub mine : Values
    pub theirs : Values
    pub left : ℕ
    pub turns : ℕ
    pub count : ℕ
    pub are_ahead : IsAhead own xs before (plain_state (record base { arrays = arrays }) (over base.outside) pair mine left) (at' more pair' arrays' theirs (left + d))
    pub keeps : Steady own xs v mine
    pub keeps' : Steady own xs w theirs
    pub counts : Counts theirs count
    pub fits : count + length more < 2 ^ 127
    pub ends : here.result ≡ Ok tt
    pub is_here : here.state ≡ plain_state (record base { arrays = arrays }) (over base.outside) pair mine left
    pub reads_here : AreReadings here.effects
    pub effects : List Effect
    pub reads : AreReadings effects
    pub is_there : there ≡ behind effects (each_record (suc turns + e) action' (at' more pair' arrays' theirs (left + d)))

  abbrev pub Either : (more : List ℕ) (v w : Values) (e d : ℕ) (here there : Out (Unit {0})) → Type 0
  Either more v w e d here there = Passed more v w e d here there ⊎ Lost there

  steady_first : (v w u : Values) (i : ℕ) → w ≡ counted v i → Steady own xs w u → Steady own xs v u
  steady_first v w u i is steady z no_sum not nr fnr = steady z no_sum not nr fnr ∙ (ap (λ (f : Values). f z) is ∙ rw (fnr, nr) refl)

  passed_behind : (more : List ℕ) (v w u z : Values) (e d : ℕ) (es fs : List Effect) (here there : Out (Unit {0})) → ((p : Values) → Steady own xs u p → Steady own xs v p) → ((p : Values) → Steady own xs z p → Steady own xs w p) → AreReadings es → AreReadings fs →
      Passed more u z e d here there → Passed more v w e d (behind es here) (behind fs there)
  passed_behind more v w u z e d es fs here there keeps keeps' reads_es reads_fs p = record {
    pair = p.pair;
    pair' = p.pair';
    arrays = p.arrays;
    arrays' = p.arrays';
    mine = p.mine;
    theirs = p.theirs;
    left = p.left;
    turns = p.turns;
    count = p.count;
    are_ahead = p.are_ahead;
    keeps = keeps p.mine p.keeps;
    keeps' = keeps' p.theirs p.keeps';
    counts = p.counts;
    fits = p.fits;
    ends = p.ends;
    is_here = p.is_here;
    reads_here = readings_append es here.effects reads_es p.reads_here;
    effects = fs ++ p.effects;
    reads = readings_append fs p.effects reads_fs p.reads;
    is_there =
        let rest = each_record (suc p.turns + e) action' (at' more p.pair' p.arrays' p.theirs (p.left + d)) in
        ap (behind fs) p.is_there ∙ ap (λ (l : List Effect). record { result = rest.result; state = rest.state; effects = l }) (sym (append_assoc fs p.effects rest.effects));
  }

  either_behind : (more : List ℕ) (v w u z : Values) (e d : ℕ) (es fs : List Effect) (here there : Out (Unit {0})) → ((p : Values) → Steady own xs u p → Steady own xs v p) → ((p : Values) → Steady own xs z p → Steady own xs w p) → AreReadings es → AreReadings fs →
      Either more u z e d here there → Either more v w e d (behind es here) (behind fs there)
  either_behind more v w u z e d es fs here there keeps keeps' reads_es reads_fs (inl p) = inl (passed_behind more v w u z e d es fs here there keeps keeps' reads_es reads_fs p)
  either_behind more v w u z e d es fs here there keeps keeps' reads_es reads_fs (inr lost) = inr lost

  -- the rules keep what the records are found and counted by
  counts_on : (v u : Values) (i : ℕ) → Counts v i → KeepsOthers own xs (counted v (suc i)) u → Counts u (suc i)
  counts_on v u i counts keeps = record {
    rs = ap str_of (keeps (codes "RS") (no_variable_sum xs (codes "RS") (not_sum xs (codes "RS") proper refl)) (not_own own xs owned (codes "RS") refl)) ∙ counts.rs;
    argc = keeps (codes "ARGC") (no_variable_sum xs (codes "ARGC") (not_sum xs (codes "ARGC") proper refl)) (not_own own xs owned (codes "ARGC") refl) ∙ counts.argc;
    nr = keeps (codes "NR") (no_variable_sum xs (codes "NR") (not_sum xs (codes "NR") proper refl)) (not_own own xs owned (codes "NR") refl);
    fnr = keeps (codes "FNR") (no_variable_sum xs (codes "FNR") (not_sum xs (codes "FNR") proper refl)) (not_own own xs owned (codes "FNR") refl);
  }

  -- after so many records
  abbrev PassesFrom : ℕ → Type 0
  PassesFrom n = (e : ℕ) (bytes more : List ℕ) (c c' : RecordPair) (arrays arrays' : List Array) (v w : Values) (k d i j : ℕ) → IsAhead own xs before (at bytes c arrays v k) (at' (bytes ++ more) c' arrays' w (k + d)) → Counts v i → Counts w j → Joins bytes more →
      i + length bytes < 2 ^ 127 → j + (length bytes + length more) < 2 ^ 127 → EndsWell (each_record n action (at bytes c arrays v k)).result →
      Either more v w e d (each_record n action (at bytes c arrays v k)) (each_record (n + e) action' (at' (bytes ++ more) c' arrays' w (k + d)))

  -- the record's action, and then the others
  acted_on : (n e : ℕ) (left more : List ℕ) (v w : Values) (k d i j : ℕ) (t : State) (effects : List Effect) (there : Out (Unit {0})) → PassesFrom n → Counts v i → Counts w j → Joins left more →
      suc i + length left < 2 ^ 127 → suc j + (length left + length more) < 2 ^ 127 →
      Same own xs owned before base base' (reading base.outside left) (reading base'.outside (left ++ more)) (knows own xs) (counted v (suc i)) (counted w (suc j)) k d (record { result = Ok (tt {0}); state = t; effects = effects }) there →
      EndsWell (go_on (Ok (tt {0})) t effects (λ _. each_record n action)).result →
      Either more v w e d (go_on (Ok (tt {0})) t effects (λ _. each_record n action)) (go_on there.result there.state there.effects (λ _. each_record (n + e) action'))
  unfolding go_on
  acted_on n e left more v w k d i j t effects there rest counts counts' joins fits fits' c = rw (c.is_here, c.silent, c.is_there) (λ well.
      either_behind more v w c.here c.there e d [] [] (each_record n action (at left c.pair c.arrays c.here c.left)) (each_record (n + e) action' (at' (left ++ more) c.pair c.arrays' c.there (c.left + d)))
      (λ p steady. steady_first v (counted v (suc i)) p (suc i) refl (λ z no_sum not nr fnr. steady z no_sum not nr fnr ∙ c.keeps z no_sum not))
      (λ p steady. steady_first w (counted w (suc j)) p (suc j) refl (λ z no_sum not nr fnr. steady z no_sum not nr fnr ∙ c.keeps' z no_sum not)) tt tt
      (rest e left more c.pair c.pair c.arrays c.arrays' c.here c.there c.left d (suc i) (suc j) c.are_ahead (counts_on v c.here i counts c.keeps) (counts_on w c.there j counts' c.keeps') joins fits fits' well))

  acted : (n e : ℕ) (left more : List ℕ) (v w : Values) (k d i j : ℕ) (r : Result (Unit {0}) Halt) (t : State) (effects : List Effect) (there : Out (Unit {0})) → PassesFrom n → Counts v i → Counts w j → Joins left more →
      suc i + length left < 2 ^ 127 → suc j + (length left + length more) < 2 ^ 127 →
      Told own xs owned before base base' (reading base.outside left) (reading base'.outside (left ++ more)) (knows own xs) (counted v (suc i)) (counted w (suc j)) k d r (record { result = r; state = t; effects = effects }) there →
      EndsWell (go_on r t effects (λ _. each_record n action)).result →
      Either more v w e d (go_on r t effects (λ _. each_record n action)) (go_on there.result there.state there.effects (λ _. each_record (n + e) action'))
  unfolding go_on
  acted n e left more v w k d i j r t effects there rest counts counts' joins fits fits' (inr lost) well = inr (go_lost there (λ _. each_record (n + e) action') lost)
  acted n e left more v w k d i j (Ok u) t effects there rest counts counts' joins fits fits' (inl c) well = acted_on n e left more v w k d i j t effects there rest counts counts' joins fits fits' c well
  acted n e left more v w k d i j (Err (halt.Fault f)) t effects there rest counts counts' joins fits fits' (inl c) well = absurd well
  acted n e left more v w k d i j (Err halt.OutOfSteps) t effects there rest counts counts' joins fits fits' (inl c) well = absurd well
  acted n e left more v w k d i j (Err halt.Next) t effects there rest counts counts' joins fits fits' (inl c) well = absurd well
  acted n e left more v w k d i j (Err halt.Exit) t effects there rest counts counts' joins fits fits' (inl c) well = absurd c

  rule_same : (v w : Values) → w (codes "FS") ≡ v (codes "FS") → str_of (v (codes "RS")) ≡ newline → str_of (w (codes "RS")) ≡ newline → rule_for w ≡ rule_for v
  rule_same v w fs rs rs' = rw (fs, rs, rs') refl

  -- a record is at hand, and counted
  counted_same : (v : Values) (i : ℕ) (z : List ℕ) → bytes_eq (codes "NR") z ≡ false → bytes_eq (codes "FNR") z ≡ false → counted v i z ≡ v z
  counted_same v i z nr fnr = rw (fnr, nr) refl

  counted_sums : (v : Values) (i : ℕ) (z : List ℕ) → is_taken z ≡ false → counted v i z ≡ v z
  counted_sums v i z free = counted_same v i z (apart_turned z (codes "NR") (apart_from_taken z (codes "NR") free refl)) (apart_turned z (codes "FNR") (apart_from_taken z (codes "FNR") free refl))

  counted_known : (v : Values) (i : ℕ) (z : List ℕ) → knows own xs z ≡ true → counted v i z ≡ v z
  counted_known v i z known =
      let not = known_here (tells_apart z) (is_derived z) (is_sum xs z) (known_other own xs z known) in
      counted_same v i z (uncounted (codes "NR") z refl not) (uncounted (codes "FNR") z refl not)

  begun_ahead : (bytes bytes' left left' : List ℕ) (c c' first : RecordPair) (arrays arrays' : List Array) (v w : Values) (k l k' l' i j : ℕ) → IsAhead own xs before (at bytes c arrays v k) (at' bytes' c' arrays' w l) →
      IsAhead own xs before (at left first arrays (counted v i) k') (at' left' first arrays' (counted w j) l')
  begun_ahead bytes bytes' left left' c c' first arrays arrays' v w k l k' l' i j are =
      ahead_as own xs before (at bytes c arrays v k) (at' bytes' c' arrays' w l) (at left first arrays (counted v i) k') (at' left' first arrays' (counted w j) l') refl refl refl refl
      (counted_sums v i) (counted_sums w j) (λ z known. counted_known w j z known ∙ are.variables z known ∙ sym (counted_known v i z known)) are

  -- a record that is found
  found_passed : (n e : ℕ) (bytes more first left : List ℕ) (c c' : RecordPair) (arrays arrays' : List Array) (v w : Values) (k d i j : ℕ) → PassesFrom n → IsAhead own xs before (at bytes c arrays v (suc k)) (at' (bytes ++ more) c' arrays' w (suc (k + d))) → Counts v i → Counts w j →
      i + length bytes < 2 ^ 127 → j + (length bytes + length more) < 2 ^ 127 → cut_of newline bytes AtEnd ≡ Found first left → JoinedCut bytes more first left →
      EndsWell (each_record (suc n) action (at bytes c arrays v (suc k))).result →
      Either more v w e d (each_record (suc n) action (at bytes c arrays v (suc k))) (each_record (suc (n + e)) action' (at' (bytes ++ more) c' arrays' w (suc (k + d))))
  unfolding ◌>>=◌
  found_passed n e bytes more first left c c' arrays arrays' v w k d i j rest are counts counts' fits fits' cut joined =
      let shorter : length left < length bytes = joined.shorter in
      let here : State = record base { arrays = arrays } in
      let there : State = record base' { arrays = arrays' } in
      let begun : State = at left (split_by (rule_for v) first) arrays (counted v (suc i)) k in
      let begun' : State = at' (left ++ more) (split_by (rule_for v) first) arrays' (counted w (suc j)) (k + d) in
      let begun_are = begun_ahead bytes (bytes ++ more) left (left ++ more) c c' (split_by (rule_for v) first) arrays arrays' v w (suc k) (suc (k + d)) k (k + d) (suc i) (suc j) are in
      let fs = are.variables (codes "FS") (known_special own xs owned proper distinct (codes "FS") refl refl refl refl) in
      let found = record_found there base'.outside (bytes ++ more) c' w j counts' (n + e) action' (k + d) first (left ++ more) (omega arith) joined.found
      ∙ ap (λ (rule : Rule). behind (Requested (RecordOfMain newline (bytes ++ more)) ∷ []) ((action' >>= λ _. each_record (n + e) action') (at' (left ++ more) (split_by rule first) arrays' (counted w (suc j)) (k + d)))) (rule_same v w fs counts.rs counts'.rs) in
      rw (record_found here base.outside bytes c v i counts n action k first left (omega arith) cut, found) (λ well.
      either_behind more v w v w e d (Requested (RecordOfMain newline bytes) ∷ []) (Requested (RecordOfMain newline (bytes ++ more)) ∷ []) _ _ (λ p steady. steady) (λ p steady. steady) tt tt
      (acted n e left more v w k d i j (action begun).result (action begun).state (action begun).effects (action' begun') rest counts counts' joined.joins (omega arith) (omega arith)
      ((alike (reading base.outside left) (reading base'.outside (left ++ more))).told (split_by (rule_for v) first) arrays arrays' (counted v (suc i)) (counted w (suc j)) k d
      begun_are begun_are.variables) well))

  none_passed : (n e : ℕ) (bytes more : List ℕ) (c c' : RecordPair) (arrays arrays' : List Array) (v w : Values) (k d i j : ℕ) → IsAhead own xs before (at bytes c arrays v k) (at' (bytes ++ more) c' arrays' w (k + d)) → Counts v i → Counts w j →
      j + (length bytes + length more) < 2 ^ 127 → cut_of newline bytes AtEnd ≡ NoMore → bytes ≡ [] →
      Passed more v w e d (each_record (suc n) action (at bytes c arrays v k)) (each_record (suc n + e) action' (at' (bytes ++ more) c' arrays' w (k + d)))
  none_passed n e bytes more c c' arrays arrays' v w k d i j are counts counts' fits cut none =
      let is = record_over (record base { arrays = arrays }) base.outside bytes c v i counts n action k cut in
      rw is (record {
        pair = c;
        pair' = c';
        arrays = arrays;
        arrays' = arrays';
        mine = v;
        theirs = w;
        left = k;
        turns = n;
        count = j;
        are_ahead = ahead_as own xs before (at bytes c arrays v k) (at' (bytes ++ more) c' arrays' w (k + d)) (plain_state (record base { arrays = arrays }) (over base.outside) c v k) (at' more c' arrays' w (k + d)) refl refl refl refl
            (λ z free. refl) (λ z free. refl) are.variables are;
        keeps = λ z no_sum not nr fnr. refl;
        keeps' = λ z no_sum not nr fnr. refl;
        counts = counts';
        fits = omega arith;
        ends = refl;
        is_here = refl;
        reads_here = tt;
        effects = [];
        reads = tt;
        is_there = ap (λ (l : List ℕ). each_record (suc n + e) action' (at' (l ++ more) c' arrays' w (k + d))) none;
      })

  by_steps : (n e : ℕ) (bytes more first left : List ℕ) (c c' : RecordPair) (arrays arrays' : List Array) (v w : Values) (k d i j : ℕ) → PassesFrom n → IsAhead own xs before (at bytes c arrays v k) (at' (bytes ++ more) c' arrays' w (k + d)) → Counts v i → Counts w j →
      i + length bytes < 2 ^ 127 → j + (length bytes + length more) < 2 ^ 127 → cut_of newline bytes AtEnd ≡ Found first left → JoinedCut bytes more first left →
      EndsWell (each_record (suc n) action (at bytes c arrays v k)).result →
      Either more v w e d (each_record (suc n) action (at bytes c arrays v k)) (each_record (suc n + e) action' (at' (bytes ++ more) c' arrays' w (k + d)))
  by_steps n e bytes more first left c c' arrays arrays' v w zero d i j rest are counts counts' fits fits' cut joined well =
      absurd (subst EndsWell (record_starved (record base { arrays = arrays }) base.outside bytes c v i counts n action first left cut) well)
  by_steps n e bytes more first left c c' arrays arrays' v w (suc k) d i j rest are counts counts' fits fits' cut joined well =
      let turns : suc n + e ≡ suc (n + e) = omega arith in
      let steps : suc k + d ≡ suc (k + d) = omega arith in
      let are_then = subst (λ (l : ℕ). IsAhead own xs before (at bytes c arrays v (suc k)) (at' (bytes ++ more) c' arrays' w l)) steps are in
      rw (turns, steps) (found_passed n e bytes more first left c c' arrays arrays' v w k d i j rest are_then counts counts' fits fits' cut joined well)

  by_cut : (cut : Cut) (n e : ℕ) (bytes more : List ℕ) (c c' : RecordPair) (arrays arrays' : List Array) (v w : Values) (k d i j : ℕ) → PassesFrom n → IsAhead own xs before (at bytes c arrays v k) (at' (bytes ++ more) c' arrays' w (k + d)) → Counts v i → Counts w j → Joins bytes more →
      i + length bytes < 2 ^ 127 → j + (length bytes + length more) < 2 ^ 127 → cut_of newline bytes AtEnd ≡ cut →
      EndsWell (each_record (suc n) action (at bytes c arrays v k)).result →
      Either more v w e d (each_record (suc n) action (at bytes c arrays v k)) (each_record (suc n + e) action' (at' (bytes ++ more) c' arrays' w (k + d)))
  by_cut (Found first left) n e bytes more c c' arrays arrays' v w k d i j rest are counts counts' joins fits fits' cut well =
      by_steps n e bytes more first left c c' arrays arrays' v w k d i j rest are counts counts' fits fits' cut (joined_cut bytes more first left joins cut) well
  by_cut NoMore n e bytes more c c' arrays arrays' v w k d i j rest are counts counts' joins fits fits' cut well = inl (none_passed n e bytes more c c' arrays arrays' v w k d i j are counts counts' fits' cut (no_more bytes cut))
  by_cut BrokenOff n e bytes more c c' arrays arrays' v w k d i j rest are counts counts' joins fits fits' cut well =
      absurd (subst EndsWell (record_broken (record base { arrays = arrays }) base.outside bytes c v i counts n action k cut) well)
  by_cut TooLong n e bytes more c c' arrays arrays' v w k d i j rest are counts counts' joins fits fits' cut well =
      absurd (subst EndsWell (record_long (record base { arrays = arrays }) base.outside bytes c v i counts n action k cut) well)

  pub passed : (n : ℕ) → PassesFrom n
  unfolding each_record lift
  passed zero e bytes more c c' arrays arrays' v w k d i j are counts counts' joins fits fits' well = absurd well
  passed (suc n) e bytes more c c' arrays arrays' v w k d i j are counts counts' joins fits fits' well = by_cut (cut_of newline bytes AtEnd) n e bytes more c c' arrays arrays' v w k d i j (passed n) are counts counts' joins fits fits' refl well
