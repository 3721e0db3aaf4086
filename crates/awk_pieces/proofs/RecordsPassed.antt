-- A run over a text with more behind it does with the text what a run over the text alone does, and is at the rest then.
use Rattle.std.proofs.Common.{◌≡◌, ℕ, zero, suc, ◌+◌, ◌<◌, ◌^◌, Bool, true, false, List, [], ◌∷◌, ◌++◌, length, ◌||◌, Result, Ok, Err, refl, sym, ap, ◌∙◌, subst, codes, bytes_eq, arith, append_assoc, ap₂}
use Rattle.awk_value.specs.Values.{str_of}
use Rattle.awk_value.specs.Arrays.{Array}
use Rattle.awk_text.specs.definitions.Separators.{Rule}
use Rattle.awk_record.specs.definitions.Cut.{AtEnd, Cut, Found, NoMore, BrokenOff, TooLong, cut_of}
use Rattle.awk_record.specs.definitions.Record.{RecordPair, split_by}
use Rattle.awk_streams.specs.Oracle.{Oracle}
use Rattle.awk_semantics.specs.declared.halt.Halt.{Halt}
use Rattle.awk_semantics.specs.declared.halt.Halt.TheVariants as halt
use Rattle.awk_semantics.specs.definitions.State.{RecordOfMain, Effect, Printed, Requested, State, Out, Run, go_on, ◌>>=◌, lift}
use Rattle.awk_semantics.specs.definitions.Items.{each_record}
use Rattle.awk_pieces.proofs.Alike.{Names, Sorts, Values, state_on, with_arrays, AgreeOn, Agrees, agrees_on, Moves, ArePlain, AreShown, plain_append, behind, Same, Covers, Alike}
use Rattle.awk_pieces.proofs.LinesJoined.{newline, Joins, JoinedCut, joined_cut, no_more}
use Rattle.awk_pieces.proofs.RecordsFound.{reading, over, Counts, counted, rule_for, record_found, record_starved, record_over, record_broken, record_long}

-- what is printed to standard output
abbrev pub printed : List Effect → List ℕ
printed [] = []
printed (Printed n bytes ∷ effects) = bytes ++ printed effects
printed (Requested what ∷ effects) = printed effects

pub printed_append : (xs ys : List Effect) → printed (xs ++ ys) ≡ printed xs ++ printed ys
printed_append [] ys = refl
printed_append (Printed n bytes ∷ xs) ys = ap (λ l. bytes ++ l) (printed_append xs ys) ∙ sym (append_assoc bytes (printed xs) (printed ys))
printed_append (Requested what ∷ xs) ys = printed_append xs ys

-- a run that ends its records, or exits
abbrev pub EndsWell : Result (Unit {0}) Halt → Type 0
EndsWell (Ok u) = Unit {0}
EndsWell (Err halt.Exit) = Unit {0}
EndsWell (Err h) = ⊥

-- what both sides own: the rules don't change the variables that the records are found and counted by, and both sides
-- agree on all that a record and its fields are cut by
pub record Owns (sorts : Sorts) : Type 0 where
  pub prints : sorts.shows ≡ true
  pub rs : sorts.kept (codes "RS") ≡ true
  pub argc : sorts.kept (codes "ARGC") ≡ true
  pub nr : sorts.kept (codes "NR") ≡ true
  pub fnr : sorts.kept (codes "FNR") ≡ true
  pub shared_fs : sorts.shared (codes "FS") ≡ true
  pub shared_kept : (x : List ℕ) → sorts.shared x ≡ true → sorts.kept x ≡ true
  pub no_nr : (x : List ℕ) → sorts.shared x ≡ true → bytes_eq (codes "NR") x ≡ false
  pub no_fnr : (x : List ℕ) → sorts.shared x ≡ true → bytes_eq (codes "FNR") x ≡ false
  -- no array of the record has the name of a counter, or of what the rules change or both sides share
  pub array_kept : (x : List ℕ) → sorts.arrays x ≡ true → sorts.kept x ≡ true
  pub array_no_nr : (x : List ℕ) → sorts.arrays x ≡ true → bytes_eq (codes "NR") x ≡ false
  pub array_no_fnr : (x : List ℕ) → sorts.arrays x ≡ true → bytes_eq (codes "FNR") x ≡ false
  pub shared_fixed : (x : List ℕ) → (sorts.shared x || sorts.own x) ≡ true → sorts.arrays x ≡ false

module _ (sorts : Sorts) (owns : Owns sorts) (base : State) (x y : Oracle) (action action' : Run (Unit {0})) (alike : Alike sorts sorts.shared sorts.shared base base action action') where
  -- what a run over a text has done, and what is left of a run over more
  pub record Passed (more : List ℕ) (arrays' : List Array) (w : Values) (e d : ℕ) (here there : Out (Unit {0})) : Type 0 where
    pub pair : RecordPair
    pub other : RecordPair
    pub left : ℕ
    pub turns : ℕ
    pub count : ℕ
    pub mine : Values
    pub theirs : Values
    pub arrays_mine : List Array
    pub arrays_theirs : List Array
    pub agrees : Agrees sorts sorts.shared base base arrays_mine arrays_theirs mine theirs
    pub keeps : Agrees sorts sorts.shared base base arrays' arrays_theirs w theirs
    pub counts : Counts theirs count
    pub fits : count + length more < 2 ^ 127
    pub ends : here.result ≡ Ok tt
    pub is_here : here.state ≡ state_on (with_arrays base arrays_mine) (over x) pair mine left
    pub effects : List Effect
    pub plain_here : ArePlain here.effects
    pub plain : ArePlain effects
    pub shows : printed effects ≡ printed here.effects
    pub is_there : there ≡ behind effects (each_record (suc turns + e) action' (state_on (with_arrays base arrays_theirs) (reading y more) other theirs (left + d)))

  counted_on : (names : Names) (v w : Values) (i j : ℕ) → ((x : List ℕ) → names x ≡ true → bytes_eq (codes "NR") x ≡ false) → ((x : List ℕ) → names x ≡ true → bytes_eq (codes "FNR") x ≡ false) → AgreeOn names v w → AgreeOn names (counted v i) (counted w j)
  counted_on names v w i j no_nr no_fnr agrees z is = rw (no_fnr z is, no_nr z is) (agrees z is)

  counted_agrees : (arrays arrays' : List Array) (v w : Values) (i j : ℕ) → Agrees sorts sorts.shared base base arrays arrays' v w → Agrees sorts sorts.shared base base arrays arrays' (counted v i) (counted w j)
  counted_agrees arrays arrays' v w i j agrees = record {
    values = counted_on sorts.shared v w i j owns.no_nr owns.no_fnr agrees.values;
    unset = counted_on sorts.arrays v w i j owns.array_no_nr owns.array_no_fnr agrees.unset;
    kinds = agrees.kinds;
    sized = agrees.sized;
  }

  counted_kept : (names : Names) (v : Values) (i : ℕ) → ((x : List ℕ) → names x ≡ true → bytes_eq (codes "NR") x ≡ false) → ((x : List ℕ) → names x ≡ true → bytes_eq (codes "FNR") x ≡ false) → AgreeOn names v (counted v i)
  counted_kept names v i no_nr no_fnr z is = rw (no_fnr z is, no_nr z is) refl

  -- what was counted, and then changed by rules alone, agrees with what was before
  moved_agrees : (arrays moved : List Array) (v u : Values) (i : ℕ) → ((x : List ℕ) → sorts.arrays x ≡ true → length arrays ≡ length base.array_names) → AgreeOn sorts.kept (counted v i) u → Moves sorts base arrays moved → Agrees sorts sorts.shared base base arrays moved v u
  moved_agrees arrays moved v u i sized keeps moves = record {
    values = λ z is. keeps z (owns.shared_kept z is) ∙ counted_kept sorts.shared v i owns.no_nr owns.no_fnr z is;
    unset = λ z is. keeps z (owns.array_kept z is) ∙ counted_kept sorts.arrays v i owns.array_no_nr owns.array_no_fnr z is;
    kinds = λ z is. record { named = refl; same = moves.keeps z (owns.shared_fixed z is) };
    sized = λ z is. record { names = refl; here = sized z is; there = moves.size ∙ sized z is };
  }

  counts_on : (v u : Values) (i : ℕ) → Counts v i → AgreeOn sorts.kept (counted v (suc i)) u → Counts u (suc i)
  counts_on v u i counts keeps = record {
    rs = ap str_of (keeps (codes "RS") owns.rs) ∙ counts.rs;
    argc = keeps (codes "ARGC") owns.argc ∙ counts.argc;
    nr = keeps (codes "NR") owns.nr;
    fnr = keeps (codes "FNR") owns.fnr;
  }

  passed_behind : (more : List ℕ) (arrays' between : List Array) (w z : Values) (e d : ℕ) (xs ys : List Effect) (here there : Out (Unit {0})) → Agrees sorts sorts.shared base base arrays' between w z → ArePlain xs → ArePlain ys → printed ys ≡ printed xs → Passed more between z e d here there → Passed more arrays' w e d (behind xs here) (behind ys there)
  passed_behind more arrays' between w z e d xs ys here there keeps plain_xs plain_ys shows p = record {
    pair = p.pair;
    other = p.other;
    left = p.left;
    turns = p.turns;
    count = p.count;
    mine = p.mine;
    theirs = p.theirs;
    arrays_mine = p.arrays_mine;
    arrays_theirs = p.arrays_theirs;
    agrees = p.agrees;
    keeps = agrees_on base base sorts sorts.shared arrays' between p.arrays_theirs w z p.theirs keeps p.keeps;
    counts = p.counts;
    fits = p.fits;
    ends = p.ends;
    is_here = p.is_here;
    effects = ys ++ p.effects;
    plain_here = plain_append xs here.effects plain_xs p.plain_here;
    plain = plain_append ys p.effects plain_ys p.plain;
    shows = printed_append ys p.effects ∙ ap₂ (λ (a b : List ℕ). a ++ b) shows p.shows ∙ sym (printed_append xs here.effects);
    is_there =
        let rest = each_record (suc p.turns + e) action' (state_on (with_arrays base p.arrays_theirs) (reading y more) p.other p.theirs (p.left + d)) in
        ap (behind ys) p.is_there ∙ ap (λ (l : List Effect). record { result = rest.result; state = rest.state; effects = l }) (sym (append_assoc ys p.effects rest.effects));
  }

  -- what doesn't change agrees with itself
  stays : (arrays : List Array) (v : Values) → ((x : List ℕ) → sorts.arrays x ≡ true → length arrays ≡ length base.array_names) → Agrees sorts sorts.shared base base arrays arrays v v
  stays arrays v sized = record {
    values = λ z is. refl;
    unset = λ z is. refl;
    kinds = λ z is. record { named = refl; same = refl };
    sized = λ z is. record { names = refl; here = sized z is; there = sized z is };
  }

  -- after so many records
  abbrev PassesFrom : ℕ → Type 0
  PassesFrom n = (e : ℕ) (bytes more : List ℕ) (c c' : RecordPair) (arrays arrays' : List Array) (v w : Values) (k d i j : ℕ) → Agrees sorts sorts.shared base base arrays arrays' v w → Counts v i → Counts w j → Joins bytes more →
      i + length bytes < 2 ^ 127 → j + (length bytes + length more) < 2 ^ 127 → EndsWell (each_record n action (state_on (with_arrays base arrays) (reading x bytes) c v k)).result →
      Passed more arrays' w e d (each_record n action (state_on (with_arrays base arrays) (reading x bytes) c v k)) (each_record (n + e) action' (state_on (with_arrays base arrays') (reading y (bytes ++ more)) c' w (k + d)))

  -- as many arrays as names, where there are arrays of the record
  abbrev IsSized : List Array → Type 0
  IsSized arrays = (z : List ℕ) → sorts.arrays z ≡ true → length arrays ≡ length base.array_names

  plain_of : (effects : List Effect) → AreShown sorts.shows effects → ArePlain effects
  plain_of effects shown = subst (λ (b : Bool). AreShown b effects) owns.prints shown

  -- the record's action, and then the others
  acted_on : (n e : ℕ) (left more : List ℕ) (arrays arrays' : List Array) (v w : Values) (k d i j : ℕ) (t : State) (effects : List Effect) (there : Out (Unit {0})) → PassesFrom n → Counts v i → Counts w j → Joins left more →
      suc i + length left < 2 ^ 127 → suc j + (length left + length more) < 2 ^ 127 → IsSized arrays' →
      Same sorts sorts.shared base base (reading x left) (reading y (left ++ more)) arrays arrays' (counted v (suc i)) (counted w (suc j)) k d (record { result = Ok (tt {0}); state = t; effects = effects }) there →
      EndsWell (go_on (Ok (tt {0})) t effects (λ _. each_record n action)).result →
      Passed more arrays' w e d (go_on (Ok (tt {0})) t effects (λ _. each_record n action)) (go_on there.result there.state there.effects (λ _. each_record (n + e) action'))
  unfolding go_on
  acted_on n e left more arrays arrays' v w k d i j t effects there rest counts counts' joins fits fits' sized c = rw (c.is_here, c.is_there) (λ well.
      passed_behind more arrays' c.arrays_there w c.there e d effects effects (each_record n action (state_on (with_arrays base c.arrays_here) (reading x left) c.pair c.here c.left)) (each_record (n + e) action' (state_on (with_arrays base c.arrays_there) (reading y (left ++ more)) c.pair c.there (c.left + d)))
      (moved_agrees arrays' c.arrays_there w c.there (suc j) sized c.keeps_there c.moves_there) (plain_of effects c.plain) (plain_of effects c.plain) refl
      (rest e left more c.pair c.pair c.arrays_here c.arrays_there c.here c.there c.left d (suc i) (suc j) c.agrees (counts_on v c.here i counts c.keeps) (counts_on w c.there j counts' c.keeps_there) joins fits fits' well))

  acted : (n e : ℕ) (left more : List ℕ) (arrays arrays' : List Array) (v w : Values) (k d i j : ℕ) (r : Result (Unit {0}) Halt) (t : State) (effects : List Effect) (there : Out (Unit {0})) → PassesFrom n → Counts v i → Counts w j → Joins left more →
      suc i + length left < 2 ^ 127 → suc j + (length left + length more) < 2 ^ 127 → IsSized arrays' →
      Covers sorts sorts.shared base base (reading x left) (reading y (left ++ more)) arrays arrays' (counted v (suc i)) (counted w (suc j)) k d r (record { result = r; state = t; effects = effects }) there →
      EndsWell (go_on r t effects (λ _. each_record n action)).result →
      Passed more arrays' w e d (go_on r t effects (λ _. each_record n action)) (go_on there.result there.state there.effects (λ _. each_record (n + e) action'))
  unfolding go_on
  acted n e left more arrays arrays' v w k d i j (Ok u) t effects there rest counts counts' joins fits fits' sized c well = acted_on n e left more arrays arrays' v w k d i j t effects there rest counts counts' joins fits fits' sized c well
  acted n e left more arrays arrays' v w k d i j (Err (halt.Fault f)) t effects there rest counts counts' joins fits fits' sized c well = absurd well
  acted n e left more arrays arrays' v w k d i j (Err halt.OutOfSteps) t effects there rest counts counts' joins fits fits' sized c well = absurd well
  acted n e left more arrays arrays' v w k d i j (Err halt.Next) t effects there rest counts counts' joins fits fits' sized c well = absurd well
  acted n e left more arrays arrays' v w k d i j (Err halt.Exit) t effects there rest counts counts' joins fits fits' sized c well = absurd c

  rule_same : (v w : Values) → AgreeOn sorts.shared v w → str_of (v (codes "RS")) ≡ newline → str_of (w (codes "RS")) ≡ newline → rule_for w ≡ rule_for v
  rule_same v w agrees rs rs' = rw (agrees (codes "FS") owns.shared_fs, rs, rs') refl

  -- a record that is found
  found_passed : (n e : ℕ) (bytes more first left : List ℕ) (c c' : RecordPair) (arrays arrays' : List Array) (v w : Values) (k d i j : ℕ) → PassesFrom n → Agrees sorts sorts.shared base base arrays arrays' v w → Counts v i → Counts w j →
      i + length bytes < 2 ^ 127 → j + (length bytes + length more) < 2 ^ 127 → cut_of newline bytes AtEnd ≡ Found first left → JoinedCut bytes more first left →
      EndsWell (each_record (suc n) action (state_on (with_arrays base arrays) (reading x bytes) c v (suc k))).result →
      Passed more arrays' w e d (each_record (suc n) action (state_on (with_arrays base arrays) (reading x bytes) c v (suc k))) (each_record (suc (n + e)) action' (state_on (with_arrays base arrays') (reading y (bytes ++ more)) c' w (suc (k + d))))
  unfolding ◌>>=◌
  found_passed n e bytes more first left c c' arrays arrays' v w k d i j rest agrees counts counts' fits fits' cut joined =
      let shorter : length left < length bytes = joined.shorter in
      let begun : State = state_on (with_arrays base arrays) (reading x left) (split_by (rule_for v) first) (counted v (suc i)) k in
      let begun' : State = state_on (with_arrays base arrays') (reading y (left ++ more)) (split_by (rule_for v) first) (counted w (suc j)) (k + d) in
      let found = record_found (with_arrays base arrays') y (bytes ++ more) c' w j counts' (n + e) action' (k + d) first (left ++ more) (omega arith) joined.found
      ∙ ap (λ (rule : Rule). behind (Requested (RecordOfMain newline (bytes ++ more)) ∷ []) ((action' >>= λ _. each_record (n + e) action') (state_on (with_arrays base arrays') (reading y (left ++ more)) (split_by rule first) (counted w (suc j)) (k + d)))) (rule_same v w agrees.values counts.rs counts'.rs) in
      rw (record_found (with_arrays base arrays) x bytes c v i counts n action k first left (omega arith) cut, found) (λ well.
      passed_behind more arrays' arrays' w w e d (Requested (RecordOfMain newline bytes) ∷ []) (Requested (RecordOfMain newline (bytes ++ more)) ∷ []) _ _ (stays arrays' w (λ z is. (agrees.sized z is).there)) (tt, tt) (tt, tt) refl
      (acted n e left more arrays arrays' v w k d i j (action begun).result (action begun).state (action begun).effects (action' begun') rest counts counts' joined.joins (omega arith) (omega arith) (λ z is. (agrees.sized z is).there)
      (alike.covers (reading x left) (reading y (left ++ more)) (split_by (rule_for v) first) arrays arrays' (counted v (suc i)) (counted w (suc j)) k d (counted_agrees arrays arrays' v w (suc i) (suc j) agrees)) well))

  none_passed : (n e : ℕ) (bytes more : List ℕ) (c c' : RecordPair) (arrays arrays' : List Array) (v w : Values) (k d i j : ℕ) → Agrees sorts sorts.shared base base arrays arrays' v w → Counts v i → Counts w j →
      j + (length bytes + length more) < 2 ^ 127 → cut_of newline bytes AtEnd ≡ NoMore → bytes ≡ [] →
      Passed more arrays' w e d (each_record (suc n) action (state_on (with_arrays base arrays) (reading x bytes) c v k)) (each_record (suc n + e) action' (state_on (with_arrays base arrays') (reading y (bytes ++ more)) c' w (k + d)))
  none_passed n e bytes more c c' arrays arrays' v w k d i j agrees counts counts' fits cut none =
      let is = record_over (with_arrays base arrays) x bytes c v i counts n action k cut in
      rw is (record {
        pair = c;
        other = c';
        left = k;
        turns = n;
        count = j;
        mine = v;
        theirs = w;
        arrays_mine = arrays;
        arrays_theirs = arrays';
        agrees = agrees;
        keeps = stays arrays' w (λ z is. (agrees.sized z is).there);
        counts = counts';
        fits = omega arith;
        ends = refl;
        is_here = refl;
        effects = [];
        plain_here = (tt, tt);
        plain = tt;
        shows = refl;
        is_there = ap (λ (l : List ℕ). each_record (suc n + e) action' (state_on (with_arrays base arrays') (reading y (l ++ more)) c' w (k + d))) none;
      })

  by_steps : (n e : ℕ) (bytes more first left : List ℕ) (c c' : RecordPair) (arrays arrays' : List Array) (v w : Values) (k d i j : ℕ) → PassesFrom n → Agrees sorts sorts.shared base base arrays arrays' v w → Counts v i → Counts w j →
      i + length bytes < 2 ^ 127 → j + (length bytes + length more) < 2 ^ 127 → cut_of newline bytes AtEnd ≡ Found first left → JoinedCut bytes more first left →
      EndsWell (each_record (suc n) action (state_on (with_arrays base arrays) (reading x bytes) c v k)).result →
      Passed more arrays' w e d (each_record (suc n) action (state_on (with_arrays base arrays) (reading x bytes) c v k)) (each_record (suc n + e) action' (state_on (with_arrays base arrays') (reading y (bytes ++ more)) c' w (k + d)))
  by_steps n e bytes more first left c c' arrays arrays' v w zero d i j rest agrees counts counts' fits fits' cut joined well = absurd (subst EndsWell (record_starved (with_arrays base arrays) x bytes c v i counts n action first left cut) well)
  by_steps n e bytes more first left c c' arrays arrays' v w (suc k) d i j rest agrees counts counts' fits fits' cut joined well =
      let turns : suc n + e ≡ suc (n + e) = omega arith in
      let steps : suc k + d ≡ suc (k + d) = omega arith in
      rw (turns, steps) (found_passed n e bytes more first left c c' arrays arrays' v w k d i j rest agrees counts counts' fits fits' cut joined well)

  by_cut : (cut : Cut) (n e : ℕ) (bytes more : List ℕ) (c c' : RecordPair) (arrays arrays' : List Array) (v w : Values) (k d i j : ℕ) → PassesFrom n → Agrees sorts sorts.shared base base arrays arrays' v w → Counts v i → Counts w j → Joins bytes more →
      i + length bytes < 2 ^ 127 → j + (length bytes + length more) < 2 ^ 127 → cut_of newline bytes AtEnd ≡ cut →
      EndsWell (each_record (suc n) action (state_on (with_arrays base arrays) (reading x bytes) c v k)).result →
      Passed more arrays' w e d (each_record (suc n) action (state_on (with_arrays base arrays) (reading x bytes) c v k)) (each_record (suc n + e) action' (state_on (with_arrays base arrays') (reading y (bytes ++ more)) c' w (k + d)))
  by_cut (Found first left) n e bytes more c c' arrays arrays' v w k d i j rest agrees counts counts' joins fits fits' cut well = by_steps n e bytes more first left c c' arrays arrays' v w k d i j rest agrees counts counts' fits fits' cut (joined_cut bytes more first left joins cut) well
  by_cut NoMore n e bytes more c c' arrays arrays' v w k d i j rest agrees counts counts' joins fits fits' cut well = none_passed n e bytes more c c' arrays arrays' v w k d i j agrees counts counts' fits' cut (no_more bytes cut)
  by_cut BrokenOff n e bytes more c c' arrays arrays' v w k d i j rest agrees counts counts' joins fits fits' cut well = absurd (subst EndsWell (record_broken (with_arrays base arrays) x bytes c v i counts n action k cut) well)
  by_cut TooLong n e bytes more c c' arrays arrays' v w k d i j rest agrees counts counts' joins fits fits' cut well = absurd (subst EndsWell (record_long (with_arrays base arrays) x bytes c v i counts n action k cut) well)

  pub passed : (n : ℕ) → PassesFrom n
  unfolding each_record lift
  passed zero e bytes more c c' arrays arrays' v w k d i j agrees counts counts' joins fits fits' well = absurd well
  passed (suc n) e bytes more c c' arrays arrays' v w k d i j agrees counts counts' joins fits fits' well = by_cut (cut_of newline bytes AtEnd) n e bytes more c c' arrays arrays' v w k d i j (passed n) agrees counts counts' joins fits fits' refl well
