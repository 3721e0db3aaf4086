-- The law of pieces.
use Rattle.std.proofs.Common.{◌≡◌, inl, inr, ℕ, zero, suc, ◌+◌, ◌-◌, ◌<◌, ◌≤◌, ◌^◌, Bool, true, false, not, ◌&&◌, ◌||◌, List, [], ◌∷◌, ◌++◌, length, Result, Ok, Err, pos, refl, sym, ap, ap₂, ◌∙◌, subst, codes, bytes_eq, arith, append_assoc, append-nil, le_trans, cond}
use Rattle.std.proofs.lemmas.Bool.{cases_Bool, or_cases}
use Rattle.std.proofs.lemmas.Slice.Eq.{bytes_eq-Decides}
use Rattle.awk_value.specs.declared.value.Value.{Value}
use Rattle.awk_value.specs.declared.value.Value.TheVariants as value
use Rattle.awk_value.specs.Values.{str_of}
use Rattle.awk_value.specs.Arrays.{Array}
use Rattle.awk_record.specs.definitions.Record.{RecordPair}
use Rattle.awk_kinds.specs.Names.{has_name}
use Rattle.awk_kinds.specs.Variables.{initial_value}
use Rattle.awk_kinds.specs.definitions.Kinds.{definitions_of}
use Rattle.awk_world.specs.declared.world.InputKind.TheVariants as input
use Rattle.awk_streams.specs.Oracle.{Oracle}
use Rattle.awk_streams.specs.Openings.{StandardOutput, StandardError, Opening}
use Rattle.awk_grammar.specs.Tree.{Item, Begin, End, Action, PatternAction, PatternOnly, Function}
use Rattle.awk_semantics.specs.declared.halt.Halt.{Halt}
use Rattle.awk_semantics.specs.declared.halt.Halt.TheVariants as halt
use Rattle.awk_semantics.specs.declared.outcome.Outcome.TheVariants.{Ended}
use Rattle.awk_semantics.specs.definitions.State.{OpensMain, RecordOfMain, Ends, Effect, Printed, Requested, State, Out, Run, go_on, ◌>>=◌, lift, ret, gives}
use Rattle.awk_semantics.specs.definitions.Primitives.{outside_calls}
use Rattle.awk_semantics.specs.definitions.Semantics.{Functions, choose}
use Rattle.awk_semantics.specs.definitions.Calls.{functions_within}
use Rattle.awk_semantics.specs.definitions.Items.{try_items, until_next, unless_exit, until_exit, each_record, run_records, has_rule, begin_items, end_item, end_items, run_before_end, run_items}
use Rattle.awk_semantics.specs.definitions.Meaning.{StartValues, first_arrays, start_state, assign_all, assign_and_run, with_end, run_program, outcome_of, outputs_from, outputs_after, meaning_of}
use Rattle.awk_pieces.specs.definitions.Pieceable.{tells_apart, leaves_records, is_setting_of_awk, names_set_in_rules, arrays_filled_in_rules, is_own, is_own_variable, is_own_array, is_mine, knows, is_rule_for_itself, are_rules_for_themselves, IsPieceable}
use Rattle.awk_pieces.specs.definitions.LawOfPieces.{EndsLine, Gives, StartsPlainly, Prints, LawOfPieces}
use Rattle.awk_pieces.proofs.Alike.{Outer, Names, Sorts, SetsApart, Values, state_on, with_arrays, AgreeOn, Agrees, agrees_on, ArePlain, plain_append, behind, Covers, Alike}
use Rattle.awk_pieces.proofs.ReadsAlike.{left_true, right_true}
use Rattle.awk_pieces.proofs.RulesAlike.{Knows, items_alike, until_alike}
use Rattle.awk_pieces.proofs.BeginsAlike.{all_names, first_sorts, first_agrees, set_apart, leaves_pre, own_names, assign_all_alike, begin_items_alike}
use Rattle.awk_pieces.proofs.LinesJoined.{newline}
use Rattle.awk_pieces.proofs.RecordsFound.{reading, over, Counts, record_over}
use Rattle.awk_pieces.proofs.FirstRecord.{unread, with_opening, opened, OpensLines, first_opens}
use Rattle.awk_pieces.proofs.RecordsPassed.{printed, printed_append, EndsWell, Owns, Passed, passed}

-- what is printed

abbrev printing : List ℕ → List Opening
printing bytes = record { output = StandardOutput; bytes = bytes } ∷ record { output = StandardError; bytes = [] } ∷ []

plain_prints : (bytes : List ℕ) (effects : List Effect) → ArePlain effects → outputs_from (printing bytes) effects ≡ printing (bytes ++ printed effects)
plain_prints bytes [] plain = ap printing (sym (append-nil bytes))
plain_prints bytes (Printed zero more ∷ effects) plain = plain_prints (bytes ++ more) effects plain.1 ∙ ap printing (append_assoc bytes more (printed effects))
plain_prints bytes (Printed (suc n) more ∷ effects) plain = absurd plain.0
plain_prints bytes (Requested (OpensMain kind name) ∷ effects) plain = plain_prints bytes effects plain.1
plain_prints bytes (Requested (RecordOfMain separator left) ∷ effects) plain = plain_prints bytes effects plain.1
plain_prints bytes (Requested Ends ∷ effects) plain = plain_prints bytes effects plain.1
plain_prints bytes (Requested what ∷ effects) plain = absurd plain.0

-- results

ends_first : (r : Result (Unit {0}) Halt) (t : State) (effects : List Effect) (f : Unit {0} → Run (Unit {0})) → EndsWell (go_on r t effects f).result → EndsWell r
unfolding go_on
ends_first (Ok u) t effects f well = tt
ends_first (Err h) t effects f well = well

exit_ends : (r : Result (Unit {0}) Halt) → EndsWell (unless_exit r) → EndsWell r
exit_ends (Ok u) well = tt
exit_ends (Err halt.Exit) well = tt
exit_ends (Err halt.Next) well = well
exit_ends (Err halt.OutOfSteps) well = well
exit_ends (Err (halt.Fault f)) well = well

outcome_ends : (r : Result (Unit {0}) Halt) (status : ℕ) → outcome_of r status ≡ Ended 0 → EndsWell r
outcome_ends (Ok u) status e = tt
outcome_ends (Err halt.Exit) status e = tt
outcome_ends (Err halt.Next) status e = absurd (cc)
outcome_ends (Err halt.OutOfSteps) status e = absurd (cc)
outcome_ends (Err (halt.Fault f)) status e = absurd (cc)

-- both sides go on from states that are alike
record Settled (base : State) (o p : Outer) (v : Values) (k d : ℕ) (x y : Out (Unit {0})) : Type 0 where
  pair : RecordPair
  left : ℕ
  here : Values
  there : Values
  agrees : AgreeOn all_names here there
  keeps : AgreeOn (first_sorts leaves_records).kept v here
  falls : left ≤ k
  is_here : x ≡ gives (tt {0}) (state_on base o pair here left)
  is_there : y ≡ gives (tt {0}) (state_on base p pair there (left + d))

settled : (base : State) (o p : Outer) (v w : Values) (k d : ℕ) (r : Result (Unit {0}) Halt) (t : State) (effects : List Effect) (y : Out (Unit {0})) → Covers (first_sorts leaves_records) all_names base base o p base.arrays base.arrays v w k d r (record { result = r; state = t; effects = effects }) y → EndsWell r → Settled base o p v k d (record { result = r; state = t; effects = effects }) y
settled base o p v w k d (Ok u) t effects y c well = record {
  pair = c.pair;
  left = c.left;
  here = c.here;
  there = c.there;
  agrees = c.agrees.values;
  keeps = c.keeps;
  falls = c.falls;
  is_here = rw (c.is_here, c.moves.fixed (λ x. refl), c.plain) refl;
  is_there = c.is_there ∙ ap₂ (λ (arrays : List Array) (l : List Effect). record { result = Ok (tt {0}); state = state_on (with_arrays base arrays) p c.pair c.there (c.left + d); effects = l }) (c.moves_there.fixed (λ x. refl)) c.plain;
}
settled base o p v w k d (Err halt.Exit) t effects y c well = absurd c
settled base o p v w k d (Err halt.Next) t effects y c well = absurd well
settled base o p v w k d (Err halt.OutOfSteps) t effects y c well = absurd well
settled base o p v w k d (Err (halt.Fault f)) t effects y c well = absurd well

-- the rules change no variable but those of the record, and no array but those of it; both sides know all but these and what tells
-- pieces apart
abbrev rule_sorts : (own arrays : Names) → Sorts
rule_sorts own arrays = record { kept = λ x. not (own x); shared = knows (is_mine own arrays); own = own; arrays = arrays; shows = true }

no_true : (b : Bool) → b ≡ true → not b ≡ true → ⊥
no_true true e f = cc
no_true false e f = cc

not_false : (b : Bool) → not b ≡ true → b ≡ false
not_false true e = cc
not_false false e = refl

none_of : (a b c : Bool) → not (a || (b || c)) ≡ true → (not a ≡ true) × ((b ≡ false) × (not c ≡ true))
none_of true b c e = absurd (cc)
none_of false true c e = absurd (cc)
none_of false false true e = absurd (cc)
none_of false false false e = (refl, (refl, refl))

all_false : (a b c : Bool) → a ≡ false → b ≡ false → c ≡ false → not (a || (b || c)) ≡ true
all_false true b c e f g = absurd (cc)
all_false false true c e f g = absurd (cc)
all_false false false true e f g = absurd (cc)
all_false false false false e f g = refl

third_false : (a b c : Bool) → c ≡ false → (a && (b && c)) ≡ false
third_false true true c e = e
third_false true false c e = refl
third_false false b c e = refl

last_true : (a b c : Bool) → c ≡ true → (a && not (b || c)) ≡ false
last_true true true c e = refl
last_true true false c e = rw e refl
last_true false b c e = refl

first_true : (a b : Bool) → a ≡ true → (not a && b) ≡ false
first_true true b e = refl
first_true false b e = absurd (cc)

-- of awk's own variables none is one of the record, and none has the name of an array of it
module _ (names arrays : List (List ℕ)) where
  abbrev own : Names
  own = is_own_variable names arrays

  abbrev filled : Names
  filled = is_own_array names arrays

  abbrev is_of_awk : Names
  is_of_awk x = tells_apart x || is_setting_of_awk x

  not_own : (x : List ℕ) → is_of_awk x ≡ true → own x ≡ false
  not_own x is = third_false (not (has_name arrays x)) (has_name names x) (not (is_of_awk x)) (ap not is)

  not_filled : (x : List ℕ) → is_of_awk x ≡ true → filled x ≡ false
  not_filled x is = last_true (has_name arrays x) (has_name names x) (is_of_awk x) is

  known_setting : (x : List ℕ) → tells_apart x ≡ false → is_of_awk x ≡ true → knows (is_mine own filled) x ≡ true
  known_setting x apart is = all_false (tells_apart x) (filled x) (own x) apart (not_filled x is) (not_own x is)

  -- no name is both
  filled_not_own : (x : List ℕ) → filled x ≡ true → own x ≡ false
  filled_not_own x is = first_true (has_name arrays x) (is_own names x) (left_true (has_name arrays x) _ is)

  own_not_filled : (x : List ℕ) → own x ≡ true → filled x ≡ false
  own_not_filled x is = rw (not_false (has_name arrays x) (left_true (not (has_name arrays x)) _ is)) refl

  abbrev apart_from : Names → Type 0
  apart_from sort = (name x : List ℕ) → tells_apart name ≡ true → sort x ≡ true → bytes_eq name x ≡ false

  shared_apart : apart_from (knows (is_mine own filled))
  shared_apart name x counter known = elim (cases_Bool (bytes_eq name x)) [
    | inl same ↦ absurd (no_true (tells_apart x) (ap tells_apart (sym ((bytes_eq-Decides name x).0 same)) ∙ counter) (none_of (tells_apart x) (filled x) (own x) known).0)
    | inr other ↦ other
  ]

  filled_apart : apart_from filled
  filled_apart name x counter is = elim (cases_Bool (bytes_eq name x)) [
    | inl same ↦
        let of_awk : is_of_awk x ≡ true = rw (sym (ap tells_apart ((bytes_eq-Decides name x).0 same)) ∙ counter) refl in
        let bad : true ≡ false = sym is ∙ not_filled x of_awk in absurd (cc)
    | inr other ↦ other
  ]

  shared_or_own : (x : List ℕ) → (knows (is_mine own filled) x || own x) ≡ true → filled x ≡ false
  shared_or_own x is = elim (or_cases (knows (is_mine own filled) x) (own x) is) [
    | inl known ↦ (none_of (tells_apart x) (filled x) (own x) known).1.0
    | inr mine ↦ own_not_filled x mine
  ]

  rules_own : Owns (rule_sorts own filled)
  rules_own = record {
    prints = refl;
    rs = ap not (not_own (codes "RS") refl);
    argc = ap not (not_own (codes "ARGC") refl);
    nr = ap not (not_own (codes "NR") refl);
    fnr = ap not (not_own (codes "FNR") refl);
    shared_fs = known_setting (codes "FS") refl refl;
    shared_kept = λ x e. (none_of (tells_apart x) (filled x) (own x) e).1.1;
    no_nr = λ x e. shared_apart (codes "NR") x refl e;
    no_fnr = λ x e. shared_apart (codes "FNR") x refl e;
    array_kept = λ x e. ap not (filled_not_own x e);
    array_no_nr = λ x e. filled_apart (codes "NR") x refl e;
    array_no_fnr = λ x e. filled_apart (codes "FNR") x refl e;
    shared_fixed = λ x e. shared_or_own x e;
  }

  rules_apart : SetsApart (rule_sorts own filled)
  rules_apart = record {
    count = λ x is. set_apart (λ z. not (is_of_awk z)) x (codes "NF") (right_true (has_name names x) _ (right_true (not (has_name arrays x)) _ is)) refl;
    kept = λ x z is kept. set_apart own x z is kept;
  }

  rules_know : Knows (rule_sorts own filled) (knows (is_mine own filled))
  rules_know = record {
    within = λ x e. e;
    owns = record {
      fs = known_setting (codes "FS") refl refl;
      rs = known_setting (codes "RS") refl refl;
      ofs = known_setting (codes "OFS") refl refl;
      ors = known_setting (codes "ORS") refl refl;
      subsep = known_setting (codes "SUBSEP") refl refl;
    };
  }

-- each name of an array has one as a run starts
as_many : (start : StartValues) (names : List (List ℕ)) → length (first_arrays start names) ≡ length names
as_many start [] = refl
as_many start (x ∷ xs) = ap (λ (n : ℕ). suc n) (as_many start xs)

module _ (items : List Item) (pieceable : IsPieceable items) (start : StartValues) (plainly : StartsPlainly start) (origin : Oracle) where
  abbrev base : State
  base = start_state items start origin 0

  abbrev first_values : Values
  first_values = initial_value (suc (length start.operands))

  abbrev first_pair : RecordPair
  first_pair = record { text = []; fields = [] }

  abbrev functions : ℕ → Functions
  functions limit = functions_within (definitions_of items) limit

  abbrev action : ℕ → Run (Unit {0})
  action limit = until_next (try_items (functions limit) 0 items)

  abbrev records : ℕ → Run (Unit {0})
  records limit = choose (has_rule items) (run_records (action limit)) (ret tt)

  abbrev whole : Oracle → ℕ → ℕ → Out (Unit {0})
  whole x limit steps = assign_and_run items limit start.pre (state_on base (unread x) first_pair first_values steps)

  -- what comes behind the records
  abbrev finish : ℕ → Out (Unit {0}) → Out (Unit {0})
  finish limit z = go_on (unless_exit z.result) (outside_calls z.state) z.effects (λ _. end_items (functions limit) items)

  abbrev names : List (List ℕ)
  names = names_set_in_rules items

  abbrev arrays : List (List ℕ)
  arrays = arrays_filled_in_rules items

  abbrev own_names_of : Names
  own_names_of = is_own_variable names arrays

  abbrev own_arrays_of : Names
  own_arrays_of = is_own_array names arrays

  abbrev sorts : Sorts
  sorts = rule_sorts own_names_of own_arrays_of

  -- the states of the records have these arrays
  abbrev open_with : List Array → State
  open_with filled = with_arrays (with_opening base) filled

  rules_alike : (f g : ℕ) → Alike sorts sorts.shared sorts.shared (with_opening base) (with_opening base) (action f) (action g)
  rules_alike f g = until_alike sorts (rules_apart names arrays) refl (with_opening base) (functions f) (functions g) sorts.shared (rules_know names arrays) (items_alike sorts (rules_apart names arrays) refl (with_opening base) (functions f) (functions g) sorts.shared (rules_know names arrays) 0 items pieceable)

  -- a run before its records
  record Prepared (x : Oracle) (limit steps : ℕ) : Type 0 where
    set_pair : RecordPair
    set_values : Values
    set_steps : ℕ
    pair : RecordPair
    values : Values
    left : ℕ
    assigned : assign_all start.pre (state_on base (unread x) first_pair first_values steps) ≡ gives (tt {0}) (state_on base (unread x) set_pair set_values set_steps)
    begun : begin_items (functions limit) items (state_on base (unread x) set_pair set_values set_steps) ≡ gives (tt {0}) (state_on base (unread x) pair values left)
    falls : left ≤ steps
    keeps : AgreeOn (first_sorts leaves_records).kept first_values values

  whole_is : (x : Oracle) (limit steps : ℕ) (p : Prepared x limit steps) → whole x limit steps ≡ finish limit (records limit (state_on base (unread x) p.pair p.values p.left))
  unfolding assign_and_run run_items run_before_end until_exit ◌>>=◌ go_on
  whole_is x limit steps p = rw (p.assigned, p.begun) refl

  -- two runs before their records
  record BothPrepared (x y : Oracle) (limit limit' steps d : ℕ) : Type 0 where
    mine : Prepared x limit steps
    theirs : Prepared y limit' (steps + d)
    same_pair : theirs.pair ≡ mine.pair
    agrees : AgreeOn all_names mine.values theirs.values
    same_left : theirs.left ≡ mine.left + d

  abbrev assigned_settled : (x y : Oracle) (steps d : ℕ) → Type 0
  assigned_settled x y steps d = Settled base (unread x) (unread y) first_values steps d (assign_all start.pre (state_on base (unread x) first_pair first_values steps)) (assign_all start.pre (state_on base (unread y) first_pair first_values (steps + d)))

  begun_prepared : (x y : Oracle) (limit limit' steps d : ℕ) (s : assigned_settled x y steps d) →
      Settled base (unread x) (unread y) s.here s.left d (begin_items (functions limit) items (state_on base (unread x) s.pair s.here s.left)) (begin_items (functions limit') items (state_on base (unread y) s.pair s.there (s.left + d))) →
      BothPrepared x y limit limit' steps d
  begun_prepared x y limit limit' steps d s b =
      let falls : b.left ≤ steps = le_trans b.falls s.falls in
      record {
        mine = record { set_pair = s.pair; set_values = s.here; set_steps = s.left; pair = b.pair; values = b.here; left = b.left; assigned = s.is_here; begun = b.is_here; falls = falls; keeps = λ z e. b.keeps z e ∙ s.keeps z e };
        theirs = record { set_pair = s.pair; set_values = s.there; set_steps = s.left + d; pair = b.pair; values = b.there; left = b.left + d; assigned = s.is_there; begun = b.is_there; falls = omega arith; keeps = λ z e. b.agrees z refl ∙ (b.keeps z e ∙ s.keeps z e) };
        same_pair = refl;
        agrees = b.agrees;
        same_left = refl;
      }

  whole_assigned : (x : Oracle) (limit steps : ℕ) → EndsWell (whole x limit steps).result → EndsWell (assign_all start.pre (state_on base (unread x) first_pair first_values steps)).result
  unfolding assign_and_run ◌>>=◌
  whole_assigned x limit steps well = ends_first _ _ _ _ well

  begins_well : (limit : ℕ) (s : State) → EndsWell (run_items (functions limit) items s).result → EndsWell (begin_items (functions limit) items s).result
  unfolding run_items run_before_end until_exit ◌>>=◌
  begins_well limit s well = ends_first _ _ _ _ (exit_ends _ (ends_first _ _ _ _ well))

  items_well : (x : Oracle) (limit steps : ℕ) (pair : RecordPair) (values : Values) (left : ℕ) → assign_all start.pre (state_on base (unread x) first_pair first_values steps) ≡ gives (tt {0}) (state_on base (unread x) pair values left) → EndsWell (whole x limit steps).result → EndsWell (run_items (functions limit) items (state_on base (unread x) pair values left)).result
  unfolding assign_and_run ◌>>=◌ go_on
  items_well x limit steps pair values left is = rw is (λ well. well)

  prepare : (x y : Oracle) (limit limit' steps d : ℕ) → EndsWell (whole x limit steps).result → BothPrepared x y limit limit' steps d
  prepare x y limit limit' steps d well =
      let first = settled base (unread x) (unread y) first_values first_values steps d _ _ _ _ ((assign_all_alike leaves_records (λ x is. is) base base (own_names base) start.pre (leaves_pre start.pre plainly.assignments)).covers (unread x) (unread y) first_pair base.arrays base.arrays first_values first_values steps d (first_agrees leaves_records base base first_values first_values (own_names base) (λ z e. refl))) (whole_assigned x limit steps well) in
      let begun = settled base (unread x) (unread y) first.here first.there first.left d _ _ _ _ ((begin_items_alike base base (own_names base) (functions limit) (functions limit') own_names_of own_arrays_of sorts.shared items pieceable).covers (unread x) (unread y) first.pair base.arrays base.arrays first.here first.there first.left d (first_agrees leaves_records base base first.here first.there (own_names base) first.agrees)) (begins_well limit _ (items_well x limit steps first.pair first.here first.left first.is_here well)) in
      begun_prepared x y limit limit' steps d first begun

  -- behind the records nothing is done
  end_item_is : (limit : ℕ) (x : Item) (s : State) → is_rule_for_itself own_names_of own_arrays_of sorts.shared x ≡ true → end_item (functions limit) x s ≡ gives (tt {0}) s
  unfolding end_item lift
  end_item_is limit (Begin block) s is = refl
  end_item_is limit (Action block) s is = refl
  end_item_is limit (PatternAction p block) s is = refl
  end_item_is limit (PatternOnly p) s is = refl
  end_item_is limit (End block) s is = absurd (cc)
  end_item_is limit (Function name parameters block) s is = absurd (cc)

  end_items_are : (limit : ℕ) (xs : List Item) (s : State) → are_rules_for_themselves own_names_of own_arrays_of sorts.shared xs ≡ true → end_items (functions limit) xs s ≡ gives (tt {0}) s
  unfolding end_items lift ◌>>=◌ go_on
  end_items_are limit [] s is = refl
  end_items_are limit (x ∷ xs) s is = rw (end_item_is limit x s (left_true (is_rule_for_itself own_names_of own_arrays_of sorts.shared x) _ is), end_items_are limit xs s (right_true (is_rule_for_itself own_names_of own_arrays_of sorts.shared x) _ is)) refl

  -- where the records end so
  finish_is : (limit : ℕ) (any : State) (o : Outer) (pair : RecordPair) (values : Values) (left : ℕ) (effects : List Effect) → finish limit (record { result = Ok (tt {0}); state = state_on any o pair values left; effects = effects }) ≡ record { result = Ok (tt {0}); state = state_on any o pair values left; effects = effects }
  unfolding go_on
  finish_is limit any o pair values left effects = rw (end_items_are limit items (state_on any o pair values left) pieceable, append-nil) refl

  -- a run that is this
  prints_of : (x : Oracle) (limit : ℕ) (any : State) (o : Outer) (pair : RecordPair) (values : Values) (left : ℕ) (effects : List Effect) → ArePlain effects → whole x limit limit ≡ record { result = Ok (tt {0}); state = state_on any o pair values left; effects = effects } → Prints (meaning_of items start x limit) (printed effects)
  unfolding run_program
  prints_of x limit any o pair values left effects plain is = record {
    ends = ap (λ (out : Out (Unit {0})). outcome_of (with_end out).result (with_end out).state.status) is;
    prints = ap (λ (out : Out (Unit {0})). outputs_after (with_end out).effects) is
        ∙ (plain_prints [] (effects ++ Requested Ends ∷ []) (plain_append effects (Requested Ends ∷ []) plain (tt, tt))
        ∙ ap printing (printed_append effects (Requested Ends ∷ []) ∙ append-nil (printed effects)));
  }

  ends_well : (x : Oracle) (limit : ℕ) → (meaning_of items start x limit).outcome ≡ Ended 0 → EndsWell (whole x limit limit).result
  unfolding run_program
  ends_well x limit e = outcome_ends (whole x limit limit).result (whole x limit limit).state.status e

  records_well : (x : Oracle) (limit : ℕ) (p : Prepared x limit limit) → EndsWell (whole x limit limit).result → EndsWell (records limit (state_on base (unread x) p.pair p.values p.left)).result
  records_well x limit p well = exit_ends _ (ends_first _ _ _ _ (subst (λ (out : Out (Unit {0})). EndsWell out.result) (whole_is x limit limit p) well))

  -- what a run starts its records with

  argc_is : first_values (codes "ARGC") ≡ value.Number (pos 1)
  argc_is = ap (λ (l : List (List ℕ)). value.Number (pos (suc (length l)))) plainly.operands

  opens_lines : (values : Values) → AgreeOn (first_sorts leaves_records).kept first_values values → OpensLines base values
  opens_lines values keeps = record {
    rs = ap str_of (keeps (codes "RS") refl);
    argc = keeps (codes "ARGC") refl ∙ argc_is;
    first = refl;
  }

  counts_none : (values : Values) → AgreeOn (first_sorts leaves_records).kept first_values values → Counts (opened values) 0
  counts_none values keeps = record {
    rs = ap str_of (keeps (codes "RS") refl);
    argc = keeps (codes "ARGC") refl ∙ argc_is;
    nr = keeps (codes "NR") refl;
    fnr = refl;
  }

  opened_on : (others : Names) (v w : Values) → AgreeOn all_names v w → AgreeOn others (opened v) (opened w)
  opened_on others v w agrees z is = ap (λ (b : Value). cond (bytes_eq (codes "FNR") z) (value.Number (pos 0)) (cond (bytes_eq (codes "FILENAME") z) (value.Input []) b)) (agrees z refl)

  opened_agrees : (v w : Values) → AgreeOn all_names v w → Agrees sorts sorts.shared (with_opening base) (with_opening base) base.arrays base.arrays (opened v) (opened w)
  opened_agrees v w agrees = record {
    values = opened_on sorts.shared v w agrees;
    unset = opened_on sorts.arrays v w agrees;
    kinds = λ z is. record { named = refl; same = refl };
    sized = λ z is. record { names = refl; here = as_many start base.array_names; there = as_many start base.array_names };
  }

  -- the records of a run over a text
  abbrev lines_with : List Array → Oracle → ℕ → List ℕ → RecordPair → Values → ℕ → ℕ → Out (Unit {0})
  lines_with filled x limit text pair values turns left = each_record turns (action limit) (state_on (open_with filled) (reading x text) pair values left)

  abbrev lines : Oracle → ℕ → List ℕ → RecordPair → Values → ℕ → ℕ → Out (Unit {0})
  lines x limit text pair values turns left = lines_with base.arrays x limit text pair values turns left

  records_are : has_rule items ≡ true → (x : Oracle) (limit : ℕ) (text : List ℕ) → Gives x text → (pair : RecordPair) (values : Values) (left : ℕ) → AgreeOn (first_sorts leaves_records).kept first_values values →
      records limit (state_on base (unread x) pair values left) ≡ behind (Requested (OpensMain input.Standard []) ∷ []) (lines x limit text pair (opened values) (suc left) left)
  unfolding run_records
  records_are has x limit text given pair values left keeps = rw has (first_opens base x text given pair values (opens_lines values keeps) left left (action limit))

  no_records : has_rule items ≡ false → (limit : ℕ) (s : State) → records limit s ≡ gives (tt {0}) s
  unfolding lift
  no_records has limit s = rw has refl

  -- where no records are read
  nothing_printed : has_rule items ≡ false → (x : Oracle) (limit : ℕ) → Prepared x limit limit → Prints (meaning_of items start x limit) []
  nothing_printed has x limit p = prints_of x limit base (unread x) p.pair p.values p.left [] tt (whole_is x limit limit p ∙ (ap (finish limit) (no_records has limit (state_on base (unread x) p.pair p.values p.left)) ∙ finish_is limit base (unread x) p.pair p.values p.left []))

  same_prepared : (x : Oracle) (limit steps steps' : ℕ) → steps ≡ steps' → (p : Prepared x limit steps) (q : Prepared x limit steps') → state_on base (unread x) p.pair p.values p.left ≡ state_on base (unread x) q.pair q.values q.left
  same_prepared x limit steps steps' e p q =
      let set : gives (tt {0}) (state_on base (unread x) p.set_pair p.set_values p.set_steps) ≡ gives (tt {0}) (state_on base (unread x) q.set_pair q.set_values q.set_steps)
      = sym p.assigned ∙ (ap (λ (k : ℕ). assign_all start.pre (state_on base (unread x) first_pair first_values k)) e ∙ q.assigned) in
      ap (λ (out : Out (Unit {0})). out.state) (sym p.begun ∙ (ap (λ (out : Out (Unit {0})). begin_items (functions limit) items out.state) set ∙ q.begun))

  at_steps : (x : Oracle) (limit steps : ℕ) → steps ≡ limit → Prepared x limit steps → Prepared x limit limit
  at_steps x limit steps e p = subst (λ (k : ℕ). Prepared x limit k) e p

  module _ (of_a of_b of_both : Oracle) (a b : List ℕ) (ends : EndsLine a) (gives_a : Gives of_a a) (gives_b : Gives of_b b) (gives_both : Gives of_both (a ++ b)) (m n limit da db : ℕ) (to_a : m + da ≡ limit) (to_b : n + db ≡ limit) (enough : m + n ≤ limit) (fits : length a + length b < 2 ^ 127)
      (p : BothPrepared of_a of_both m limit m da) (q : BothPrepared of_b of_both n limit n db) (has : has_rule items ≡ true) where
    -- the first text
    abbrev here_a : Out (Unit {0})
    here_a = lines of_a m a p.mine.pair (opened p.mine.values) (suc p.mine.left) p.mine.left

    abbrev there_a : ℕ → ℕ → Out (Unit {0})
    there_a turns left = lines of_both limit (a ++ b) p.theirs.pair (opened p.theirs.values) turns left

    abbrev PassedA : Type 0
    PassedA = Passed sorts (rules_own names arrays) (with_opening base) of_a of_both (action m) (action limit) (rules_alike m limit) b base.arrays (opened p.theirs.values) da da here_a (there_a (suc p.mine.left + da) (p.mine.left + da))

    pass_a : EndsWell here_a.result → PassedA
    pass_a well = passed sorts (rules_own names arrays) (with_opening base) of_a of_both (action m) (action limit) (rules_alike m limit) (suc p.mine.left) da a b p.mine.pair p.theirs.pair base.arrays base.arrays (opened p.mine.values) (opened p.theirs.values) p.mine.left da 0 0
        (opened_agrees p.mine.values p.theirs.values p.agrees) (counts_none p.mine.values p.mine.keeps) (counts_none p.theirs.values p.theirs.keeps) (inl ends) (omega arith) (omega arith) well

    -- the second one
    abbrev here_b : Out (Unit {0})
    here_b = lines of_b n b q.mine.pair (opened q.mine.values) (suc q.mine.left) q.mine.left

    module _ (pa : PassedA) where
      abbrev there_b : List ℕ → ℕ → ℕ → Out (Unit {0})
      there_b text turns left = lines_with pa.arrays_theirs of_both limit text pa.other pa.theirs turns left

      same_values : (z : List ℕ) → p.theirs.values z ≡ q.theirs.values z
      same_values z = ap (λ (s : State). s.variables z) (same_prepared of_both limit (m + da) (n + db) (to_a ∙ sym to_b) p.theirs q.theirs)

      agrees_b : Agrees sorts sorts.shared (with_opening base) (with_opening base) base.arrays pa.arrays_theirs (opened q.mine.values) pa.theirs
      agrees_b = agrees_on (with_opening base) (with_opening base) sorts sorts.shared base.arrays base.arrays pa.arrays_theirs (opened q.mine.values) (opened p.theirs.values) pa.theirs
          (opened_agrees q.mine.values p.theirs.values (λ x e. same_values x ∙ q.agrees x e)) pa.keeps

      module _ (extra more : ℕ) (turns_are : suc q.mine.left + extra ≡ suc pa.turns + da) (steps_are : q.mine.left + more ≡ pa.left + da) where
        abbrev PassedB : Type 0
        PassedB = Passed sorts (rules_own names arrays) (with_opening base) of_b of_both (action n) (action limit) (rules_alike n limit) [] pa.arrays_theirs pa.theirs extra more here_b (there_b (b ++ []) (suc q.mine.left + extra) (q.mine.left + more))

        pass_b : EndsWell here_b.result → PassedB
        pass_b well = passed sorts (rules_own names arrays) (with_opening base) of_b of_both (action n) (action limit) (rules_alike n limit) (suc q.mine.left) extra b [] q.mine.pair pa.other base.arrays pa.arrays_theirs (opened q.mine.values) pa.theirs q.mine.left more 0 pa.count
            agrees_b (counts_none q.mine.values q.mine.keeps) pa.counts (inr refl) (omega arith) (omega (arith, pa.fits)) well

        there_is : there_b b (suc pa.turns + da) (pa.left + da) ≡ there_b (b ++ []) (suc q.mine.left + extra) (q.mine.left + more)
        there_is = rw (append-nil, turns_are, steps_are) refl

        module _ (pb : PassedB) where
          abbrev last : List Effect
          last = Requested (RecordOfMain newline []) ∷ []

          over_is : each_record (suc pb.turns + extra) (action limit) (state_on (open_with pb.arrays_theirs) (reading of_both []) pb.other pb.theirs (pb.left + more)) ≡ record { result = Ok (tt {0}); state = state_on (open_with pb.arrays_theirs) (over of_both) pb.other pb.theirs (pb.left + more); effects = last }
          over_is = let e : suc pb.turns + extra ≡ suc (pb.turns + extra) = omega arith in rw e (record_over (open_with pb.arrays_theirs) of_both [] pb.other pb.theirs pb.count pb.counts (pb.turns + extra) (action limit) (pb.left + more) refl)

          abbrev all_effects : List Effect
          all_effects = Requested (OpensMain input.Standard []) ∷ (pa.effects ++ (pb.effects ++ last))

          there_ends : there_a (suc p.mine.left + da) (p.mine.left + da) ≡ record { result = Ok (tt {0}); state = state_on (open_with pb.arrays_theirs) (over of_both) pb.other pb.theirs (pb.left + more); effects = pa.effects ++ (pb.effects ++ last) }
          there_ends = pa.is_there ∙ ap (behind pa.effects) (there_is ∙ (pb.is_there ∙ ap (behind pb.effects) over_is))

          records_both : records limit (state_on base (unread of_both) p.theirs.pair p.theirs.values p.theirs.left) ≡ record { result = Ok (tt {0}); state = state_on (open_with pb.arrays_theirs) (over of_both) pb.other pb.theirs (pb.left + more); effects = all_effects }
          records_both =
              let turns : suc p.theirs.left ≡ suc p.mine.left + da = omega (arith, p.same_left) in
              records_are has of_both limit (a ++ b) gives_both p.theirs.pair p.theirs.values p.theirs.left p.theirs.keeps
              ∙ ap (behind (Requested (OpensMain input.Standard []) ∷ [])) (ap₂ there_a turns p.same_left ∙ there_ends)

          whole_both : whole of_both limit limit ≡ record { result = Ok (tt {0}); state = state_on (open_with pb.arrays_theirs) (over of_both) pb.other pb.theirs (pb.left + more); effects = all_effects }
          whole_both = ap (λ (k : ℕ). whole of_both limit k) (sym to_a) ∙ (whole_is of_both limit (m + da) p.theirs ∙ (ap (finish limit) records_both ∙ finish_is limit (open_with pb.arrays_theirs) (over of_both) pb.other pb.theirs (pb.left + more) all_effects))

          plain_all : ArePlain all_effects
          plain_all = (tt, plain_append pa.effects (pb.effects ++ last) pa.plain (plain_append pb.effects last pb.plain (tt, tt)))

          printed_all : printed all_effects ≡ printed here_a.effects ++ printed here_b.effects
          printed_all = printed_append pa.effects (pb.effects ++ last) ∙ ap₂ (λ (k l : List ℕ). k ++ l) pa.shows (printed_append pb.effects last ∙ (append-nil (printed pb.effects) ∙ pb.shows))

          both_prints : Prints (meaning_of items start of_both limit) (printed here_a.effects ++ printed here_b.effects)
          both_prints = subst (λ (l : List ℕ). Prints (meaning_of items start of_both limit) l) printed_all (prints_of of_both limit (open_with pb.arrays_theirs) (over of_both) pb.other pb.theirs (pb.left + more) all_effects plain_all whole_both)

  -- a run over a text whose records end so
  alone_prints : has_rule items ≡ true → (x : Oracle) (limit : ℕ) (text : List ℕ) → Gives x text → (p : Prepared x limit limit) (filled : List Array) (pair : RecordPair) (values : Values) (left : ℕ) →
      (lines x limit text p.pair (opened p.values) (suc p.left) p.left).result ≡ Ok (tt {0}) → (lines x limit text p.pair (opened p.values) (suc p.left) p.left).state ≡ state_on (open_with filled) (over x) pair values left →
      ArePlain (lines x limit text p.pair (opened p.values) (suc p.left) p.left).effects → Prints (meaning_of items start x limit) (printed (lines x limit text p.pair (opened p.values) (suc p.left) p.left).effects)
  alone_prints has x limit text given p filled pair values left ends is plain =
      let run : Out (Unit {0}) = lines x limit text p.pair (opened p.values) (suc p.left) p.left in
      prints_of x limit (open_with filled) (over x) pair values left (Requested (OpensMain input.Standard []) ∷ run.effects) (tt, plain)
      (whole_is x limit limit p
      ∙ (ap (finish limit) (records_are has x limit text given p.pair p.values p.left p.keeps ∙ ap₂ (λ (r : Result (Unit {0}) Halt) (s : State). record { result = r; state = s; effects = Requested (OpensMain input.Standard []) ∷ run.effects }) ends is)
      ∙ finish_is limit (open_with filled) (over x) pair values left (Requested (OpensMain input.Standard []) ∷ run.effects)))

  lines_well : has_rule items ≡ true → (x : Oracle) (limit : ℕ) (text : List ℕ) → Gives x text → (p : Prepared x limit limit) → EndsWell (whole x limit limit).result → EndsWell (lines x limit text p.pair (opened p.values) (suc p.left) p.left).result
  lines_well has x limit text given p well = subst (λ (out : Out (Unit {0})). EndsWell out.result) (records_are has x limit text given p.pair p.values p.left p.keeps) (records_well x limit p well)

  -- what the law says of these
  abbrev Joined : (of_a of_b of_both : Oracle) (m n limit : ℕ) → Type 0
  Joined of_a of_b of_both m n limit = (x y : List ℕ) × Prints (meaning_of items start of_a m) x × Prints (meaning_of items start of_b n) y × Prints (meaning_of items start of_both limit) (x ++ y)

  joined_lines : has_rule items ≡ true → (of_a of_b of_both : Oracle) (a b : List ℕ) → EndsLine a → Gives of_a a → Gives of_b b → Gives of_both (a ++ b) → (m n limit da db : ℕ) → m + da ≡ limit → n + db ≡ limit → m + n ≤ limit → length a + length b < 2 ^ 127 →
      EndsWell (whole of_a m m).result → EndsWell (whole of_b n n).result → Joined of_a of_b of_both m n limit
  joined_lines has of_a of_b of_both a b ends ga gb gboth m n limit da db to_a to_b enough fits well_a well_b =
      let p = prepare of_a of_both m limit m da well_a in
      let q = prepare of_b of_both n limit n db well_b in
      let pa = pass_a of_a of_b of_both a b ends ga gb gboth m n limit da db to_a to_b enough fits p q has (lines_well has of_a m a ga p.mine well_a) in
      let few : q.mine.left ≤ n = q.mine.falls in
      let extra : ℕ = (suc pa.turns + da) - suc q.mine.left in
      let more : ℕ = (pa.left + da) - q.mine.left in
      let turns : suc q.mine.left + extra ≡ suc pa.turns + da = omega arith in
      let steps : q.mine.left + more ≡ pa.left + da = omega arith in
      let pb = pass_b of_a of_b of_both a b ends ga gb gboth m n limit da db to_a to_b enough fits p q has pa extra more turns steps (lines_well has of_b n b gb q.mine well_b) in (
        printed (lines of_a m a p.mine.pair (opened p.mine.values) (suc p.mine.left) p.mine.left).effects,
        printed (lines of_b n b q.mine.pair (opened q.mine.values) (suc q.mine.left) q.mine.left).effects,
        alone_prints has of_a m a ga p.mine pa.arrays_mine pa.pair pa.mine pa.left pa.ends pa.is_here pa.plain_here,
        alone_prints has of_b n b gb q.mine pb.arrays_mine pb.pair pb.mine pb.left pb.ends pb.is_here pb.plain_here,
        both_prints of_a of_b of_both a b ends ga gb gboth m n limit da db to_a to_b enough fits p q has pa extra more turns steps pb,
      )

  joined_nothing : has_rule items ≡ false → (of_a of_b of_both : Oracle) (m n limit da : ℕ) → m + da ≡ limit →
      EndsWell (whole of_a m m).result → EndsWell (whole of_b n n).result → Joined of_a of_b of_both m n limit
  joined_nothing has of_a of_b of_both m n limit da to_a well_a well_b =
      let p = prepare of_a of_both m limit m da well_a in
      let q = prepare of_b of_both n limit n 0 well_b in
      ([], [], nothing_printed has of_a m p.mine, nothing_printed has of_b n q.mine, nothing_printed has of_both limit (at_steps of_both limit (m + da) to_a p.theirs))

pub law_of_pieces : LawOfPieces
law_of_pieces items pieceable start plainly a b ends fits of_a of_b of_both ga gb gboth m n limit enough ea eb =
    let to_a : m + (limit - m) ≡ limit = omega arith in
    let to_b : n + (limit - n) ≡ limit = omega arith in
    let well_a = ends_well items pieceable start plainly of_both of_a m ea in
    let well_b = ends_well items pieceable start plainly of_both of_b n eb in
    elim (cases_Bool (has_rule items)) [
      | inl has ↦ joined_lines items pieceable start plainly of_both has of_a of_b of_both a b ends ga gb gboth m n limit (limit - m) (limit - n) to_a to_b enough fits well_a well_b
      | inr none ↦ joined_nothing items pieceable start plainly of_both none of_a of_b of_both m n limit (limit - m) to_a well_a well_b
    ]
