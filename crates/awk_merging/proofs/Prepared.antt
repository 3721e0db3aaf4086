-- Runs of a program that sums up, and of the two that are derived of it, before their records.
use Rattle.std.proofs.Common.{◌≡◌, ℕ, suc, ◌+◌, ◌≤◌, Bool, true, false, ◌&&◌, not, List, [], ◌∷◌, ◌++◌, length, Result, Ok, Err, pos, refl, sym, ap, ◌∙◌, subst, codes, le_trans}
use Rattle.awk_value.specs.declared.value.Value.TheVariants as value
use Rattle.awk_value.specs.Values.{str_of}
use Rattle.awk_record.specs.Record.{RecordPair}
use Rattle.awk_streams.specs.Oracle.{Oracle}
use Rattle.awk_kinds.specs.Variables.{initial_value}
use Rattle.awk_kinds.specs.definitions.Kinds.{definitions_of}
use Rattle.awk_grammar.specs.Tree.{Item, Begin, End, Action, PatternAction, PatternOnly, Function}
use Rattle.awk_semantics.specs.declared.halt.Halt.{Halt}
use Rattle.awk_semantics.specs.definitions.State.{Effect, State, Out, Run, go_on, ◌>>=◌, gives}
use Rattle.awk_semantics.specs.definitions.Semantics.{Functions}
use Rattle.awk_semantics.specs.definitions.Calls.{functions_within}
use Rattle.awk_semantics.specs.definitions.Items.{until_exit, has_rule, begin_items, run_before_end, run_items}
use Rattle.awk_semantics.specs.definitions.Meaning.{StartValues, start_state, assign_all, assign_and_run}
use Rattle.awk_pieces.specs.definitions.Pieceable.{leaves_records}
use Rattle.awk_pieces.specs.definitions.LawOfPieces.{all_leave_records}
use Rattle.awk_pieces.proofs.Alike.{Values}
use Rattle.awk_pieces.proofs.BeginsAlike.{AllMay, first_agrees, assign_all_alike}
use Rattle.awk_pieces.proofs.FirstRecord.{unread}
use Rattle.awk_pieces.proofs.ReadsAlike.{left_true, right_true}
use Rattle.awk_pieces.proofs.RecordsPassed.{EndsWell}
use Rattle.awk_merging.specs.definitions.Sums.{Sum, Alone, is_taken, print_sums, read_sums, reading_rules}
use Rattle.awk_merging.specs.definitions.LawOfDerived.{IsOneOf}
use Rattle.awk_merging.specs.definitions.LawOfAll.{state_begun}
use Rattle.awk_merging.specs.definitions.Mergeable.{own_in, sums_of_program, is_sum, is_mergeable_item, are_mergeable, IsMergeable}
use Rattle.awk_merging.specs.definitions.Derived.{without_ends, begins_of, ends_of, each_of, all_of}
use Rattle.awk_merging.specs.definitions.LawOfMerging.{all_leave_sums, StartsApart}
use Rattle.awk_merging.proofs.ArraysNamed.{names_of_items, names_of_each, names_of_all}
use Rattle.awk_merging.proofs.BeginsMerged.{may_begin, narrow, and_both, begins_alike, settled}
use Rattle.awk_merging.proofs.Cells.{apart_from_taken}
use Rattle.awk_merging.proofs.DerivedParts.{law_of_derived}
use Rattle.awk_merging.proofs.FirstRun.{has_end}
use Rattle.awk_merging.proofs.FirstStates.{HasNoFunction, IsPlain, names_same}
use Rattle.awk_merging.proofs.PiecesGathered.{StartsLines, exit_first}
use Rattle.awk_merging.proofs.ProgramSums.{AreProper, is_proper, proper_sums}
use Rattle.awk_merging.proofs.SecondRun.{has_rules}
use Rattle.awk_merging.proofs.Sound.{one_named}

well_first : (r : Result (Unit {0}) Halt) (t : State) (effects : List Effect) (f : Unit {0} → Run (Unit {0})) → EndsWell (go_on r t effects f).result → EndsWell r
unfolding go_on
well_first (Ok u) t effects f well = tt
well_first (Err h) t effects f well = well

-- no functions

none_in : (mine : List ℕ → Bool) (xs : List Sum) (items : List Item) → are_mergeable mine xs items ≡ true → HasNoFunction items
none_in mine xs [] is = tt
none_in mine xs (Begin block ∷ items) is = none_in mine xs items (right_true (is_mergeable_item mine xs (Begin block)) _ is)
none_in mine xs (End block ∷ items) is = none_in mine xs items (right_true (is_mergeable_item mine xs (End block)) _ is)
none_in mine xs (Action block ∷ items) is = none_in mine xs items (right_true (is_mergeable_item mine xs (Action block)) _ is)
none_in mine xs (PatternAction p block ∷ items) is = none_in mine xs items (right_true (is_mergeable_item mine xs (PatternAction p block)) _ is)
none_in mine xs (PatternOnly p ∷ items) is = absurd (cc)
none_in mine xs (Function f parameters block ∷ items) is = absurd (cc)

none_joined : (xs ys : List Item) → HasNoFunction xs → HasNoFunction ys → HasNoFunction (xs ++ ys)
none_joined [] ys a b = b
none_joined (Begin block ∷ xs) ys a b = none_joined xs ys a b
none_joined (End block ∷ xs) ys a b = none_joined xs ys a b
none_joined (Action block ∷ xs) ys a b = none_joined xs ys a b
none_joined (PatternAction p block ∷ xs) ys a b = none_joined xs ys a b
none_joined (PatternOnly p ∷ xs) ys a b = none_joined xs ys a b
none_joined (Function f parameters block ∷ xs) ys a b = absurd a

none_without : (xs : List Item) → HasNoFunction xs → HasNoFunction (without_ends xs)
none_without [] a = tt
none_without (Begin block ∷ xs) a = none_without xs a
none_without (End block ∷ xs) a = none_without xs a
none_without (Action block ∷ xs) a = none_without xs a
none_without (PatternAction p block ∷ xs) a = none_without xs a
none_without (PatternOnly p ∷ xs) a = none_without xs a
none_without (Function f parameters block ∷ xs) a = absurd a

none_begins : (xs : List Item) → HasNoFunction (begins_of xs)
none_begins [] = tt
none_begins (Begin block ∷ xs) = none_begins xs
none_begins (End block ∷ xs) = none_begins xs
none_begins (Action block ∷ xs) = none_begins xs
none_begins (PatternAction p block ∷ xs) = none_begins xs
none_begins (PatternOnly p ∷ xs) = none_begins xs
none_begins (Function f parameters block ∷ xs) = none_begins xs

none_ends : (xs : List Item) → HasNoFunction (ends_of xs)
none_ends [] = tt
none_ends (Begin block ∷ xs) = none_ends xs
none_ends (End block ∷ xs) = none_ends xs
none_ends (Action block ∷ xs) = none_ends xs
none_ends (PatternAction p block ∷ xs) = none_ends xs
none_ends (PatternOnly p ∷ xs) = none_ends xs
none_ends (Function f parameters block ∷ xs) = none_ends xs

none_reading : (sums : List Sum) → HasNoFunction (read_sums sums)
none_reading [] = tt
none_reading (x ∷ xs) = none_reading xs

-- what isn't special is unset at first
unset_first : (n : ℕ) (x : List ℕ) → is_taken x ≡ false → initial_value n x ≡ value.Nothing
unset_first n x free = rw (
  apart_from_taken x (codes "ARGC") free refl,
  apart_from_taken x (codes "CONVFMT") free refl,
  apart_from_taken x (codes "FILENAME") free refl,
  apart_from_taken x (codes "FNR") free refl,
  apart_from_taken x (codes "FS") free refl,
  apart_from_taken x (codes "NR") free refl,
  apart_from_taken x (codes "OFMT") free refl,
  apart_from_taken x (codes "OFS") free refl,
  apart_from_taken x (codes "ORS") free refl,
  apart_from_taken x (codes "RLENGTH") free refl,
  apart_from_taken x (codes "RS") free refl,
  apart_from_taken x (codes "RSTART") free refl,
  apart_from_taken x (codes "SUBSEP") free refl,
) refl

sum_kept : (a b : Bool) → b ≡ true → not (a && not b) ≡ true
sum_kept true b e = rw e refl
sum_kept false b e = refl

pre_may : (xs : List Sum) (pre : List (List ℕ × List ℕ)) → all_leave_records pre ≡ true → all_leave_sums xs pre ≡ true → AllMay (may_begin xs) pre
pre_may xs [] leaves sums = tt
pre_may xs (x ∷ rest) leaves sums =
    (and_both (leaves_records x.0) (not (is_sum xs x.0)) (left_true (leaves_records x.0) _ leaves) (left_true (not (is_sum xs x.0)) _ sums), pre_may xs rest (right_true (leaves_records x.0) _ leaves) (right_true (not (is_sum xs x.0)) _ sums))

module _ (items : List Item) (mergeable : IsMergeable items) (has : has_rule items ≡ true) (start : StartValues) (apart : StartsApart items start) where
  abbrev pub own : List Sum
  own = sums_of_program items

  pub own_proper : AreProper own
  own_proper = proper_sums items

  -- one of the three programs
  pub record IsProgram (program : List Item) : Type 0 where
    pub plain : IsPlain own program
    pub begins : (f : Functions) (s : State) → begin_items f program s ≡ begin_items f items s
    pub rules : has_rule program ≡ true

  none : HasNoFunction items
  none = none_in (own_in items) own items mergeable

  pub items_program : IsProgram items
  items_program = record { plain = record { names = names_of_items items mergeable; functions = none }; begins = λ f s. refl; rules = has }

  pub each_program : IsProgram (each_of items)
  each_program = record {
    plain = record { names = names_of_each items mergeable; functions = none_joined (without_ends items) (End (print_sums own) ∷ []) (none_without items none) tt };
    begins = λ f s. law_of_derived.each_begins f items s;
    rules = has_end (print_sums own) items;
  }

  pub all_program : IsProgram (all_of items)
  all_program = record {
    plain = record { names = names_of_all items mergeable; functions = none_joined (begins_of items) (reading_rules own ++ ends_of items) (none_begins items) (none_joined (reading_rules own) (ends_of items) (none_reading own) (none_ends items)) };
    begins = λ f s. law_of_derived.all_begins f items s;
    rules = has_rules items (reading_rules own ++ ends_of items) refl;
  }

  abbrev pub base : List Item → Oracle → State
  base program o = start_state program start o 0

  abbrev pub functions : List Item → ℕ → Functions
  functions program limit = functions_within (definitions_of program) limit

  abbrev pub run_of : List Item → Oracle → ℕ → Out (Unit {0})
  run_of program o limit = assign_and_run program limit start.pre (start_state program start o limit)

  abbrev first_values : Values
  first_values = initial_value (suc (length start.operands))

  abbrev first_pair : RecordPair
  first_pair = record { text = []; fields = [] }

  -- a run before its records
  pub record Prepared (program : List Item) (o : Oracle) (limit : ℕ) (pair : RecordPair) (values : Values) (left : ℕ) : Type 0 where
    pub mid : State
    pub assigned : assign_all start.pre (start_state program start o limit) ≡ gives (tt {0}) mid
    pub begun : begin_items (functions program limit) items mid ≡ gives (tt {0}) (state_begun (base program o) pair values left)

  pub run_is : (program : List Item) (o : Oracle) (limit : ℕ) (pair : RecordPair) (values : Values) (left : ℕ) (p : Prepared program o limit pair values left) → run_of program o limit ≡ run_items (functions program limit) program p.mid
  unfolding assign_and_run ◌>>=◌ go_on
  run_is program o limit pair values left p = rw p.assigned refl

  -- what a run before its records comes to is one thing
  pub same_begun : (program : List Item) (o : Oracle) (limit : ℕ) (pair pair' : RecordPair) (values values' : Values) (left left' : ℕ) → Prepared program o limit pair values left → Prepared program o limit pair' values' left' → state_begun (base program o) pair values left ≡ state_begun (base program o) pair' values' left'
  same_begun program o limit pair pair' values values' left left' p q =
      let mids : p.mid ≡ q.mid = ap (λ (z : Out (Unit {0})). z.state) (sym p.assigned ∙ q.assigned) in
      ap (λ (z : Out (Unit {0})). z.state) (sym p.begun ∙ ap (begin_items (functions program limit) items) mids ∙ q.begun)

  -- two programs, of which the first one's run ends well
  pub record BothPrepared (program other : List Item) (o p : Oracle) (limit d : ℕ) : Type 0 where
    pub pair : RecordPair
    pub values : Values
    pub left : ℕ
    pub falls : left ≤ limit
    pub starts : StartsLines values
    pub unset : (x : List ℕ) → IsOneOf (Alone x) own → values x ≡ value.Nothing
    pub mine : Prepared program o limit pair values left
    pub theirs : Prepared other p (limit + d) pair values (left + d)

  well_assigned : (program : List Item) (o : Oracle) (limit : ℕ) → EndsWell (run_of program o limit).result → EndsWell (assign_all start.pre (start_state program start o limit)).result
  unfolding assign_and_run ◌>>=◌
  well_assigned program o limit well = well_first _ _ _ _ well

  well_run : (program : List Item) (o : Oracle) (limit : ℕ) (mid : State) → assign_all start.pre (start_state program start o limit) ≡ gives (tt {0}) mid → EndsWell (run_of program o limit).result → EndsWell (run_items (functions program limit) program mid).result
  unfolding assign_and_run ◌>>=◌ go_on
  well_run program o limit mid is = rw is (λ well. well)

  well_begun : (program : List Item) (f : Functions) (s : State) → EndsWell (run_items f program s).result → EndsWell (begin_items f program s).result
  unfolding run_items run_before_end until_exit ◌>>=◌
  well_begun program f s well = well_first _ _ _ _ (exit_first _ (well_first _ _ _ _ well))

  argc_is : first_values (codes "ARGC") ≡ value.Number (pos 1)
  argc_is = ap (λ (l : List (List ℕ)). value.Number (pos (suc (length l)))) apart.plainly.operands

  pub prepare : (program other : List Item) → IsProgram program → IsProgram other → (o p : Oracle) (limit d : ℕ) → EndsWell (run_of program o limit).result → BothPrepared program other o p limit d
  prepare program other is is' o p limit d well =
      let names = names_same start own program other is.plain is'.plain o p in
      let may = pre_may own start.pre apart.plainly.assignments apart.sums in
      let one = settled (may_begin own) (base program o) (base other p) (unread o) (unread p) first_values first_values limit d _ _ _ _
      ((assign_all_alike (may_begin own) (narrow own) (base program o) (base other p) names start.pre may).covers (unread o) (unread p) first_pair (base program o).arrays (base other p).arrays first_values first_values limit d (first_agrees (may_begin own) (base program o) (base other p) first_values first_values names (λ z e. refl))) (well_assigned program o limit well) in
      let mid : State = state_begun (base program o) one.pair one.values one.left in
      let two = settled (may_begin own) (base program o) (base other p) (unread o) (unread p) one.values one.values one.left d _ _ _ _
      ((begins_alike (own_in items) own (base program o) (base other p) names (functions program limit) (functions other (limit + d)) items mergeable).covers (unread o) (unread p) one.pair (base program o).arrays (base other p).arrays one.values one.values one.left d (first_agrees (may_begin own) (base program o) (base other p) one.values one.values names (λ z e. refl)))
      (subst (λ (z : Out (Unit {0})). EndsWell z.result) (is.begins (functions program limit) mid) (well_begun program (functions program limit) mid (well_run program o limit mid one.is_here well))) in
      let kept = λ (x : List ℕ) (e : not (may_begin own x) ≡ true). two.keeps x e ∙ one.keeps x e in
      record {
        pair = two.pair;
        values = two.values;
        left = two.left;
        falls = le_trans two.falls one.falls;
        starts = record { rs = ap str_of (kept (codes "RS") refl); argc = kept (codes "ARGC") refl ∙ argc_is; nr = kept (codes "NR") refl };
        unset = λ x sum. kept x (sum_kept (leaves_records x) (is_sum own x) (one_named (Alone x) own sum)) ∙ unset_first (suc (length start.operands)) x (is_proper (Alone x) own own_proper sum);
        mine = record { mid = mid; assigned = one.is_here; begun = two.is_here };
        theirs = record { mid = state_begun (base other p) one.pair one.values (one.left + d); assigned = one.is_there; begun = two.is_there };
      }
