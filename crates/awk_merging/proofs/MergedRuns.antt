-- A run over all pieces and the second derived program's run over what the first one printed end alike, or a sum leaves the range.
use Rattle.std.proofs.Common.{◌≡◌, ◌≢◌, ◌⊎◌, inl, inr, ℕ, suc, ◌+◌, ◌*◌, ◌<◌, ◌≤◌, ◌^◌, ℤ, true, false, not, List, [], ◌∷◌, ◌++◌, length, Option, Some, None, Result, Err, refl, sym, ap, ◌∙◌, subst, codes, bytes_eq, slice_get, arith, length-append}
use Rattle.std.specs.Prelude.{unwrap_or}
use Rattle.std.specs.Fmt.{signed_decimal}
use Rattle.std.proofs.lemmas.Bool.{cases_Bool}
use Rattle.awk_record.specs.Record.{RecordPair}
use Rattle.awk_streams.specs.Openings.{Opening}
use Rattle.awk_kinds.specs.Names.{has_name}
use Rattle.awk_grammar.specs.Tree.{Item}
use Rattle.awk_semantics.specs.declared.halt.Halt.{Halt}
use Rattle.awk_semantics.specs.declared.halt.Halt.TheVariants as halt
use Rattle.awk_semantics.specs.declared.outcome.Outcome.TheVariants.{Stopped}
use Rattle.awk_semantics.specs.definitions.State.{Effect, State, Out, go_on, gives}
use Rattle.awk_semantics.specs.definitions.Primitives.{number_in}
use Rattle.awk_semantics.specs.definitions.Semantics.{Functions}
use Rattle.awk_semantics.specs.definitions.Items.{each_record, begin_items, end_items, run_items}
use Rattle.awk_semantics.specs.definitions.Meaning.{outcome_of, outputs_from}
use Rattle.awk_pieces.specs.definitions.Pieceable.{tells_apart}
use Rattle.awk_pieces.specs.definitions.LawOfPieces.{Gives}
use Rattle.awk_pieces.proofs.Alike.{Values, state_on as plain_state}
use Rattle.awk_pieces.proofs.RecordsFound.{over}
use Rattle.awk_pieces.proofs.FirstRecord.{with_opening, opened}
use Rattle.awk_pieces.proofs.ReadsAlike.{left_true, right_true}
use Rattle.awk_merging.specs.definitions.Gathering.{Table}
use Rattle.awk_merging.specs.definitions.Sums.{Sum, ByKey, Alone, name_of_sum, number_or_none, alone, Holds}
use Rattle.awk_merging.specs.definitions.LawOfCells.{IsLine}
use Rattle.awk_merging.specs.definitions.LawOfReading.{number_at}
use Rattle.awk_merging.specs.definitions.LawOfStates.{Cells, text_of_cells, Tables, behind_cells, is_counted, steps_of}
use Rattle.awk_merging.specs.definitions.LawOfDerived.{IsOneOf}
use Rattle.awk_merging.specs.definitions.LawOfAll.{state_begun, WillRead, EndsWith}
use Rattle.awk_merging.specs.definitions.Mergeable.{own_in, sums_of_program, is_array_sum, is_variable_sum, is_derived, is_shown, shows, IsMergeable}
use Rattle.awk_merging.specs.definitions.Derived.{all_of}
use Rattle.awk_merging.specs.definitions.LawOfRules.{IsNoArray}
use Rattle.awk_merging.specs.definitions.LawOfEnd.{SameArray, ShowAlike}
use Rattle.awk_merging.proofs.Gathering.{same_key, not_both, apart_turned}
use Rattle.awk_merging.proofs.EndShown.{law_of_end}
use Rattle.awk_merging.proofs.PiecesGathered.{outputs_read, finish, records_of, StartsLines, IsReadyFor, PieceRun, Holding, Gathered, texts, states, steps_of_all, AllJoin, all_gathered, opened_is, counts_none, none_held, action, opens, behind, lines, xs, distinct}
use Rattle.awk_merging.proofs.OwnVariables.{not_true}
use Rattle.awk_merging.proofs.ProgramSums.{is_among}
use Rattle.awk_merging.proofs.SecondRun.{same_held, law_of_all}
use Rattle.awk_merging.proofs.Sound.{one_array, one_variable}
use Rattle.awk_merging.proofs.States.{holds_one}
use Rattle.awk_merging.proofs.Summing.{known_here, Lost}

-- the same table is of the same number
one_number : (m n : Option ℤ) → alone m ≡ alone n → number_or_none m ≡ number_or_none n
one_number None None e = refl
one_number (Some m) (Some n) e = ap number_or_none (ap (λ (t : Table ℤ). Some (number_at t [])) e)
one_number None (Some n) e = cc
one_number (Some m) None e = cc

same_number : (s t : State) (x : List ℕ) (table : Table ℤ) → Holds s (Alone x) table → Holds t (Alone x) table → t.variables x ≡ s.variables x
same_number s t x table here there = there.1 ∙ one_number there.0 here.0 (sym there.2 ∙ here.2) ∙ sym here.1

-- what may be shown isn't counted

shown_apart : (x z : List ℕ) → is_shown x ≡ true → is_shown z ≡ false → bytes_eq z x ≡ false
shown_apart x z shown not = elim (cases_Bool (bytes_eq z x)) [
  | inl same ↦ absurd (not_both (is_shown x) shown (ap is_shown (sym (same_key z x same)) ∙ not))
  | inr other ↦ other
]

shown_uncounted : (x : List ℕ) → is_shown x ≡ true → is_counted x ≡ false
shown_uncounted x shown = rw (
  apart_turned (codes "merge_what") x (shown_apart x (codes "merge_what") shown refl),
  apart_turned (codes "merge_key") x (shown_apart x (codes "merge_key") shown refl),
  apart_turned (codes "NR") x (shown_apart x (codes "NR") shown refl),
  apart_turned (codes "FNR") x (shown_apart x (codes "FNR") shown refl),
) refl

-- a cell has three lines at least

three_bytes : (a b c rest : List ℕ) → 3 + length rest ≤ length ((a ++ (10 ∷ (b ++ (10 ∷ (c ++ (10 ∷ [])))))) ++ rest)
three_bytes a b c rest =
    let one = length-append (a ++ (10 ∷ (b ++ (10 ∷ (c ++ (10 ∷ [])))))) rest in
    let two = length-append a (10 ∷ (b ++ (10 ∷ (c ++ (10 ∷ []))))) in
    let three = length-append b (10 ∷ (c ++ (10 ∷ []))) in
    let four = length-append c (10 ∷ []) in
    omega arith

few_cells : (cells : Cells) → 3 * length cells ≤ length (text_of_cells cells)
few_cells [] = omega arith
few_cells (x ∷ cells) =
    let rest = few_cells cells in
    let first = three_bytes (name_of_sum x.sum) x.key (signed_decimal x.number) (text_of_cells cells) in
    let size : length (x ∷ cells) ≡ suc (length cells) = refl in
    omega arith

lost_finish : (functions : Functions) (items : List Item) (z : Out (Unit {0})) → Lost z → Lost (finish functions items z)
unfolding go_on
lost_finish functions items z lost = rw lost refl

-- both end alike, and print the same
pub record EndSame (x y : Out (Unit {0})) : Type 0 where
  pub outcome : outcome_of y.result y.state.status ≡ outcome_of x.result x.state.status
  pub outputs : (os : List Opening) → outputs_from os y.effects ≡ outputs_from os x.effects

module _ (items : List Item) (mergeable : IsMergeable items) (named : (x : Sum) → IsOneOf x (sums_of_program items) → IsLine (name_of_sum x)) (c : RecordPair) (v : Values) (starts : StartsLines v) where
  abbrev sums : List Sum
  sums = xs items mergeable named c v starts

  module _ (base : State) (functions : Functions) (unopened : IsReadyFor sums v base) (pieces : List (PieceRun items mergeable named c v starts)) (steps : ℕ) where
    abbrev text : List ℕ
    text = texts items mergeable named c v starts base functions unopened pieces

    abbrev state : List ℕ
    state = states items mergeable named c v starts base functions unopened pieces

    abbrev all_steps : ℕ
    all_steps = steps_of_all items mergeable named c v starts base functions unopened pieces

    abbrev out : Out (Unit {0})
    out = finish functions items (records_of functions items (state_begun base c v steps))

    abbrev Gathers : Out (Unit {0}) → Type 0
    Gathers z = Gathered items mergeable named c v starts base functions unopened (λ name. []) pieces z

    module _ (given : Gives base.outside text) (joins : AllJoin items mergeable named c v starts base functions unopened pieces) (enough : all_steps ≤ steps) (fits : length text < 2 ^ 127) where
      abbrev pub records : Out (Unit {0})
      records = each_record (suc steps) (action items mergeable named c v starts functions) (lines items mergeable named c v starts base text steps)

      records_are : records_of functions items (state_begun base c v steps) ≡ behind items mergeable named c v starts (opens items mergeable named c v starts) records
      records_are = opened_is items mergeable named c v starts base unopened text given steps (action items mergeable named c v starts functions)

      first_holding : Holding items mergeable named c v starts base functions unopened (λ name. []) text c base.arrays (opened v) steps 0
      first_holding = record {
        holds = none_held items mergeable named c v starts base unopened text steps;
        sound = λ name. tt;
        others = λ x no_sum apart. ((unopened.others x no_sum apart).0, (unopened.others x no_sum apart).1);
        steady = λ z no_sum not nr fnr. refl;
        counts = counts_none items mergeable named c v starts;
        fits = omega (arith, fits);
      }

      pub gathers : Gathers records ⊎ Lost records
      gathers = all_gathered items mergeable named c v starts base functions unopened pieces (λ name. []) c base.arrays (opened v) steps 0 steps first_holding joins enough enough

      pub lost_whole : Lost records → Lost out
      lost_whole lost = ap (λ (z : Out (Unit {0})). (finish functions items z).result) records_are ∙ lost_finish functions items (behind items mergeable named c v starts (opens items mergeable named c v starts) records) lost

      -- where the run over all pieces holds their sums before END
      module _ (g : Gathers records) (all_base : State) (all_functions : Functions) (all_unopened : IsReadyFor sums v all_base) (left : ℕ) (s : State) (all_given : Gives all_base.outside state) (few : length state < 2 ^ 127)
          (begins : begin_items all_functions items s ≡ gives (tt {0}) (state_begun all_base c v (steps_of g.cells left))) where
        abbrev last : State
        last = plain_state (record (with_opening base) { arrays = g.arrays }) (over base.outside) g.pair g.values g.left

        out_is : out ≡ record {
          result = (end_items functions items last).result;
          state = (end_items functions items last).state;
          effects = (opens items mergeable named c v starts ++ g.effects) ++ (end_items functions items last).effects;
        }
        unfolding go_on
        out_is = rw (records_are, g.is) refl

        will_read : WillRead all_base v g.cells
        will_read = record {
          gives_text = subst (λ (l : List ℕ). Gives all_base.outside l) g.text all_given;
          unopened = all_unopened.unopened;
          few = (let size = few_cells g.cells in let same : length state ≡ length (text_of_cells g.cells) = ap length g.text in omega (arith, few, size, same));
          rs = starts.rs;
          argc = starts.argc;
          nr = starts.nr;
        }

        ends : EndsWith all_functions items sums (behind_cells (λ name. []) g.cells) all_base.array_names all_base.arrays v left (run_items all_functions (all_of items) s)
        ends = law_of_all all_functions items all_base c v g.cells (λ name. []) left s begins will_read
            (same_held (state_begun all_base (record { text = []; fields = [] }) v 0) (state_begun all_base c v left) refl refl (λ z free. refl) sums (λ name. []) all_unopened.none) g.added

        abbrev tables : Tables
        tables = behind_cells (λ name. []) g.cells

        held_here : (x : Sum) → IsOneOf x sums → Holds last x (tables (name_of_sum x))
        held_here x one = (holds_one last x sums tables (is_among x sums (distinct items mergeable named c v starts) one) g.holds).1

        held_there : (x : Sum) → IsOneOf x sums → Holds ends.before x (tables (name_of_sum x))
        held_there x one = (holds_one ends.before x sums tables (is_among x sums (distinct items mergeable named c v starts) one) ends.holds).1

        same_variable : (x : List ℕ) → shows (own_in items) x ≡ true → ends.before.variables x ≡ last.variables x
        same_variable x may = let shown = left_true (is_shown x) _ may in elim (cases_Bool (is_variable_sum sums x)) [
          | inl is ↦ let one = one_variable sums x is in same_number last ends.before x (tables x) (held_here (Alone x) one) (held_there (Alone x) one)
          | inr none ↦
              let name = shown_apart x (codes "FILENAME") shown refl in
              let nr = shown_apart x (codes "NR") shown refl in
              let fnr = shown_apart x (codes "FNR") shown refl in
              ends.keeps x none (shown_uncounted x shown) name ∙ sym (g.steady x none (not_true (own_in items x) (right_true (is_shown x) _ may)) nr fnr ∙ rw (fnr, name) refl)
        ]

        no_array_here : (x : List ℕ) → is_shown x ≡ true → is_array_sum sums x ≡ false → IsNoArray last x
        no_array_here x shown no_sum = g.others x no_sum (known_here (tells_apart x) (is_derived x) (bytes_eq x (codes "NF")) shown)

        no_array_there : (x : List ℕ) → is_shown x ≡ true → is_array_sum sums x ≡ false → IsNoArray ends.before x
        no_array_there x shown no_sum =
            let none = all_unopened.others x no_sum (known_here (tells_apart x) (is_derived x) (bytes_eq x (codes "NF")) shown) in (
              ap (λ (l : List (List ℕ)). has_name l x) ends.names ∙ none.0,
              ap (λ (l : List (List ℕ)). unwrap_or (slice_get ends.before.arrays (number_in l x)) []) ends.names ∙ ends.elsewhere x no_sum ∙ none.1,
            )

        same_array : (x : List ℕ) → is_shown x ≡ true → SameArray last ends.before x
        same_array x shown = elim (cases_Bool (is_array_sum sums x)) [
          | inl is ↦
              let one = one_array sums x is in
              let here = held_here (ByKey x) one in
              let there = held_there (ByKey x) one in
              record { named = there.0 ∙ sym here.0; elements = there.2 ∙ sym here.2 }
          | inr none ↦
              let here = no_array_here x shown none in
              let there = no_array_there x shown none in
              record { named = there.0 ∙ sym here.0; elements = there.1 ∙ sym here.1 }
        ]

        show_alike : ShowAlike (shows (own_in items)) sums last ends.before
        show_alike = record {
          variables = same_variable;
          arrays = same_array;
          summed = λ a is. let one = one_array sums a is in let here = held_here (ByKey a) one in let there = held_there (ByKey a) one in ((here.0, here.1), (there.0, there.1));
        }

        unstopped : (x : Out (Unit {0})) → outcome_of x.result x.state.status ≢ Stopped → x.result ≢ Err halt.OutOfSteps
        unstopped x not is = not (ap (λ (r : Result (Unit {0}) Halt). outcome_of r x.state.status) is)

        pub end_same : outcome_of out.result out.state.status ≢ Stopped → outcome_of (run_items all_functions (all_of items) s).result (run_items all_functions (all_of items) s).state.status ≢ Stopped → EndSame out (run_items all_functions (all_of items) s)
        end_same enough_here enough_there =
            let here = unstopped (end_items functions items last) (subst (λ (z : Out (Unit {0})). outcome_of z.result z.state.status ≢ Stopped) out_is enough_here) in
            let there = unstopped (end_items all_functions items ends.before) (subst (λ (z : Out (Unit {0})). outcome_of z.result z.state.status ≢ Stopped) ends.is enough_there) in
            let alike = law_of_end functions all_functions items mergeable last ends.before refl ends.outside_calls ends.status show_alike here there in
            let shown : List Effect = opens items mergeable named c v starts ++ g.effects in
            record {
              outcome =
                  ap (λ (z : Out (Unit {0})). outcome_of z.result z.state.status) ends.is
                  ∙ alike.outcome
                  ∙ sym (ap (λ (z : Out (Unit {0})). outcome_of z.result z.state.status) out_is);
              outputs = λ os.
                  ap (λ (z : Out (Unit {0})). outputs_from os z.effects) ends.is
                  ∙ outputs_read os ends.effects (end_items all_functions items ends.before).effects ends.readings
                  ∙ ap (outputs_from os) alike.effects
                  ∙ sym (outputs_read os shown (end_items functions items last).effects g.reads)
                  ∙ sym (ap (λ (z : Out (Unit {0})). outputs_from os z.effects) out_is);
            }
