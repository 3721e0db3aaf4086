-- A run over the texts of pieces, one behind the other, holds in turn what each piece summed up and printed; or a sum leaves the
-- range.
use Rattle.std.proofs.Common.{◌≡◌, ◌⊎◌, inl, inr, ℕ, suc, ◌+◌, ◌-◌, ◌<◌, ◌≤◌, ◌^◌, ℤ, pos, true, false, List, [], ◌∷◌, ◌++◌, length, Some, None, Result, Ok, Err, refl, sym, ap, ap₂, ◌∙◌, subst, codes, bytes_eq, arith, append_assoc, append-nil, length-append}
use Rattle.awk_value.specs.declared.value.Value.TheVariants as value
use Rattle.awk_value.specs.Values.{str_of}
use Rattle.awk_value.specs.Arrays.{Array}
use Rattle.awk_record.specs.Record.{RecordPair}
use Rattle.awk_world.specs.declared.world.InputKind.TheVariants as input
use Rattle.awk_grammar.specs.Tree.{Item}
use Rattle.awk_semantics.specs.declared.halt.Halt.{Halt}
use Rattle.awk_semantics.specs.declared.halt.Halt.TheVariants as halt
use Rattle.awk_semantics.specs.declared.flow.Flow.{Flow}
use Rattle.awk_semantics.specs.declared.flow.Flow.TheVariants as flow
use Rattle.awk_semantics.specs.declared.outcome.Outcome.TheVariants.{Ended}
use Rattle.awk_semantics.specs.definitions.State.{OpensMain, RecordOfMain, Effect, Printed, Requested, State, Out, Run, go_on, ◌>>=◌, lift, ret}
use Rattle.awk_semantics.specs.definitions.Primitives.{outside_calls}
use Rattle.awk_semantics.specs.definitions.Semantics.{Functions, exec_all}
use Rattle.awk_semantics.specs.definitions.Items.{try_items, until_next, unless_exit, each_record, run_action, run_records, end_items}
use Rattle.awk_semantics.specs.definitions.Meaning.{outcome_of, with_bytes, outputs_asked, outputs_from, first_outputs}
use Rattle.awk_streams.specs.Openings.{StandardOutput, StandardError, Opening}
use Rattle.awk_pieces.specs.definitions.Pieceable.{tells_apart}
use Rattle.awk_pieces.specs.definitions.LawOfPieces.{Gives}
use Rattle.awk_pieces.proofs.Alike.{Names, Values, state_on as plain_state}
use Rattle.awk_pieces.proofs.LinesJoined.{newline, Joins}
use Rattle.awk_pieces.proofs.RecordsFound.{over, Counts, record_over}
use Rattle.awk_pieces.proofs.FirstRecord.{OpensLines, with_opening, opened, first_opens}
use Rattle.awk_pieces.proofs.RecordsPassed.{EndsWell}
use Rattle.awk_merging.specs.definitions.Gathering.{Table}
use Rattle.awk_merging.specs.definitions.Sums.{Sum, ByKey, Alone, name_of_sum, print_sums, alone, is_taken, Holds, cell_text}
use Rattle.awk_merging.specs.definitions.LawOfCells.{IsLine, IsOfLines, Held, sums_of, AreHeld, state_at, cells, all_cells}
use Rattle.awk_merging.specs.definitions.LawOfStates.{Cells, text_of_cells, Tables, behind_cells, HoldsAll, AreAdded, AreReadings, state_reading}
use Rattle.awk_merging.specs.definitions.LawOfSums.{bytes_of, cells_of, held_by, IsFor, AreFor}
use Rattle.awk_merging.specs.definitions.LawOfDerived.{IsOneOf}
use Rattle.awk_merging.specs.definitions.LawOfAll.{state_begun}
use Rattle.awk_merging.specs.definitions.Mergeable.{own_in, sums_of_program, is_sum, is_array_sum, is_derived, knows, IsMergeable}
use Rattle.awk_merging.specs.definitions.Derived.{each_of}
use Rattle.awk_merging.specs.definitions.LawOfRules.{ahead, IsSound, IsNoArray, IsAhead}
use Rattle.awk_merging.specs.definitions.LawOfMerging.{HasShortLines}
use Rattle.awk_merging.proofs.Gathering.{apart_turned}
use Rattle.awk_merging.proofs.Cells.{apart_from_taken}
use Rattle.awk_merging.proofs.CellsAdded.{added_append, sound_behind, IsReady, all_added}
use Rattle.awk_merging.proofs.CellsTold.{Fails, AreLines, AreSound, PrintsLines, printed_or_failed}
use Rattle.awk_merging.proofs.DerivedParts.{law_of_derived}
use Rattle.awk_merging.proofs.OwnVariables.{AreOwn, own_apart, known_other, known_not_own}
use Rattle.awk_merging.proofs.ProgramSums.{AreApart, AreProper, is_among, apart_sums, proper_sums}
use Rattle.awk_merging.proofs.RecordsSum.{uncounted, Steady, Passed, passed}
use Rattle.awk_merging.proofs.RulesSum.{rules_alike}
use Rattle.awk_merging.proofs.SecondRun.{same_held}
use Rattle.awk_merging.proofs.Sound.{no_variable_sum}
use Rattle.awk_merging.proofs.States.{holds_one, readings_append}
use Rattle.awk_merging.proofs.Summing.{known_here, known_no_sum, Lost}
use Rattle.awk_merging.proofs.SumsMerged.{law_of_sums, bytes_append, text_append, behind_append}

-- what is held, as tables of sums

pub holds_as : (s : State) (xs : List Sum) (tables others : Tables) → ((x : Sum) → IsOneOf x xs → others (name_of_sum x) ≡ tables (name_of_sum x)) → HoldsAll s xs tables → HoldsAll s xs others
holds_as s [] tables others same holds = tt
holds_as s (x ∷ xs) tables others same holds = (holds.0, subst (λ (t : Table ℤ). Holds s x t) (sym (same x (inl refl))) holds.1, holds_as s xs tables others (λ y is. same y (inr is)) holds.2)

held_sums : (xs : List Sum) (tables : Tables) → sums_of (held_by xs tables) ≡ xs
held_sums [] tables = refl
held_sums (x ∷ xs) tables = ap (λ (l : List Sum). x ∷ l) (held_sums xs tables)

for_alone : (x : List ℕ) (s : State) (table : Table ℤ) → Holds s (Alone x) table → IsFor (Alone x) table
for_alone x s table holds = subst (λ (t : Table ℤ). IsFor (Alone x) t) (sym holds.2) (elim holds.0 as (λ n. IsFor (Alone x) (alone n)) [ None ↦ tt | Some n ↦ (refl, tt) ])

is_for : (s : State) (x : Sum) (table : Table ℤ) → Holds s x table → IsFor x table
is_for s (ByKey a) table holds = tt
is_for s (Alone x) table holds = for_alone x s table holds

are_for : (s : State) (xs : List Sum) (tables : Tables) → HoldsAll s xs tables → AreFor xs tables
are_for s [] tables holds = tt
are_for s (x ∷ xs) tables holds = (is_for s x (tables (name_of_sum x)) holds.1, are_for s xs tables holds.2)

-- what is printed behind readings

pub outputs_read : (os : List Opening) (es fs : List Effect) → AreReadings es → outputs_from os (es ++ fs) ≡ outputs_from os fs
outputs_read os [] fs reads = refl
outputs_read os (Requested (OpensMain kind name) ∷ es) fs reads = outputs_read os es fs reads
outputs_read os (Requested (RecordOfMain separator left) ∷ es) fs reads = outputs_read os es fs reads
outputs_read os (Requested what ∷ es) fs reads = absurd reads
outputs_read os (Printed n bytes ∷ es) fs reads = absurd reads

pub outputs_append : (os : List Opening) (es fs : List Effect) → outputs_from os (es ++ fs) ≡ outputs_from (outputs_from os es) fs
outputs_append os [] fs = refl
outputs_append os (Printed n bytes ∷ es) fs = outputs_append (with_bytes n bytes os) es fs
outputs_append os (Requested what ∷ es) fs = outputs_append (outputs_asked what os) es fs

-- what was printed to standard output alone
abbrev pub standard_only : List ℕ → List Opening
standard_only bytes = record { output = StandardOutput; bytes = bytes } ∷ record { output = StandardError; bytes = [] } ∷ []

abbrev first_bytes : List Opening → List ℕ
first_bytes [] = []
first_bytes (o ∷ os) = o.bytes

table_printed : (name : List ℕ) (table : Table ℤ) (bytes : List ℕ) → outputs_from (standard_only bytes) (cells name table) ≡ standard_only (bytes ++ bytes_of (cells name table))
table_printed name [] bytes = ap standard_only (sym (append-nil bytes))
table_printed name (x ∷ xs) bytes = table_printed name xs (bytes ++ cell_text name x.0 x.1) ∙ ap standard_only (append_assoc bytes (cell_text name x.0 x.1) (bytes_of (cells name xs)))

held_printed : (held : Held) (bytes : List ℕ) → outputs_from (standard_only bytes) (all_cells held) ≡ standard_only (bytes ++ bytes_of (all_cells held))
held_printed [] bytes = ap standard_only (sym (append-nil bytes))
held_printed (x ∷ xs) bytes =
    let first : List Effect = cells (name_of_sum x.0) x.1 in
    outputs_append (standard_only bytes) first (all_cells xs)
    ∙ ap (λ (os : List Opening). outputs_from os (all_cells xs)) (table_printed (name_of_sum x.0) x.1 bytes)
    ∙ held_printed xs (bytes ++ bytes_of first)
    ∙ ap standard_only (append_assoc bytes (bytes_of first) (bytes_of (all_cells xs)) ∙ ap (λ (l : List ℕ). bytes ++ l) (sym (bytes_append first (all_cells xs))))

module _ (functions : Functions) (base : State) where
  are_sound : (v : Values) (k : ℕ) (xs : List Sum) (tables : Tables) → ((name : List ℕ) → IsSound (tables name)) → HoldsAll (state_at base v k) xs tables → AreSound functions base (state_at base v k) (held_by xs tables)
  are_sound v k [] tables sound holds = tt
  are_sound v k (x ∷ xs) tables sound holds = (holds.0, holds.1, sound (name_of_sum x), are_sound v k xs tables sound holds.2)

lines_of : (table : Table ℤ) → IsOfLines table → AreLines table
lines_of [] lines = tt
lines_of (x ∷ xs) lines = (lines.0, lines_of xs lines.3)

pub lines_held : (s : State) (xs : List Sum) (tables : Tables) → AreHeld s (held_by xs tables) → (x : Sum) → IsOneOf x xs → AreLines (tables (name_of_sum x))
lines_held s [] tables are x is = absurd is
lines_held s (y ∷ ys) tables are x (inl same) = subst (λ (z : Sum). AreLines (tables (name_of_sum z))) (sym same) (lines_of (tables (name_of_sum y)) are.2)
lines_held s (y ∷ ys) tables are x (inr later) = lines_held s ys tables are.3 x later

-- what comes behind the records
abbrev pub finish : Functions → List Item → Out (Unit {0}) → Out (Unit {0})
finish functions items z = go_on (unless_exit z.result) (outside_calls z.state) z.effects (λ _. end_items functions items)

abbrev pub records_of : Functions → List Item → State → Out (Unit {0})
records_of functions items s = run_records (until_next (try_items functions 0 items)) s

-- a run that starts with these values: its records are lines, there are no operands, and none was counted
pub record StartsLines (v : Values) : Type 0 where
  pub rs : str_of (v (codes "RS")) ≡ 10 ∷ []
  pub argc : v (codes "ARGC") ≡ value.Number (pos 1)
  pub nr : v (codes "NR") ≡ value.Number (pos 0)

-- where nothing was summed up, and standard input not opened
pub record IsReadyFor (xs : List Sum) (v : Values) (base : State) : Type 0 where
  pub unopened : base.openings input.Standard [] ≡ 0
  pub none : HoldsAll (state_begun base (record { text = []; fields = [] }) v 0) xs (λ name. [])
  pub others : (x : List ℕ) → is_array_sum xs x ≡ false → tells_apart x ≡ false → IsNoArray base x

fault_behind : (effects : List Effect) (y : Out (Unit {0})) → Lost y → Lost (record { result = y.result; state = y.state; effects = effects ++ y.effects })
fault_behind effects y lost = lost

-- how a run on a piece ends

ends_first : (r : Result (Unit {0}) Halt) (t : State) (effects : List Effect) (f : Unit {0} → Run (Unit {0})) (status : ℕ) → outcome_of (go_on r t effects f).result (go_on r t effects f).state.status ≡ Ended 0 → EndsWell r
unfolding go_on
ends_first (Ok u) t effects f status e = tt
ends_first (Err halt.Exit) t effects f status e = tt
ends_first (Err halt.Next) t effects f status e = absurd (cc)
ends_first (Err halt.OutOfSteps) t effects f status e = absurd (cc)
ends_first (Err (halt.Fault n)) t effects f status e = absurd (cc)

pub exit_first : (r : Result (Unit {0}) Halt) → EndsWell (unless_exit r) → EndsWell r
exit_first (Ok u) well = tt
exit_first (Err halt.Exit) well = tt
exit_first (Err halt.Next) well = well
exit_first (Err halt.OutOfSteps) well = well
exit_first (Err (halt.Fault f)) well = well

no_failure : (y : Out (Unit {0})) → Fails y → outcome_of y.result y.state.status ≡ Ended 0 → ⊥
no_failure y (inl stopped) ended = let e = ap (λ (r : Result (Unit {0}) Halt). outcome_of r y.state.status) stopped in cc
no_failure y (inr exits) ended =
    let e : outcome_of y.result y.state.status ≡ Ended 1 = ap₂ (λ (r : Result (Unit {0}) Halt) (n : ℕ). outcome_of r n) exits.0 exits.1 in
    let bad : Ended 1 ≡ Ended 0 = sym e ∙ ended in cc

action_fails : {A : Type 0} (m : Run A) (s : State) (a : Unit {0}) → Fails (m s) → Fails ((m >>= λ _. ret a) s)
unfolding ◌>>=◌ go_on
action_fails m s a (inl stopped) = rw stopped (inl refl)
action_fails m s a (inr exits) = rw exits.0 (inr (refl, exits.1))

module _ (items : List Item) (mergeable : IsMergeable items) (named : (x : Sum) → IsOneOf x (sums_of_program items) → IsLine (name_of_sum x)) (c : RecordPair) (v : Values) (starts : StartsLines v) where
  abbrev pub xs : List Sum
  xs = sums_of_program items

  pub proper : AreProper xs
  proper = proper_sums items

  pub distinct : AreApart xs
  distinct = apart_sums items

  -- the variables of the record
  abbrev pub own_names : Names
  own_names = own_in items

  abbrev owned : AreOwn own_names xs
  owned = own_apart items

  abbrev pub action : Functions → Run (Unit {0})
  action functions = until_next (try_items functions 0 items)

  opens_lines : (base : State) → IsReadyFor xs v base → OpensLines base v
  opens_lines base ready = record { rs = starts.rs; argc = starts.argc; first = ready.unopened }

  abbrev pub opens : List Effect
  opens = Requested (OpensMain input.Standard []) ∷ []

  abbrev pub behind : List Effect → Out (Unit {0}) → Out (Unit {0})
  behind effects x = record { result = x.result; state = x.state; effects = effects ++ x.effects }

  -- the first record opens standard input
  abbrev pub lines : State → List ℕ → ℕ → State
  lines base text k = state_reading (with_opening base) text c base.arrays (opened v) k

  pub opened_is : (base : State) → IsReadyFor xs v base → (text : List ℕ) → Gives base.outside text → (k : ℕ) (m : Run (Unit {0})) → run_records m (state_begun base c v k) ≡ behind opens (each_record (suc k) m (lines base text k))
  unfolding run_records
  opened_is base ready text given k m = first_opens base base.outside text given c v (opens_lines base ready) k k m

  opened_same : (z : List ℕ) → bytes_eq (codes "FILENAME") z ≡ false → bytes_eq (codes "FNR") z ≡ false → opened v z ≡ v z
  opened_same z name number = rw (name, number) refl

  opened_sums : (z : List ℕ) → is_taken z ≡ false → opened v z ≡ v z
  opened_sums z free = opened_same z (apart_turned z (codes "FILENAME") (apart_from_taken z (codes "FILENAME") free refl)) (apart_turned z (codes "FNR") (apart_from_taken z (codes "FNR") free refl))

  pub counts_none : Counts (opened v) 0
  counts_none = record { rs = starts.rs; argc = starts.argc; nr = starts.nr; fnr = refl }

  -- no sum was begun
  pub none_held : (base : State) → IsReadyFor xs v base → (text : List ℕ) (k : ℕ) → HoldsAll (lines base text k) xs (λ name. [])
  none_held base ready text k = same_held (state_begun base (record { text = []; fields = [] }) v 0) (lines base text k) refl refl opened_sums xs (λ name. []) ready.none

  -- a piece: where it is run, and what it prints
  pub record PieceRun : Type 0 where
    pub base : State
    pub functions : Functions
    pub steps : ℕ
    pub text : List ℕ
    pub state : List ℕ
    pub ready : IsReadyFor xs v base
    pub given : Gives base.outside text
    pub short : HasShortLines state
    pub ended : outcome_of (finish functions (each_of items) (records_of functions (each_of items) (state_begun base c v steps))).result (finish functions (each_of items) (records_of functions (each_of items) (state_begun base c v steps))).state.status ≡ Ended 0
    pub prints : outputs_from first_outputs (finish functions (each_of items) (records_of functions (each_of items) (state_begun base c v steps))).effects ≡ standard_only state

  -- a run over more, as a piece begins
  module _ (base : State) (functions : Functions) (unopened : IsReadyFor xs v base) where
    abbrev pub whole : State
    whole = with_opening base

    abbrev pub there : List ℕ → RecordPair → List Array → Values → ℕ → State
    there = state_reading whole

    pub record Holding (before : Tables) (text : List ℕ) (pair : RecordPair) (arrays : List Array) (w : Values) (k count : ℕ) : Type 0 where
      pub holds : HoldsAll (there text pair arrays w k) xs before
      pub sound : (name : List ℕ) → IsSound (before name)
      pub others : (x : List ℕ) → is_array_sum xs x ≡ false → tells_apart x ≡ false → IsNoArray (there text pair arrays w k) x
      pub steady : Steady own_names xs (opened v) w
      pub counts : Counts w count
      pub fits : count + length text < 2 ^ 127

    module _ (piece : PieceRun) where
      abbrev own : State
      own = with_opening piece.base

      abbrev here : Out (Unit {0})
      here = each_record (suc piece.steps) (action piece.functions) (lines piece.base piece.text piece.steps)

      records_are : records_of piece.functions (each_of items) (state_begun piece.base c v piece.steps) ≡ behind opens here
      records_are =
          ap (λ (m : Run (Unit {0})). run_records (until_next m) (state_begun piece.base c v piece.steps)) (λ i s. law_of_derived.each_tries piece.functions items mergeable 0 0 s i)
          ∙ opened_is piece.base piece.ready piece.text piece.given piece.steps (action piece.functions)

      abbrev out : Out (Unit {0})
      out = finish piece.functions (each_of items) (behind opens here)

      out_ended : outcome_of out.result out.state.status ≡ Ended 0
      out_ended = subst (λ (z : Out (Unit {0})). outcome_of (finish piece.functions (each_of items) z).result (finish piece.functions (each_of items) z).state.status ≡ Ended 0) records_are piece.ended

      out_prints : outputs_from first_outputs out.effects ≡ standard_only piece.state
      out_prints = subst (λ (z : Out (Unit {0})). outputs_from first_outputs (finish piece.functions (each_of items) z).effects ≡ standard_only piece.state) records_are piece.prints

      here_well : EndsWell here.result
      here_well = exit_first here.result (ends_first (unless_exit here.result) (outside_calls here.state) (opens ++ here.effects) (λ _. end_items piece.functions (each_of items)) 0 out_ended)

      known_steady : (w : Values) → Steady own_names xs (opened v) w → (x : List ℕ) → knows own_names xs x ≡ true → w x ≡ opened v x
      known_steady w steady x known =
          let other = known_other own_names xs x known in
          let no_sum = known_no_sum (tells_apart x) (is_derived x) (is_sum xs x) other in
          let not = known_here (tells_apart x) (is_derived x) (is_sum xs x) other in
          steady x (no_variable_sum xs x no_sum) (known_not_own own_names xs x known) (uncounted (codes "NR") x refl not) (uncounted (codes "FNR") x refl not)

      module _ (before : Tables) (more : List ℕ) (pair : RecordPair) (arrays : List Array) (w : Values) (k count e d : ℕ) (holding : Holding before (piece.text ++ more) pair arrays w k count) (steps : k ≡ piece.steps + d) (joins : Joins piece.text more) where
        first_ahead : IsAhead own_names xs before (lines piece.base piece.text piece.steps) (there (piece.text ++ more) pair arrays w k)
        first_ahead = record {
          tables = λ name. [];
          here = none_held piece.base piece.ready piece.text piece.steps;
          there = holding.holds;
          sound = λ name. tt;
          sound_there = holding.sound;
          variables = λ x known. known_steady w holding.steady x known;
          arrays = λ x no_sum apart. (piece.ready.others x no_sum apart, holding.others x no_sum apart);
        }

        abbrev Passes : Type 0
        Passes = Passed own_names xs owned proper distinct before own whole (action piece.functions) (action functions) (λ o p. rules_alike own_names xs owned proper distinct before own whole o p piece.functions functions 0 0 items mergeable) more (opened v) w e d here
            (each_record (suc piece.steps + e) (action functions) (there (piece.text ++ more) pair arrays w (piece.steps + d)))

        passes : Passes ⊎ Lost (each_record (suc piece.steps + e) (action functions) (there (piece.text ++ more) pair arrays w (piece.steps + d)))
        passes =
            let size = length-append piece.text more in
            passed own_names xs owned proper distinct before own whole (action piece.functions) (action functions) (λ o p. rules_alike own_names xs owned proper distinct before own whole o p piece.functions functions 0 0 items mergeable)
            (suc piece.steps) e piece.text more c pair piece.base.arrays arrays (opened v) w piece.steps d 0 count (subst (λ (l : ℕ). IsAhead own_names xs before (lines piece.base piece.text piece.steps) (there (piece.text ++ more) pair arrays w l)) steps first_ahead)
            counts_none holding.counts joins (let fits = holding.fits in omega (arith, size, fits)) (let fits = holding.fits in omega (arith, size, fits)) here_well

        -- what the piece prints
        module _ (p : Passes) where
          abbrev tables : Tables
          tables = p.are_ahead.tables

          abbrev last : State
          last = plain_state (record own { arrays = p.arrays }) (over own.outside) p.pair p.mine p.left

          abbrev held : Held
          held = held_by xs tables

          abbrev printing : Out Flow
          printing = exec_all piece.functions (print_sums xs) last

          out_is : out ≡ behind (opens ++ here.effects) (run_action piece.functions (print_sums xs) last)
          unfolding go_on
          out_is = rw (p.ends, p.is_here) (ap (behind (opens ++ here.effects)) (law_of_derived.each_ends piece.functions items last))

          ended_so : outcome_of (run_action piece.functions (print_sums xs) last).result (run_action piece.functions (print_sums xs) last).state.status ≡ Ended 0
          ended_so = subst (λ (z : Out (Unit {0})). outcome_of z.result z.state.status ≡ Ended 0) out_is out_ended

          action_failed : Fails printing → Fails (run_action piece.functions (print_sums xs) last)
          unfolding run_action
          action_failed fails = action_fails (exec_all piece.functions (print_sums xs)) last tt fails

          printed : PrintsLines piece.functions last p.mine held p.left
          printed = elim (printed_or_failed piece.functions last held p.mine p.left (are_sound piece.functions last p.mine p.left xs tables p.are_ahead.sound p.are_ahead.here)) [
            | inl lines ↦ lines
            | inr fails ↦ absurd (no_failure (run_action piece.functions (print_sums xs) last) (action_failed (subst (λ (l : List Sum). Fails (exec_all piece.functions (print_sums l) last)) (held_sums xs tables) fails)) ended_so)
          ]

          printing_is : printing ≡ record { result = Ok flow.Normal; state = state_at last printed.shows.values printed.left; effects = all_cells held }
          printing_is = ap (λ (l : List Sum). exec_all piece.functions (print_sums l) last) (sym (held_sums xs tables)) ∙ printed.shows.is

          action_shows : (run_action piece.functions (print_sums xs) last).effects ≡ all_cells held
          unfolding run_action ◌>>=◌ go_on lift
          action_shows = rw (printing_is, append-nil (all_cells held)) refl

          pub state_is : piece.state ≡ text_of_cells (cells_of held)
          state_is =
              ap first_bytes (
              sym out_prints
              ∙ ap (λ (z : Out (Unit {0})). outputs_from first_outputs z.effects) out_is
              ∙ outputs_read first_outputs (opens ++ here.effects) (run_action piece.functions (print_sums xs) last).effects p.reads_here
              ∙ ap (outputs_from first_outputs) action_shows
              ∙ held_printed held [])
              ∙ law_of_sums.text held

          ready_sum : (x : Sum) → IsOneOf x xs → IsReady xs before tables x
          ready_sum x is = record {
            among = is_among x xs distinct is;
            line = named x is;
            for = is_for last x (tables (name_of_sum x)) (holds_one last x xs tables (is_among x xs distinct is) p.are_ahead.here).1;
            sound = p.are_ahead.sound (name_of_sum x);
            lines = lines_held (state_at last p.mine p.left) xs tables printed.are x is;
            whole = p.are_ahead.sound_there (name_of_sum x);
          }

          pub cells_added : AreAdded xs before (cells_of held)
          cells_added = all_added xs xs before tables distinct ready_sum (subst HasShortLines state_is piece.short)

          abbrev then_held : Tables
          then_held = behind_cells before (cells_of held)

          same_then : (x : Sum) → IsOneOf x xs → then_held (name_of_sum x) ≡ ahead before tables (name_of_sum x)
          same_then x is = law_of_sums.replays xs before tables (are_for last xs tables p.are_ahead.here) x (is_among x xs distinct is)

          pub still_holding : Holding then_held more p.pair' p.arrays' p.theirs (p.left + d) p.count
          still_holding = record {
            holds = holds_as (there more p.pair' p.arrays' p.theirs (p.left + d)) xs (ahead before tables) then_held same_then p.are_ahead.there;
            sound = sound_behind xs before (cells_of held) holding.sound cells_added;
            others = λ x no_sum apart. (p.are_ahead.arrays x no_sum apart).1;
            steady = λ z no_sum not nr fnr. p.keeps' z no_sum not nr fnr ∙ holding.steady z no_sum not nr fnr;
            counts = p.counts;
            fits = p.fits;
          }

    -- pieces, one behind the other

    abbrev pub texts : List PieceRun → List ℕ
    texts [] = []
    texts (piece ∷ pieces) = piece.text ++ texts pieces

    abbrev pub states : List PieceRun → List ℕ
    states [] = []
    states (piece ∷ pieces) = piece.state ++ states pieces

    abbrev pub steps_of_all : List PieceRun → ℕ
    steps_of_all [] = 0
    steps_of_all (piece ∷ pieces) = piece.steps + steps_of_all pieces

    abbrev pub AllJoin : List PieceRun → Type 0
    AllJoin [] = Unit {0}
    AllJoin (piece ∷ pieces) = Joins piece.text (texts pieces) × AllJoin pieces

    -- what a run over all texts comes to before END
    pub record Gathered (before : Tables) (pieces : List PieceRun) (out : Out (Unit {0})) : Type 0 where
      pub pair : RecordPair
      pub arrays : List Array
      pub values : Values
      pub left : ℕ
      pub effects : List Effect
      pub reads : AreReadings effects
      pub is : out ≡ record { result = Ok tt; state = plain_state (record whole { arrays = arrays }) (over whole.outside) pair values left; effects = effects }
      pub steady : Steady own_names xs (opened v) values
      pub cells : Cells
      pub text : states pieces ≡ text_of_cells cells
      pub added : AreAdded xs before cells
      pub holds : HoldsAll (plain_state (record whole { arrays = arrays }) (over whole.outside) pair values left) xs (behind_cells before cells)
      pub others : (x : List ℕ) → is_array_sum xs x ≡ false → tells_apart x ≡ false → IsNoArray (plain_state (record whole { arrays = arrays }) (over whole.outside) pair values left) x

    nothing_left : (before : Tables) (pair : RecordPair) (arrays : List Array) (w : Values) (k count turns : ℕ) → Holding before [] pair arrays w k count → Gathered before [] (each_record (suc turns) (action functions) (there [] pair arrays w k))
    nothing_left before pair arrays w k count turns holding = record {
      pair = pair;
      arrays = arrays;
      values = w;
      left = k;
      effects = Requested (RecordOfMain newline []) ∷ [];
      reads = tt;
      is = record_over (record whole { arrays = arrays }) whole.outside [] pair w count holding.counts turns (action functions) k refl;
      steady = holding.steady;
      cells = [];
      text = refl;
      added = tt;
      holds = same_held (there [] pair arrays w k) (plain_state (record whole { arrays = arrays }) (over whole.outside) pair w k) refl refl (λ z free. refl) xs before holding.holds;
      others = λ x no_sum apart. ((holding.others x no_sum apart).0, (holding.others x no_sum apart).1);
    }

    one_more : (piece : PieceRun) (pieces : List PieceRun) (before : Tables) (pair : RecordPair) (arrays : List Array) (w : Values) (k count e d : ℕ) (holding : Holding before (piece.text ++ texts pieces) pair arrays w k count) (steps : k ≡ piece.steps + d) (joins : Joins piece.text (texts pieces))
        (p : Passes piece before (texts pieces) pair arrays w k count e d holding steps joins) (rest : Out (Unit {0})) →
        Gathered (then_held piece before (texts pieces) pair arrays w k count e d holding steps joins p) pieces rest → Gathered before (piece ∷ pieces) (behind p.effects rest)
    one_more piece pieces before pair arrays w k count e d holding steps joins p rest g =
        let own_cells : Cells = cells_of (held piece before (texts pieces) pair arrays w k count e d holding steps joins p) in
        let last_state : State = plain_state (record whole { arrays = g.arrays }) (over whole.outside) g.pair g.values g.left in
        record {
          pair = g.pair;
          arrays = g.arrays;
          values = g.values;
          left = g.left;
          effects = p.effects ++ g.effects;
          reads = readings_append p.effects g.effects p.reads g.reads;
          is = ap (behind p.effects) g.is;
          steady = g.steady;
          cells = own_cells ++ g.cells;
          text = ap₂ (λ (l m : List ℕ). l ++ m) (state_is piece before (texts pieces) pair arrays w k count e d holding steps joins p) g.text ∙ sym (text_append own_cells g.cells);
          added = added_append xs before own_cells g.cells (cells_added piece before (texts pieces) pair arrays w k count e d holding steps joins p) g.added;
          holds = subst (λ (t : Tables). HoldsAll last_state xs t) (sym (behind_append before own_cells g.cells)) g.holds;
          others = g.others;
        }

    pub all_gathered : (pieces : List PieceRun) (before : Tables) (pair : RecordPair) (arrays : List Array) (w : Values) (k count turns : ℕ) → Holding before (texts pieces) pair arrays w k count → AllJoin pieces → steps_of_all pieces ≤ k → steps_of_all pieces ≤ turns →
        Gathered before pieces (each_record (suc turns) (action functions) (there (texts pieces) pair arrays w k)) ⊎ Lost (each_record (suc turns) (action functions) (there (texts pieces) pair arrays w k))
    all_gathered [] before pair arrays w k count turns holding joins enough enough' = inl (nothing_left before pair arrays w k count turns holding)
    all_gathered (piece ∷ pieces) before pair arrays w k count turns holding joins enough enough' =
        let d : ℕ = k - piece.steps in
        let e : ℕ = turns - piece.steps in
        let steps : k ≡ piece.steps + d = omega arith in
        let turned : suc turns ≡ suc piece.steps + e = omega arith in
        let begun : each_record (suc turns) (action functions) (there (piece.text ++ texts pieces) pair arrays w k) ≡ each_record (suc piece.steps + e) (action functions) (there (piece.text ++ texts pieces) pair arrays w (piece.steps + d))
        = ap₂ (λ (n l : ℕ). each_record n (action functions) (there (piece.text ++ texts pieces) pair arrays w l)) turned steps in
        elim (passes piece before (texts pieces) pair arrays w k count e d holding steps joins.0) [
          | inr lost ↦ inr (ap (λ (z : Out (Unit {0})). z.result) begun ∙ lost)
          | inl p ↦
              let rest : Out (Unit {0}) = each_record (suc (p.turns + e)) (action functions) (there (texts pieces) p.pair' p.arrays' p.theirs (p.left + d)) in
              let is : each_record (suc turns) (action functions) (there (piece.text ++ texts pieces) pair arrays w k) ≡ behind p.effects rest
              = begun ∙ p.is_there ∙ ap (λ (n : ℕ). behind p.effects (each_record n (action functions) (there (texts pieces) p.pair' p.arrays' p.theirs (p.left + d)))) (let one : suc p.turns + e ≡ suc (p.turns + e) = omega arith in one) in
              elim (all_gathered pieces (then_held piece before (texts pieces) pair arrays w k count e d holding steps joins.0 p) p.pair' p.arrays' p.theirs (p.left + d) p.count (p.turns + e)
              (still_holding piece before (texts pieces) pair arrays w k count e d holding steps joins.0 p) joins.1 (omega arith) (omega arith)) [
                | inr lost ↦ inr (ap (λ (z : Out (Unit {0})). z.result) is ∙ lost)
                | inl g ↦ inl (subst (λ (z : Out (Unit {0})). Gathered before (piece ∷ pieces) z) (sym is) (one_more piece pieces before pair arrays w k count e d holding steps joins.0 p rest g))
              ]
        ]
