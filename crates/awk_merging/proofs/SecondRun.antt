-- What the second of the derived programs does on the text of cells.
use Rattle.std.proofs.Common.{◌≡◌, inl, inr, ℕ, suc, ◌+◌, ◌*◌, ◌<◌, true, false, List, [], ◌∷◌, ◌++◌, length, None, Ok, refl, sym, ap, ap₂, ◌∙◌, subst, codes, bytes_eq, append-nil, arith}
use Rattle.std.specs.Prelude.{slice_get, unwrap_or}
use Rattle.awk_value.specs.Arrays.{Array}
use Rattle.awk_record.specs.Record.{RecordPair}
use Rattle.awk_world.specs.declared.world.InputKind.TheVariants as input
use Rattle.awk_kinds.specs.Names.{has_name}
use Rattle.awk_grammar.specs.Tree.{Item, Begin, End, Action, PatternAction, PatternOnly, Function}
use Rattle.awk_semantics.specs.definitions.State.{OpensMain, RecordOfMain, Effect, Requested, State, Out, Run, go_on, ◌>>=◌, gives}
use Rattle.awk_semantics.specs.definitions.Primitives.{number_in}
use Rattle.awk_semantics.specs.definitions.Semantics.{Functions}
use Rattle.awk_semantics.specs.definitions.Items.{try_items, until_next, until_exit, each_record, run_records, has_rule, begin_items, end_items, run_before_end, run_items}
use Rattle.awk_pieces.proofs.Alike.{behind}
use Rattle.awk_pieces.proofs.LinesJoined.{newline}
use Rattle.awk_pieces.proofs.RecordsFound.{Counts, record_over}
use Rattle.awk_pieces.proofs.FirstRecord.{OpensLines, with_opening, opened, first_opens}
use Rattle.awk_merging.specs.definitions.Sums.{Sum, ByKey, Alone, reading_rules, is_taken}
use Rattle.awk_merging.specs.definitions.LawOfStates.{Cells, text_of_cells, Tables, behind_cells, HoldsAll, AreAdded, state_reading, ReadsOn, turns_of, steps_of}
use Rattle.awk_merging.specs.definitions.Mergeable.{sums_of_program}
use Rattle.awk_merging.specs.definitions.Derived.{begins_of, ends_of, all_of}
use Rattle.awk_merging.specs.definitions.LawOfDerived.{IsOneOf}
use Rattle.awk_merging.specs.definitions.LawOfAll.{state_begun, WillRead, EndsWith, LawOfAll}
use Rattle.awk_merging.proofs.Cells.{apart_from_taken}
use Rattle.awk_merging.proofs.Gathering.{apart_turned}
use Rattle.awk_merging.proofs.DerivedParts.{law_of_derived}
use Rattle.awk_merging.proofs.States.{Values, uncounted, readings_append, law_of_states}

-- there are turns enough, as there are steps

turns_more : (cells : Cells) (turns : ℕ) → turns_of cells (suc turns) ≡ suc (turns_of cells turns)
turns_more [] turns = refl
turns_more (x ∷ cells) turns = ap (λ (n : ℕ). suc (suc (suc n))) (turns_more cells turns)

turns_left : (cells : Cells) (left : ℕ) → (turns : ℕ) × (suc (steps_of cells left) ≡ turns_of cells (suc turns))
turns_left [] left = (left, refl)
turns_left (x ∷ cells) left =
    let rest = turns_left cells left in
    let t : ℕ = suc rest.0 in
    let one = turns_more cells t in
    let two = turns_more cells (suc t) in
    let three = turns_more cells (suc (suc t)) in
    let four = turns_more cells (suc (suc (suc t))) in
    let five = turns_more cells (suc (suc (suc (suc t)))) in
    let is = rest.1 in
    (suc (suc (suc (suc (suc rest.0)))), omega (arith, one, two, three, four, five, is))

pub has_rules : (xs ys : List Item) → has_rule ys ≡ true → has_rule (begins_of xs ++ ys) ≡ true
has_rules [] ys has = has
has_rules (Begin b ∷ xs) ys has = has_rules xs ys has
has_rules (End b ∷ xs) ys has = has_rules xs ys has
has_rules (Action b ∷ xs) ys has = has_rules xs ys has
has_rules (PatternAction p b ∷ xs) ys has = has_rules xs ys has
has_rules (PatternOnly p ∷ xs) ys has = has_rules xs ys has
has_rules (Function f parameters b ∷ xs) ys has = has_rules xs ys has

-- what is held stays, where the arrays and the variables of sums do
pub kept_held : (s t : State) → s.array_names ≡ t.array_names → s.arrays ≡ t.arrays → (xs : List Sum) (tables : Tables) → ((z : List ℕ) → is_taken z ≡ false → IsOneOf (Alone z) xs → t.variables z ≡ s.variables z) → HoldsAll s xs tables → HoldsAll t xs tables
kept_held s t names arrays [] tables values holds = tt
kept_held s t names arrays (ByKey a ∷ xs) tables values holds = (
  holds.0,
  (
    ap (λ (l : List (List ℕ)). has_name l a) (sym names) ∙ holds.1.0,
    subst (λ (l : List (List ℕ)). number_in l a < length t.arrays) names (subst (λ (l : List Array). number_in s.array_names a < length l) arrays holds.1.1),
    ap₂ (λ (l : List Array) (n : List (List ℕ)). unwrap_or (slice_get l (number_in n a)) []) (sym arrays) (sym names) ∙ holds.1.2,
  ),
  kept_held s t names arrays xs tables (λ z free is. values z free (inr is)) holds.2,
)
kept_held s t names arrays (Alone x ∷ xs) tables values holds = (holds.0, (holds.1.0, values x holds.0 (inl refl) ∙ holds.1.1, holds.1.2), kept_held s t names arrays xs tables (λ z free is. values z free (inr is)) holds.2)

pub same_held : (s t : State) → s.array_names ≡ t.array_names → s.arrays ≡ t.arrays → ((z : List ℕ) → is_taken z ≡ false → t.variables z ≡ s.variables z) → (xs : List Sum) (tables : Tables) → HoldsAll s xs tables → HoldsAll t xs tables
same_held s t names arrays values xs tables holds = kept_held s t names arrays xs tables (λ z free is. values z free) holds

module _ (functions : Functions) (items : List Item) (base : State) (c : RecordPair) (v : Values) (cells : Cells) (tables : Tables) (left : ℕ) (will : WillRead base v cells)
    (holds : HoldsAll (state_begun base c v left) (sums_of_program items) tables) (added : AreAdded (sums_of_program items) tables cells) where
  abbrev xs : List Sum
  xs = sums_of_program items

  abbrev text : List ℕ
  text = text_of_cells cells

  abbrev action : Run (Unit {0})
  action = until_next (try_items functions 0 (all_of items))

  abbrev reads : Run (Unit {0})
  reads = until_next (try_items functions 0 (reading_rules xs))

  same_action : action ≡ reads
  same_action = ap until_next (λ i s. law_of_derived.all_tries functions items 0 0 s i)

  abbrev open_base : State
  open_base = with_opening base

  abbrev begun : ℕ → State
  begun k = state_begun base c v k

  opens_lines : OpensLines base v
  opens_lines = record { rs = will.rs; argc = will.argc; first = will.unopened }

  opened_same : (z : List ℕ) → bytes_eq (codes "FILENAME") z ≡ false → bytes_eq (codes "FNR") z ≡ false → opened v z ≡ v z
  opened_same z name number = rw (name, number) refl

  opened_sums : (z : List ℕ) → is_taken z ≡ false → opened v z ≡ v z
  opened_sums z proper = opened_same z (apart_turned z (codes "FILENAME") (apart_from_taken z (codes "FILENAME") proper refl)) (apart_turned z (codes "FNR") (apart_from_taken z (codes "FNR") proper refl))

  abbrev turns : ℕ
  turns = (turns_left cells left).0

  abbrev out : Out (Unit {0})
  out = each_record (turns_of cells (suc turns)) reads (state_reading open_base (text ++ []) c base.arrays (opened v) (steps_of cells left))

  reads_on : ReadsOn open_base reads xs (behind_cells tables cells) [] base.arrays (opened v) (0 + length cells) (suc turns) left out
  reads_on = law_of_states functions 0 xs open_base cells tables added [] c base.arrays (opened v) 0 (suc turns) left (omega (arith, will.few)) (record { rs = will.rs; argc = will.argc; nr = will.nr; fnr = refl })
      (same_held (begun left) (state_reading open_base (text ++ []) c base.arrays (opened v) (steps_of cells left)) refl refl opened_sums xs tables holds)

  counts : Counts reads_on.values (3 * (0 + length cells))
  counts = record { rs = reads_on.read.rs; argc = reads_on.read.argc; nr = reads_on.read.nr; fnr = reads_on.read.fnr }

  abbrev before : State
  before = record open_base { main = None; current = reads_on.current; arrays = reads_on.arrays; variables = reads_on.values; frames = []; streams = []; next = 1; status = 0; input_seen = true; steps = left }

  abbrev last : List Effect
  last = Requested (RecordOfMain newline []) ∷ []

  over_is : each_record (suc turns) reads (state_reading open_base [] reads_on.current reads_on.arrays reads_on.values left) ≡ record { result = Ok (tt {0}); state = before; effects = last }
  over_is = record_over (record open_base { arrays = reads_on.arrays }) base.outside [] reads_on.current reads_on.values (3 * (0 + length cells)) counts turns reads left refl

  abbrev opens : List Effect
  opens = Requested (OpensMain input.Standard []) ∷ []

  abbrev shown : List Effect
  shown = opens ++ (reads_on.effects ++ last)

  records_are : run_records action (begun (steps_of cells left)) ≡ record { result = Ok (tt {0}); state = before; effects = shown }
  unfolding run_records
  records_are =
      ap (λ (a : Run (Unit {0})). each_record (suc (steps_of cells left)) a (begun (steps_of cells left))) same_action
      ∙ first_opens base base.outside text will.gives_text c v opens_lines (steps_of cells left) (steps_of cells left) reads
      ∙ ap (behind opens) (
      ap₂ (λ (n : ℕ) (l : List ℕ). each_record n reads (state_reading open_base l c base.arrays (opened v) (steps_of cells left))) (turns_left cells left).1 (sym (append-nil text))
      ∙ reads_on.is
      ∙ ap (behind reads_on.effects) over_is)

  has : has_rule (all_of items) ≡ true
  has = has_rules items (reading_rules xs ++ ends_of items) refl

  module _ (s : State) (begins : begin_items functions items s ≡ gives (tt {0}) (begun (steps_of cells left))) where
    before_end_is : run_before_end functions (all_of items) s ≡ record { result = Ok (tt {0}); state = before; effects = shown }
    unfolding run_before_end ◌>>=◌ go_on
    before_end_is = rw (law_of_derived.all_begins functions items s, begins, has, records_are) refl

    all_is : run_items functions (all_of items) s ≡ record { result = (end_items functions items before).result; state = (end_items functions items before).state; effects = shown ++ (end_items functions items before).effects }
    unfolding run_items until_exit ◌>>=◌ go_on
    all_is = rw (before_end_is, law_of_derived.all_ends functions items before) refl

    ends_with : EndsWith functions items xs (behind_cells tables cells) base.array_names base.arrays v left (run_items functions (all_of items) s)
    ends_with = record {
      before = before;
      effects = shown;
      readings = readings_append reads_on.effects last reads_on.readings tt;
      holds = same_held (state_reading open_base [] reads_on.current reads_on.arrays reads_on.values left) before refl refl (λ z proper. refl) xs (behind_cells tables cells) reads_on.holds;
      keeps = λ z unnamed not name. reads_on.keeps z unnamed not ∙ opened_same z name (uncounted z (codes "FNR") not refl);
      steps = refl;
      outside_calls = refl;
      status = refl;
      names = refl;
      elsewhere = reads_on.elsewhere;
      is = all_is;
    }

pub law_of_all : LawOfAll
law_of_all functions items base c v cells tables left s begins will holds added = ends_with functions items base c v cells tables left will holds added s begins
