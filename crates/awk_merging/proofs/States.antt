-- What the rules that read sums come to on the cells of a text.
use Rattle.std.proofs.Common.{◌≡◌, inl, inr, ℕ, suc, ◌+◌, ◌*◌, ◌<◌, ◌^◌, ℤ, ◌+ℤ◌, pos, true, false, List, [], ◌∷◌, ◌++◌, length, Some, refl, sym, ap, ◌∙◌, subst, codes, bytes_eq, append_assoc, arith}
use Rattle.std.specs.Fmt.{signed_decimal}
use Rattle.std.proofs.lemmas.Bool.{cases_Bool, cond-true, cond-false}
use Rattle.awk_value.specs.declared.value.Value.{Value}
use Rattle.awk_value.specs.declared.value.Value.TheVariants as value
use Rattle.awk_value.specs.Arithmetic.{is_in_range}
use Rattle.awk_value.specs.Arrays.{Array}
use Rattle.awk_value.specs.Values.{str_of}
use Rattle.awk_record.specs.definitions.Cut.{AtEnd}
use Rattle.awk_record.specs.Record.{RecordPair, split_by}
use Rattle.awk_kinds.specs.Variables.{with_value}
use Rattle.awk_semantics.specs.declared.halt.Halt.TheVariants as halt
use Rattle.awk_semantics.specs.definitions.State.{OpensMain, RecordOfMain, Effect, Printed, Requested, State, Out, Run, go_on, ◌>>=◌, gives, ends}
use Rattle.awk_semantics.specs.definitions.Semantics.{Functions}
use Rattle.awk_semantics.specs.definitions.Items.{try_items, until_next, each_record}
use Rattle.awk_pieces.proofs.Alike.{behind}
use Rattle.awk_pieces.proofs.LinesJoined.{newline}
use Rattle.awk_pieces.proofs.RecordsFound.{Counts, counted, rule_for, record_found}
use Rattle.awk_merging.specs.definitions.Gathering.{Table, updated, sums}
use Rattle.awk_merging.specs.definitions.Sums.{Sum, ByKey, Alone, name_of_sum, merge_what, merge_key, reading_rules, is_taken, Holds, cell_text}
use Rattle.awk_merging.specs.definitions.LawOfReading.{IsLineOf, IsUnnamed, IsAmong, key_for, number_at, Adds}
use Rattle.awk_merging.specs.definitions.LawOfStates.{Cell, Cells, text_of_cells, Tables, with_cell, behind_cells, HoldsAll, IsRecord, AreAdded, state_reading, HasRead, AreReadings, is_counted, ReadsOn, turns_of, steps_of, LawOfStates}
use Rattle.awk_merging.proofs.Gathering.{same_key, own_key, not_both, apart_turned}
use Rattle.awk_merging.proofs.Cells.{apart_from_taken}
use Rattle.awk_merging.proofs.CellLines.{cell_front, line_cut, number_record, first_line, second_line, third_line}
use Rattle.awk_merging.proofs.Reading.{law_of_reading}
use Rattle.awk_merging.proofs.Sound.{among_one, is_aside, not_array, not_variable}

abbrev pub Values : Type 0
Values = List ℕ → Value

-- what is held, by one sum and by all

pub holds_one : (s : State) (x : Sum) (ys : List Sum) (tables : Tables) → IsAmong x ys → HoldsAll s ys tables → (is_taken (name_of_sum x) ≡ false) × Holds s x (tables (name_of_sum x))
holds_one s x [] tables among holds = absurd among
holds_one s x (y ∷ ys) tables (inl is) holds = subst (λ (z : Sum). (is_taken (name_of_sum z) ≡ false) × Holds s z (tables (name_of_sum z))) (sym is.0) (holds.0, holds.1)
holds_one s x (y ∷ ys) tables (inr later) holds = holds_one s x ys tables later.1 holds.2

-- sums of other names have the tables that they had
other_cell : (tables : Tables) (x : Cell) (y : Sum) → bytes_eq (name_of_sum x.sum) (name_of_sum y) ≡ false → with_cell tables x (name_of_sum y) ≡ tables (name_of_sum y)
other_cell tables x y apart = cond-false _ _ _ apart

pub own_cell : (tables : Tables) (x : Cell) → with_cell tables x (name_of_sum x.sum) ≡ updated sums (tables (name_of_sum x.sum)) (key_for x.sum x.key) x.number
own_cell tables x = cond-true _ _ _ (own_key (name_of_sum x.sum))

module _ (s t : State) (x : Cell) (tables : Tables) (own : Holds t x.sum (updated sums (tables (name_of_sum x.sum)) (key_for x.sum x.key) x.number))
    (others : (y : Sum) (other : Table ℤ) → bytes_eq (name_of_sum x.sum) (name_of_sum y) ≡ false → Holds s y other → Holds t y other) where
  others_hold : (ys : List Sum) → IsUnnamed (name_of_sum x.sum) ys → HoldsAll s ys tables → HoldsAll t ys (with_cell tables x)
  others_hold [] unnamed holds = tt
  others_hold (y ∷ ys) unnamed holds = (
    holds.0,
    subst (λ (table : Table ℤ). Holds t y table) (sym (other_cell tables x y unnamed.0)) (others y (tables (name_of_sum y)) unnamed.0 holds.1),
    others_hold ys unnamed.1 holds.2,
  )

  pub all_hold : (ys : List Sum) → IsAmong x.sum ys → HoldsAll s ys tables → HoldsAll t ys (with_cell tables x)
  all_hold [] among holds = absurd among
  all_hold (y ∷ ys) (inl is) holds = (
    holds.0,
    subst (λ (z : Sum). Holds t z (with_cell tables x (name_of_sum z))) is.0 (subst (λ (table : Table ℤ). Holds t x.sum table) (sym (own_cell tables x)) own),
    others_hold ys is.1 holds.2,
  )
  all_hold (y ∷ ys) (inr later) holds = (
    holds.0,
    subst (λ (table : Table ℤ). Holds t y table) (sym (other_cell tables x y later.0)) (others y (tables (name_of_sum y)) later.0 holds.1),
    all_hold ys later.1 holds.2,
  )

-- a name that no sum has is another than each one's
unnamed_among : (z : List ℕ) (x : Sum) (ys : List Sum) → IsUnnamed z ys → IsAmong x ys → bytes_eq z (name_of_sum x) ≡ false
unnamed_among z x [] unnamed among = absurd among
unnamed_among z x (y ∷ ys) unnamed (inl is) = subst (λ (w : Sum). bytes_eq z (name_of_sum w) ≡ false) (sym is.0) unnamed.0
unnamed_among z x (y ∷ ys) unnamed (inr later) = unnamed_among z x ys unnamed.1 later.1

-- a variable that isn't counted is none of these
pub uncounted : (z name : List ℕ) → is_counted z ≡ false → is_counted name ≡ true → bytes_eq name z ≡ false
uncounted z name not is = elim (cases_Bool (bytes_eq name z)) [
  | inl same ↦ absurd (not_both (is_counted z) (ap is_counted (sym (same_key name z same)) ∙ is) not)
  | inr other ↦ other
]

-- where no variable of a sum changes, all are held
kept_holds : (base : State) (left left' : List ℕ) (c c' : RecordPair) (arrays : List Array) (v w : Values) (k l : ℕ) → ((z : List ℕ) → is_taken z ≡ false → w z ≡ v z) → (ys : List Sum) (tables : Tables) →
    HoldsAll (state_reading base left c arrays v k) ys tables → HoldsAll (state_reading base left' c' arrays w l) ys tables
kept_holds base left left' c c' arrays v w k l keeps [] tables holds = tt
kept_holds base left left' c c' arrays v w k l keeps (ByKey a ∷ ys) tables holds = (holds.0, holds.1, kept_holds base left left' c c' arrays v w k l keeps ys tables holds.2)
kept_holds base left left' c c' arrays v w k l keeps (Alone y ∷ ys) tables holds =
    (holds.0, (holds.1.0, keeps y holds.0 ∙ holds.1.1, holds.1.2), kept_holds base left left' c c' arrays v w k l keeps ys tables holds.2)

pub readings_append : (es fs : List Effect) → AreReadings es → AreReadings fs → AreReadings (es ++ fs)
readings_append [] fs a b = b
readings_append (Requested (OpensMain kind name) ∷ es) fs a b = readings_append es fs a b
readings_append (Requested (RecordOfMain separator left) ∷ es) fs a b = readings_append es fs a b
readings_append (Requested what ∷ es) fs a b = absurd a
readings_append (Printed n bytes ∷ es) fs a b = absurd a

module _ (functions : Functions) (m : ℕ) (xs : List Sum) (base : State) where
  abbrev rules : Run (Unit {0})
  rules = try_items functions m (reading_rules xs)

  abbrev action : Run (Unit {0})
  action = until_next rules

  abbrev at : List ℕ → RecordPair → List Array → Values → ℕ → State
  at = state_reading base

  abbrev asks : List ℕ → List Effect
  asks bytes = Requested (RecordOfMain newline bytes) ∷ []

  goes_next : (n : ℕ) (s : State) (left : List ℕ) (c : RecordPair) (arrays : List Array) (v : Values) (k : ℕ) → rules s ≡ ends halt.Next (at left c arrays v k) → (action >>= λ _. each_record n action) s ≡ each_record n action (at left c arrays v k)
  unfolding ◌>>=◌ until_next go_on
  goes_next n s left c arrays v k is = rw is refl

  goes_on : (n : ℕ) (s : State) (left : List ℕ) (c : RecordPair) (arrays : List Array) (v : Values) (k : ℕ) → rules s ≡ gives (tt {0}) (at left c arrays v k) → (action >>= λ _. each_record n action) s ≡ each_record n action (at left c arrays v k)
  unfolding ◌>>=◌ until_next go_on
  goes_on n s left c arrays v k is = rw is refl

  -- a line is read
  line_read : (line rest : List ℕ) → IsRecord line → (c : RecordPair) (arrays : List Array) (v : Values) (i : ℕ) → suc i < 2 ^ 127 → Counts v i → (n k : ℕ) →
      each_record (suc n) action (at (line ++ (10 ∷ rest)) c arrays v (suc k)) ≡ behind (asks (line ++ (10 ∷ rest))) ((action >>= λ _. each_record n action) (at rest (split_by (rule_for v) line) arrays (counted v (suc i)) k))
  line_read line rest is c arrays v i fits counts n k =
      record_found (record base { arrays = arrays }) base.outside (line ++ (10 ∷ rest)) c v i counts n action k line rest fits (line_cut line rest is)

  -- the state of the rules' law
  abbrev open_at : List ℕ → State
  open_at left = record base { main = Some (record { bytes = left; ending = AtEnd }); streams = []; next = 1; status = 0; input_seen = true }

  first_read : (line rest : List ℕ) → IsRecord line → (c : RecordPair) (arrays : List Array) (v : Values) (i : ℕ) → suc i < 2 ^ 127 → Counts v i → IsLineOf (counted v (suc i)) 1 → (n k : ℕ) →
      each_record (suc n) action (at (line ++ (10 ∷ rest)) c arrays v (suc (suc (suc k)))) ≡ behind (asks (line ++ (10 ∷ rest))) (each_record n action (at rest (split_by (rule_for v) line) arrays (with_value (counted v (suc i)) merge_what (value.Input line)) k))
  first_read line rest is c arrays v i fits counts of n k =
      line_read line rest is c arrays v i fits counts n (suc (suc k))
      ∙ ap (behind (asks (line ++ (10 ∷ rest)))) (goes_next n _ rest (split_by (rule_for v) line) arrays (with_value (counted v (suc i)) merge_what (value.Input line)) k (law_of_reading.first functions m xs (open_at rest) (split_by (rule_for v) line) arrays (counted v (suc i)) k of))

  second_read : (line rest : List ℕ) → IsRecord line → (c : RecordPair) (arrays : List Array) (v : Values) (i : ℕ) → suc i < 2 ^ 127 → Counts v i → IsLineOf (counted v (suc i)) 2 → (n k : ℕ) →
      each_record (suc n) action (at (line ++ (10 ∷ rest)) c arrays v (suc (suc (suc k)))) ≡ behind (asks (line ++ (10 ∷ rest))) (each_record n action (at rest (split_by (rule_for v) line) arrays (with_value (counted v (suc i)) merge_key (value.Input line)) k))
  second_read line rest is c arrays v i fits counts of n k =
      line_read line rest is c arrays v i fits counts n (suc (suc k))
      ∙ ap (behind (asks (line ++ (10 ∷ rest)))) (goes_next n _ rest (split_by (rule_for v) line) arrays (with_value (counted v (suc i)) merge_key (value.Input line)) k (law_of_reading.second functions m xs (open_at rest) (split_by (rule_for v) line) arrays (counted v (suc i)) k of))

  -- a cell is read
  module _ (x : Cell) (tables : Tables) (more : List ℕ) (c : RecordPair) (arrays : List Array) (v : Values) (count turns k : ℕ) (fits : 3 * suc count < 2 ^ 127) (read : HasRead v count) (among : IsAmong x.sum xs)
      (named : IsRecord (name_of_sum x.sum)) (keyed : IsRecord x.key) (ranged : is_in_range x.number ≡ true) (sum_ranged : is_in_range (number_at (tables (name_of_sum x.sum)) (key_for x.sum x.key) +ℤ x.number) ≡ true)
      (left : List ℕ) (l : ℕ) (holds : HoldsAll (state_reading base left c arrays v l) xs tables) where
    abbrev name : List ℕ
    name = name_of_sum x.sum

    abbrev third_text : List ℕ
    third_text = signed_decimal x.number ++ (10 ∷ more)

    abbrev second_text : List ℕ
    second_text = x.key ++ (10 ∷ third_text)

    abbrev first_text : List ℕ
    first_text = name ++ (10 ∷ second_text)

    abbrev v1 : Values
    v1 = with_value (counted v (suc (3 * count))) merge_what (value.Input name)

    abbrev v2 : Values
    v2 = with_value (counted v1 (suc (suc (3 * count)))) merge_key (value.Input x.key)

    abbrev v3 : Values
    v3 = counted v2 (suc (suc (suc (3 * count))))

    abbrev c1 : RecordPair
    c1 = split_by (rule_for v) name

    abbrev c2 : RecordPair
    c2 = split_by (rule_for v1) x.key

    abbrev c3 : RecordPair
    c3 = split_by (rule_for v2) (signed_decimal x.number)

    counts : Counts v (3 * count)
    counts = record { rs = read.rs; argc = read.argc; nr = read.nr; fnr = read.fnr }

    counts1 : Counts v1 (suc (3 * count))
    counts1 = record { rs = read.rs; argc = read.argc; nr = refl; fnr = refl }

    counts2 : Counts v2 (suc (suc (3 * count)))
    counts2 = record { rs = read.rs; argc = read.argc; nr = refl; fnr = refl }

    others_are : (z : List ℕ) → bytes_eq merge_what z ≡ false → bytes_eq merge_key z ≡ false → bytes_eq (codes "NR") z ≡ false → bytes_eq (codes "FNR") z ≡ false → v3 z ≡ v z
    others_are z what key nr fnr = rw (what, key, nr, fnr) refl

    abbrev turned : (z taken : List ℕ) → is_taken z ≡ false → is_taken taken ≡ true → bytes_eq taken z ≡ false
    turned z taken proper is = apart_turned z taken (apart_from_taken z taken proper is)

    sums_stay : (z : List ℕ) → is_taken z ≡ false → v3 z ≡ v z
    sums_stay z proper = others_are z (turned z merge_what proper refl) (turned z merge_key proper refl) (turned z (codes "NR") proper refl) (turned z (codes "FNR") proper refl)

    all_held : HoldsAll (at more c3 arrays v3 k) xs tables
    all_held = kept_holds base left more c c3 arrays v v3 l k sums_stay xs tables holds

    proper : is_taken name ≡ false
    proper = (holds_one (at more c3 arrays v3 k) x.sum xs tables among all_held).0

    third_adds : Adds (open_at more) c3 arrays v3 k x.sum (tables name) x.key x.number (rules (at more c3 arrays v3 (suc k)))
    third_adds = law_of_reading.third functions m xs (open_at more) c3 arrays v3 k x.sum (tables name) x.key x.number among proper (holds_one (at more c3 arrays v3 k) x.sum xs tables among all_held).1
        (record { line = third_line count; what = refl; key_is = refl; text = refl; fits = ranged; sum_fits = sum_ranged })

    abbrev asked : List Effect
    asked = asks first_text ++ (asks second_text ++ asks third_text)

    lines_read : each_record (suc (suc (suc turns))) action (at first_text c arrays v (suc (suc (suc (suc (suc (suc (suc (suc k))))))))) ≡ behind asked (each_record turns action (at more c3 third_adds.arrays_then third_adds.values k))
    lines_read =
        first_read name second_text named c arrays v (3 * count) (omega arith) counts (first_line count) (suc (suc turns)) (suc (suc (suc (suc (suc k)))))
        ∙ ap (behind (asks first_text)) (
        second_read x.key third_text keyed c1 arrays v1 (suc (3 * count)) (omega arith) counts1 (second_line count) (suc turns) (suc (suc k))
        ∙ ap (behind (asks second_text)) (
        line_read (signed_decimal x.number) more (number_record x.number ranged) c2 arrays v2 (suc (suc (3 * count))) (omega arith) counts2 turns (suc k)
        ∙ ap (behind (asks third_text)) (goes_on turns (at more c3 arrays v3 (suc k)) more c3 third_adds.arrays_then third_adds.values k third_adds.is)))

    abbrev stays : (z : List ℕ) → is_taken z ≡ true → third_adds.values z ≡ v3 z
    stays z taken = third_adds.keeps z (is_aside x.sum z (apart_from_taken name z proper taken))

    three_more : suc (suc (suc (3 * count))) ≡ 3 * suc count
    three_more = omega arith

    cell_read : ReadsOn base action xs (with_cell tables x) more arrays v (suc count) turns k (each_record (suc (suc (suc turns))) action (at first_text c arrays v (suc (suc (suc (suc (suc (suc (suc (suc k))))))))))
    cell_read = record {
      current = c3;
      arrays = third_adds.arrays_then;
      values = third_adds.values;
      effects = asked;
      readings = tt;
      read = record {
        rs = ap str_of (stays (codes "RS") refl) ∙ read.rs;
        argc = stays (codes "ARGC") refl ∙ read.argc;
        nr = stays (codes "NR") refl ∙ ap (λ (n : ℕ). value.Number (pos n)) three_more;
        fnr = stays (codes "FNR") refl ∙ ap (λ (n : ℕ). value.Number (pos n)) three_more;
      };
      holds = all_hold (at more c3 arrays v3 k) (at more c3 third_adds.arrays_then third_adds.values k) x tables third_adds.adds third_adds.others xs among all_held;
      keeps = λ z unnamed not.
          third_adds.keeps z (not_variable x.sum xs z (among_one x.sum xs among) unnamed)
          ∙ others_are z (uncounted z merge_what not refl) (uncounted z merge_key not refl) (uncounted z (codes "NR") not refl) (uncounted z (codes "FNR") not refl);
      elsewhere = λ z no_sum. third_adds.elsewhere z (not_array x.sum xs z (among_one x.sum xs among) no_sum);
      is = lines_read;
    }

  -- cells, one after the other

  reads_then : (tables tables' : Tables) (between more : List ℕ) (old : List Array) (v : Values) (count count' turns turns' k k' : ℕ) (out : Out (Unit {0})) → (first : ReadsOn base action xs tables between old v count turns k out) →
      ReadsOn base action xs tables' more first.arrays first.values count' turns' k' (each_record turns action (at between first.current first.arrays first.values k)) → ReadsOn base action xs tables' more old v count' turns' k' out
  reads_then tables tables' between more old v count count' turns turns' k k' out first rest = record {
    current = rest.current;
    arrays = rest.arrays;
    values = rest.values;
    effects = first.effects ++ rest.effects;
    readings = readings_append first.effects rest.effects first.readings rest.readings;
    read = rest.read;
    holds = rest.holds;
    keeps = λ z unnamed not. rest.keeps z unnamed not ∙ first.keeps z unnamed not;
    elsewhere = λ z no_sum. rest.elsewhere z no_sum ∙ first.elsewhere z no_sum;
    is =
        let left = each_record turns' action (at more rest.current rest.arrays rest.values k') in
        first.is ∙ (ap (behind first.effects) rest.is ∙ ap (λ (l : List Effect). record { result = left.result; state = left.state; effects = l }) (sym (append_assoc first.effects rest.effects left.effects)));
  }

  cells_read : (cells : Cells) (tables : Tables) → AreAdded xs tables cells → (more : List ℕ) (c : RecordPair) (arrays : List Array) (v : Values) (count turns k : ℕ) → 3 * (count + length cells) < 2 ^ 127 → HasRead v count →
      HoldsAll (at (text_of_cells cells ++ more) c arrays v (steps_of cells k)) xs tables → ReadsOn base action xs (behind_cells tables cells) more arrays v (count + length cells) turns k (each_record (turns_of cells turns) action (at (text_of_cells cells ++ more) c arrays v (steps_of cells k)))
  cells_read [] tables added more c arrays v count turns k fits read holds =
      let same : count ≡ count + 0 = omega arith in
      record { current = c; arrays = arrays; values = v; effects = []; readings = tt; read = subst (λ (n : ℕ). HasRead v n) same read; holds = holds; keeps = λ z unnamed not. refl; elsewhere = λ z no_sum. refl; is = refl }
  cells_read (x ∷ cells) tables added more c arrays v count turns k fits read holds =
      let between : List ℕ = text_of_cells cells ++ more in
      let text : text_of_cells (x ∷ cells) ++ more ≡ name_of_sum x.sum ++ (10 ∷ (x.key ++ (10 ∷ (signed_decimal x.number ++ (10 ∷ between)))))
      = append_assoc (cell_text (name_of_sum x.sum) x.key x.number) (text_of_cells cells) more ∙ cell_front (name_of_sum x.sum) x.key (signed_decimal x.number) between in
      let size : length (x ∷ cells) ≡ suc (length cells) = refl in
      let number : suc count + length cells ≡ count + length (x ∷ cells) = omega (arith, size) in
      let first = cell_read x tables between c arrays v count (turns_of cells turns) (steps_of cells k) (omega (arith, size)) read added.0 added.1 added.2 added.3 added.4 (text_of_cells (x ∷ cells) ++ more) (steps_of (x ∷ cells) k) holds in
      let rest = cells_read cells (with_cell tables x) added.5 more first.current first.arrays first.values (suc count) turns k (omega (arith, size)) first.read first.holds in
      let whole = reads_then (with_cell tables x) (behind_cells tables (x ∷ cells)) between more arrays v (suc count) (suc count + length cells) (turns_of cells turns) turns (steps_of cells k) k _ first rest in
      subst (λ (l : List ℕ). ReadsOn base action xs (behind_cells tables (x ∷ cells)) more arrays v (count + length (x ∷ cells)) turns k (each_record (turns_of (x ∷ cells) turns) action (at l c arrays v (steps_of (x ∷ cells) k)))) (sym text)
      (subst (λ (n : ℕ). ReadsOn base action xs (behind_cells tables (x ∷ cells)) more arrays v n turns k (each_record (turns_of (x ∷ cells) turns) action (at (name_of_sum x.sum ++ (10 ∷ (x.key ++ (10 ∷ (signed_decimal x.number ++ (10 ∷ between)))))) c arrays v (steps_of (x ∷ cells) k)))) number whole)

pub law_of_states : LawOfStates
law_of_states functions m xs base cells tables added more c arrays v count turns k fits read holds = cells_read functions m xs base cells tables added more c arrays v count turns k fits read holds
