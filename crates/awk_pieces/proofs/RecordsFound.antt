-- What a run over standard input does with its next record.
use Rattle.std.proofs.Common.{◌≡◌, ℕ, zero, suc, ◌<◌, ◌^◌, ◌==◌, nat_lt, true, List, [], ◌∷◌, length, Some, None, Result, Ok, Err, pos, ℤ, ◌+ℤ◌, refl, ap, ◌∙◌, codes, arith, lt-ltb}
use Rattle.std.proofs.lemmas.Bool.{cond-true}
use Rattle.std.proofs.lemmas.Int.{ints}
use Rattle.awk_value.specs.declared.value.Value.TheVariants as value
use Rattle.awk_value.specs.Values.{str_of, number_value}
use Rattle.awk_value.specs.declared.fault.ValueFault.{ValueFault}
use Rattle.awk_value.specs.declared.fault.ValueFault.TheVariants as range
use Rattle.awk_value.specs.Arithmetic.{is_in_range, range_checked}
use Rattle.awk_text.specs.definitions.Separators.{Rule}
use Rattle.awk_record.specs.definitions.Cut.{AtEnd, Found, NoMore, BrokenOff, TooLong, cut_of}
use Rattle.awk_record.specs.definitions.Record.{RecordPair, split_by}
use Rattle.awk_kinds.specs.Variables.{with_value}
use Rattle.awk_kinds.specs.declared.special.Special.TheVariants.{Nr, Fnr}
use Rattle.awk_streams.specs.Oracle.{Oracle}
use Rattle.awk_semantics.specs.declared.halt.Halt.TheVariants as halt
use Rattle.awk_semantics.specs.declared.fault.Fault.TheVariants as fault
use Rattle.awk_semantics.specs.definitions.State.{RecordOfMain, Effect, Requested, State, Run, go_on, ◌>>=◌, lift, gives}
use Rattle.awk_semantics.specs.definitions.Faults.{of_values}
use Rattle.awk_semantics.specs.definitions.Operators.{raised}
use Rattle.awk_semantics.specs.definitions.Primitives.{spend, set_record, count_in, put_special, take_argument}
use Rattle.awk_semantics.specs.definitions.Streams.{take_record, close_main, is_input_seen}
use Rattle.awk_semantics.specs.definitions.Inputs.{main_record, standard_record, search_operands_within, search_operands, next_record}
use Rattle.awk_semantics.specs.definitions.Items.{begin_record, each_record}
use Rattle.awk_pieces.proofs.Alike.{Outer, Values, state_on, behind}
use Rattle.awk_pieces.proofs.LinesJoined.{newline}

-- standard input is the main input, with these bytes left, or is over
abbrev pub reading : Oracle → List ℕ → Outer
reading x bytes = record { outside = x; main = Some (record { bytes = bytes; ending = AtEnd }); seen = true }

abbrev pub over : Oracle → Outer
over x = record { outside = x; main = None; seen = true }

-- records are lines, there are no operands, and so many records were counted
pub record Counts (v : Values) (i : ℕ) : Type 0 where
  pub rs : str_of (v (codes "RS")) ≡ newline
  pub argc : v (codes "ARGC") ≡ value.Number (pos 1)
  pub nr : v (codes "NR") ≡ value.Number (pos i)
  pub fnr : v (codes "FNR") ≡ value.Number (pos i)

abbrev pub counted : Values → ℕ → Values
counted v i = with_value (with_value v (codes "NR") (value.Number (pos i))) (codes "FNR") (value.Number (pos i))

abbrev pub rule_for : Values → Rule
rule_for v = record { text = str_of (v (codes "FS")); newline_too = length (str_of (v (codes "RS"))) == 0 }

raised_one : (i : ℕ) → suc i < 2 ^ 127 → raised (value.Number (pos i)) ≡ Ok (value.Number (pos (suc i)))
raised_one i fits =
    let e : pos i +ℤ pos 1 ≡ pos (suc i) = omega (arith, ints) in
    let h : nat_lt (suc i) (2 ^ 127) ≡ true = lt-ltb _ _ fits in
    ap (λ (r : Result ℤ ValueFault). of_values (number_value r)) (ap range_checked e ∙ cond-true (is_in_range (pos (suc i))) (Ok (pos (suc i))) (Err range.Range) h)

-- the records' part of a state
module _ (base : State) (x : Oracle) (bytes : List ℕ) (c : RecordPair) (v : Values) (i : ℕ) (counts : Counts v i) where
  abbrev pub effect : List Effect
  effect = Requested (RecordOfMain newline bytes) ∷ []

  abbrev pub at_steps : ℕ → State
  at_steps k = state_on base (reading x bytes) c v k

  next_found : (k : ℕ) (first left : List ℕ) → cut_of newline bytes AtEnd ≡ Found first left → next_record (at_steps k) ≡ record { result = Ok (Some first); state = state_on base (reading x left) c v k; effects = effect }
  unfolding next_record main_record take_record ◌>>=◌ go_on lift
  next_found k first left cut = rw (counts.rs, cut) refl

  next_over : (k : ℕ) → cut_of newline bytes AtEnd ≡ NoMore → next_record (at_steps k) ≡ record { result = Ok None; state = state_on base (over x) c v k; effects = effect }
  unfolding next_record main_record take_record close_main search_operands search_operands_within take_argument standard_record is_input_seen ◌>>=◌ go_on lift
  next_over k cut = rw (counts.rs, cut, counts.argc) refl

  next_broken : (k : ℕ) → cut_of newline bytes AtEnd ≡ BrokenOff → (next_record (at_steps k)).result ≡ Err (halt.Fault fault.InputNotReadable)
  unfolding next_record main_record take_record ◌>>=◌ go_on lift
  next_broken k cut = rw (counts.rs, cut) refl

  next_long : (k : ℕ) → cut_of newline bytes AtEnd ≡ TooLong → (next_record (at_steps k)).result ≡ Err (halt.Fault fault.RecordTooLong)
  unfolding next_record main_record take_record ◌>>=◌ go_on lift
  next_long k cut = rw (counts.rs, cut) refl

count_nr : (base : State) (o : Outer) (c : RecordPair) (v : Values) (k i : ℕ) → suc i < 2 ^ 127 → v (codes "NR") ≡ value.Number (pos i) → count_in Nr (state_on base o c v k) ≡ gives tt (state_on base o c (with_value v (codes "NR") (value.Number (pos (suc i)))) k)
unfolding count_in put_special ◌>>=◌ go_on lift
count_nr base o c v k i fits nr = rw (nr, raised_one i fits) refl

count_fnr : (base : State) (o : Outer) (c : RecordPair) (v : Values) (k i : ℕ) → suc i < 2 ^ 127 → v (codes "FNR") ≡ value.Number (pos i) → count_in Fnr (state_on base o c v k) ≡ gives tt (state_on base o c (with_value v (codes "FNR") (value.Number (pos (suc i)))) k)
unfolding count_in put_special ◌>>=◌ go_on lift
count_fnr base o c v k i fits fnr = rw (fnr, raised_one i fits) refl

begins_counted : (base : State) (o : Outer) (c : RecordPair) (v : Values) (k i : ℕ) (text : List ℕ) → suc i < 2 ^ 127 → Counts v i → begin_record text (state_on base o c v k) ≡ gives tt (state_on base o (split_by (rule_for v) text) (counted v (suc i)) k)
unfolding begin_record set_record ◌>>=◌ go_on
begins_counted base o c v k i text fits counts =
    rw (count_nr base o (split_by (rule_for v) text) v k i fits counts.nr, count_fnr base o (split_by (rule_for v) text) (with_value v (codes "NR") (value.Number (pos (suc i)))) k i fits counts.fnr) refl

module _ (base : State) (x : Oracle) (bytes : List ℕ) (c : RecordPair) (v : Values) (i : ℕ) (counts : Counts v i) (n : ℕ) (action : Run (Unit {0})) where
  pub record_found : (k : ℕ) (first left : List ℕ) → suc i < 2 ^ 127 → cut_of newline bytes AtEnd ≡ Found first left → each_record (suc n) action (at_steps base x bytes c v i counts (suc k)) ≡ behind (effect base x bytes c v i counts) ((action >>= λ _. each_record n action) (state_on base (reading x left) (split_by (rule_for v) first) (counted v (suc i)) k))
  unfolding each_record spend ◌>>=◌ go_on
  record_found k first left fits cut = rw (next_found base x bytes c v i counts (suc k) first left cut, begins_counted base (reading x left) c v k i first fits counts) refl

  pub record_starved : (first left : List ℕ) → cut_of newline bytes AtEnd ≡ Found first left → (each_record (suc n) action (at_steps base x bytes c v i counts zero)).result ≡ Err halt.OutOfSteps
  unfolding each_record spend ◌>>=◌ go_on
  record_starved first left cut = rw (next_found base x bytes c v i counts zero first left cut) refl

  pub record_over : (k : ℕ) → cut_of newline bytes AtEnd ≡ NoMore → each_record (suc n) action (at_steps base x bytes c v i counts k) ≡ record { result = Ok tt; state = state_on base (over x) c v k; effects = effect base x bytes c v i counts }
  unfolding each_record ◌>>=◌ go_on lift
  record_over k cut = rw (next_over base x bytes c v i counts k cut) refl

  pub record_broken : (k : ℕ) → cut_of newline bytes AtEnd ≡ BrokenOff → (each_record (suc n) action (at_steps base x bytes c v i counts k)).result ≡ Err (halt.Fault fault.InputNotReadable)
  unfolding each_record ◌>>=◌ go_on
  record_broken k cut = rw (next_broken base x bytes c v i counts k cut) refl

  pub record_long : (k : ℕ) → cut_of newline bytes AtEnd ≡ TooLong → (each_record (suc n) action (at_steps base x bytes c v i counts k)).result ≡ Err (halt.Fault fault.RecordTooLong)
  unfolding each_record ◌>>=◌ go_on
  record_long k cut = rw (next_long base x bytes c v i counts k cut) refl
