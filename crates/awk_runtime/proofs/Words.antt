-- What the words on the code's own state do to it.
use Rattle.std.proofs.Common.{◌≡◌, ◌≢◌, true≢false, ℕ, zero, suc, ℤ, pos, negsuc, Bool, true, false, List, [], length, unwrap_or, slice_get, Option, Some, None, Result, Ok, Err, refl, sym, ap, ◌∙◌, subst, arith}
use Rattle.std.specs.Prelude.{◌==◌, codes, get_or, IfSome}
use Rattle.std.specs.Global.{Vec}
use Rattle.awk_text.specs.Separators.{Rule}
use Rattle.awk_value.specs.declared.value.Value.{Value}
use Rattle.awk_value.specs.declared.value.Value.TheVariants as value
use Rattle.awk_value.specs.declared.fault.ValueFault.{ValueFault}
use Rattle.awk_value.specs.declared.fault.ValueFault.TheVariants as value_faults
use Rattle.awk_value.specs.Values.{num_of, str_of}
use Rattle.awk_record.specs.declared.record_fault.RecordFault.{RecordFault}
use Rattle.awk_record.specs.declared.record_fault.RecordFault.TheVariants as record_faults
use Rattle.awk_record.specs.Record.{RecordPair, split_by, field_of, assignable, with_count, with_field}
use Rattle.awk_kinds.specs.declared.special.Special.TheVariants.{Fnr, Fs, Nr, Ofs, Rs}
use Rattle.awk_kinds.specs.Variables.{Pairs, value_of, name_of}
use Rattle.awk_semantics.specs.declared.halt.Halt.{Halt}
use Rattle.awk_semantics.specs.declared.halt.Halt.TheVariants as halt
use Rattle.awk_semantics.specs.State.{State, Out, Run, go_on, ◌>>=◌, lift}
use Rattle.awk_semantics.specs.Results.{Yields}
use Rattle.awk_semantics.specs.Faults.{of_record, record_fault, value_fault}
use Rattle.awk_semantics.specs.Primitives.{number_of, read_field, set_current, set_count, store_field, set_field, set_record, record_text, put_outside, count_in}
use Rattle.awk_semantics.specs.Outside.{read_outside}
use Rattle.awk_semantics.specs.Items.{begin_record}
use Rattle.awk_semantics.specs.BuiltIns.{record_length}
use Rattle.awk_runtime.specs.declared.runtime.Runtime.{Runtime}
use Rattle.awk_runtime.specs.support.Simulation.{OwnRelation, Changes, SameState}
use Rattle.awk_runtime.specs.support.Naming.{Naming}
use Rattle.awk_runtime.proofs.Composition.{own_changes, same_part, then_changes, ends_changes, lift_changes, memory_changes, frames_stay, staged_stay, callers_stay}
use Rattle.awk_runtime.proofs.Steps.{still, beside_holds, reads_changes, same_changes}

-- The record and its fields.

-- what a record's fault comes to
record_matches : {A : Type 0} (e : RecordFault) (r : Result A RecordFault) → (e ≢ record_faults.Memory → Err e ≡ r) → Yields (Err (halt.Fault (record_fault e))) (of_record r)
record_matches record_faults.Memory r why = tt
record_matches record_faults.Pattern r why = rw (← why (λ e. absurd (cc))) refl
record_matches record_faults.FieldNumber r why = rw (← why (λ e. absurd (cc))) refl

pub field_changes : (n : ℤ) {old new : Runtime} {c : Result Value Halt} → SameState old new → Yields c (of_record (field_of old.current n)) → Changes (read_field n) old new c
unfolding read_field
field_changes n {c = c} same e =
    reads_changes _ (λ s. of_record (field_of s.current n)) (λ s. refl) same (λ s h. subst (λ (r : RecordPair). Yields c (of_record (field_of r n))) (sym h.current) e)

-- field 0, where the text of the record is at hand
pub record_read : (n : ℤ) (m : Runtime) (text : List ℕ) (found : Option Value) → n ≡ pos 0 → text ≡ m.current.text → IfSome found (λ v. v ≡ value.Input text) → IfSome found (λ v. Changes (read_field n) m m (Ok v))
record_read n m text (Some v) whole is e =
    let input : v ≡ value.Input m.current.text = e ∙ ap (λ t. value.Input t) is in
    field_changes n (still m) (rw (whole, input) refl)
record_read n m text None whole is e = tt

-- a field that was cut from the text of the record
pub field_cut : (n : ℤ) (m : Runtime) (v : Value) (found : Option Value) → field_of m.current n ≡ Ok v → IfSome found (λ w. w ≡ v) → IfSome found (λ w. Changes (read_field n) m m (Ok w))
field_cut n m v (Some w) is e = field_changes n (still m) (ap of_record is ∙ ap (λ x. Ok x) (sym e))
field_cut n m v None is e = tt

abbrev pub failed_field : RecordFault → Result Value RecordFault
failed_field e = Err e

pub field_fails : (n : ℤ) {old new : Runtime} (e : RecordFault) → (failed_field e ≢ failed_field record_faults.Memory → failed_field e ≡ field_of old.current n) → SameState old new → Changes (read_field n) old new (Err (halt.Fault (record_fault e)))
field_fails n {old = old} e why same = field_changes n same (record_matches e (field_of old.current n) (λ other. why (λ same_fault. other (cc))))

pub text_changes : {old new : Runtime} {v : Value} → SameState old new → v ≡ value.Input old.current.text → Changes record_text old new (Ok v)
unfolding record_text
text_changes {v = v} same e =
    reads_changes _ (λ s. Ok (value.Input s.current.text)) (λ s. refl) same (λ s h. ap (λ r. Ok (value.Input r.text)) h.current ∙ ap (λ w. Ok w) (sym e))

pub length_changes : {old new : Runtime} {v : Value} → SameState old new → v ≡ value.Number (pos (length old.current.text)) → Changes record_length old new (Ok v)
unfolding record_length record_text ◌>>=◌ go_on lift
length_changes {v = v} same e =
    reads_changes _ (λ s. Ok (value.Number (pos (length s.current.text)))) (λ s. refl) same (λ s h. ap (λ r. Ok (value.Number (pos (length r.text)))) h.current ∙ ap (λ w. Ok w) (sym e))

-- all but the record is the same
pub record SameButRecord (old new : Runtime) : Type 0 where
  pub names : new.names ≡ old.names
  pub specials : new.specials ≡ old.specials
  pub globals : new.globals ≡ old.globals
  pub arrays : new.arrays ≡ old.arrays
  pub frames : new.frames ≡ old.frames
  pub streams : new.streams ≡ old.streams
  pub next : new.next ≡ old.next
  pub input_seen : new.input_seen ≡ old.input_seen
  pub inside : new.inside ≡ old.inside
  pub status : new.status ≡ old.status
  pub steps : new.steps ≡ old.steps

record_holds : {old new : Runtime} (s : State) (r : RecordPair) → SameButRecord old new → r ≡ new.current → OwnRelation old s → OwnRelation new (record s { current = r })
record_holds {old = old} {new = new} s r same is h = record {
  current = is;
  specials = λ x. h.specials x ∙ ap (λ v. value_of v (name_of x)) (sym same.specials);
  globals = λ i x at. h.globals i x (subst (λ (n : Naming). slice_get n.scalars i ≡ Some x) same.names at) ∙ ap (λ (v : Vec Value). get_or v.items i value.Nothing) (sym same.globals);
  slots = ap (λ (v : Vec Value). length v.items) same.globals ∙ (h.slots ∙ ap (λ (n : Naming). length n.scalars) (sym same.names));
  array_names = h.array_names ∙ ap (λ (n : Naming). n.arrays) (sym same.names);
  function_names = h.function_names ∙ ap (λ (n : Naming). n.functions) (sym same.names);
  arrays = h.arrays ∙ sym same.arrays;
  frames = frames_stay same.frames ∙ h.frames;
  staged = staged_stay same.frames ∙ h.staged;
  next = h.next ∙ sym same.next;
  input_seen = h.input_seen ∙ sym same.input_seen;
  inside = λ n. h.inside n ∙ ap (λ (v : Vec Bool). unwrap_or (slice_get v.items n) false) (sym same.inside);
  status = h.status ∙ sym same.status;
  steps = h.steps ∙ sym same.steps;
}

-- the record becomes another one
pub becomes : {old new : Runtime} (run : Run (Unit {0})) (r : RecordPair) → ((s : State) → OwnRelation old s → run s ≡ set_current (Ok r) s) → r ≡ new.current → SameButRecord old new → Changes run old new (Ok tt)
becomes run r is e same =
    own_changes run same.streams same.names (callers_stay same.frames) (omega (arith, same.steps)) (λ s h. record {
      result = Ok tt;
      state = record s { current = r };
      is = is s h;
      part = record { outside = refl; openings = refl; output_openings = refl; closings = refl; runs = refl; outputs = refl; main = refl; streams = refl };
      matches = refl;
      holds = record_holds s r same e h;
    })

-- what separates fields, by the variables
abbrev pub rule_in : Pairs → Rule
rule_in variables = record { text = str_of (value_of variables (name_of Fs)); newline_too = length (str_of (value_of variables (name_of Rs))) == 0 }

abbrev recorded : (text : List ℕ) → State → Rule → Out (Unit {0})
recorded text s rule = record { result = Ok tt; state = record s { current = split_by rule text }; effects = [] }

pub record_changes : (text : List ℕ) (rule : Rule) {old new : Runtime} → rule ≡ rule_in old.specials → new.current ≡ split_by rule text → SameButRecord old new → Changes (set_record text) old new (Ok tt)
unfolding set_record
record_changes text rule {old = old} now is same =
    becomes _ (split_by rule text) (λ s h. (λ i. recorded text s (record { text = str_of (h.specials Fs i); newline_too = length (str_of (h.specials Rs i)) == 0 })) ∙ ap (recorded text s) (sym now)) (sym is) same

-- a separator that is accepted is refused for want of memory alone
pub accepted_rule : (e : RecordFault) (refused : Bool) → (e ≢ record_faults.Memory → (e ≡ record_faults.Pattern) × (refused ≡ true)) → refused ≡ false → e ≡ record_faults.Memory
accepted_rule record_faults.Memory refused why accepted = refl
accepted_rule record_faults.Pattern refused why accepted = absurd (true≢false (sym ((why (λ e. absurd (cc))).1) ∙ accepted))
accepted_rule record_faults.FieldNumber refused why accepted = absurd (true≢false (sym ((why (λ e. absurd (cc))).1) ∙ accepted))

-- `$0` is set as the record
pub whole_changes : (v : Value) (text : List ℕ) {old new : Runtime} {r : Result (Unit {0}) Halt} → text ≡ str_of v → Changes (set_record text) old new r → Changes (set_field (pos 0) v) old new r
unfolding set_field
whole_changes v text e p = same_changes _ (set_record text) (λ s h. ap (λ t. set_record t s) (sym e)) p

-- a field that is not `$0`

store_other : (n : ℤ) (v : Value) (s : State) → n ≢ pos 0 → store_field n v s ≡ set_current (of_record (with_field (assignable n) v (str_of (s.variables (name_of Ofs))) s.current)) s
store_other (pos zero) v s other = absurd (other refl)
store_other (pos (suc n)) v s other = refl
store_other (negsuc n) v s other = refl

stored : (n : ℤ) (v : Value) (between : List ℕ) {old : Runtime} → n ≢ pos 0 → between ≡ str_of (value_of old.specials (name_of Ofs)) → (s : State) → OwnRelation old s → set_field n v s ≡ set_current (of_record (with_field (assignable n) v between old.current)) s
unfolding set_field
stored n v between other e s h =
    store_other n v s other ∙ ap (λ t. set_current (of_record (with_field (assignable n) v t s.current)) s) (ap str_of (h.specials Ofs) ∙ sym e) ∙ ap (λ r. set_current (of_record (with_field (assignable n) v between r)) s) h.current

pub field_set : (n : ℤ) (v : Value) (between : List ℕ) {old new : Runtime} → n ≢ pos 0 → between ≡ str_of (value_of old.specials (name_of Ofs)) → Ok new.current ≡ with_field (assignable n) v between old.current → SameButRecord old new → Changes (set_field n v) old new (Ok tt)
field_set n v between {new = new} other e is same =
    becomes _ new.current (λ s h. stored n v between other e s h ∙ ap (λ r. set_current (of_record r) s) (sym is)) refl same

-- a record that can't be made
refused_by : {old new : Runtime} (run : Run (Unit {0})) (h : Halt) → ((s : State) → OwnRelation old s → run s ≡ record { result = Err h; state = s; effects = [] }) → Yields {A = Unit {0}} (Err h) (Err h) → SameState old new → Changes run old new (Err h)
refused_by run h is matches same =
    own_changes run same.streams same.beside.names (callers_stay same.beside.frames) (omega (arith, same.beside.steps)) (λ s holds. record { result = Err h; state = s; is = is s holds; part = same_part s; matches = matches; holds = beside_holds same.beside holds })

refused : {old new : Runtime} (run : Run (Unit {0})) (e : RecordFault) (r : Result RecordPair RecordFault) → ((s : State) → OwnRelation old s → run s ≡ set_current (of_record r) s) → (e ≢ record_faults.Memory → Err e ≡ r) → SameState old new → Changes run old new (Err (halt.Fault (record_fault e)))
refused run record_faults.Memory r is why same = memory_changes _ same.streams same.beside.names (callers_stay same.beside.frames) (omega (arith, same.beside.steps))
refused run record_faults.Pattern r is why same = refused_by run _ (λ s h. is s h ∙ ap (λ r. set_current (of_record r) s) (sym (why (λ e. absurd (cc))))) refl same
refused run record_faults.FieldNumber r is why same = refused_by run _ (λ s h. is s h ∙ ap (λ r. set_current (of_record r) s) (sym (why (λ e. absurd (cc))))) refl same

pub field_refused : (n : ℤ) (v : Value) (between : List ℕ) {old new : Runtime} (e : RecordFault) → n ≢ pos 0 → between ≡ str_of (value_of old.specials (name_of Ofs)) → (e ≢ record_faults.Memory → Err e ≡ with_field (assignable n) v between old.current) → SameState old new → Changes (set_field n v) old new (Err (halt.Fault (record_fault e)))
field_refused n v between {old = old} e other is why same = refused _ e (with_field (assignable n) v between old.current) (stored n v between other is) why same

-- the number of fields

counted : (n : ℤ) (between : List ℕ) {old : Runtime} → between ≡ str_of (value_of old.specials (name_of Ofs)) → (s : State) → OwnRelation old s → set_count n s ≡ set_current (of_record (with_count (assignable n) between old.current)) s
unfolding set_count
counted n between e s h =
    ap (λ t. set_current (of_record (with_count (assignable n) t s.current)) s) (ap str_of (h.specials Ofs) ∙ sym e) ∙ ap (λ r. set_current (of_record (with_count (assignable n) between r)) s) h.current

pub count_set : (n : ℤ) (between : List ℕ) {old new : Runtime} → between ≡ str_of (value_of old.specials (name_of Ofs)) → Ok new.current ≡ with_count (assignable n) between old.current → SameButRecord old new → Changes (set_count n) old new (Ok tt)
count_set n between {new = new} e is same =
    becomes _ new.current (λ s h. counted n between e s h ∙ ap (λ r. set_current (of_record r) s) (sym is)) refl same

pub count_refused : (n : ℤ) (between : List ℕ) {old new : Runtime} (e : RecordFault) → between ≡ str_of (value_of old.specials (name_of Ofs)) → (e ≢ record_faults.Memory → Err e ≡ with_count (assignable n) between old.current) → SameState old new → Changes (set_count n) old new (Err (halt.Fault (record_fault e)))
count_refused n between {old = old} e is why same = refused _ e (with_count (assignable n) between old.current) (counted n between is) why same

pub value_matches : (A : Type 0) (e : ValueFault) → Yields {A = A} (Err (halt.Fault (value_fault e))) (Err (halt.Fault (value_fault e)))
value_matches A value_faults.Memory = tt
value_matches A value_faults.Range = refl
value_matches A value_faults.ZeroDivisor = refl
value_matches A value_faults.NegativePower = refl

-- a value's number, and one that it lacks
pub number_had : (v : Value) {n : ℤ} (m : Runtime) → Ok n ≡ num_of v → Changes (number_of v) m m (Ok n)
number_had v m e = lift_changes _ m (rw (← e) refl)

pub number_lacked : (v : Value) (e : ValueFault) (m : Runtime) → Err e ≡ num_of v → Changes (number_of v) m m (Err (halt.Fault (value_fault e)))
number_lacked v e m is = lift_changes _ m (rw (← is) (value_matches ℤ e))

pub nf_given : (v : Value) {n : ℤ} {old new : Runtime} {r : Result (Unit {0}) Halt} → Ok n ≡ num_of v → Changes (set_count n) old new r → Changes (put_outside (codes "NF") v) old new r
unfolding put_outside
nf_given v {n = n} {old = old} is p = same_changes _ (number_of v >>= λ n. set_count n) (λ s h. refl) (then_changes _ (number_had v old is) p)

pub nf_lacked : (v : Value) (e : ValueFault) (m : Runtime) → Err e ≡ num_of v → Changes (put_outside (codes "NF") v) m m (Err (halt.Fault (value_fault e)))
unfolding put_outside
nf_lacked v e m is = same_changes _ (number_of v >>= λ n. set_count n) (λ s h. refl) (ends_changes _ (number_lacked v e m is))

pub nf_read : {old new : Runtime} {v : Value} → SameState old new → v ≡ value.Number (pos (length old.current.fields)) → Changes (read_outside (codes "NF")) old new (Ok v)
unfolding read_outside
nf_read {v = v} same e =
    reads_changes _ (λ s. Ok (value.Number (pos (length s.current.fields)))) (λ s. refl) same (λ s h. ap (λ r. Ok (value.Number (pos (length r.fields)))) h.current ∙ ap (λ w. Ok w) (sym e))

-- beginning a record

pub record_ends : (text : List ℕ) {old new : Runtime} {h : Halt} → Changes (set_record text) old new (Err h) → Changes (begin_record text) old new (Err h)
unfolding begin_record
record_ends text p = ends_changes _ p

pub record_ends_later : (text : List ℕ) {old mid new : Runtime} {h : Halt} → Changes (set_record text) old mid (Ok tt) → Changes (count_in Nr) mid new (Err h) → Changes (begin_record text) old new (Err h)
unfolding begin_record
record_ends_later text p q = then_changes _ p (ends_changes _ q)

pub record_counted : (text : List ℕ) {old mid new : Runtime} {r : Result (Unit {0}) Halt} → Changes (set_record text) old mid (Ok tt) → Changes (count_in Nr >>= λ _. count_in Fnr) mid new r → Changes (begin_record text) old new r
unfolding begin_record
record_counted text p q = then_changes _ p q

pub record_begins : (text : List ℕ) {old mid later new : Runtime} {r : Result (Unit {0}) Halt} → Changes (set_record text) old mid (Ok tt) → Changes (count_in Nr) mid later (Ok tt) → Changes (count_in Fnr) later new r → Changes (begin_record text) old new r
unfolding begin_record
record_begins text p q r = then_changes _ p (then_changes _ q r)
