-- Joined keys, and the elements of ARGV.
use Rattle.std.proofs.Common.{◌≡◌, ℕ, suc, ℤ, pos, Bool, true, false, List, map, Option, Some, None, Result, Ok, Err, refl, sym, ap, ◌∙◌, arith}
use Rattle.std.specs.Prelude.{int_lt, codes, IfOk, IfErr}
use Rattle.awk_value.specs.declared.value.Value.{Value}
use Rattle.awk_value.specs.declared.fault.ValueFault.{ValueFault}
use Rattle.awk_value.specs.declared.fault.ValueFault.TheVariants as values
use Rattle.awk_value.specs.Values.{num_of, str_of}
use Rattle.awk_kinds.specs.declared.special.Special.TheVariants.{Argc, Subsep}
use Rattle.awk_kinds.specs.Variables.{value_of, name_of}
use Rattle.awk_semantics.specs.declared.halt.Halt.{Halt}
use Rattle.awk_semantics.specs.declared.halt.Halt.TheVariants as halt
use Rattle.awk_semantics.specs.Faults.{value_fault, of_values}
use Rattle.awk_semantics.specs.State.{State, Out, go_on, ◌>>=◌, lift}
use Rattle.awk_semantics.specs.Operators.{join}
use Rattle.awk_semantics.specs.Results.{IsWantOfMemory, Yields}
use Rattle.awk_semantics.specs.Primitives.{number_in, joined_key, argument_if, take_argument}
use Rattle.awk_runtime.specs.declared.runtime.Runtime.{Runtime}
use Rattle.awk_runtime.specs.support.Simulation.{OwnRelation, Changes}
use Rattle.awk_runtime.specs.support.Calling.{argument_text}
use Rattle.awk_runtime.proofs.Composition.{own_changes, same_part, memory_changes}
use Rattle.awk_runtime.proofs.Steps.{still, reads_changes}

pub key_joined : (m : Runtime) (vs : List Value) (subsep : Value) (r : Result (List ℕ) Halt) → subsep ≡ value_of m.specials (name_of Subsep) → IfOk r (λ key. key ≡ join (str_of subsep) (map str_of vs)) → IfErr r IsWantOfMemory → Changes (joined_key vs) m m r
unfolding joined_key
key_joined m vs subsep (Ok key) is text memory = reads_changes (joined_key vs) (λ s. Ok (join (str_of (s.variables (name_of Subsep))) (map str_of vs))) (λ s. refl) (still m)
    (λ s h. ap (λ v. Ok (join (str_of v) (map str_of vs))) (h.specials Subsep ∙ sym is) ∙ ap (λ x. Ok x) (sym text))
key_joined m vs subsep (Err h) is text memory = rw memory (memory_changes (joined_key vs) refl refl refl (omega arith))

-- the elements of ARGV

abbrev argument_by : Result ℤ ValueFault → State → Out (Option (List ℕ))
argument_by count s = (lift (of_values count) >>= λ n. argument_if (int_lt (pos s.next) n)) s

argument_is : (m : Runtime) (s : State) (count : Result ℤ ValueFault) → OwnRelation m s → num_of (value_of m.specials (name_of Argc)) ≡ count → take_argument s ≡ argument_by count s
unfolding take_argument
argument_is m s count h e = ap (λ v. argument_by (num_of v) s) (h.specials Argc) ∙ ap (λ r. argument_by r s) e

fault_matches : (fault : ValueFault) → Yields {A = Option (List ℕ)} (Err (halt.Fault (value_fault fault))) (Err (halt.Fault (value_fault fault)))
fault_matches values.Memory = tt
fault_matches values.Range = refl
fault_matches values.ZeroDivisor = refl
fault_matches values.NegativePower = refl

pub argument_faults : (m : Runtime) (fault : ValueFault) → num_of (value_of m.specials (name_of Argc)) ≡ Err fault → Changes take_argument m m (Err (halt.Fault (value_fault fault)))
unfolding ◌>>=◌ go_on lift
argument_faults m fault e = own_changes take_argument refl refl refl (omega arith) (λ s h. record {
  result = Err (halt.Fault (value_fault fault));
  state = s;
  is = argument_is m s (Err fault) h e;
  part = same_part s;
  matches = fault_matches fault;
  holds = h;
})

argument_chosen : (m : Runtime) (n : ℤ) (b : Bool) (s : State) → num_of (value_of m.specials (name_of Argc)) ≡ Ok n → int_lt m.next n ≡ b → OwnRelation m s → take_argument s ≡ argument_if b s
unfolding ◌>>=◌ go_on lift
argument_chosen m n b s e below h = argument_is m s (Ok n) h e ∙ ap (λ c. argument_if c s) (ap (λ i. int_lt i n) h.next ∙ below)

pub argument_none : (m : Runtime) (n : ℤ) → num_of (value_of m.specials (name_of Argc)) ≡ Ok n → int_lt m.next n ≡ false → Changes take_argument m m (Ok None)
argument_none m n e past = own_changes take_argument refl refl refl (omega arith) (λ s h. record {
  result = Ok None;
  state = s;
  is = argument_chosen m n false s e past h;
  part = same_part s;
  matches = refl;
  holds = h;
})

pub argument_taken : (m : Runtime) (n : ℤ) {word : List ℕ} {next : ℤ} → num_of (value_of m.specials (name_of Argc)) ≡ Ok n → int_lt m.next n ≡ true
    → word ≡ argument_text m.arrays (number_in m.names.arrays (codes "ARGV")) m.next
    → ((i : ℕ) → m.next ≡ pos i → next ≡ pos (suc i)) → Changes take_argument m (record m { next = next }) (Ok (Some word))
argument_taken m n {word = word} e more is next_is = own_changes take_argument refl refl refl (omega arith) (λ s h. record {
  result = Ok (Some (argument_text s.arrays (number_in s.array_names (codes "ARGV")) (pos s.next)));
  state = record s { next = suc s.next };
  is = argument_chosen m n true s e more h;
  part = record { outside = refl; openings = refl; output_openings = refl; closings = refl; runs = refl; outputs = refl; main = refl; streams = refl };
  matches = ap (λ w. Ok (Some w)) (ap (λ l. argument_text l (number_in s.array_names (codes "ARGV")) (pos s.next)) h.arrays
      ∙ (ap (λ l. argument_text m.arrays (number_in l (codes "ARGV")) (pos s.next)) h.array_names
      ∙ (ap (λ i. argument_text m.arrays (number_in m.names.arrays (codes "ARGV")) i) h.next ∙ sym is)));
  holds = record {
    current = h.current;
    specials = h.specials;
    globals = h.globals;
    slots = h.slots;
    array_names = h.array_names;
    function_names = h.function_names;
    arrays = h.arrays;
    frames = h.frames;
    staged = h.staged;
    next = sym (next_is s.next (sym h.next));
    input_seen = h.input_seen;
    inside = h.inside;
    status = h.status;
    steps = h.steps;
  };
})
