-- The meaning of a program: its outcome, the bytes of each opening of an output, and what it requests of the outside.
use Rattle.std.specs.Prelude.{◌≡◌, ◌≢◌, ℕ, ◌+◌, suc, true, false, List, [], ◌∷◌, ◌++◌, length, codes, bytes_eq, None, Result, Ok, Err, if◌then◌else◌}
use Rattle.awk_value.specs.declared.value.Value.TheVariants as value
use Rattle.awk_value.specs.Arrays.{Array, with_pair}
use Rattle.awk_streams.specs.Oracle.{Oracle}
pub use Rattle.awk_streams.specs.Named.{with_bytes}
use Rattle.awk_streams.specs.Openings.{StandardOutput, StandardError, Named as NamedOutput, Opening, Begins}
use Rattle.awk_grammar.specs.Tree.{Item}
use Rattle.awk_semantics.specs.declared.outcome.Outcome.{Outcome}
use Rattle.awk_semantics.specs.declared.outcome.Outcome.TheVariants.{Ended, Fault, Stopped}
use Rattle.awk_semantics.specs.declared.halt.Halt.{Halt}
use Rattle.awk_semantics.specs.declared.halt.Halt.TheVariants as halt
use Rattle.awk_semantics.specs.declared.fault.Fault.TheVariants.{NextWithoutRecord}
use Rattle.awk_kinds.specs.Variables.{initial_value}
use Rattle.awk_semantics.specs.definitions.State.{Request, OpensOutput, Closes, Ends, Effect, Printed, Requested, Stream, State, Out, Run, ◌>>=◌, ret}
use Rattle.awk_kinds.specs.definitions.Kinds.{array_names_of, function_names_of, definitions_of}
use Rattle.awk_semantics.specs.definitions.Primitives.{elements_from}
use Rattle.awk_semantics.specs.definitions.Streams.{named_of}
use Rattle.awk_semantics.specs.definitions.Inputs.{assign_text}
use Rattle.awk_semantics.specs.definitions.Calls.{functions_within}
use Rattle.awk_semantics.specs.definitions.Items.{run_items}

-- what a run is started with: assignments made before it, operands, and the environment; names and texts
pub record StartValues : Type 0 where
  pub pre : List (List ℕ × List ℕ)
  pub operands : List (List ℕ)
  pub environ : List (List ℕ × List ℕ)

-- ARGV: the name of the program, and the operands
abbrev pub argv_of : List (List ℕ) → Array
argv_of operands = elements_from 0 (codes "awk" ∷ operands)

-- ENVIRON: the environment, by name
abbrev pub environ_from : Array → List (List ℕ × List ℕ) → Array
environ_from array [] = array
environ_from array (x ∷ xs) = environ_from (with_pair array x.0 (value.Input x.1)) xs

-- what an array of this name holds before a run
abbrev pub first_array : StartValues → List ℕ → Array
first_array start x =
    if bytes_eq x (codes "ARGV") then argv_of start.operands
    else (if bytes_eq x (codes "ENVIRON") then environ_from [] start.environ
    else [])

abbrev pub first_arrays : StartValues → List (List ℕ) → List Array
first_arrays start [] = []
first_arrays start (x ∷ xs) = first_array start x ∷ first_arrays start xs

-- before a record is read, `$0` is empty
abbrev pub start_state : List Item → StartValues → Oracle → ℕ → State
start_state items start oracle limit = record {
  outside = oracle;
  openings = λ kind name. 0;
  output_openings = λ kind name. 0;
  outputs = 2;
  closings = 0;
  runs = 0;
  main = None;
  streams = [];
  current = record { text = []; fields = [] };
  variables = initial_value (suc (length start.operands));
  array_names = array_names_of items;
  function_names = function_names_of items;
  arrays = first_arrays start (array_names_of items);
  frames = [];
  next = 1;
  input_seen = false;
  inside = λ n. false;
  status = 0;
  steps = limit;
}

-- the assignments before a run, in their order
unfoldable pub assign_all : List (List ℕ × List ℕ) → Run (Unit {0})
assign_all [] = ret tt
assign_all (a ∷ all) = assign_text a.0 a.1 >>= λ _. assign_all all

-- a run up to its end: the assignments, and then the items
unfoldable pub assign_and_run : List Item → (limit : ℕ) → List (List ℕ × List ℕ) → Run (Unit {0})
assign_and_run items limit pre = assign_all pre >>= λ _. run_items (functions_within (definitions_of items) limit) items

-- what the end of a run shows, by any outcome: the run is over, and then the streams that are open are closed in turn
abbrev pub closings_of : List Stream → List Effect
closings_of [] = []
closings_of (x ∷ xs) = Requested (Closes (named_of x)) ∷ closings_of xs

abbrev pub with_end : Out (Unit {0}) → Out (Unit {0})
with_end out = record { result = out.result; state = out.state; effects = out.effects ++ Requested Ends ∷ closings_of out.state.streams }

unfoldable pub run_program : List Item → StartValues → Oracle → ℕ → Out (Unit {0})
run_program items start oracle limit = with_end (assign_and_run items limit start.pre (start_state items start oracle limit))

-- a run that ends, or exits, has the status that stands then; a `next` for which no record was at hand is a fault
abbrev pub outcome_of : Result (Unit {0}) Halt → (status : ℕ) → Outcome
outcome_of (Ok u) status = Ended status
outcome_of (Err halt.Exit) status = Ended status
outcome_of (Err halt.Next) status = Fault NextWithoutRecord
outcome_of (Err (halt.Fault f)) status = Fault f
outcome_of (Err halt.OutOfSteps) status = Stopped

-- The openings of outputs, in their order, with what was printed to each.

-- an output that is opened is the next opening
abbrev pub outputs_asked : Request → List Opening → List Opening
outputs_asked (OpensOutput kind name mode true) os = os ++ record { output = NamedOutput kind name; bytes = [] } ∷ []
outputs_asked what os = os

abbrev pub outputs_from : List Opening → List Effect → List Opening
outputs_from os [] = os
outputs_from os (Printed n bytes ∷ effects) = outputs_from (with_bytes n bytes os) effects
outputs_from os (Requested what ∷ effects) = outputs_from (outputs_asked what os) effects

-- standard output and standard error are opened before a run
abbrev pub first_outputs : List Opening
first_outputs = record { output = StandardOutput; bytes = [] } ∷ record { output = StandardError; bytes = [] } ∷ []

abbrev pub outputs_after : List Effect → List Opening
outputs_after effects = outputs_from first_outputs effects

-- a request, and what was printed before it
pub record Asked : Type 0 where
  pub what : Request
  pub outputs : List Opening

-- the requests, where this was printed before
abbrev pub requests_from : List Opening → List Effect → List Asked
requests_from os [] = []
requests_from os (Printed n bytes ∷ effects) = requests_from (with_bytes n bytes os) effects
requests_from os (Requested what ∷ effects) = record { what = what; outputs = os } ∷ requests_from (outputs_asked what os) effects

-- what a program comes to: its outcome, the bytes of each opening of an output, and what it requests, to the end
pub record Meaning : Type 0 where
  pub outcome : Outcome
  pub outputs : List Opening
  pub requests : List Asked

-- the meaning of the program with these answers of the outside and this many steps
abbrev pub meaning_of : List Item → StartValues → Oracle → ℕ → Meaning
meaning_of items start oracle limit = record {
  outcome = outcome_of (run_program items start oracle limit).result (run_program items start oracle limit).state.status;
  outputs = outputs_after (run_program items start oracle limit).effects;
  requests = requests_from first_outputs (run_program items start oracle limit).effects;
}

-- What a larger limit of steps changes: nothing but where a run stops.

-- a meaning that isn't stopped at a limit is the same at a larger one, and what is stopped begins it
pub record KeepsToLimits (items : List Item) (start : StartValues) (oracle : Oracle) (limit more : ℕ) : Type 0 where
  pub settled : (meaning_of items start oracle limit).outcome ≢ Stopped → meaning_of items start oracle (limit + more) ≡ meaning_of items start oracle limit
  pub stopped : (meaning_of items start oracle limit).outcome ≡ Stopped → Begins (meaning_of items start oracle limit).outputs (meaning_of items start oracle (limit + more)).outputs

abbrev pub LawOfLimits : Type 0
LawOfLimits = (items : List Item) (start : StartValues) (oracle : Oracle) (limit more : ℕ) → KeepsToLimits items start oracle limit more
