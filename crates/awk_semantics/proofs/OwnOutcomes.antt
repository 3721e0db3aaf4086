-- The meaning of a program is never want of memory nor a failed write: these come from a run of the code alone.
use Rattle.std.proofs.Common.{◌≡◌, ◌≢◌, ℕ, zero, suc, List, [], ◌∷◌, Option, Some, None, Result, Ok, Err, subst, sym}
use Rattle.awk_value.specs.declared.value.Value.TheVariants as value
use Rattle.awk_streams.specs.Oracle.{Oracle}
use Rattle.awk_grammar.specs.Height.{height_of_block}
use Rattle.awk_grammar.specs.Tree.{Item}
use Rattle.awk_kinds.specs.definitions.Kinds.{FormalParameter, Definition, definitions_of}
use Rattle.awk_kinds.specs.declared.special.Special.TheVariants.{Nr, Fnr}
use Rattle.awk_semantics.specs.declared.outcome.Outcome.TheVariants.{Fault}
use Rattle.awk_semantics.specs.declared.fault.Fault.TheVariants as faults
use Rattle.awk_semantics.specs.declared.flow.Flow.{Flow}
use Rattle.awk_semantics.specs.declared.halt.Halt.{Halt}
use Rattle.awk_semantics.specs.declared.halt.Halt.TheVariants as halt
use Rattle.awk_semantics.specs.declared.local.Local.{Local}
use Rattle.awk_semantics.specs.definitions.State.{Effect, State, Out, Run, go_on, ◌>>=◌, lift}
use Rattle.awk_semantics.specs.definitions.Primitives.{enter, leave}
use Rattle.awk_semantics.specs.definitions.Semantics.{Functions}
use Rattle.awk_semantics.specs.definitions.Calls.{definition_of, returned, call_by, call_within, functions_within}
use Rattle.awk_semantics.specs.definitions.Items.{unless_next, until_next, unless_exit, until_exit, begin_record, on_record, each_record, run_records, has_rule, run_before_end, run_items}
use Rattle.awk_semantics.specs.definitions.Meaning.{StartValues, start_state, assign_all, assign_and_run, run_program, outcome_of, meaning_of}
use Rattle.awk_semantics.proofs.OwnValues.{Own}
use Rattle.awk_semantics.proofs.PlainRuns.{Plain, lift_plain, spend_plain, set_plain, count_in_plain}
use Rattle.awk_semantics.proofs.PlainParts.{assign_plain, next_plain}
use Rattle.awk_semantics.proofs.Forms.{GoesOn, exec_all_holds, choose_holds, items_holds, begin_items_holds, end_items_holds}

-- a run that doesn't end by want of memory, nor by a failed write
pub record Settles {A : Type 0} (m : Run A) : Type 0 where
  pub own : (s : State) → Own (m s).result

go_own : {A B : Type 0} (f : A → Run B) → ((a : A) → Settles (f a)) → (r : Result A Halt) (t : State) (effects : List Effect) → Own r → Own (go_on r t effects f).result
unfolding go_on
go_own f h (Ok a) t effects own = (h a).own t
go_own f h (Err e) t effects own = own

then_settles : {A B : Type 0} {m : Run A} {f : A → Run B} → Settles m → ((a : A) → Settles (f a)) → Settles (m >>= f)
unfolding ◌>>=◌
then_settles {m = m} {f = f} x h = record { own = λ s. go_own f h (m s).result (m s).state (m s).effects (x.own s) }

plain_settles : {A : Type 0} {m : Run A} → Plain m → Settles m
plain_settles h = record { own = λ s. (h.at s).own }

at_settles : {A : Type 0} {m : Run A} → ((s : State) → (n : Run A) × Settles n × (m s ≡ n s)) → Settles m
at_settles {A = A} h = record { own = λ s. subst (λ (o : Out A). Own o.result) (sym (h s).2) ((h s).1.own s) }

abbrev Settled : (A : Type 0) → Run A → Type 0
Settled A m = Settles m

settles_closed : GoesOn Settled
settles_closed = record {
  plain = λ A m h. plain_settles h;
  bind = λ A B m f h k. then_settles h k;
  at = λ A m h. at_settles h;
}

ret_settles : {A : Type 0} (a : A) → Settles (lift (Ok a))
ret_settles a = plain_settles (lift_plain (Ok a) tt)

steps_settles : {A : Type 0} → Settles {A = A} (lift (Err halt.OutOfSteps))
steps_settles = plain_settles (lift_plain (Err halt.OutOfSteps) tt)

-- calls

enter_settles : (parameters : List FormalParameter) (height : ℕ) (given : List Local) → Settles (enter parameters height given)
unfolding enter
enter_settles parameters height given = record { own = λ s. tt }

leave_settles : Settles leave
unfolding leave
leave_settles = record { own = λ s. tt }

call_by_settles : (o : Option Definition) (given : List Local) {body : Definition → Run Flow} → ((d : Definition) → Settles (body d)) → Settles (call_by o given body)
call_by_settles None given h = ret_settles value.Nothing
call_by_settles (Some d) given h = then_settles (enter_settles d.parameters (height_of_block d.body) given) (λ _. then_settles (h d) (λ f. then_settles leave_settles (λ _. ret_settles (returned f))))

abbrev CallsSettle : Functions → Type 0
CallsSettle functions = (f : List ℕ) (given : List Local) → Settles (functions.call f given)

calls_settle : (ds : List Definition) (n : ℕ) → CallsSettle (functions_within ds n)
unfolding call_within
calls_settle ds zero f given = steps_settles
calls_settle ds (suc n) f given =
    let calls = calls_settle ds n in
    call_by_settles (definition_of ds f) given (λ d. exec_all_holds Settled settles_closed (functions_within ds n) calls d.body)

-- items

unless_own : (r : Result (Unit {0}) Halt) → Own r → Own (unless_next r)
unless_own (Ok u) own = tt
unless_own (Err halt.Next) own = tt
unless_own (Err halt.Exit) own = tt
unless_own (Err halt.OutOfSteps) own = tt
unless_own (Err (halt.Fault f)) own = own

until_settles : {m : Run (Unit {0})} → Settles m → Settles (until_next m)
unfolding until_next
until_settles {m = m} h = record { own = λ s. unless_own (m s).result (h.own s) }

exit_own : (r : Result (Unit {0}) Halt) → Own r → Own (unless_exit r)
exit_own (Ok u) own = tt
exit_own (Err halt.Next) own = tt
exit_own (Err halt.Exit) own = tt
exit_own (Err halt.OutOfSteps) own = tt
exit_own (Err (halt.Fault f)) own = own

until_exit_settles : {m : Run (Unit {0})} → Settles m → Settles (until_exit m)
unfolding until_exit
until_exit_settles {m = m} h = record { own = λ s. exit_own (m s).result (h.own s) }

begin_settles : (text : List ℕ) → Settles (begin_record text)
unfolding begin_record
begin_settles text = then_settles (plain_settles (set_plain text)) (λ _. then_settles (plain_settles (count_in_plain Nr)) (λ _. plain_settles (count_in_plain Fnr)))

on_settles : (found : Option (List ℕ)) {f : List ℕ → Run (Unit {0})} → ((text : List ℕ) → Settles (f text)) → Settles (on_record found f)
on_settles None h = ret_settles tt
on_settles (Some text) h = h text

each_settles : (n : ℕ) {action : Run (Unit {0})} → Settles action → Settles (each_record n action)
unfolding each_record
each_settles zero h = steps_settles
each_settles (suc n) h =
    let t = each_settles n h in
    then_settles (plain_settles next_plain) (λ found. on_settles found (λ text. then_settles (plain_settles spend_plain) (λ _. then_settles (begin_settles text) (λ _. then_settles h (λ _. t)))))

records_settle : {action : Run (Unit {0})} → Settles action → Settles (run_records action)
unfolding run_records
records_settle h = record { own = λ s. (each_settles (suc s.steps) h).own s }

module _ (functions : Functions) (calls : CallsSettle functions) where
  before_end_settles : (items : List Item) → Settles (run_before_end functions items)
  unfolding run_before_end
  before_end_settles items = then_settles (begin_items_holds Settled settles_closed functions calls items) (λ _. choose_holds Settled settles_closed (has_rule items) (records_settle (until_settles (items_holds Settled settles_closed functions calls 0 items))) (ret_settles tt))

  items_settle : (items : List Item) → Settles (run_items functions items)
  unfolding run_items
  items_settle items = then_settles (until_exit_settles (before_end_settles items)) (λ _. end_items_holds Settled settles_closed functions calls items)

-- a run

assign_all_settles : (pre : List (List ℕ × List ℕ)) → Settles (assign_all pre)
unfolding assign_all
assign_all_settles [] = ret_settles tt
assign_all_settles (a ∷ all) = then_settles (plain_settles (assign_plain a.0 a.1)) (λ _. assign_all_settles all)

whole_settles : (items : List Item) (limit : ℕ) (pre : List (List ℕ × List ℕ)) → Settles (assign_and_run items limit pre)
unfolding assign_and_run
whole_settles items limit pre = then_settles (assign_all_settles pre) (λ _. items_settle (functions_within (definitions_of items) limit) (calls_settle (definitions_of items) limit) items)

-- outcomes

no_memory : (r : Result (Unit {0}) Halt) (status : ℕ) → Own r → outcome_of r status ≢ Fault faults.OutOfMemory
no_memory (Ok u) status own is = absurd (cc)
no_memory (Err halt.OutOfSteps) status own is = absurd (cc)
no_memory (Err halt.Next) status own is = absurd (cc)
no_memory (Err halt.Exit) status own is = absurd (cc)
no_memory (Err (halt.Fault faults.OutOfMemory)) status own is = own
no_memory (Err (halt.Fault f)) status own is = let same : Fault f ≡ Fault faults.OutOfMemory = is in absurd (cc)

no_write : (r : Result (Unit {0}) Halt) (status : ℕ) → Own r → outcome_of r status ≢ Fault faults.WriteFailed
no_write (Ok u) status own is = absurd (cc)
no_write (Err halt.OutOfSteps) status own is = absurd (cc)
no_write (Err halt.Next) status own is = absurd (cc)
no_write (Err halt.Exit) status own is = absurd (cc)
no_write (Err (halt.Fault faults.WriteFailed)) status own is = own
no_write (Err (halt.Fault f)) status own is = let same : Fault f ≡ Fault faults.WriteFailed = is in absurd (cc)

run_own : (items : List Item) (start : StartValues) (oracle : Oracle) (limit : ℕ) → Own (run_program items start oracle limit).result
unfolding run_program
run_own items start oracle limit = (whole_settles items limit start.pre).own (start_state items start oracle limit)

pub law_of_outcomes : (items : List Item) (start : StartValues) (oracle : Oracle) (limit : ℕ) → ((meaning_of items start oracle limit).outcome ≢ Fault faults.OutOfMemory) × ((meaning_of items start oracle limit).outcome ≢ Fault faults.WriteFailed)
law_of_outcomes items start oracle limit =
    let own = run_own items start oracle limit in
    let o = run_program items start oracle limit in
    (no_memory o.result o.state.status own, no_write o.result o.state.status own)
