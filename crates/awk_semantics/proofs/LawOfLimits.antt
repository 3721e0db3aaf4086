-- A larger limit changes nothing but where a run stops.
use Rattle.std.proofs.Common.{◌≡◌, ◌≢◌, ℕ, zero, suc, ◌+◌, ◌≤◌, true, false, List, [], ◌∷◌, ◌++◌, Option, Some, None, Result, Ok, Err, refl, sym, ap, ◌∙◌, append_assoc, append-nil, arith}
use Rattle.awk_value.specs.declared.value.Value.{Value}
use Rattle.awk_value.specs.declared.value.Value.TheVariants as value
use Rattle.awk_streams.specs.Oracle.{Oracle}
use Rattle.awk_streams.specs.Openings.{Opening, IsBeginning, Begins}
use Rattle.awk_grammar.specs.Height.{height_of_block}
use Rattle.awk_grammar.specs.Tree.{Item}
use Rattle.awk_semantics.specs.declared.fault.Fault.TheVariants.{NextWithoutRecord}
use Rattle.awk_semantics.specs.declared.outcome.Outcome.TheVariants.{Ended, Fault, Stopped}
use Rattle.awk_semantics.specs.declared.flow.Flow.{Flow}
use Rattle.awk_semantics.specs.declared.local.Local.{Local}
use Rattle.awk_semantics.specs.declared.halt.Halt.{Halt}
use Rattle.awk_semantics.specs.declared.halt.Halt.TheVariants as halt
use Rattle.awk_semantics.specs.definitions.Meaning.{StartValues, outcome_of}
use Rattle.awk_kinds.specs.declared.special.Special.TheVariants.{Nr, Fnr}
use Rattle.awk_semantics.specs.definitions.State.{Request, OpensMain, OpensInput, OpensOutput, RecordOfMain, RecordOf, Closes, Flushes, Runs, Ends, Effect, Printed, Requested, Frame, Stream, State, Out, Run}
use Rattle.awk_kinds.specs.definitions.Kinds.{Definition, definitions_of}
use Rattle.awk_semantics.specs.definitions.Primitives.{without_call, without_calls, outside_calls}
use Rattle.awk_semantics.specs.definitions.Calls.{definition_of, returned, call_by, functions_by, call_within}
use Rattle.awk_semantics.specs.definitions.Items.{unless_next, until_next, unless_exit, until_exit, begin_record, on_record, each_record, run_records, has_rule, run_before_end, run_items}
use Rattle.awk_semantics.specs.definitions.Meaning.{start_state, assign_all, assign_and_run, closings_of, with_end, run_program, with_bytes, outputs_asked, outputs_from, first_outputs, outputs_after, requests_from, Meaning, LawOfLimits}
use Rattle.awk_semantics.proofs.Larger.{richer_state, richer, Shows, Covers, Larger, then_larger, steps_larger, lift_larger, spend_larger, set_larger, count_in_larger, enter_larger, leave_larger}
use Rattle.awk_semantics.proofs.LargerParts.{assign_larger, next_larger}
use Rattle.awk_semantics.proofs.LargerForms.{choose_larger, CallsMore, exec_all_larger, items_larger, begin_items_larger, end_items_larger}

-- calls over are over at any number of steps
outside_richer : (frames : List Frame) (s : State) (d : ℕ) → without_calls frames (richer_state d s) ≡ richer_state d (without_calls frames s)
outside_richer [] s d = refl
outside_richer (frame ∷ frames) s d = outside_richer frames (without_call (frame ∷ frames) s) d

abbrev as_ended : (Result (Unit {0}) Halt → Result (Unit {0}) Halt) → Out (Unit {0}) → Out (Unit {0})
as_ended f out = record { result = f out.result; state = outside_calls out.state; effects = out.effects }

ended_richer : (f : Result (Unit {0}) Halt → Result (Unit {0}) Halt) (d : ℕ) (x y : Out (Unit {0})) → y ≡ richer d x → as_ended f y ≡ richer d (as_ended f x)
ended_richer f d x y e = ap (as_ended f) e ∙ ap (λ (s : State). record { result = f x.result; state = s; effects = x.effects }) (outside_richer x.state.frames x.state d)

next_covers : (r : Result (Unit {0}) Halt) (d : ℕ) (t : State) (effects : List Effect) (y : Out (Unit {0})) → Covers r d (record { result = r; state = t; effects = effects }) y → Covers (unless_next r) d (as_ended unless_next (record { result = r; state = t; effects = effects })) (as_ended unless_next y)
next_covers (Ok u) d t effects y c = ended_richer unless_next d _ y c
next_covers (Err (halt.Fault f)) d t effects y c = ended_richer unless_next d _ y c
next_covers (Err halt.Next) d t effects y c = ended_richer unless_next d _ y c
next_covers (Err halt.Exit) d t effects y c = ended_richer unless_next d _ y c
next_covers (Err halt.OutOfSteps) d t effects y c = record { more = c.more; is = c.is }

until_larger : {m n : Run (Unit {0})} → Larger m n → Larger (until_next m) (until_next n)
unfolding until_next
until_larger {m = m} {n = n} h = record { covers = λ s d. next_covers (m s).result d (m s).state (m s).effects (n (richer_state d s)) (h.covers s d) }

exit_covers : (r : Result (Unit {0}) Halt) (d : ℕ) (t : State) (effects : List Effect) (y : Out (Unit {0})) → Covers r d (record { result = r; state = t; effects = effects }) y → Covers (unless_exit r) d (as_ended unless_exit (record { result = r; state = t; effects = effects })) (as_ended unless_exit y)
exit_covers (Ok u) d t effects y c = ended_richer unless_exit d _ y c
exit_covers (Err (halt.Fault f)) d t effects y c = ended_richer unless_exit d _ y c
exit_covers (Err halt.Next) d t effects y c = ended_richer unless_exit d _ y c
exit_covers (Err halt.Exit) d t effects y c = ended_richer unless_exit d _ y c
exit_covers (Err halt.OutOfSteps) d t effects y c = record { more = c.more; is = c.is }

until_exit_larger : {m n : Run (Unit {0})} → Larger m n → Larger (until_exit m) (until_exit n)
unfolding until_exit
until_exit_larger {m = m} {n = n} h = record { covers = λ s d. exit_covers (m s).result d (m s).state (m s).effects (n (richer_state d s)) (h.covers s d) }

begin_larger : (text : List ℕ) → Larger (begin_record text) (begin_record text)
unfolding begin_record
begin_larger text = then_larger _ _ (set_larger text) (λ _. then_larger _ _ (count_in_larger Nr) (λ _. count_in_larger Fnr))

on_larger : (found : Option (List ℕ)) (f g : List ℕ → Run (Unit {0})) → ((text : List ℕ) → Larger (f text) (g text)) → Larger (on_record found f) (on_record found g)
on_larger None f g h = lift_larger (Ok tt)
on_larger (Some text) f g h = h text

each_larger : (n n' : ℕ) {a b : Run (Unit {0})} → n ≤ n' → Larger a b → Larger (each_record n a) (each_record n' b)
unfolding each_record
each_larger zero n' h y = steps_larger _
each_larger (suc n) zero h y = absurd (omega arith)
each_larger (suc n) (suc n') h y =
    let t = each_larger n n' (omega arith) y in
    then_larger _ _ next_larger (λ found. on_larger found _ _ (λ text. then_larger _ _ spend_larger (λ _. then_larger _ _ (begin_larger text) (λ _. then_larger _ _ y (λ _. t)))))

records_larger : {a b : Run (Unit {0})} → Larger a b → Larger (run_records a) (run_records b)
unfolding run_records
records_larger y = record { covers = λ s d. (each_larger (suc s.steps) (suc (s.steps + d)) (omega arith) y).covers s d }

module _ (ds : List Definition) (call call' : List ℕ → List Local → Run Value) (h : CallsMore call call') where
  pub before_end_larger : (items : List Item) → Larger (run_before_end (functions_by ds call) items) (run_before_end (functions_by ds call') items)
  unfolding run_before_end
  before_end_larger items = then_larger _ _ (begin_items_larger ds call call' h items) (λ _. choose_larger (has_rule items) (records_larger (until_larger (items_larger ds call call' h 0 items))) (lift_larger (Ok tt)))

  pub run_larger : (items : List Item) → Larger (run_items (functions_by ds call) items) (run_items (functions_by ds call') items)
  unfolding run_items
  run_larger items = then_larger _ _ (until_exit_larger (before_end_larger items)) (λ _. end_items_larger ds call call' h items)

-- calls

call_by_larger : (o : Option Definition) (given : List Local) {b b' : Definition → Run Flow} → ((d : Definition) → Larger (b d) (b' d)) → Larger (call_by o given b) (call_by o given b')
call_by_larger None given h = lift_larger (Ok value.Nothing)
call_by_larger (Some d) given h = then_larger _ _ (enter_larger d.parameters (height_of_block d.body) given) (λ _. then_larger _ _ (h d) (λ f. then_larger _ _ leave_larger (λ _. lift_larger (Ok (returned f)))))

within_larger : (ds : List Definition) (n n' : ℕ) → n ≤ n' → CallsMore (call_within ds n) (call_within ds n')
unfolding call_within
within_larger ds zero n' h f given = steps_larger _
within_larger ds (suc n) zero h f given = absurd (omega arith)
within_larger ds (suc n) (suc n') h f given = let t = within_larger ds n n' (omega arith) in call_by_larger (definition_of ds f) given (λ d. exec_all_larger ds (call_within ds n) (call_within ds n') t d.body)

-- a run

assign_all_larger : (pre : List (List ℕ × List ℕ)) → Larger (assign_all pre) (assign_all pre)
unfolding assign_all
assign_all_larger [] = lift_larger (Ok tt)
assign_all_larger (a ∷ all) = then_larger _ _ (assign_larger a.0 a.1) (λ _. assign_all_larger all)

whole_larger : (items : List Item) (limit d : ℕ) (pre : List (List ℕ × List ℕ)) → Larger (assign_and_run items limit pre) (assign_and_run items (limit + d) pre)
unfolding assign_and_run
whole_larger items limit d pre = then_larger _ _ (assign_all_larger pre) (λ _. run_larger (definitions_of items) (call_within (definitions_of items) limit) (call_within (definitions_of items) (limit + d)) (within_larger (definitions_of items) limit (limit + d) (omega arith)) items)

-- from runs to what they print

beginning_refl : (x : List ℕ) → IsBeginning x x
beginning_refl x = record { more = []; is = sym (append-nil x) }

beginning_trans : (x y z : List ℕ) → IsBeginning x y → IsBeginning y z → IsBeginning x z
beginning_trans x y z a b = record { more = a.more ++ b.more; is = b.is ∙ ap (λ (l : List ℕ). l ++ b.more) a.is ∙ append_assoc x a.more b.more }

begins_refl : (os : List Opening) → Begins os os
begins_refl [] = tt
begins_refl (x ∷ os) = (refl, beginning_refl x.bytes, begins_refl os)

begins_trans : (xs ys zs : List Opening) → Begins xs ys → Begins ys zs → Begins xs zs
begins_trans [] ys zs a b = tt
begins_trans (x ∷ xs) [] zs a b = absurd a
begins_trans (x ∷ xs) (y ∷ ys) [] a b = absurd b
begins_trans (x ∷ xs) (y ∷ ys) (z ∷ zs) a b = (a.0 ∙ b.0, beginning_trans x.bytes y.bytes z.bytes a.1 b.1, begins_trans xs ys zs a.2 b.2)

begins_more : (xs ys : List Opening) → Begins xs (xs ++ ys)
begins_more [] ys = tt
begins_more (x ∷ xs) ys = (refl, beginning_refl x.bytes, begins_more xs ys)

bytes_begin : (n : ℕ) (bytes : List ℕ) (os : List Opening) → Begins os (with_bytes n bytes os)
bytes_begin n bytes [] = tt
bytes_begin zero bytes (x ∷ os) = (refl, record { more = bytes; is = refl }, begins_refl os)
bytes_begin (suc n) bytes (x ∷ os) = (refl, beginning_refl x.bytes, bytes_begin n bytes os)

asked_begins : (what : Request) (os : List Opening) → Begins os (outputs_asked what os)
asked_begins (OpensOutput kind name mode true) os = begins_more os _
asked_begins (OpensOutput kind name mode false) os = begins_refl os
asked_begins (OpensMain kind name) os = begins_refl os
asked_begins (OpensInput kind name) os = begins_refl os
asked_begins (RecordOfMain separator left) os = begins_refl os
asked_begins (RecordOf kind name separator left) os = begins_refl os
asked_begins (Closes stream) os = begins_refl os
asked_begins (Flushes name) os = begins_refl os
asked_begins (Runs command) os = begins_refl os
asked_begins Ends os = begins_refl os

grows : (os : List Opening) (effects : List Effect) → Begins os (outputs_from os effects)
grows os [] = begins_refl os
grows os (Printed n bytes ∷ effects) = begins_trans os (with_bytes n bytes os) _ (bytes_begin n bytes os) (grows (with_bytes n bytes os) effects)
grows os (Requested what ∷ effects) = begins_trans os (outputs_asked what os) _ (asked_begins what os) (grows (outputs_asked what os) effects)

outputs-append : (os : List Opening) (xs ys : List Effect) → outputs_from os (xs ++ ys) ≡ outputs_from (outputs_from os xs) ys
outputs-append os [] ys = refl
outputs-append os (Printed n bytes ∷ xs) ys = outputs-append (with_bytes n bytes os) xs ys
outputs-append os (Requested what ∷ xs) ys = outputs-append (outputs_asked what os) xs ys

closings_open : (os : List Opening) (xs : List Stream) → outputs_from os (closings_of xs) ≡ os
closings_open os [] = refl
closings_open os (x ∷ xs) = closings_open os xs

end_opens : (out : Out (Unit {0})) → outputs_after (with_end out).effects ≡ outputs_after out.effects
end_opens out = outputs-append first_outputs out.effects (Requested Ends ∷ closings_of out.state.streams) ∙ closings_open (outputs_after out.effects) out.state.streams

-- what is shown further is printed behind
more_begins : (x y : Out (Unit {0})) → Shows x y → Begins (outputs_after (with_end x).effects) (outputs_after (with_end y).effects)
more_begins x y c = rw (end_opens x, end_opens y, c.is, outputs-append first_outputs x.effects c.more) (grows (outputs_after x.effects) c.more)

abbrev read_off : Out (Unit {0}) → Meaning
read_off o = record { outcome = outcome_of o.result o.state.status; outputs = outputs_after o.effects; requests = requests_from first_outputs o.effects }

abbrev read_whole : Out (Unit {0}) → Meaning
read_whole o = read_off (with_end o)

ended_as : (x : Out (Unit {0})) {r : Result (Unit {0}) Halt} → x.result ≡ r → outcome_of x.result x.state.status ≡ outcome_of r x.state.status
ended_as x e = ap (λ (r : Result (Unit {0}) Halt). outcome_of r x.state.status) e

settled_of : (r : Result (Unit {0}) Halt) (d : ℕ) (x y : Out (Unit {0})) → x.result ≡ r → Covers r d x y → outcome_of x.result x.state.status ≢ Stopped → read_whole y ≡ read_whole x
settled_of (Ok a) d x y e c other = ap read_whole c
settled_of (Err (halt.Fault f)) d x y e c other = ap read_whole c
settled_of (Err halt.Next) d x y e c other = ap read_whole c
settled_of (Err halt.Exit) d x y e c other = ap read_whole c
settled_of (Err halt.OutOfSteps) d x y e c other = absurd (other (ended_as x e))

stopped_of : (r : Result (Unit {0}) Halt) (d : ℕ) (x y : Out (Unit {0})) → x.result ≡ r → Covers r d x y → outcome_of x.result x.state.status ≡ Stopped → Begins (read_whole x).outputs (read_whole y).outputs
stopped_of (Ok a) d x y e c stops = let never : Ended x.state.status ≡ Stopped = sym (ended_as x e) ∙ stops in absurd (cc)
stopped_of (Err (halt.Fault f)) d x y e c stops = let never : Fault f ≡ Stopped = sym (ended_as x e) ∙ stops in absurd (cc)
stopped_of (Err halt.Next) d x y e c stops = let never : Fault NextWithoutRecord ≡ Stopped = sym (ended_as x e) ∙ stops in absurd (cc)
stopped_of (Err halt.Exit) d x y e c stops = let never : Ended x.state.status ≡ Stopped = sym (ended_as x e) ∙ stops in absurd (cc)
stopped_of (Err halt.OutOfSteps) d x y e c stops = more_begins x y c

abbrev before_the_end : List Item → StartValues → Oracle → ℕ → Out (Unit {0})
before_the_end items start oracle limit = assign_and_run items limit start.pre (start_state items start oracle limit)

whole_covers : (items : List Item) (start : StartValues) (oracle : Oracle) (limit d : ℕ) → Covers (before_the_end items start oracle limit).result d (before_the_end items start oracle limit) (before_the_end items start oracle (limit + d))
whole_covers items start oracle limit d = (whole_larger items limit d start.pre).covers (start_state items start oracle limit) d

pub law_of_limits : LawOfLimits
unfolding run_program
law_of_limits items start oracle limit more = record {
  settled = settled_of (before_the_end items start oracle limit).result more _ _ refl (whole_covers items start oracle limit more);
  stopped = stopped_of (before_the_end items start oracle limit).result more _ _ refl (whole_covers items start oracle limit more);
}
