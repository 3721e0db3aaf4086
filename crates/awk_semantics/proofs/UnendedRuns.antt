-- No part of a run before its end says that it is over.
use Rattle.std.proofs.Common.{◌≡◌, ℕ, zero, suc, List, [], ◌∷◌, Option, Some, None, Result, Ok, Err, subst, sym}
use Rattle.awk_value.specs.declared.value.Value.TheVariants as value
use Rattle.awk_grammar.specs.Height.{height_of_block}
use Rattle.awk_grammar.specs.Tree.{Item}
use Rattle.awk_kinds.specs.definitions.Kinds.{FormalParameter, Definition, definitions_of}
use Rattle.awk_kinds.specs.declared.special.Special.TheVariants.{Nr, Fnr}
use Rattle.awk_semantics.specs.declared.flow.Flow.{Flow}
use Rattle.awk_semantics.specs.declared.halt.Halt.{Halt}
use Rattle.awk_semantics.specs.declared.halt.Halt.TheVariants as halt
use Rattle.awk_semantics.specs.declared.local.Local.{Local}
use Rattle.awk_semantics.specs.definitions.State.{Effect, State, Out, Run, go_on, ◌>>=◌, lift}
use Rattle.awk_semantics.specs.definitions.Primitives.{enter, leave}
use Rattle.awk_semantics.specs.definitions.Semantics.{Functions}
use Rattle.awk_semantics.specs.definitions.Calls.{definition_of, returned, call_by, call_within, functions_within}
use Rattle.awk_semantics.specs.definitions.Items.{until_next, until_exit, begin_record, on_record, each_record, run_records, has_rule, run_before_end, run_items}
use Rattle.awk_semantics.specs.definitions.Meaning.{assign_all, assign_and_run}
use Rattle.awk_semantics.specs.support.Unended.{AreUnended, LawOfEnds}
use Rattle.awk_semantics.proofs.PlainRuns.{unended_append, Plain, lift_plain, spend_plain, set_plain, count_in_plain}
use Rattle.awk_semantics.proofs.PlainParts.{assign_plain, next_plain}
use Rattle.awk_semantics.proofs.Forms.{GoesOn, exec_all_holds, choose_holds, items_holds, begin_items_holds, end_items_holds}

-- a run that doesn't say that it is over
pub record Unends {A : Type 0} (m : Run A) : Type 0 where
  pub unended : (s : State) → AreUnended (m s).effects

go_unended : {A B : Type 0} (f : A → Run B) → ((a : A) → Unends (f a)) → (r : Result A Halt) (t : State) (effects : List Effect) → AreUnended effects → AreUnended (go_on r t effects f).effects
unfolding go_on
go_unended f h (Ok a) t effects e = unended_append effects (f a t).effects e ((h a).unended t)
go_unended f h (Err x) t effects e = e

then_unends : {A B : Type 0} {m : Run A} {f : A → Run B} → Unends m → ((a : A) → Unends (f a)) → Unends (m >>= f)
unfolding ◌>>=◌
then_unends {m = m} {f = f} x h = record { unended = λ s. go_unended f h (m s).result (m s).state (m s).effects (x.unended s) }

plain_unends : {A : Type 0} {m : Run A} → Plain m → Unends m
plain_unends h = record { unended = λ s. (h.at s).unended }

at_unends : {A : Type 0} {m : Run A} → ((s : State) → (n : Run A) × Unends n × (m s ≡ n s)) → Unends m
at_unends {A = A} h = record { unended = λ s. subst (λ (o : Out A). AreUnended o.effects) (sym (h s).2) ((h s).1.unended s) }

abbrev Unending : (A : Type 0) → Run A → Type 0
Unending A m = Unends m

unends_closed : GoesOn Unending
unends_closed = record {
  plain = λ A m h. plain_unends h;
  bind = λ A B m f h k. then_unends h k;
  at = λ A m h. at_unends h;
}

ret_unends : {A : Type 0} (a : A) → Unends (lift (Ok a))
ret_unends a = plain_unends (lift_plain (Ok a) tt)

steps_unends : {A : Type 0} → Unends {A = A} (lift (Err halt.OutOfSteps))
steps_unends = plain_unends (lift_plain (Err halt.OutOfSteps) tt)

-- calls

enter_unends : (parameters : List FormalParameter) (height : ℕ) (given : List Local) → Unends (enter parameters height given)
unfolding enter
enter_unends parameters height given = record { unended = λ s. tt }

leave_unends : Unends leave
unfolding leave
leave_unends = record { unended = λ s. tt }

call_by_unends : (o : Option Definition) (given : List Local) {body : Definition → Run Flow} → ((d : Definition) → Unends (body d)) → Unends (call_by o given body)
call_by_unends None given h = ret_unends value.Nothing
call_by_unends (Some d) given h = then_unends (enter_unends d.parameters (height_of_block d.body) given) (λ _. then_unends (h d) (λ f. then_unends leave_unends (λ _. ret_unends (returned f))))

abbrev CallsSettle : Functions → Type 0
CallsSettle functions = (f : List ℕ) (given : List Local) → Unends (functions.call f given)

calls_unend : (ds : List Definition) (n : ℕ) → CallsSettle (functions_within ds n)
unfolding call_within
calls_unend ds zero f given = steps_unends
calls_unend ds (suc n) f given =
    let calls = calls_unend ds n in
    call_by_unends (definition_of ds f) given (λ d. exec_all_holds Unending unends_closed (functions_within ds n) calls d.body)

-- items

until_unends : {m : Run (Unit {0})} → Unends m → Unends (until_next m)
unfolding until_next
until_unends {m = m} h = record { unended = h.unended }

until_exit_unends : {m : Run (Unit {0})} → Unends m → Unends (until_exit m)
unfolding until_exit
until_exit_unends {m = m} h = record { unended = h.unended }

begin_unends : (text : List ℕ) → Unends (begin_record text)
unfolding begin_record
begin_unends text = then_unends (plain_unends (set_plain text)) (λ _. then_unends (plain_unends (count_in_plain Nr)) (λ _. plain_unends (count_in_plain Fnr)))

on_unends : (found : Option (List ℕ)) {f : List ℕ → Run (Unit {0})} → ((text : List ℕ) → Unends (f text)) → Unends (on_record found f)
on_unends None h = ret_unends tt
on_unends (Some text) h = h text

each_unends : (n : ℕ) {action : Run (Unit {0})} → Unends action → Unends (each_record n action)
unfolding each_record
each_unends zero h = steps_unends
each_unends (suc n) h =
    let t = each_unends n h in
    then_unends (plain_unends next_plain) (λ found. on_unends found (λ text. then_unends (plain_unends spend_plain) (λ _. then_unends (begin_unends text) (λ _. then_unends h (λ _. t)))))

records_unend : {action : Run (Unit {0})} → Unends action → Unends (run_records action)
unfolding run_records
records_unend h = record { unended = λ s. (each_unends (suc s.steps) h).unended s }

module _ (functions : Functions) (calls : CallsSettle functions) where
  before_end_unends : (items : List Item) → Unends (run_before_end functions items)
  unfolding run_before_end
  before_end_unends items = then_unends (begin_items_holds Unending unends_closed functions calls items) (λ _. choose_holds Unending unends_closed (has_rule items) (records_unend (until_unends (items_holds Unending unends_closed functions calls 0 items))) (ret_unends tt))

  items_unend : (items : List Item) → Unends (run_items functions items)
  unfolding run_items
  items_unend items = then_unends (until_exit_unends (before_end_unends items)) (λ _. end_items_holds Unending unends_closed functions calls items)

-- a run

assign_all_unends : (pre : List (List ℕ × List ℕ)) → Unends (assign_all pre)
unfolding assign_all
assign_all_unends [] = ret_unends tt
assign_all_unends (a ∷ all) = then_unends (plain_unends (assign_plain a.0 a.1)) (λ _. assign_all_unends all)

whole_unends : (items : List Item) (limit : ℕ) (pre : List (List ℕ × List ℕ)) → Unends (assign_and_run items limit pre)
unfolding assign_and_run
whole_unends items limit pre = then_unends (assign_all_unends pre) (λ _. items_unend (functions_within (definitions_of items) limit) (calls_unend (definitions_of items) limit) items)

pub law_of_ends : LawOfEnds
law_of_ends items limit pre s = (whole_unends items limit pre).unended s
