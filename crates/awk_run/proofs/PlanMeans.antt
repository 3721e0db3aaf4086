-- A run over a plan means what the items of its program do, where no call is active.
use Rattle.std.proofs.Common.{◌≡◌, ℕ, zero, suc, ◌≤◌, Bool, true, false, List, [], ◌∷◌, ◌++◌, append-nil, map, Option, Some, None, Result, Ok, Err, refl, ap, ◌∙◌, arith}
use Rattle.awk_value.specs.declared.value.Value.TheVariants as value
use Rattle.awk_grammar.specs.Tree.{Item}
use Rattle.awk_kinds.specs.definitions.Kinds.{definitions_of, array_names_of}
use Rattle.awk_resolve.specs.declared.plan.Plan.{Plan}
use Rattle.awk_resolve.specs.support.States.{AreFor}
use Rattle.awk_resolve.specs.support.Plans.{tables_of, DoesIn, IsPlanOf}
use Rattle.awk_semantics.specs.declared.halt.Halt.{Halt}
use Rattle.awk_semantics.specs.definitions.State.{Effect, Frame, State, Out, Run, go_on, ◌>>=◌, lift, ret}
use Rattle.awk_semantics.specs.definitions.Primitives.{spend, outside_calls}
use Rattle.awk_semantics.specs.definitions.Inputs.{next_record}
use Rattle.awk_semantics.specs.definitions.Semantics.{Functions, choose}
use Rattle.awk_semantics.specs.definitions.Calls.{functions_within}
use Rattle.awk_semantics.specs.definitions.Items.{unless_next, until_next, unless_exit, until_exit, begin_record, on_record, each_record, run_records, has_rule, try_items, begin_items, end_items, run_before_end, run_items}
use Rattle.awk_semantics.specs.definitions.Meaning.{assign_all, assign_and_run}
use Rattle.awk_semantics.specs.support.Keeps.{Scope, frame_scope, Keeps, CallsKeep, EndsOutside}
use Rattle.awk_semantics.proofs.PlainParts.{assign_plain}
use Rattle.awk_semantics.proofs.Keeping.{keeps_plain, keeps_bind, keeps_lift}
use Rattle.awk_semantics.proofs.KeepsForms.{law_of_keeping}
use Rattle.awk_semantics.proofs.KeepsOutside.{law_of_items}
use Rattle.awk_resolve.proofs.Calling.{outside_in}
use Rattle.awk_run.specs.support.Planned.{place_in, part_at, run_before_end_at, run_items_at, assign_and_run_at}

-- one run after another, from one state

-- the second runs are the same wherever the first leads
then_same : {A B : Type 0} (P : State → Type 0) (m : Run A) (f g : A → Run B) (r : Result A Halt) (t : State) (effects : List Effect) → ((a : A) → r ≡ Ok a → P t) → ((a : A) (u : State) → P u → f a u ≡ g a u) → go_on r t effects f ≡ go_on r t effects g
unfolding go_on
then_same P m f g (Ok a) t effects stays h = ap (λ o. record { result = o.result; state = o.state; effects = effects ++ o.effects }) (h a t (stays a refl))
then_same P m f g (Err e) t effects stays h = refl

both_same : {A B : Type 0} (P : State → Type 0) (m m' : Run A) (f g : A → Run B) (s : State) → m s ≡ m' s → ((a : A) → (m' s).result ≡ Ok a → P (m' s).state) → ((a : A) (t : State) → P t → f a t ≡ g a t) → (m >>= f) s ≡ (m' >>= g) s
unfolding ◌>>=◌
both_same P m m' f g s e stays h = ap (λ o. go_on o.result o.state o.effects f) e ∙ then_same P m' f g (m' s).result (m' s).state (m' s).effects stays h

-- a value that isn't used
dropped : {A B C : Type 0} (m : Run A) (f : A → B) (c : C) (r : Result A Halt) (t : State) (effects : List Effect) → go_on (go_on r t effects (λ a. ret (f a))).result (go_on r t effects (λ a. ret (f a))).state (go_on r t effects (λ a. ret (f a))).effects (λ _. ret c) ≡ go_on r t effects (λ _. ret c)
unfolding go_on lift
dropped m f c (Ok a) t effects = ap (λ (l : List Effect). record { result = Ok c; state = t; effects = l }) (append-nil (effects ++ []))
dropped m f c (Err e) t effects = refl

then_dropped : {A B C : Type 0} (m : Run A) (f : A → B) (c : C) (s : State) → ((m >>= λ a. ret (f a)) >>= λ _. ret c) s ≡ (m >>= λ _. ret c) s
unfolding ◌>>=◌
then_dropped m f c s = dropped m f c (m s).result (m s).state (m s).effects

unit_kept : (r : Result (Unit {0}) Halt) (t : State) (effects : List Effect) → go_on r t effects (λ _. ret tt) ≡ record { result = r; state = t; effects = effects }
unfolding go_on lift
unit_kept (Ok tt) t effects = ap (λ (l : List Effect). record { result = Ok tt; state = t; effects = l }) (append-nil effects)
unit_kept (Err e) t effects = refl

then_unit : (m : Run (Unit {0})) (s : State) → (m >>= λ _. ret tt) s ≡ m s
unfolding ◌>>=◌
then_unit m s = unit_kept (m s).result (m s).state (m s).effects

first_same : {A B : Type 0} (m m' : Run A) (f : A → Run B) (s : State) → m s ≡ m' s → (m >>= f) s ≡ (m' >>= f) s
unfolding ◌>>=◌
first_same m m' f s e = ap (λ o. go_on o.result o.state o.effects f) e

choose_same : {A : Type 0} (b : Bool) (here here' other other' : Run A) (s : State) → here s ≡ here' s → other s ≡ other' s → choose b here other s ≡ choose b here' other' s
choose_same true here here' other other' s e f = e
choose_same false here here' other other' s e f = f

next_same : (m m' : Run (Unit {0})) (s : State) → m s ≡ m' s → until_next m s ≡ until_next m' s
unfolding until_next
next_same m m' s e = ap (λ (o : Out (Unit {0})). record { result = unless_next o.result; state = outside_calls o.state; effects = o.effects }) e

exit_same : (m m' : Run (Unit {0})) (s : State) → m s ≡ m' s → until_exit m s ≡ until_exit m' s
unfolding until_exit
exit_same m m' s e = ap (λ (o : Out (Unit {0})). record { result = unless_exit o.result; state = outside_calls o.state; effects = o.effects }) e

-- states in which no call is active

no_scopes : (frames : List Frame) → map frame_scope frames ≡ [] → frames ≡ []
no_scopes [] e = refl
no_scopes (frame ∷ frames) e = absurd (cc)

pub record IsOutside (items : List Item) (limit : ℕ) (s : State) : Type 0 where
  pub low : s.steps ≤ limit
  pub frames : s.frames ≡ []
  pub arrays : s.array_names ≡ array_names_of items

kept : {A : Type 0} {m : Run A} {items : List Item} {limit : ℕ} {s : State} → Keeps m → IsOutside items limit s → (a : A) → (m s).result ≡ Ok a → IsOutside items limit (m s).state
kept {m = m} {s = s} keeps o a e = record {
  low = (let f = keeps.falls s in let l = o.low in omega (arith, f, l));
  frames = no_scopes (m s).state.frames (ap (λ (x : Scope). x.frames) (keeps.scope s a e) ∙ ap (map frame_scope) o.frames);
  arrays = ap (λ (x : Scope). x.array_names) (keeps.scope s a e) ∙ o.arrays;
}

ended : {A : Type 0} {m : Run A} {items : List Item} {limit : ℕ} {s : State} → EndsOutside m → IsOutside items limit s → IsOutside items limit (m s).state
ended {m = m} {s = s} ends o = record {
  low = (let f = ends.falls s in let l = o.low in omega (arith, f, l));
  frames = ends.frames s;
  arrays = ap (λ (x : Scope). x.array_names) (ends.scope s) ∙ o.arrays;
}

-- the assignments before a run
keeps_assign_all : (pre : List (List ℕ × List ℕ)) → Keeps (assign_all pre)
unfolding assign_all
keeps_assign_all [] = keeps_lift (Ok tt)
keeps_assign_all (a ∷ all) = keeps_bind (keeps_plain (assign_plain a.0 a.1)) (λ _. keeps_assign_all all)

-- records

on_same : (found : Option (List ℕ)) (f g : List ℕ → Run (Unit {0})) (t : State) → ((text : List ℕ) → f text t ≡ g text t) → on_record found f t ≡ on_record found g t
on_same None f g t h = refl
on_same (Some text) f g t h = h text

each_same : {items : List Item} {limit : ℕ} (n : ℕ) (m m' : Run (Unit {0})) → EndsOutside m' → ((t : State) → IsOutside items limit t → m t ≡ m' t) → (s : State) → IsOutside items limit s → each_record n m s ≡ each_record n m' s
unfolding each_record
each_same zero m m' ends h s o = refl
each_same {items = items} {limit = limit} (suc n) m m' ends h s o =
    both_same (IsOutside items limit) next_record next_record (λ found. on_record found (λ text. spend >>= λ _. begin_record text >>= λ _. m >>= λ _. each_record n m)) (λ found. on_record found (λ text. spend >>= λ _. begin_record text >>= λ _. m' >>= λ _. each_record n m')) s refl (kept law_of_keeping.parts.next_record o)
    (λ found t p. on_same found (λ text. spend >>= λ _. begin_record text >>= λ _. m >>= λ _. each_record n m) (λ text. spend >>= λ _. begin_record text >>= λ _. m' >>= λ _. each_record n m') t
    (λ text. both_same (IsOutside items limit) spend spend (λ _. begin_record text >>= λ _. m >>= λ _. each_record n m) (λ _. begin_record text >>= λ _. m' >>= λ _. each_record n m') t refl (kept law_of_keeping.parts.spend p)
    (λ _ u q. both_same (IsOutside items limit) (begin_record text) (begin_record text) (λ _. m >>= λ _. each_record n m) (λ _. m' >>= λ _. each_record n m') u refl (kept (law_of_keeping.parts.begin_record text) q)
    (λ _ v r. both_same (IsOutside items limit) m m' (λ _. each_record n m) (λ _. each_record n m') v (h v r) (λ _ e. ended ends r)
    (λ _ w x. each_same n m m' ends h w x)))))

records_same : {items : List Item} {limit : ℕ} (m m' : Run (Unit {0})) → EndsOutside m' → ((t : State) → IsOutside items limit t → m t ≡ m' t) → (s : State) → IsOutside items limit s → run_records m s ≡ run_records m' s
unfolding run_records
records_same m m' ends h s o = each_same (suc s.steps) m m' ends h s o

-- the parts of a program, by the places of its plan

abbrev pub functions_of : List Item → ℕ → Functions
functions_of items limit = functions_within (definitions_of items) limit

module _ (items : List Item) (plan : Plan) (limit : ℕ) (for : AreFor (tables_of items plan) (functions_of items limit)) where
  -- a place that does this, and then has nothing left to be done
  part_same : {k : ℕ} (part : Functions → Run (Unit {0})) {s : State} → DoesIn items plan [] k (λ functions. part functions >>= λ _. ret value.Nothing) → IsOutside items limit s → part_at (place_in items plan limit) k s ≡ part (functions_of items limit) s
  unfolding part_at
  part_same {k = k} part {s = s} does o =
      first_same (place_in items plan limit k) (part (functions_of items limit) >>= λ _. ret value.Nothing) (λ v. ret tt) s (does.is (functions_of items limit) for limit [] s (outside_in (tables_of items plan) limit s o.frames o.low o.arrays))
      ∙ (then_dropped (part (functions_of items limit)) (λ _. value.Nothing) tt s ∙ then_unit (part (functions_of items limit)) s)

  calls : CallsKeep (functions_of items limit)
  calls = law_of_keeping.calls (definitions_of items) limit

  begins_same : IsPlanOf items plan → (s : State) → IsOutside items limit s → part_at (place_in items plan limit) plan.begin s ≡ begin_items (functions_of items limit) items s
  begins_same is s o = part_same (λ functions. begin_items functions items) is.begin o

  rules_same : IsPlanOf items plan → (s : State) → IsOutside items limit s → part_at (place_in items plan limit) plan.rules s ≡ try_items (functions_of items limit) 0 items s
  rules_same is s o = part_same (λ functions. try_items functions 0 items) is.rules o

  ends_same : IsPlanOf items plan → (s : State) → IsOutside items limit s → part_at (place_in items plan limit) plan.end s ≡ end_items (functions_of items limit) items s
  ends_same is s o = part_same (λ functions. end_items functions items) is.end o

  -- the whole

  before_end_same : IsPlanOf items plan → (s : State) → IsOutside items limit s → run_before_end_at (place_in items plan limit) plan s ≡ run_before_end (functions_of items limit) items s
  unfolding run_before_end_at run_before_end
  before_end_same is s o =
      let tried : Run (Unit {0}) = until_next (part_at (place_in items plan limit) plan.rules) in
      let meant : Run (Unit {0}) = until_next (try_items (functions_of items limit) 0 items) in
      let ends : EndsOutside meant = law_of_items.until_next _ (law_of_items.kept _ ((law_of_keeping.forms (functions_of items limit) calls).try_items 0 items)) in
      both_same (IsOutside items limit) (part_at (place_in items plan limit) plan.begin) (begin_items (functions_of items limit) items) (λ _. choose plan.reads_records (run_records tried) (ret tt)) (λ _. choose (has_rule items) (run_records meant) (ret tt)) s (begins_same is s o)
      (kept ((law_of_keeping.forms (functions_of items limit) calls).begin_items items) o)
      (λ _ t r. ap (λ b. choose b (run_records tried) (ret tt) t) is.reads
      ∙ choose_same (has_rule items) (run_records tried) (run_records meant) (ret tt) (ret tt) t (records_same tried meant ends (λ u q. next_same _ _ u (rules_same is u q)) t r) refl)

  run_items_same : IsPlanOf items plan → (s : State) → IsOutside items limit s → run_items_at (place_in items plan limit) plan s ≡ run_items (functions_of items limit) items s
  unfolding run_items_at run_items
  run_items_same is s o =
      let ends : EndsOutside (until_exit (run_before_end (functions_of items limit) items)) = law_of_items.until_exit _ (law_of_items.run_before_end (functions_of items limit) calls items) in
      both_same (IsOutside items limit) (until_exit (run_before_end_at (place_in items plan limit) plan)) (until_exit (run_before_end (functions_of items limit) items)) (λ _. part_at (place_in items plan limit) plan.end) (λ _. end_items (functions_of items limit) items) s (exit_same _ _ s (before_end_same is s o))
      (λ _ e. ended ends o) (λ _ t r. ends_same is t r)

  pub whole_same : (pre : List (List ℕ × List ℕ)) (s : State) → IsPlanOf items plan → IsOutside items limit s → assign_and_run_at (place_in items plan limit) plan pre s ≡ assign_and_run items limit pre s
  unfolding assign_and_run_at assign_and_run
  whole_same pre s is o =
      both_same (IsOutside items limit) (assign_all pre) (assign_all pre) (λ _. run_items_at (place_in items plan limit) plan) (λ _. run_items (functions_of items limit) items) s refl (kept (keeps_assign_all pre) o)
      (λ _ t r. run_items_same is t r)
