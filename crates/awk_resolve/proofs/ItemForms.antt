-- What is built of items does what they mean, and then what follows them.
use Rattle.std.proofs.Common.{◌≡◌, ℕ, zero, suc, ◌<◌, Bool, true, false, List, [], ◌∷◌, ◌++◌, reverse, get_or, length, None, Ok, refl, sym, subst, ap, ◌∙◌, arith}
use Rattle.awk_value.specs.declared.value.Value.{Value}
use Rattle.awk_value.specs.declared.value.Value.TheVariants as value
use Rattle.awk_value.specs.Values.{truth_of}
use Rattle.awk_grammar.specs.Tree.{Expr, Nil, Bare, Standard, Print, Simple, Statements, Pattern, Single, Range, Item, Begin, End, Action, PatternAction, PatternOnly, Function}
use Rattle.awk_grammar.specs.declared.tree.Item.{Item as CodeItem}
use Rattle.awk_grammar.specs.declared.tree.Item.TheVariants as code
use Rattle.awk_grammar.specs.declared.tree.PrintForm.TheVariants as form
use Rattle.awk_grammar.specs.View.{item_of, items_of}
use Rattle.awk_kinds.specs.definitions.Placed.{in_begin_or_end, in_a_rule, item_fits, are_in_place}
use Rattle.awk_kinds.specs.definitions.Signatures.{ProgramKinds}
use Rattle.awk_semantics.specs.declared.flow.Flow.{Flow}
use Rattle.awk_semantics.specs.declared.flow.Flow.TheVariants as flow
use Rattle.awk_semantics.specs.definitions.State.{State, Run, ◌>>=◌, ret}
use Rattle.awk_semantics.specs.definitions.Primitives.{is_inside, set_inside}
use Rattle.awk_semantics.specs.definitions.Semantics.{Functions, choose, tested, eval, eval_all, print as print_of, exec_simple, exec_all}
use Rattle.awk_semantics.specs.definitions.Items.{run_action, go_through, begin_range, selects, print_record, try_item, try_items, begin_item, begin_items, end_item, end_items}
use Rattle.awk_semantics.specs.support.Keeps.{Keeps, CallsKeep}
use Rattle.awk_semantics.proofs.KeepsForms.{keeps_is_inside, keeps_set_inside, keeps_eval, law_of_keeping}
use Rattle.awk_semantics.proofs.Keeping.{keeps_lift}
use Rattle.awk_resolve.specs.declared.builder.Builder.{Builder}
use Rattle.awk_resolve.specs.declared.node.Tested.TheVariants as asks
use Rattle.awk_resolve.specs.declared.node.Node.TheVariants as n
use Rattle.awk_resolve.specs.declared.node.EffectNode.TheVariants as e
use Rattle.awk_resolve.specs.support.Plans.{Meaning, begin_run, rules_run, end_run}
use Rattle.awk_resolve.specs.support.Builds.{Pushes, Extends, IsIn, EvaluateAll, Decide, Execute, ExecuteAll, leave_by, place_in, Builds, Stands}
use Rattle.awk_resolve.specs.support.Holding.{IsOver, IsAction, AddsPlace, Passes, Selects}
use Rattle.awk_resolve.proofs.Calculus.{assoc_at, given, later_same, later_in}
use Rattle.awk_resolve.proofs.Building.{grows, longer, same, stands, placed, at_once, chosen, both}
use Rattle.awk_resolve.proofs.Actions.{both_true, IsNoReturn, action_gives, later_given}
use Rattle.awk_resolve.proofs.Passing.{simple_then, tested_then}
use Rattle.awk_resolve.proofs.PrintStatements.{print_built}

-- actions

-- what doesn't return goes on
on : (next : ℕ) (at : ℕ → List Value → Run Value) (vs : List Value) (f : Flow) (t : State) → IsNoReturn f → leave_by (record { next = next; breaks = next; continues = next }) at vs f t ≡ at next vs t
on next at vs flow.Normal t h = refl
on next at vs flow.Break t h = refl
on next at vs flow.Continue t h = refl
on next at vs (flow.Return w) t h = absurd h

module _ {kinds : ProgramKinds} where
  pub action_passes : {a b : Builder} {next i : ℕ} {all : Statements} → IsAction all → Builds kinds [] a b i (ExecuteAll all (record { next = next; breaks = next; continues = next })) → Passes kinds a b i (λ functions. run_action functions all) next
  unfolding run_action
  action_passes {next = next} {all = all} h q = record {
    grows = q.extends.grows;
    stands = stands q;
    is = λ p g m vs s i.
        let rest : Run Value = place_in p m next vs in
        q.is p g m vs s i
        ∙ later_given _ (λ f. rest) s (action_gives p.functions h) (λ f t r. on next (place_in p m) vs f t r)
        ∙ sym (assoc_at (exec_all p.functions all) (λ f. ret tt) (λ _. rest) s ∙ later_same (exec_all p.functions all) _ _ s (λ f t. given tt (λ _. rest) t));
  }

  -- no values
  no_values_built : {a : Builder} {l : ℕ} → Stands l a → Builds kinds [] a a l (EvaluateAll Nil l)
  unfolding eval_all
  no_values_built {l = l} h = record {
    extends = same;
    below = h.below;
    pos = h.pos;
    is = λ p g m vs s i. sym (given [] (λ (ws : List Value). place_in p m l (reverse ws ++ vs)) s);
  }

  -- the record is printed
  print_passed : {a b : Builder} {next i : ℕ} → Builds kinds [] a b i (Execute (Simple (Print form.Print (Bare Nil) Standard)) (record { next = next; breaks = next; continues = next })) → Passes kinds a b i print_record next
  unfolding exec_simple print_record
  print_passed {next = next} q = record {
    grows = q.extends.grows;
    stands = stands q;
    is = λ p g m vs s i.
        let out : Flow → Run Value = λ f. leave_by (record { next = next; breaks = next; continues = next }) (place_in p m) vs f in
        q.is p g m vs s i
        ∙ simple_then p.functions out s (Print form.Print (Bare Nil) Standard)
        ∙ assoc_at (print_of p.functions form.Print (Bare Nil) Standard) (λ _. ret flow.Normal) out s
        ∙ later_same (print_of p.functions form.Print (Bare Nil) Standard) _ _ s (λ _ t. given flow.Normal out t);
  }

  pub print_passes : {a b c : Builder} {next to i : ℕ} → Stands next a → Pushes a b (n.Effect (e.Print form.Print 0 None) next) to → Pushes b c (n.Spend to) i → Passes kinds a c i print_record next
  print_passes {next = next} h at_to at_print =
      let to_placed = placed {kinds = kinds} at_to h.below in
      let to_stands : Stands _ _ = record { below = to_placed.below; pos = (let f = to_placed.fresh in let l = h.below in omega (arith, f, l)) } in
      print_passed (print_built {form = form.Print} {list = Bare Nil} {exits = record { next = next; breaks = next; continues = next }} h refl at_to (no_values_built to_stands) at_print)

-- patterns

-- a range that is inside is tested for its end, and another one for its beginning
module _ (functions : Functions) (number : ℕ) (from to : Expr) (here other : Run Value) where
  abbrev chosen_by : Bool → Run Value
  chosen_by x = choose x here other

  abbrev inside : Run Value
  inside = go_through functions number to >>= chosen_by

  abbrev outside : Run Value
  outside = begin_range functions number from to >>= chosen_by

  ended_by : (b : Bool) (t : State) → ((choose b (set_inside number false) (ret tt) >>= λ _. ret true) >>= chosen_by) t ≡ choose b (set_inside number false >>= λ _. here) here t
  ended_by true t = assoc_at (set_inside number false) (λ _. ret true) chosen_by t ∙ later_same (set_inside number false) _ _ t (λ _ u. given true chosen_by u)
  ended_by false t = assoc_at (ret tt) (λ _. ret true) chosen_by t ∙ given tt (λ _. ret true >>= chosen_by) t ∙ given true chosen_by t

  inside_then : (s : State) → inside s ≡ (eval functions to >>= λ w. choose (truth_of w) (set_inside number false >>= λ _. here) here) s
  unfolding go_through
  inside_then s =
      assoc_at (tested (eval functions to)) (λ ends. choose ends (set_inside number false) (ret tt) >>= λ _. ret true) chosen_by s
      ∙ tested_then (eval functions to) (λ ends. (choose ends (set_inside number false) (ret tt) >>= λ _. ret true) >>= chosen_by) s
      ∙ later_same (eval functions to) _ _ s (λ w t. ended_by (truth_of w) t)

  begun_by : (b : Bool) (t : State) → (choose b (set_inside number true >>= λ _. go_through functions number to) (ret false) >>= chosen_by) t ≡ choose b (set_inside number true >>= λ _. inside) other t
  begun_by true t = assoc_at (set_inside number true) (λ _. go_through functions number to) chosen_by t
  begun_by false t = given false chosen_by t

  outside_then : (s : State) → outside s ≡ (eval functions from >>= λ w. choose (truth_of w) (set_inside number true >>= λ _. inside) other) s
  unfolding begin_range
  outside_then s =
      assoc_at (tested (eval functions from)) (λ begins. choose begins (set_inside number true >>= λ _. go_through functions number to) (ret false)) chosen_by s
      ∙ tested_then (eval functions from) (λ begins. choose begins (set_inside number true >>= λ _. go_through functions number to) (ret false) >>= chosen_by) s
      ∙ later_same (eval functions from) _ _ s (λ w t. begun_by (truth_of w) t)

  either : (b : Bool) (t : State) → (choose b (go_through functions number to) (begin_range functions number from to) >>= chosen_by) t ≡ choose b inside outside t
  either true t = refl
  either false t = refl

  selected_then : (s : State) → (selects functions number (Range from to) >>= chosen_by) s ≡ (is_inside number >>= λ b. choose b inside outside) s
  unfolding selects
  selected_then s =
      assoc_at (is_inside number) (λ b. choose b (go_through functions number to) (begin_range functions number from to)) chosen_by s
      ∙ later_same (is_inside number) _ _ s either

module _ {kinds : ProgramKinds} where
  pub single_selects : {a b : Builder} {i number here other : ℕ} {x : Expr} → Builds kinds [] a b i (Decide x here other) → Selects kinds a b i number (Single x) here other
  unfolding selects
  single_selects {here = here} {other = other} {x = x} q = record {
    grows = q.extends.grows;
    stands = stands q;
    is = λ p g m vs s i. q.is p g m vs s i ∙ sym (tested_then (eval p.functions x) (λ y. choose y (place_in p m here vs) (place_in p m other vs)) s);
  }

  pub range_selects : {a b c d f g : Builder} {number ends through begins outside i here other : ℕ} {from to : Expr} → Stands here a → Pushes a b (n.Effect (e.SetInside number false) here) ends → Builds kinds [] b c through (Decide to ends here)
      → Pushes c d (n.Effect (e.SetInside number true) through) begins → Builds kinds [] d f outside (Decide from begins other) → Pushes f g (n.Test (asks.Inside number) through outside) i → Selects kinds a g i number (Range from to) here other
  range_selects {number = number} {ends = ends} {through = through} {begins = begins} {outside = at_outside} {here = here} {other = other} {from = from} {to = to} stand at_ends ending at_begins beginning at_test =
      let ends_placed = placed {kinds = kinds} at_ends stand.below in
      let begins_placed = placed {kinds = kinds} at_begins ending.below in
      let test_placed = placed {kinds = kinds} at_test (longer through (grows begins_placed.extends.grows beginning.extends.grows) ending.below, beginning.below) in
      record {
        grows = grows ends_placed.extends.grows (grows ending.extends.grows (grows begins_placed.extends.grows (grows beginning.extends.grows test_placed.extends.grows)));
        stands = record { below = test_placed.below; pos = (let k = test_placed.fresh in let l = beginning.below in omega (arith, k, l)) };
        is = λ p k m vs s i.
            let behind_outside = grows test_placed.extends.grows k in
            let behind_begins = grows beginning.extends.grows behind_outside in
            let behind_through = grows begins_placed.extends.grows behind_begins in
            let behind_ends = grows ending.extends.grows behind_through in
            let h : Run Value = place_in p m here vs in
            let o : Run Value = place_in p m other vs in
            let goes : (t : State) → IsIn p.tables [] m t → place_in p m through vs t ≡ inside p.functions number from to h o t =
            λ t j. ending.is p behind_through m vs t j ∙ later_same (eval p.functions to) _ _ t (λ w u. both (truth_of w) _ _ _ _ u (at_once (ends_placed.is p behind_ends m) vs u) refl) ∙ sym (inside_then p.functions number from to h o t) in
            let starts : (t : State) → IsIn p.tables [] m t → place_in p m begins vs t ≡ (set_inside number true >>= λ _. inside p.functions number from to h o) t =
            λ t j. at_once (begins_placed.is p behind_begins m) vs t ∙ later_in _ _ t m (keeps_set_inside number true) j (λ _ u l. goes u l) in
            let begun : (t : State) → IsIn p.tables [] m t → place_in p m at_outside vs t ≡ outside p.functions number from to h o t =
            λ t j. beginning.is p behind_outside m vs t j ∙ later_in _ _ t m (keeps_eval p.functions p.calls.keep from) j (λ w u l. both (truth_of w) _ _ _ _ u (starts u l) refl) ∙ sym (outside_then p.functions number from to h o t) in
            at_once (test_placed.is p k m) vs s
            ∙ later_in _ _ s m (keeps_is_inside number) i (λ b t j. both b _ _ _ _ t (goes t j) (begun t j))
            ∙ sym (selected_then p.functions number from to h o s);
      }

-- items on a record

-- what isn't for records
nothing_passes : {kinds : ProgramKinds} {a : Builder} {next : ℕ} → Stands next a → Passes kinds a a next (λ functions. ret tt) next
nothing_passes {a = a} {next = next} h = record {
  grows = (let stays : Extends a a = same in stays.grows);
  stands = h;
  is = λ p g m vs s i. sym (given tt (λ _. place_in p m next vs) s);
}

module _ {kinds : ProgramKinds} where
  -- what is done where a pattern selects
  choice_passes : {a b c : Builder} {here i number next : ℕ} {pattern : Pattern} {part : Functions → Run (Unit {0})} → Passes kinds a b here part next → Selects kinds b c i number pattern here next
      → Passes kinds a c i (λ functions. selects functions number pattern >>= λ x. choose x (part functions) (ret tt)) next
  choice_passes {here = here} {number = number} {next = next} {pattern = pattern} {part = part} h q = record {
    grows = grows h.grows q.grows;
    stands = q.stands;
    is = λ p g m vs s i.
        let rest : Run Value = place_in p m next vs in
        q.is p g m vs s i
        ∙ later_in _ _ s m ((law_of_keeping.forms p.functions p.calls.keep).selects number pattern) i
        (λ x t j. chosen x (part p.functions) (ret tt) (λ _. rest) (place_in p m here vs) rest t (h.is p (grows q.grows g) m vs t j) (sym (given tt (λ _. rest) t)))
        ∙ sym (assoc_at (selects p.functions number pattern) (λ x. choose x (part p.functions) (ret tt)) (λ _. rest) s);
  }

  pub every_tried : (number : ℕ) (all : Statements) {a b : Builder} {i next : ℕ} → Passes kinds a b i (λ functions. run_action functions all) next → Passes kinds a b i (λ functions. try_item functions number (Action all)) next
  unfolding try_item
  every_tried number all h = h

  pub pattern_action_tried : (number : ℕ) (pattern : Pattern) (all : Statements) {a b c : Builder} {here i next : ℕ} → Passes kinds a b here (λ functions. run_action functions all) next → Selects kinds b c i number pattern here next
      → Passes kinds a c i (λ functions. try_item functions number (PatternAction pattern all)) next
  unfolding try_item
  pattern_action_tried number pattern all h q = choice_passes h q

  pub pattern_only_tried : (number : ℕ) (pattern : Pattern) {a b c : Builder} {here i next : ℕ} → Passes kinds a b here print_record next → Selects kinds b c i number pattern here next → Passes kinds a c i (λ functions. try_item functions number (PatternOnly pattern)) next
  unfolding try_item
  pattern_only_tried number pattern h q = choice_passes h q

  -- what is no rule isn't for records
  pub other_tried : (number : ℕ) (x : CodeItem) {a : Builder} {next : ℕ} → ((all : _) → x ≡ code.Action all → ⊥) → ((p : _) (all : _) → x ≡ code.PatternAction p all → ⊥) → ((p : _) → x ≡ code.PatternOnly p → ⊥) → Stands next a → Passes kinds a a next (λ functions. try_item functions number (item_of x)) next
  unfolding try_item
  other_tried number (code.Begin all) every action only h = nothing_passes h
  other_tried number (code.End all) every action only h = nothing_passes h
  other_tried number (code.Action all) every action only h = absurd (every all refl)
  other_tried number (code.PatternAction p all) every action only h = absurd (action p all refl)
  other_tried number (code.PatternOnly p) every action only h = absurd (only p refl)
  other_tried number (code.Function f parameters all) every action only h = nothing_passes h

  -- items before and behind all records

  pub action_begins : (all : Statements) {a b : Builder} {i next : ℕ} → Passes kinds a b i (λ functions. run_action functions all) next → Passes kinds a b i (λ functions. begin_item functions (Begin all)) next
  unfolding begin_item
  action_begins all h = h

  pub other_begins : (x : CodeItem) {a : Builder} {next : ℕ} → ((all : _) → x ≡ code.Begin all → ⊥) → Stands next a → Passes kinds a a next (λ functions. begin_item functions (item_of x)) next
  unfolding begin_item
  other_begins (code.Begin all) other h = absurd (other all refl)
  other_begins (code.End all) other h = nothing_passes h
  other_begins (code.Action all) other h = nothing_passes h
  other_begins (code.PatternAction p all) other h = nothing_passes h
  other_begins (code.PatternOnly p) other h = nothing_passes h
  other_begins (code.Function f parameters all) other h = nothing_passes h

  pub action_ends : (all : Statements) {a b : Builder} {i next : ℕ} → Passes kinds a b i (λ functions. run_action functions all) next → Passes kinds a b i (λ functions. end_item functions (End all)) next
  unfolding end_item
  action_ends all h = h

  pub other_ends : (x : CodeItem) {a : Builder} {next : ℕ} → ((all : _) → x ≡ code.End all → ⊥) → Stands next a → Passes kinds a a next (λ functions. end_item functions (item_of x)) next
  unfolding end_item
  other_ends (code.Begin all) other h = nothing_passes h
  other_ends (code.End all) other h = absurd (other all refl)
  other_ends (code.Action all) other h = nothing_passes h
  other_ends (code.PatternAction p all) other h = nothing_passes h
  other_ends (code.PatternOnly p) other h = nothing_passes h
  other_ends (code.Function f parameters all) other h = nothing_passes h

-- items in a row, from the last one

begin_keeps : (functions : Functions) → CallsKeep functions → (x : Item) → Keeps (begin_item functions x)
unfolding begin_item
begin_keeps functions calls (Begin block) = (law_of_keeping.forms functions calls).run_action block
begin_keeps functions calls (End block) = keeps_lift (Ok tt)
begin_keeps functions calls (Action block) = keeps_lift (Ok tt)
begin_keeps functions calls (PatternAction p block) = keeps_lift (Ok tt)
begin_keeps functions calls (PatternOnly p) = keeps_lift (Ok tt)
begin_keeps functions calls (Function f parameters block) = keeps_lift (Ok tt)

end_keeps : (functions : Functions) → CallsKeep functions → (x : Item) → Keeps (end_item functions x)
unfolding end_item
end_keeps functions calls (Begin block) = keeps_lift (Ok tt)
end_keeps functions calls (End block) = (law_of_keeping.forms functions calls).run_action block
end_keeps functions calls (Action block) = keeps_lift (Ok tt)
end_keeps functions calls (PatternAction p block) = keeps_lift (Ok tt)
end_keeps functions calls (PatternOnly p) = keeps_lift (Ok tt)
end_keeps functions calls (Function f parameters block) = keeps_lift (Ok tt)

module _ {kinds : ProgramKinds} where
  -- a part before what is held
  before : {a b c : Builder} {i next : ℕ} {part : Functions → Run (Unit {0})} {m : Meaning} → ((functions : Functions) → CallsKeep functions → Keeps (part functions)) → AddsPlace kinds a b [] next m → Passes kinds b c i part next
      → AddsPlace kinds a c [] i (λ functions. part functions >>= λ _. m functions)
  before {next = next} keeps h q = record {
    grows = grows h.grows q.grows;
    holds = record {
      stands = q.stands;
      is = λ p g n vs s i. q.is p g n vs s i ∙ later_in _ _ s n (keeps p.functions p.calls.keep) i (λ _ t j. h.holds.is p (grows q.grows g) n vs t j);
    };
  }

  meant : {a b : Builder} {i : ℕ} {m m' : Meaning} → ((functions : Functions) (s : State) → m functions s ≡ m' functions s) → AddsPlace kinds a b [] i m → AddsPlace kinds a b [] i m'
  meant e h = record { grows = h.grows; holds = record { stands = h.holds.stands; is = λ p g n vs s i. h.holds.is p g n vs s i ∙ e p.functions s } }

  -- nothing is left to be done
  over_added : {a : Builder} {over : ℕ} → IsOver kinds over a → AddsPlace kinds a a [] over (λ functions. ret (tt {0}) >>= λ _. ret value.Nothing)
  over_added {a = a} h = record {
    grows = (let stays : Extends a a = same in stays.grows);
    holds = record { stands = h.stands; is = λ p g n vs s i. at_once (h.is p g n) vs s ∙ sym (given tt (λ _. ret value.Nothing) s) };
  }

  pub no_rules_added : {a : Builder} {over : ℕ} (number : ℕ) → IsOver kinds over a → AddsPlace kinds a a [] over (rules_run number [])
  unfolding try_items
  no_rules_added number h = over_added h

  pub rule_added : (number : ℕ) (x : Item) (xs : List Item) {a b c : Builder} {i next later : ℕ} → later ≡ suc number → AddsPlace kinds a b [] next (rules_run later xs) → Passes kinds b c i (λ functions. try_item functions number x) next → AddsPlace kinds a c [] i (rules_run number (x ∷ xs))
  unfolding try_items
  rule_added number x xs {a = a} {b = b} {next = next} is h q =
      meant (λ functions s. sym (assoc_at (try_item functions number x) (λ _. try_items functions (suc number) xs) (λ _. ret value.Nothing) s))
      (before (λ functions calls. (law_of_keeping.forms functions calls).try_item number x) (subst (λ (n : ℕ). AddsPlace kinds a b [] next (rules_run n xs)) is h) q)

  pub no_begins_added : {a : Builder} {over : ℕ} → IsOver kinds over a → AddsPlace kinds a a [] over (begin_run [])
  unfolding begin_items
  no_begins_added h = over_added h

  pub begin_added : (x : Item) (xs : List Item) {a b c : Builder} {i next : ℕ} → AddsPlace kinds a b [] next (begin_run xs) → Passes kinds b c i (λ functions. begin_item functions x) next → AddsPlace kinds a c [] i (begin_run (x ∷ xs))
  unfolding begin_items
  begin_added x xs h q =
      meant (λ functions s. sym (assoc_at (begin_item functions x) (λ _. begin_items functions xs) (λ _. ret value.Nothing) s)) (before (λ functions calls. begin_keeps functions calls x) h q)

  pub no_ends_added : {a : Builder} {over : ℕ} → IsOver kinds over a → AddsPlace kinds a a [] over (end_run [])
  unfolding end_items
  no_ends_added h = over_added h

  pub end_added : (x : Item) (xs : List Item) {a b c : Builder} {i next : ℕ} → AddsPlace kinds a b [] next (end_run xs) → Passes kinds b c i (λ functions. end_item functions x) next → AddsPlace kinds a c [] i (end_run (x ∷ xs))
  unfolding end_items
  end_added x xs h q =
      meant (λ functions s. sym (assoc_at (end_item functions x) (λ _. end_items functions xs) (λ _. ret value.Nothing) s)) (before (λ functions calls. end_keeps functions calls x) h q)

-- where statements stand

pub item_in_place : (xs : List CodeItem) (i : ℕ) (x : CodeItem) → i < length xs → get_or xs i x ≡ x → are_in_place (items_of xs) ≡ true → item_fits (item_of x) ≡ true
item_in_place [] i x low is h = absurd (omega (arith, low))
item_in_place (y ∷ ys) zero x low is h = let z : y ≡ x = cc in ap (λ w. item_fits (item_of w)) (sym z) ∙ (both_true (item_fits (item_of y)) (are_in_place (items_of ys)) h).0
item_in_place (y ∷ ys) (suc i) x low is h = item_in_place ys i x (omega (arith, low)) is (both_true (item_fits (item_of y)) (are_in_place (items_of ys)) h).1

pub rule_is_action : (all : Statements) → item_fits (Action all) ≡ true → IsAction all
rule_is_action all h = record { place = in_a_rule; outside = refl; fits = h }

pub begin_is_action : (all : Statements) → item_fits (Begin all) ≡ true → IsAction all
begin_is_action all h = record { place = in_begin_or_end; outside = refl; fits = h }

pub end_is_action : (all : Statements) → item_fits (End all) ≡ true → IsAction all
end_is_action all h = record { place = in_begin_or_end; outside = refl; fits = h }
