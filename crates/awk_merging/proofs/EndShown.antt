-- END on two states in which all is the same that it may read.
use Rattle.std.proofs.Common.{◌≡◌, ◌≢◌, inl, inr, ℕ, ◌+◌, ◌-◌, ◌≤◌, true, false, ◌||◌, not, List, [], ◌∷◌, Some, Result, Ok, Err, refl, sym, ap, ◌∙◌, subst, arith}
use Rattle.std.proofs.lemmas.Bool.{cases_lt}
use Rattle.awk_grammar.specs.Tree.{Statement, Empty, Simple, Block, If, IfElse, While, Do, ForIn, For, Statements, NoMore, Then, Item, Begin, End, Action, PatternAction, PatternOnly, Function}
use Rattle.awk_semantics.specs.declared.flow.Flow.{Flow}
use Rattle.awk_semantics.specs.declared.flow.Flow.TheVariants as flow
use Rattle.awk_semantics.specs.declared.halt.Halt.{Halt}
use Rattle.awk_semantics.specs.declared.halt.Halt.TheVariants as halt
use Rattle.awk_semantics.specs.definitions.State.{State, Out, Run, ◌>>=◌, ret}
use Rattle.awk_semantics.specs.definitions.Semantics.{Functions, exec, exec_all}
use Rattle.awk_semantics.specs.definitions.Items.{run_action, end_item, end_items}
use Rattle.awk_semantics.specs.definitions.Meaning.{outcome_of}
use Rattle.awk_pieces.specs.definitions.Pieceable.{name_set_first, name_behind, also, behind}
use Rattle.awk_pieces.proofs.Alike.{Names}
use Rattle.awk_pieces.proofs.PlacesAlike.{within_also}
use Rattle.awk_pieces.proofs.ReadsAlike.{left_true, right_true}
use Rattle.awk_merging.specs.definitions.Sums.{Sum, is_taken}
use Rattle.awk_merging.specs.definitions.Mergeable.{own_in, sums_of_program, is_sum, is_array_sum, shows, reads_sums, may_read_sums, is_part_of_end, only_prints, all_only_print, is_mergeable_item, are_mergeable}
use Rattle.awk_merging.specs.definitions.LawOfEnd.{ShowAlike, EndAlike, LawOfEnd}
use Rattle.awk_merging.proofs.OwnVariables.{AreOwn, own_apart}
use Rattle.awk_merging.proofs.ProgramSums.{AreProper, proper_sums}
use Rattle.awk_merging.proofs.Showing.{Any, at, at', Covers, Alike, alike_within, then_alike, ret_alike, spend_alike, choose_alike, tested_alike, Shows, shows_first, shows_also}
use Rattle.awk_merging.proofs.EndNames.{no_left, shows_part, shows_behind}
use Rattle.awk_merging.proofs.EndValues.{keys_read, expression_alike, test_alike, goes_on_alike, simple_alike, part_alike, unless, turned, repeat_alike, walk_alike, passed_on}

module _ (own : Names) (xs : List Sum) (proper : AreProper xs) (base base' : State) (same : base'.status ≡ base.status) (f g : Functions) where
  abbrev Shown : {A : Type 0} → Names → Names → Run A → Run A → Type 0
  Shown before known m n = Alike xs proper base base' before known Any m n

  abbrev then_shown : {A B : Type 0} {before known after : Names} {m n : Run A} (h k : A → Run B) → Shown before known m n → ((a : A) → Shown known after (h a) (k a)) → Shown before after (m >>= h) (n >>= k)
  then_shown h k x y = then_alike xs proper base base' h k x y

  -- what a statement sets needn't be read behind it
  within : (shown : Names) (s : Statement) {m n : Run Flow} → Shown shown (behind own s shown) m n → Shown shown shown m n
  within shown s h = alike_within xs proper base base' (within_also own shown (name_behind s)) h

  mutual
    unfolding exec

    exec_alike : (shown : Names) (may : Shows shown) (s : Statement) → only_prints own xs shown s ≡ true → Shown shown (behind own s shown) (exec f s) (exec g s)
    exec_alike shown may Empty is = ret_alike shown xs proper base base' flow.Normal
    exec_alike shown may (Simple simple) is = simple_alike shown may xs proper base base' f g same own simple is
    exec_alike shown may (Block all) is = exec_all_alike shown may all is
    exec_alike shown may (If c s) is =
        let body = within shown s (exec_alike shown may s (right_true (reads_sums xs shown c) _ is)) in
        then_shown _ _ (test_alike shown may xs proper base base' f g c (left_true (reads_sums xs shown c) _ is)) (λ x. choose_alike xs proper base base' x body (ret_alike shown xs proper base base' flow.Normal))
    exec_alike shown may (IfElse c s other) is =
        let both = right_true (reads_sums xs shown c) _ is in
        let body = within shown s (exec_alike shown may s (left_true (only_prints own xs shown s) _ both)) in
        let rest = within shown other (exec_alike shown may other (right_true (only_prints own xs shown s) _ both)) in
        then_shown _ _ (test_alike shown may xs proper base base' f g c (left_true (reads_sums xs shown c) _ is)) (λ x. choose_alike xs proper base base' x body rest)
    exec_alike shown may (While c s) is =
        let tested = tested_alike shown xs proper base base' (expression_alike shown may xs proper base base' f g c (left_true (reads_sums xs shown c) _ is)) in
        let body = within shown s (exec_alike shown may s (right_true (reads_sums xs shown c) _ is)) in
        then_shown _ _ (spend_alike shown xs proper base base') (λ _. repeat_alike shown may xs proper base base' f g tested body (ret_alike shown xs proper base base' tt))
    exec_alike shown may (Do s c) is =
        let tested = tested_alike shown xs proper base base' (expression_alike shown may xs proper base base' f g c (left_true (reads_sums xs shown c) _ is)) in
        let body = within shown s (exec_alike shown may s (right_true (reads_sums xs shown c) _ is)) in
        then_shown _ _ (spend_alike shown xs proper base base')
        (λ _. then_shown _ _ (turned shown may xs proper base base' f g body) (λ ended. unless shown may xs proper base base' f g ended (repeat_alike shown may xs proper base base' f g tested body (ret_alike shown xs proper base base' tt))))
    exec_alike shown may (For first c last s) is =
        let more = also own (name_set_first first) shown in
        let loop = right_true (is_part_of_end xs shown first) _ is in
        let parts = right_true (may_read_sums xs more c) _ loop in
        let grown = shows_part own shown xs first (left_true (is_part_of_end xs shown first) _ is) may in
        let tested = goes_on_alike more grown xs proper base base' f g c (left_true (may_read_sums xs more c) _ loop) in
        let end = alike_within xs proper base base' (within_also own more (name_set_first last)) (part_alike more grown xs proper base base' f g same own last (left_true (is_part_of_end xs more last) _ parts)) in
        let body = within more s (exec_alike more grown s (right_true (is_part_of_end xs more last) _ parts)) in
        then_shown _ _ (spend_alike shown xs proper base base')
        (λ _. then_shown _ _ (part_alike shown may xs proper base base' f g same own first (left_true (is_part_of_end xs shown first) _ is)) (λ _. repeat_alike more grown xs proper base base' f g tested body end))
    exec_alike shown may (ForIn x a s) is =
        let both = right_true (not (is_taken x || is_sum xs x)) _ is in
        let free : is_taken x ≡ false = no_left (is_taken x) (is_sum xs x) (left_true (not (is_taken x || is_sum xs x)) _ is) in
        let more = also own (Some x) shown in
        let body = within more s (exec_alike more (shows_also own shown x free may) s (right_true (is_array_sum xs a) _ both)) in
        then_shown _ _ (spend_alike shown xs proper base base')
        (λ _. then_shown _ _ (keys_read shown may xs proper base base' a (left_true (is_array_sum xs a) _ both)) (λ keys. walk_alike shown may xs proper base base' f g own x keys free body))

    exec_all_alike : (shown : Names) (may : Shows shown) (all : Statements) → all_only_print own xs shown all ≡ true → Shown shown shown (exec_all f all) (exec_all g all)
    exec_all_alike shown may NoMore is = ret_alike shown xs proper base base' flow.Normal
    exec_all_alike shown may (Then s all) is =
        let here = left_true (only_prints own xs shown s) _ is in
        let rest = exec_all_alike (behind own s shown) (shows_behind own shown xs s here may) all (right_true (only_prints own xs shown s) _ is) in
        then_shown _ _ (exec_alike shown may s here) (λ c. passed_on shown may xs proper base base' f g c (within_also own shown (name_behind s)) rest)

  module _ (owned : AreOwn own xs) where
    abbrev first : Names
    first = shows own

    abbrev gives_unit : Shown first first (ret (tt {0})) (ret (tt {0}))
    gives_unit = ret_alike first xs proper base base' tt

    action_alike : (all : Statements) → all_only_print own xs first all ≡ true → Shown first first (run_action f all) (run_action g all)
    unfolding run_action
    action_alike all is = then_shown _ _ (exec_all_alike first (shows_first own xs owned) all is) (λ c. gives_unit)

    item_alike : (x : Item) → is_mergeable_item own xs x ≡ true → Shown first first (end_item f x) (end_item g x)
    unfolding end_item
    item_alike (End block) is = action_alike block is
    item_alike (Begin block) is = gives_unit
    item_alike (Action block) is = gives_unit
    item_alike (PatternAction q block) is = gives_unit
    item_alike (PatternOnly q) is = absurd (cc)
    item_alike (Function name parameters block) is = absurd (cc)

    pub items_alike : (items : List Item) → are_mergeable own xs items ≡ true → Shown first first (end_items f items) (end_items g items)
    unfolding end_items
    items_alike [] is = gives_unit
    items_alike (x ∷ items) is = then_shown _ _ (item_alike x (left_true (is_mergeable_item own xs x) _ is)) (λ _. items_alike items (right_true (is_mergeable_item own xs x) _ is))

-- where steps are enough
module _ (shown : Names) (xs : List Sum) (proper : AreProper xs) (s t : State) (d : ℕ) (same : t.status ≡ s.status) where
  ended : (r : Result (Unit {0}) Halt) (x y : Out (Unit {0})) → x.result ≡ r → Covers xs proper s t Any shown d r x y → r ≢ Err halt.OutOfSteps → EndAlike x y
  ended (Ok u) x y is c enough = record {
    outcome = ap (λ (z : Out (Unit {0})). outcome_of z.result z.state.status) c.0.is_there ∙ ap (λ (n : ℕ). outcome_of x.result n) (same ∙ sym (ap (λ (z : State). z.status) c.0.is_here));
    effects = ap (λ (z : Out (Unit {0})). z.effects) c.0.is_there;
  }
  ended (Err (halt.Fault f)) x y is c enough = record {
    outcome = ap (λ (r : Result (Unit {0}) Halt). outcome_of r y.state.status) c.0 ∙ sym (ap (λ (r : Result (Unit {0}) Halt). outcome_of r x.state.status) is);
    effects = c.1;
  }
  ended (Err halt.OutOfSteps) x y is c enough = absurd (enough refl)
  ended (Err halt.Next) x y is c enough = absurd c
  ended (Err halt.Exit) x y is c enough = record {
    outcome =
        ap (λ (r : Result (Unit {0}) Halt). outcome_of r y.state.status) c.0
        ∙ ap (λ (n : ℕ). outcome_of (Err halt.Exit) n) c.1.1
        ∙ sym (ap (λ (r : Result (Unit {0}) Halt). outcome_of r x.state.status) is);
    effects = c.1.0;
  }

turned_round : (shown : Names) (xs : List Sum) (s t : State) → ShowAlike shown xs s t → ShowAlike shown xs t s
turned_round shown xs s t alike = record {
  variables = λ x e. sym (alike.variables x e);
  arrays = λ x e. record { named = sym (alike.arrays x e).named; elements = sym (alike.arrays x e).elements };
  summed = λ a e. ((alike.summed a e).1, (alike.summed a e).0);
}

turned_end : (x y : Out (Unit {0})) → EndAlike x y → EndAlike y x
turned_end x y alike = record { outcome = sym alike.outcome; effects = sym alike.effects }

module _ (f g : Functions) (items : List Item) (own : Names) (xs : List Sum) (owned : AreOwn own xs) (proper : AreProper xs) (mergeable : are_mergeable own xs items ≡ true) (s t : State) (none : s.frames ≡ []) (none' : t.frames ≡ []) (same : t.status ≡ s.status) (alike : ShowAlike (shows own) xs s t) where
  as_here : at xs proper s t s.arrays s.variables s.steps ≡ s
  as_here = ap (λ (frames : _). record s { frames = frames }) (sym none)

  as_there : at' xs proper s t t.arrays t.variables t.steps ≡ t
  as_there = ap (λ (frames : _). record t { frames = frames }) (sym none')

  fewer_here : s.steps ≤ t.steps → (end_items f items s).result ≢ Err halt.OutOfSteps → EndAlike (end_items f items s) (end_items g items t)
  fewer_here le enough =
      let d : ℕ = t.steps - s.steps in
      let steps : t.steps ≡ s.steps + d = omega arith in
      let there : at' xs proper s t t.arrays t.variables (s.steps + d) ≡ t = ap (λ (n : ℕ). at' xs proper s t t.arrays t.variables n) (sym steps) ∙ as_there in
      let covers = (items_alike own xs proper s t same f g owned items mergeable).covers s.arrays t.arrays s.variables t.variables s.steps d (record {
        variables = alike.variables;
        arrays = λ x e. record { named = (alike.arrays x e).named; elements = (alike.arrays x e).elements };
        summed = alike.summed;
      }) in
      let out : Covers xs proper s t Any (shows own) d (end_items f items s).result (end_items f items s) (end_items g items t)
      = subst (λ (z : State). Covers xs proper s t Any (shows own) d (end_items f items s).result (end_items f items s) (end_items g items z)) there
      (subst (λ (z : State). Covers xs proper s t Any (shows own) d (end_items f items z).result (end_items f items z) (end_items g items (at' xs proper s t t.arrays t.variables (s.steps + d)))) as_here covers) in
      ended (shows own) xs proper s t d same (end_items f items s).result (end_items f items s) (end_items g items t) refl out enough

pub law_of_end : LawOfEnd
law_of_end f g items mergeable s t none none' same alike enough enough' =
    let own : Names = own_in items in
    let xs : List Sum = sums_of_program items in
    let owned = own_apart items in
    let proper = proper_sums items in
    elim (cases_lt t.steps s.steps) [
      | inr le ↦ fewer_here f g items own xs owned proper mergeable s t none none' same alike le enough
      | inl lt ↦ turned_end _ _ (fewer_here g f items own xs owned proper mergeable t s none' none (sym same) (turned_round (shows own) xs s t alike) (omega (arith, lt)) enough')
    ]
