-- What the parts of the derived programs do.
use Rattle.std.proofs.Common.{◌≡◌, ℕ, suc, Bool, true, List, [], ◌∷◌, ◌++◌, Result, Ok, Err, refl, ap, ◌∙◌, append-nil}
use Rattle.awk_grammar.specs.Tree.{Statements, Pattern, Single, Range, Item, Begin, End, Action, PatternAction, PatternOnly, Function}
use Rattle.awk_semantics.specs.declared.halt.Halt.{Halt}
use Rattle.awk_semantics.specs.definitions.State.{Effect, State, Out, Run, go_on, ◌>>=◌, lift, ret, gives}
use Rattle.awk_semantics.specs.definitions.Semantics.{Functions}
use Rattle.awk_semantics.specs.definitions.Items.{selects, run_action, try_item, try_items, begin_item, begin_items, end_item, end_items}
use Rattle.awk_pieces.proofs.ReadsAlike.{left_true, right_true}
use Rattle.awk_merging.specs.definitions.Sums.{Sum, print_sums, read_sums, reading_rules}
use Rattle.awk_merging.specs.definitions.Mergeable.{own_in, sums_of_program, is_mergeable_item, are_mergeable}
use Rattle.awk_merging.specs.definitions.Derived.{without_ends, begins_of, ends_of}
use Rattle.awk_merging.proofs.ProgramSums.{is_among, apart_sums, is_proper, proper_sums}
use Rattle.awk_merging.specs.definitions.LawOfDerived.{LawOfDerived}

-- what goes on alike does alike
goes_alike : {A B : Type 0} (r : Result A Halt) (t : State) (effects : List Effect) (f g : A → Run B) → ((a : A) (s : State) → f a s ≡ g a s) → go_on r t effects f ≡ go_on r t effects g
unfolding go_on
goes_alike {B = B} (Ok a) t effects f g same = ap (λ (out : Out B). record { result = out.result; state = out.state; effects = effects ++ out.effects }) (same a t)
goes_alike (Err h) t effects f g same = refl

-- nothing behind it changes nothing
ends_there : (r : Result (Unit {0}) Halt) (t : State) (effects : List Effect) → go_on r t effects (λ (u : Unit {0}). ret (tt {0})) ≡ record { result = r; state = t; effects = effects }
unfolding go_on lift
ends_there (Ok u) t effects = ap (λ (l : List Effect). record { result = Ok (tt {0}); state = t; effects = l }) (append-nil effects)
ends_there (Err h) t effects = refl

-- items without ranges do the same by any number

abbrev IsSingle : Pattern → Type 0
IsSingle (Single e) = Unit {0}
IsSingle (Range from to) = ⊥

abbrev IsSingleItem : Item → Type 0
IsSingleItem (PatternAction p block) = IsSingle p
IsSingleItem (PatternOnly p) = IsSingle p
IsSingleItem x = Unit {0}

abbrev AreSingle : List Item → Type 0
AreSingle [] = Unit {0}
AreSingle (x ∷ xs) = IsSingleItem x × AreSingle xs

item_single : (own : List ℕ → Bool) (sums : List Sum) (x : Item) → is_mergeable_item own sums x ≡ true → IsSingleItem x
item_single own sums (Begin block) is = tt
item_single own sums (End block) is = tt
item_single own sums (Action block) is = tt
item_single own sums (PatternAction (Single e) block) is = tt
item_single own sums (PatternAction (Range from to) block) is = absurd (cc)
item_single own sums (PatternOnly p) is = absurd (cc)
item_single own sums (Function f parameters block) is = tt

all_single : (own : List ℕ → Bool) (sums : List Sum) (xs : List Item) → are_mergeable own sums xs ≡ true → AreSingle xs
all_single own sums [] is = tt
all_single own sums (x ∷ xs) is = (item_single own sums x (left_true (is_mergeable_item own sums x) _ is), all_single own sums xs (right_true (is_mergeable_item own sums x) _ is))

module _ (functions : Functions) where
  by_number : (m n : ℕ) (x : Item) (s : State) → IsSingleItem x → try_item functions m x s ≡ try_item functions n x s
  unfolding try_item selects ◌>>=◌
  by_number m n (Begin block) s is = refl
  by_number m n (End block) s is = refl
  by_number m n (Action block) s is = refl
  by_number m n (PatternAction (Single e) block) s is = refl
  by_number m n (PatternAction (Range from to) block) s is = absurd is
  by_number m n (PatternOnly (Single e)) s is = refl
  by_number m n (PatternOnly (Range from to)) s is = absurd is
  by_number m n (Function f parameters block) s is = refl

  tries_on : (m n : ℕ) (x : Item) (xs ys : List Item) (s : State) → IsSingleItem x → ((t : State) → try_items functions (suc m) xs t ≡ try_items functions (suc n) ys t) → try_items functions m (x ∷ xs) s ≡ try_items functions n (x ∷ ys) s
  unfolding try_items ◌>>=◌
  tries_on m n x xs ys s single rest =
      ap (λ (out : Out (Unit {0})). go_on out.result out.state out.effects (λ _. try_items functions (suc m) xs)) (by_number m n x s single)
      ∙ goes_alike (try_item functions n x s).result (try_item functions n x s).state (try_item functions n x s).effects (λ _. try_items functions (suc m) xs) (λ _. try_items functions (suc n) ys) (λ u t. rest t)

  -- on a piece
  each_tried : (m n : ℕ) (block : Statements) (xs : List Item) (s : State) → AreSingle xs → try_items functions m (without_ends xs ++ End block ∷ []) s ≡ try_items functions n xs s
  unfolding try_items try_item lift ◌>>=◌ go_on
  each_tried m n block [] s single = refl
  each_tried m n block (End b ∷ xs) s single = each_tried m (suc n) block xs s single.1
  each_tried m n block (Begin b ∷ xs) s single = tries_on m n (Begin b) (without_ends xs ++ End block ∷ []) xs s single.0 (λ t. each_tried (suc m) (suc n) block xs t single.1)
  each_tried m n block (Action b ∷ xs) s single = tries_on m n (Action b) (without_ends xs ++ End block ∷ []) xs s single.0 (λ t. each_tried (suc m) (suc n) block xs t single.1)
  each_tried m n block (PatternAction p b ∷ xs) s single = tries_on m n (PatternAction p b) (without_ends xs ++ End block ∷ []) xs s single.0 (λ t. each_tried (suc m) (suc n) block xs t single.1)
  each_tried m n block (PatternOnly p ∷ xs) s single = tries_on m n (PatternOnly p) (without_ends xs ++ End block ∷ []) xs s single.0 (λ t. each_tried (suc m) (suc n) block xs t single.1)
  each_tried m n block (Function f parameters b ∷ xs) s single = tries_on m n (Function f parameters b) (without_ends xs ++ End block ∷ []) xs s single.0 (λ t. each_tried (suc m) (suc n) block xs t single.1)

  begins_on : (b : Statements) (xs ys : List Item) (s : State) → ((t : State) → begin_items functions xs t ≡ begin_items functions ys t) → begin_items functions (Begin b ∷ xs) s ≡ begin_items functions (Begin b ∷ ys) s
  unfolding begin_items begin_item ◌>>=◌
  begins_on b xs ys s rest = goes_alike _ _ _ (λ _. begin_items functions xs) (λ _. begin_items functions ys) (λ u t. rest t)

  each_begun : (block : Statements) (xs : List Item) (s : State) → begin_items functions (without_ends xs ++ End block ∷ []) s ≡ begin_items functions xs s
  unfolding begin_items begin_item lift ◌>>=◌ go_on
  each_begun block [] s = refl
  each_begun block (End b ∷ xs) s = each_begun block xs s
  each_begun block (Begin b ∷ xs) s = begins_on b (without_ends xs ++ End block ∷ []) xs s (λ t. each_begun block xs t)
  each_begun block (Action b ∷ xs) s = each_begun block xs s
  each_begun block (PatternAction p b ∷ xs) s = each_begun block xs s
  each_begun block (PatternOnly p ∷ xs) s = each_begun block xs s
  each_begun block (Function f parameters b ∷ xs) s = each_begun block xs s

  last_ends : (block : Statements) (s : State) → end_items functions (End block ∷ []) s ≡ run_action functions block s
  unfolding end_items end_item ◌>>=◌
  last_ends block s = ends_there (run_action functions block s).result (run_action functions block s).state (run_action functions block s).effects

  each_ended : (block : Statements) (xs : List Item) (s : State) → end_items functions (without_ends xs ++ End block ∷ []) s ≡ run_action functions block s
  unfolding end_items end_item lift ◌>>=◌ go_on
  each_ended block [] s = last_ends block s
  each_ended block (End b ∷ xs) s = each_ended block xs s
  each_ended block (Begin b ∷ xs) s = each_ended block xs s
  each_ended block (Action b ∷ xs) s = each_ended block xs s
  each_ended block (PatternAction p b ∷ xs) s = each_ended block xs s
  each_ended block (PatternOnly p ∷ xs) s = each_ended block xs s
  each_ended block (Function f parameters b ∷ xs) s = each_ended block xs s

  -- on what the pieces print

  ends_on : (b : Statements) (xs ys : List Item) (s : State) → ((t : State) → end_items functions xs t ≡ end_items functions ys t) → end_items functions (End b ∷ xs) s ≡ end_items functions (End b ∷ ys) s
  unfolding end_items end_item ◌>>=◌
  ends_on b xs ys s rest = goes_alike _ _ _ (λ _. end_items functions xs) (λ _. end_items functions ys) (λ u t. rest t)

  ends_alone : (xs : List Item) (s : State) → end_items functions (ends_of xs) s ≡ end_items functions xs s
  unfolding end_items end_item lift ◌>>=◌ go_on
  ends_alone [] s = refl
  ends_alone (End b ∷ xs) s = ends_on b (ends_of xs) xs s (λ t. ends_alone xs t)
  ends_alone (Begin b ∷ xs) s = ends_alone xs s
  ends_alone (Action b ∷ xs) s = ends_alone xs s
  ends_alone (PatternAction p b ∷ xs) s = ends_alone xs s
  ends_alone (PatternOnly p ∷ xs) s = ends_alone xs s
  ends_alone (Function f parameters b ∷ xs) s = ends_alone xs s

  -- behind the items of BEGIN stand others
  begins_first : (xs ys : List Item) (s : State) → ((t : State) → begin_items functions ys t ≡ gives (tt {0}) t) → begin_items functions (begins_of xs ++ ys) s ≡ begin_items functions xs s
  unfolding begin_items begin_item lift ◌>>=◌ go_on
  begins_first [] ys s none = none s
  begins_first (Begin b ∷ xs) ys s none = begins_on b (begins_of xs ++ ys) xs s (λ t. begins_first xs ys t none)
  begins_first (End b ∷ xs) ys s none = begins_first xs ys s none
  begins_first (Action b ∷ xs) ys s none = begins_first xs ys s none
  begins_first (PatternAction p b ∷ xs) ys s none = begins_first xs ys s none
  begins_first (PatternOnly p ∷ xs) ys s none = begins_first xs ys s none
  begins_first (Function f parameters b ∷ xs) ys s none = begins_first xs ys s none

  tries_behind : (m : ℕ) (xs ys : List Item) (s : State) (out : Out (Unit {0})) → ((n : ℕ) → try_items functions n ys s ≡ out) → try_items functions m (begins_of xs ++ ys) s ≡ out
  unfolding try_items try_item lift ◌>>=◌ go_on
  tries_behind m [] ys s out is = is m
  tries_behind m (Begin b ∷ xs) ys s out is = tries_behind (suc m) xs ys s out is
  tries_behind m (End b ∷ xs) ys s out is = tries_behind m xs ys s out is
  tries_behind m (Action b ∷ xs) ys s out is = tries_behind m xs ys s out is
  tries_behind m (PatternAction p b ∷ xs) ys s out is = tries_behind m xs ys s out is
  tries_behind m (PatternOnly p ∷ xs) ys s out is = tries_behind m xs ys s out is
  tries_behind m (Function f parameters b ∷ xs) ys s out is = tries_behind m xs ys s out is

  ends_behind : (xs ys : List Item) (s : State) → end_items functions (begins_of xs ++ ys) s ≡ end_items functions ys s
  unfolding end_items end_item lift ◌>>=◌ go_on
  ends_behind [] ys s = refl
  ends_behind (Begin b ∷ xs) ys s = ends_behind xs ys s
  ends_behind (End b ∷ xs) ys s = ends_behind xs ys s
  ends_behind (Action b ∷ xs) ys s = ends_behind xs ys s
  ends_behind (PatternAction p b ∷ xs) ys s = ends_behind xs ys s
  ends_behind (PatternOnly p ∷ xs) ys s = ends_behind xs ys s
  ends_behind (Function f parameters b ∷ xs) ys s = ends_behind xs ys s

  -- END does nothing before the records and on one
  ends_begin_none : (xs : List Item) (s : State) → begin_items functions (ends_of xs) s ≡ gives (tt {0}) s
  unfolding begin_items begin_item lift ◌>>=◌ go_on
  ends_begin_none [] s = refl
  ends_begin_none (End b ∷ xs) s = ends_begin_none xs s
  ends_begin_none (Begin b ∷ xs) s = ends_begin_none xs s
  ends_begin_none (Action b ∷ xs) s = ends_begin_none xs s
  ends_begin_none (PatternAction p b ∷ xs) s = ends_begin_none xs s
  ends_begin_none (PatternOnly p ∷ xs) s = ends_begin_none xs s
  ends_begin_none (Function f parameters b ∷ xs) s = ends_begin_none xs s

  ends_try_none : (m : ℕ) (xs : List Item) (s : State) → try_items functions m (ends_of xs) s ≡ gives (tt {0}) s
  unfolding try_items try_item lift ◌>>=◌ go_on
  ends_try_none m [] s = refl
  ends_try_none m (End b ∷ xs) s = ends_try_none (suc m) xs s
  ends_try_none m (Begin b ∷ xs) s = ends_try_none m xs s
  ends_try_none m (Action b ∷ xs) s = ends_try_none m xs s
  ends_try_none m (PatternAction p b ∷ xs) s = ends_try_none m xs s
  ends_try_none m (PatternOnly p ∷ xs) s = ends_try_none m xs s
  ends_try_none m (Function f parameters b ∷ xs) s = ends_try_none m xs s

  -- the rules that read sums do nothing before the records and behind them
  rules_begin_none : (sums : List Sum) (xs : List Item) (s : State) → begin_items functions (read_sums sums ++ ends_of xs) s ≡ gives (tt {0}) s
  unfolding begin_items begin_item lift ◌>>=◌ go_on
  rules_begin_none [] xs s = ends_begin_none xs s
  rules_begin_none (x ∷ sums) xs s = rules_begin_none sums xs s

  all_begin_none : (sums : List Sum) (xs : List Item) (s : State) → begin_items functions (reading_rules sums ++ ends_of xs) s ≡ gives (tt {0}) s
  unfolding begin_items begin_item lift ◌>>=◌ go_on
  all_begin_none sums xs s = rules_begin_none sums xs s

  rules_tried : (m n : ℕ) (rules xs : List Item) (s : State) → AreSingle rules → try_items functions m (rules ++ ends_of xs) s ≡ try_items functions n rules s
  unfolding try_items lift
  rules_tried m n [] xs s single = ends_try_none m xs s
  rules_tried m n (x ∷ rules) xs s single = tries_on m n x (rules ++ ends_of xs) rules s single.0 (λ t. rules_tried (suc m) (suc n) rules xs t single.1)

  reads_single : (sums : List Sum) → AreSingle (read_sums sums)
  reads_single [] = tt
  reads_single (x ∷ sums) = (tt, reads_single sums)

  rules_ended : (sums : List Sum) (xs : List Item) (s : State) → end_items functions (read_sums sums ++ ends_of xs) s ≡ end_items functions xs s
  unfolding end_items end_item lift ◌>>=◌ go_on
  rules_ended [] xs s = ends_alone xs s
  rules_ended (x ∷ sums) xs s = rules_ended sums xs s

  all_ended : (sums : List Sum) (xs : List Item) (s : State) → end_items functions (reading_rules sums ++ ends_of xs) s ≡ end_items functions xs s
  unfolding end_items end_item lift ◌>>=◌ go_on
  all_ended sums xs s = rules_ended sums xs s

pub law_of_derived : LawOfDerived
law_of_derived = record {
  sums_apart = λ items x is. is_among x (sums_of_program items) (apart_sums items) is;
  sums_proper = λ items x is. is_proper x (sums_of_program items) (proper_sums items) is;
  each_begins = λ functions items s. each_begun functions (print_sums (sums_of_program items)) items s;
  each_tries = λ functions items mergeable m n s. each_tried functions m n (print_sums (sums_of_program items)) items s (all_single (own_in items) (sums_of_program items) items mergeable);
  each_ends = λ functions items s. each_ended functions (print_sums (sums_of_program items)) items s;
  all_begins = λ functions items s. begins_first functions items (reading_rules (sums_of_program items) ++ ends_of items) s (λ t. all_begin_none functions (sums_of_program items) items t);
  all_tries = λ functions items m n s.
      let sums = sums_of_program items in
      tries_behind functions m items (reading_rules sums ++ ends_of items) s (try_items functions n (reading_rules sums) s) (λ k. rules_tried functions k n (reading_rules sums) items s (tt, (tt, reads_single functions sums)));
  all_ends = λ functions items s. ends_behind functions items (reading_rules (sums_of_program items) ++ ends_of items) s ∙ all_ended functions (sums_of_program items) items s;
}
