-- What the first of the derived programs does on a piece of the input.
use Rattle.std.proofs.Common.{◌≡◌, ℕ, true, List, [], ◌∷◌, ◌++◌, Ok, refl, sym, ◌∙◌, append-nil}
use Rattle.awk_value.specs.declared.value.Value.{Value}
use Rattle.awk_grammar.specs.Tree.{Statements, Item, Begin, End, Action, PatternAction, PatternOnly, Function}
use Rattle.awk_semantics.specs.definitions.State.{Effect, State, go_on, ◌>>=◌, lift, ret}
use Rattle.awk_semantics.specs.definitions.Semantics.{Functions, choose, exec_all}
use Rattle.awk_semantics.specs.definitions.Items.{try_items, until_next, until_exit, run_action, run_records, has_rule, begin_items, run_before_end, run_items}
use Rattle.awk_merging.specs.definitions.Sums.{print_sums}
use Rattle.awk_merging.specs.definitions.LawOfCells.{Held, sums_of, AreHeld, state_at, all_cells, steps_of_sums, Shows}
use Rattle.awk_merging.specs.definitions.Mergeable.{sums_of_program, IsMergeable}
use Rattle.awk_merging.specs.definitions.Derived.{without_ends, each_of}
use Rattle.awk_merging.specs.definitions.LawOfEach.{LawOfEach}
use Rattle.awk_merging.proofs.Cells.{sums_show}
use Rattle.awk_merging.proofs.DerivedParts.{law_of_derived}

pub has_end : (block : Statements) (xs : List Item) → has_rule (without_ends xs ++ End block ∷ []) ≡ true
has_end block [] = refl
has_end block (Begin b ∷ xs) = has_end block xs
has_end block (End b ∷ xs) = has_end block xs
has_end block (Action b ∷ xs) = refl
has_end block (PatternAction p b ∷ xs) = refl
has_end block (PatternOnly p ∷ xs) = refl
has_end block (Function f parameters b ∷ xs) = has_end block xs

module _ (functions : Functions) (items : List Item) (mergeable : IsMergeable items) (has : has_rule items ≡ true) where
  -- before END both do the same
  same_before : (s : State) → run_before_end functions (each_of items) s ≡ run_before_end functions items s
  unfolding run_before_end
  same_before s =
      let begins : begin_items functions (each_of items) ≡ begin_items functions items = λ i t. law_of_derived.each_begins functions items t i in
      let tries : try_items functions 0 (each_of items) ≡ try_items functions 0 items = λ i t. law_of_derived.each_tries functions items mergeable 0 0 t i in
      let rules : has_rule (each_of items) ≡ has_rule items = has_end (print_sums (sums_of_program items)) items ∙ sym has in
      λ i. (begins i >>= λ _. choose (rules i) (run_records (until_next (tries i))) (ret tt)) s

  module _ (s base : State) (v : List ℕ → Value) (held : Held) (effects : List Effect) (k : ℕ) (before : run_before_end functions items s ≡ record { result = Ok (tt {0}); state = state_at base v (steps_of_sums held k); effects = effects })
      (sums : sums_of held ≡ sums_of_program items) (are : AreHeld (state_at base v k) held) where
    shows : Shows base v k (all_cells held) (exec_all functions (print_sums (sums_of held)) (state_at base v (steps_of_sums held k)))
    shows = sums_show functions base held v k k are

    printed : run_action functions (print_sums (sums_of_program items)) (state_at base v (steps_of_sums held k)) ≡ record { result = Ok (tt {0}); state = state_at base shows.values k; effects = all_cells held }
    unfolding run_action lift ◌>>=◌ go_on
    printed = rw (sym sums, shows.is, append-nil (all_cells held)) refl

    each_is : run_items functions (each_of items) s ≡ record { result = Ok (tt {0}); state = state_at base shows.values k; effects = effects ++ all_cells held }
    unfolding run_items until_exit ◌>>=◌ go_on
    each_is = rw (same_before s, before, law_of_derived.each_ends functions items (state_at base v (steps_of_sums held k)), printed) refl

pub law_of_each : LawOfEach
law_of_each functions items mergeable has s base v held effects k before sums are =
    let shown = shows functions items mergeable has s base v held effects k before sums are in
    record { values = shown.values; keeps = shown.keeps; is = each_is functions items mergeable has s base v held effects k before sums are }
