-- What comes before the records is the same for a program that sums up and the two that are derived of it.
use Rattle.std.proofs.Common.{◌≡◌, ℕ, ◌+◌, ◌≤◌, Bool, true, ◌&&◌, not, List, [], ◌∷◌, Result, Ok, Err, refl, ap, ap₂, ◌∙◌}
use Rattle.awk_value.specs.Arrays.{Array}
use Rattle.awk_record.specs.Record.{RecordPair}
use Rattle.awk_grammar.specs.Tree.{Expr, Name, Assign, Expression, Statement, Simple, Statements, NoMore, Then, Item, Begin, End, Action, PatternAction, PatternOnly, Function}
use Rattle.awk_semantics.specs.declared.halt.Halt.{Halt}
use Rattle.awk_semantics.specs.declared.halt.Halt.TheVariants as halt
use Rattle.awk_semantics.specs.definitions.State.{Effect, State, Out, Run, gives}
use Rattle.awk_semantics.specs.definitions.Semantics.{Functions}
use Rattle.awk_semantics.specs.definitions.Items.{begin_item, begin_items}
use Rattle.awk_pieces.specs.definitions.Pieceable.{tells_apart, leaves_records, is_plain, is_setting, only_sets, all_only_set}
use Rattle.awk_pieces.proofs.Alike.{Outer, Values, Names, state_on, AgreeOn, Covers, Alike, then_alike}
use Rattle.awk_pieces.proofs.BeginsAlike.{all_names, first_sorts, MaySet, MayStatement, AllMaySet, SameNames, block_alike}
use Rattle.awk_pieces.proofs.ReadsAlike.{left_true, right_true, ret_alike}
use Rattle.awk_pieces.proofs.RecordsPassed.{EndsWell}
use Rattle.awk_merging.specs.definitions.Sums.{Sum}
use Rattle.awk_merging.specs.definitions.Mergeable.{is_sum, is_derived, is_other, sets_no_sum, only_sets_others, all_only_set_others, is_mergeable_item, are_mergeable}
use Rattle.awk_merging.proofs.Summing.{known_no_sum}

-- a variable that may be set before the records: no sum
abbrev pub may_begin : List Sum → Names
may_begin xs x = leaves_records x && not (is_sum xs x)

pub narrow : (xs : List Sum) (x : List ℕ) → may_begin xs x ≡ true → leaves_records x ≡ true
narrow xs x is = left_true (leaves_records x) _ is

pub and_both : (a b : Bool) → a ≡ true → b ≡ true → (a && b) ≡ true
and_both a b e f = rw (e, f) refl

may_name : (xs : List Sum) (x : List ℕ) → leaves_records x ≡ true → is_other xs x ≡ true → may_begin xs x ≡ true
may_name xs x leaves known = and_both (leaves_records x) (not (is_sum xs x)) leaves (ap not (known_no_sum (tells_apart x) (is_derived x) (is_sum xs x) known))

may_set : (xs : List Sum) (e : Expr) → is_setting e ≡ true → sets_no_sum xs e ≡ true → MaySet (may_begin xs) e
may_set xs (Assign operator (Name x) e) is others = may_name xs x (left_true (leaves_records x) _ (right_true (is_plain operator) _ is)) others
may_set xs e is others = tt

may_statement : (xs : List Sum) (s : Statement) → only_sets s ≡ true → only_sets_others xs s ≡ true → MayStatement (may_begin xs) s
may_statement xs (Simple (Expression e)) is others = may_set xs e is others
may_statement xs s is others = tt

may_all : (xs : List Sum) (all : Statements) → all_only_set all ≡ true → all_only_set_others xs all ≡ true → AllMaySet (may_begin xs) all
may_all xs NoMore is others = tt
may_all xs (Then s all) is others =
    (may_statement xs s (left_true (only_sets s) _ is) (left_true (only_sets_others xs s) _ others), may_all xs all (right_true (only_sets s) _ is) (right_true (only_sets_others xs s) _ others))

module _ (own : Names) (xs : List Sum) (base base' : State) (names : SameNames base base') (f g : Functions) where
  abbrev Begins : {A : Type 0} → Run A → Run A → Type 0
  Begins m n = Alike (first_sorts (may_begin xs)) all_names all_names base base' m n

  item_alike : (x : Item) → is_mergeable_item own xs x ≡ true → Begins (begin_item f x) (begin_item g x)
  unfolding begin_item
  item_alike (Begin block) is =
      let sets = left_true (all_only_set block) _ is in
      block_alike (may_begin xs) (narrow xs) base base' names f g block (may_all xs block sets (right_true (all_only_set block) _ is)) sets
  item_alike (Action block) is = ret_alike (first_sorts (may_begin xs)) all_names base base' tt
  item_alike (PatternAction p block) is = ret_alike (first_sorts (may_begin xs)) all_names base base' tt
  item_alike (End block) is = ret_alike (first_sorts (may_begin xs)) all_names base base' tt
  item_alike (PatternOnly p) is = absurd (cc)
  item_alike (Function name parameters block) is = absurd (cc)

  pub begins_alike : (items : List Item) → are_mergeable own xs items ≡ true → Begins (begin_items f items) (begin_items g items)
  unfolding begin_items
  begins_alike [] is = ret_alike (first_sorts (may_begin xs)) all_names base base' tt
  begins_alike (x ∷ items) is = then_alike _ _ (item_alike x (left_true (is_mergeable_item own xs x) _ is)) (λ _. begins_alike items (right_true (is_mergeable_item own xs x) _ is))

-- both sides go on from states with the same record and variables
pub record Settled (may : Names) (base base' : State) (o p : Outer) (v : Values) (k d : ℕ) (x y : Out (Unit {0})) : Type 0 where
  pub pair : RecordPair
  pub left : ℕ
  pub values : Values
  pub keeps : AgreeOn (first_sorts may).kept v values
  pub falls : left ≤ k
  pub is_here : x ≡ gives tt (state_on base o pair values left)
  pub is_there : y ≡ gives tt (state_on base' p pair values (left + d))

pub settled : (may : Names) (base base' : State) (o p : Outer) (v w : Values) (k d : ℕ) (r : Result (Unit {0}) Halt) (t : State) (effects : List Effect) (y : Out (Unit {0})) → Covers (first_sorts may) all_names base base' o p base.arrays base'.arrays v w k d r (record { result = r; state = t; effects = effects }) y → EndsWell r →
    Settled may base base' o p v k d (record { result = r; state = t; effects = effects }) y
settled may base base' o p v w k d (Ok u) t effects y c well = record {
  pair = c.pair;
  left = c.left;
  values = c.here;
  keeps = c.keeps;
  falls = c.falls;
  is_here = rw (c.is_here, c.moves.fixed (λ z. refl), c.plain) refl;
  is_there =
      c.is_there
      ∙ ap₂ (λ (arrays : List Array) (l : List Effect). record { result = Ok tt; state = state_on (record base' { arrays = arrays }) p c.pair c.there (c.left + d); effects = l }) (c.moves_there.fixed (λ z. refl)) c.plain
      ∙ ap (λ (f : Values). gives tt (state_on base' p c.pair f (c.left + d))) (λ i z. c.agrees.values z refl i);
}
settled may base base' o p v w k d (Err halt.Exit) t effects y c well = absurd c
settled may base base' o p v w k d (Err halt.Next) t effects y c well = absurd well
settled may base base' o p v w k d (Err halt.OutOfSteps) t effects y c well = absurd well
settled may base base' o p v w k d (Err (halt.Fault f)) t effects y c well = absurd well
