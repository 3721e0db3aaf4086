-- What comes before the records does alike, and shows nothing.
use Rattle.std.proofs.Common.{◌≡◌, inl, inr, ℕ, ◌+◌, Bool, true, false, ◌&&◌, not, List, [], ◌∷◌, Option, Some, None, refl, sym, ap, ◌∙◌, le_refl, codes, bytes_eq, cond}
use Rattle.std.proofs.lemmas.Bool.{cases_Bool, cond-false}
use Rattle.std.proofs.lemmas.Slice.Eq.{bytes_eq-Decides}
use Rattle.awk_value.specs.declared.value.Value.{Value}
use Rattle.awk_value.specs.declared.value.Value.TheVariants as value
use Rattle.awk_value.specs.Arrays.{Array}
use Rattle.awk_record.specs.definitions.Record.{RecordPair}
use Rattle.awk_lex.specs.Escapes.{unescaped}
use Rattle.awk_lex.specs.declared.token.AssignmentOperator.{AssignmentOperator}
use Rattle.awk_lex.specs.declared.token.AssignmentOperator.TheVariants as assignment
use Rattle.awk_kinds.specs.Variables.{with_value, is_refused}
use Rattle.awk_grammar.specs.Tree.{Expr, Number, String, Ere, Name, Element, Field, Group, Call, BuiltIn, Length, PreIncrement, PostIncrement, Getline, PipedGetline, Unary, Binary, Membership, ListMembership, Conditional, Assign, SimpleStatement, Expression, Print, Delete, DeleteAll, Next, NextFile, Break, Continue, Exit, Return, Statement, Empty, Simple, Block, If, IfElse, While, Do, ForIn, For, Statements, NoMore, Then, Item, Begin, End, Action, PatternAction, PatternOnly, Function}
use Rattle.awk_semantics.specs.declared.flow.Flow.{Flow}
use Rattle.awk_semantics.specs.declared.flow.Flow.TheVariants as flow
use Rattle.awk_semantics.specs.definitions.State.{State, Run, go_on, ◌>>=◌, lift}
use Rattle.awk_semantics.specs.definitions.Primitives.{put_unless, put_outside, put}
use Rattle.awk_semantics.specs.definitions.Inputs.{is_unassignable, assigned_text, text_or_fault, check_assignment, assign_text}
use Rattle.awk_semantics.specs.definitions.Places.{AName, store, read_place, assign, assign_by}
use Rattle.awk_semantics.specs.definitions.Semantics.{Functions, eval, exec_simple, pass_on, exec, exec_all}
use Rattle.awk_semantics.specs.definitions.Items.{run_action, begin_item, begin_items}
use Rattle.awk_semantics.specs.definitions.Meaning.{assign_all}
use Rattle.awk_pieces.specs.definitions.Pieceable.{leaves_records, no_own, keeps_to_record, is_plain, may_be_set, is_setting, is_simple_setting, only_sets, all_only_set, is_rule_for_itself, are_rules_for_themselves}
use Rattle.awk_pieces.specs.definitions.LawOfPieces.{all_leave_records}
use Rattle.awk_pieces.proofs.Alike.{Outer, Names, OwnsSeparators, Sorts, SetsApart, Values, state_on, with_arrays, SameKinds, own_kinds, AgreeOn, Agrees, unmoved_arrays, Covers, Alike, then_alike}
use Rattle.awk_pieces.proofs.ReadsAlike.{left_true, right_true, unmoved, ret_alike, spend_alike, name_alike}
use Rattle.awk_pieces.proofs.ExpressionsAlike.{expression_alike}
use Rattle.awk_pieces.proofs.ValuesAndFaults.{IsValueOrFault}

abbrev pub all_names : Names
all_names x = true

-- before the records both sides have the same variables, and those that may not be set keep their values
abbrev pub first_sorts : Names → Sorts
first_sorts may = record { kept = λ x. not (may x); shared = all_names; own = no_own; arrays = no_own; shows = false }

-- where there are no variables of the record
pub none_apart : (may : Names) → SetsApart (first_sorts may)
none_apart may = record { count = λ x own. absurd (cc); kept = λ x z own kept. absurd (cc) }

all_owned : OwnsSeparators all_names
all_owned = record { fs = refl; rs = refl; ofs = refl; ors = refl; subsep = refl }

pub none_true : (b : Bool) → b ≡ true → not b ≡ true → ⊥
none_true true e f = cc
none_true false e f = cc

-- the name of a variable that may be set isn't one that is kept
pub set_apart : (may : Names) (x z : List ℕ) → may x ≡ true → not (may z) ≡ true → bytes_eq x z ≡ false
set_apart may x z leaves keeps = elim (cases_Bool (bytes_eq x z)) [
  | inl same ↦ absurd (none_true (may z) (ap may (sym ((bytes_eq-Decides x z).0 same)) ∙ leaves) keeps)
  | inr other ↦ other
]

is_no_count : (x : List ℕ) → leaves_records x ≡ true → bytes_eq x (codes "NF") ≡ false
is_no_count x leaves = set_apart leaves_records x (codes "NF") leaves refl

set_agrees : (x : List ℕ) (a : Value) (v w : Values) → AgreeOn all_names v w → AgreeOn all_names (with_value v x a) (with_value w x a)
set_agrees x a v w agrees z is = ap (λ (b : Value). cond (bytes_eq x z) a b) (agrees z is)

set_keeps : (may : Names) (x : List ℕ) (a : Value) (v : Values) → may x ≡ true → AgreeOn (first_sorts may).kept v (with_value v x a)
set_keeps may x a v is z kept = cond-false _ _ _ (set_apart may x z is kept)

-- assignments of the command line, and settings, of variables that may be set

abbrev pub AllMay : Names → List (List ℕ × List ℕ) → Type 0
AllMay may [] = Unit {0}
AllMay may (x ∷ xs) = (may x.0 ≡ true) × AllMay may xs

abbrev MayPlace : Names → Expr → Type 0
MayPlace may (Name x) = may x ≡ true
MayPlace may e = Unit {0}

abbrev pub MaySet : Names → Expr → Type 0
MaySet may (Assign operator place e) = MayPlace may place
MaySet may e = Unit {0}

abbrev MaySimple : Names → SimpleStatement → Type 0
MaySimple may (Expression e) = MaySet may e
MaySimple may simple = Unit {0}

abbrev pub MayStatement : Names → Statement → Type 0
MayStatement may (Simple simple) = MaySimple may simple
MayStatement may s = Unit {0}

abbrev pub AllMaySet : Names → Statements → Type 0
AllMaySet may NoMore = Unit {0}
AllMaySet may (Then s all) = MayStatement may s × AllMaySet may all

-- the same names are refused on a command line
pub record SameNames (s t : State) : Type 0 where
  pub kinds : SameKinds all_names s t
  pub unassignable : (x : List ℕ) → is_unassignable t x ≡ is_unassignable s x

pub own_names : (s : State) → SameNames s s
own_names s = record { kinds = own_kinds all_names s; unassignable = λ x. refl }

-- what both sides begin with agrees
pub first_agrees : (may : Names) (base base' : State) (v w : Values) → SameNames base base' → AgreeOn all_names v w → Agrees (first_sorts may) all_names base base' base.arrays base'.arrays v w
first_agrees may base base' v w names agrees = record {
  values = agrees;
  unset = λ x is. absurd (cc);
  kinds = λ x is. record { named = (names.kinds x refl).named; same = (names.kinds x refl).same };
  sized = λ x is. absurd (cc);
}

module _ (may : Names) (narrow : (x : List ℕ) → may x ≡ true → leaves_records x ≡ true) (base base' : State) (names : SameNames base base') where
  abbrev Begins : {A : Type 0} → Run A → Run A → Type 0
  Begins m n = Alike (first_sorts may) all_names all_names base base' m n

  put_covers : (refused : Bool) (x : List ℕ) (a : Value) (o p : Outer) (c : RecordPair) (arrays arrays' : List Array) (v w : Values) (k d : ℕ) → may x ≡ true → Agrees (first_sorts may) all_names base base' arrays arrays' v w →
      Covers (first_sorts may) all_names base base' o p arrays arrays' v w k d (put_unless refused x a (state_on (with_arrays base arrays) o c v k)).result (put_unless refused x a (state_on (with_arrays base arrays) o c v k)) (put_unless refused x a (state_on (with_arrays base' arrays') p c w (k + d)))
  put_covers true x a o p c arrays arrays' v w k d leaves agrees = tt
  put_covers false x a o p c arrays arrays' v w k d leaves agrees = record {
    pair = c;
    left = k;
    arrays_here = arrays;
    arrays_there = arrays';
    here = with_value v x a;
    there = with_value w x a;
    agrees = record { values = set_agrees x a v w agrees.values; unset = λ z is. absurd (cc); kinds = agrees.kinds; sized = agrees.sized };
    keeps = set_keeps may x a v leaves;
    keeps_there = set_keeps may x a w leaves;
    moves = unmoved_arrays (first_sorts may) base arrays;
    moves_there = unmoved_arrays (first_sorts may) base' arrays';
    falls = le_refl _;
    is_here = refl;
    is_there = refl;
    plain = refl;
  }

  put_outside_alike : (x : List ℕ) (a : Value) → may x ≡ true → Begins (put_outside x a) (put_outside x a)
  unfolding put_outside
  put_outside_alike x a leaves = record { covers = λ o p c arrays arrays' v w k d agrees. rw (is_no_count x (narrow x leaves)) (put_covers (is_refused x a) x a o p c arrays arrays' v w k d leaves agrees) }

  put_alike : (x : List ℕ) (a : Value) → may x ≡ true → Begins (put x a) (put x a)
  unfolding put
  put_alike x a leaves = record { covers = λ o p c arrays arrays' v w k d agrees. (put_outside_alike x a leaves).covers o p c arrays arrays' v w k d agrees }

  assign_by_alike : (x : List ℕ) (a : Value) → may x ≡ true → Begins (assign_by None (AName x) a) (assign_by None (AName x) a)
  unfolding assign_by assign store read_place
  assign_by_alike x a leaves = then_alike _ _ (put_alike x a leaves) (λ _. name_alike (first_sorts may) all_names base base' x refl)

  -- assignments of the command line

  text_faults : (o : Option (List ℕ)) → IsValueOrFault (text_or_fault o)
  text_faults None = tt
  text_faults (Some text) = tt

  assigned_faults : (refused : Bool) (text : List ℕ) → IsValueOrFault (assigned_text refused text)
  assigned_faults true text = tt
  assigned_faults false text = text_faults (unescaped text)

  check_alike : (x text : List ℕ) → Begins (check_assignment x text) (check_assignment x text)
  unfolding check_assignment
  check_alike x text = record { covers = λ o p c arrays arrays' v w k d agrees. rw (names.unassignable x) (unmoved (first_sorts may) all_names base base' o p c arrays arrays' v w k d [] (assigned_text (is_unassignable base x) text) (assigned_faults (is_unassignable base x) text) refl agrees) }

  assign_text_alike : (x text : List ℕ) → may x ≡ true → Begins (assign_text x text) (assign_text x text)
  unfolding assign_text
  assign_text_alike x text leaves = then_alike _ _ (check_alike x text) (λ t. put_outside_alike x (value.Input t) leaves)

  pub assign_all_alike : (pre : List (List ℕ × List ℕ)) → AllMay may pre → Begins (assign_all pre) (assign_all pre)
  unfolding assign_all
  assign_all_alike [] is = ret_alike (first_sorts may) all_names base base' tt
  assign_all_alike (a ∷ all) is = then_alike _ _ (assign_text_alike a.0 a.1 is.0) (λ _. assign_all_alike all is.1)

  -- the actions of BEGIN
  module _ (f g : Functions) where
    set_alike : (x : List ℕ) (e : Expr) → may x ≡ true → keeps_to_record no_own no_own all_names e ≡ true → Begins (eval f (Assign assignment.Plain (Name x) e)) (eval g (Assign assignment.Plain (Name x) e))
    unfolding eval lift ◌>>=◌ go_on
    set_alike x e leaves is = record { covers = λ o p c arrays arrays' v w k d agrees. (then_alike _ _ (expression_alike (first_sorts may) (none_apart may) all_names base base' all_owned f g e is) (λ a. assign_by_alike x a leaves)).covers o p c arrays arrays' v w k d agrees }

    place_alike : (place e : Expr) → MayPlace may place → (may_be_set place && keeps_to_record no_own no_own all_names e) ≡ true → Begins (eval f (Assign assignment.Plain place e)) (eval g (Assign assignment.Plain place e))
    place_alike (Name x) e set is = set_alike x e set (right_true (leaves_records x) _ is)
    place_alike (Number n) e set is = absurd (cc)
    place_alike (String bytes) e set is = absurd (cc)
    place_alike (Ere text) e set is = absurd (cc)
    place_alike (Element x es) e set is = absurd (cc)
    place_alike (Field a) e set is = absurd (cc)
    place_alike (Group a) e set is = absurd (cc)
    place_alike (Call c es) e set is = absurd (cc)
    place_alike (BuiltIn c es) e set is = absurd (cc)
    place_alike Length e set is = absurd (cc)
    place_alike (PreIncrement c p) e set is = absurd (cc)
    place_alike (PostIncrement c p) e set is = absurd (cc)
    place_alike (Getline p file) e set is = absurd (cc)
    place_alike (PipedGetline c p) e set is = absurd (cc)
    place_alike (Unary c a) e set is = absurd (cc)
    place_alike (Binary c a b) e set is = absurd (cc)
    place_alike (Membership a x) e set is = absurd (cc)
    place_alike (ListMembership es x) e set is = absurd (cc)
    place_alike (Conditional c a b) e set is = absurd (cc)
    place_alike (Assign c p a) e set is = absurd (cc)

    operator_alike : (operator : AssignmentOperator) (place e : Expr) → MayPlace may place → (is_plain operator && (may_be_set place && keeps_to_record no_own no_own all_names e)) ≡ true → Begins (eval f (Assign operator place e)) (eval g (Assign operator place e))
    operator_alike assignment.Plain place e set is = place_alike place e set is
    operator_alike assignment.Add place e set is = absurd (cc)
    operator_alike assignment.Subtract place e set is = absurd (cc)
    operator_alike assignment.Multiply place e set is = absurd (cc)
    operator_alike assignment.Divide place e set is = absurd (cc)
    operator_alike assignment.Remainder place e set is = absurd (cc)
    operator_alike assignment.Power place e set is = absurd (cc)

    setting_alike : (e : Expr) → MaySet may e → is_setting e ≡ true → Begins (eval f e) (eval g e)
    setting_alike (Assign operator place e) set is = operator_alike operator place e set is
    setting_alike (Name x) set is = absurd (cc)
    setting_alike (Number n) set is = absurd (cc)
    setting_alike (String bytes) set is = absurd (cc)
    setting_alike (Ere text) set is = absurd (cc)
    setting_alike (Element x es) set is = absurd (cc)
    setting_alike (Field a) set is = absurd (cc)
    setting_alike (Group a) set is = absurd (cc)
    setting_alike (Call c es) set is = absurd (cc)
    setting_alike (BuiltIn c es) set is = absurd (cc)
    setting_alike Length set is = absurd (cc)
    setting_alike (PreIncrement c p) set is = absurd (cc)
    setting_alike (PostIncrement c p) set is = absurd (cc)
    setting_alike (Getline p file) set is = absurd (cc)
    setting_alike (PipedGetline c p) set is = absurd (cc)
    setting_alike (Unary c a) set is = absurd (cc)
    setting_alike (Binary c a b) set is = absurd (cc)
    setting_alike (Membership a x) set is = absurd (cc)
    setting_alike (ListMembership es x) set is = absurd (cc)
    setting_alike (Conditional c a b) set is = absurd (cc)

    simple_setting_alike : (simple : SimpleStatement) → MaySimple may simple → is_simple_setting simple ≡ true → Begins (exec_simple f simple) (exec_simple g simple)
    unfolding exec_simple
    simple_setting_alike (Expression e) set is = then_alike _ _ (spend_alike (first_sorts may) all_names base base') (λ _. then_alike _ _ (setting_alike e set is) (λ v. ret_alike (first_sorts may) all_names base base' flow.Normal))
    simple_setting_alike (Print form list output) set is = absurd (cc)
    simple_setting_alike (Delete x es) set is = absurd (cc)
    simple_setting_alike (DeleteAll x) set is = absurd (cc)
    simple_setting_alike Next set is = absurd (cc)
    simple_setting_alike NextFile set is = absurd (cc)
    simple_setting_alike Break set is = absurd (cc)
    simple_setting_alike Continue set is = absurd (cc)
    simple_setting_alike (Exit e) set is = absurd (cc)
    simple_setting_alike (Return e) set is = absurd (cc)

    statement_alike : (s : Statement) → MayStatement may s → only_sets s ≡ true → Begins (exec f s) (exec g s)
    unfolding exec
    statement_alike Empty set is = ret_alike (first_sorts may) all_names base base' flow.Normal
    statement_alike (Simple simple) set is = simple_setting_alike simple set is
    statement_alike (Block all) set is = absurd (cc)
    statement_alike (If c s) set is = absurd (cc)
    statement_alike (IfElse c s other) set is = absurd (cc)
    statement_alike (While c s) set is = absurd (cc)
    statement_alike (Do s c) set is = absurd (cc)
    statement_alike (ForIn x array s) set is = absurd (cc)
    statement_alike (For first c last s) set is = absurd (cc)

    passes_alike : (c : Flow) {m n : Run Flow} → Begins m n → Begins (pass_on c m) (pass_on c n)
    passes_alike flow.Normal h = h
    passes_alike flow.Break h = ret_alike (first_sorts may) all_names base base' flow.Break
    passes_alike flow.Continue h = ret_alike (first_sorts may) all_names base base' flow.Continue
    passes_alike (flow.Return v) h = ret_alike (first_sorts may) all_names base base' (flow.Return v)

    statements_alike : (all : Statements) → AllMaySet may all → all_only_set all ≡ true → Begins (exec_all f all) (exec_all g all)
    unfolding exec_all
    statements_alike NoMore set is = ret_alike (first_sorts may) all_names base base' flow.Normal
    statements_alike (Then s all) set is = let rest = statements_alike all set.1 (right_true (only_sets s) _ is) in then_alike _ _ (statement_alike s set.0 (left_true (only_sets s) _ is)) (λ c. passes_alike c rest)

    pub block_alike : (all : Statements) → AllMaySet may all → all_only_set all ≡ true → Begins (run_action f all) (run_action g all)
    unfolding run_action
    block_alike all set is = then_alike _ _ (statements_alike all set is) (λ c. ret_alike (first_sorts may) all_names base base' tt)

-- what a program sets that may run on pieces

leaves_place : (place : Expr) → may_be_set place ≡ true → MayPlace leaves_records place
leaves_place (Name x) is = is
leaves_place e is = tt

leaves_set : (e : Expr) → is_setting e ≡ true → MaySet leaves_records e
leaves_set (Assign operator place e) is = leaves_place place (left_true (may_be_set place) _ (right_true (is_plain operator) _ is))
leaves_set e is = tt

leaves_simple : (simple : SimpleStatement) → is_simple_setting simple ≡ true → MaySimple leaves_records simple
leaves_simple (Expression e) is = leaves_set e is
leaves_simple simple is = tt

leaves_statement : (s : Statement) → only_sets s ≡ true → MayStatement leaves_records s
leaves_statement (Simple simple) is = leaves_simple simple is
leaves_statement s is = tt

leaves_all : (all : Statements) → all_only_set all ≡ true → AllMaySet leaves_records all
leaves_all NoMore is = tt
leaves_all (Then s all) is = (leaves_statement s (left_true (only_sets s) _ is), leaves_all all (right_true (only_sets s) _ is))

pub leaves_pre : (pre : List (List ℕ × List ℕ)) → all_leave_records pre ≡ true → AllMay leaves_records pre
leaves_pre [] is = tt
leaves_pre (x ∷ xs) is = (left_true (leaves_records x.0) _ is, leaves_pre xs (right_true (leaves_records x.0) _ is))

module _ (base base' : State) (names : SameNames base base') (f g : Functions) where
  abbrev Leaves : {A : Type 0} → Run A → Run A → Type 0
  Leaves m n = Alike (first_sorts leaves_records) all_names all_names base base' m n

  begin_item_alike : (own arrays known : Names) (x : Item) → is_rule_for_itself own arrays known x ≡ true → Leaves (begin_item f x) (begin_item g x)
  unfolding begin_item
  begin_item_alike own arrays known (Begin block) is = block_alike leaves_records (λ x is. is) base base' names f g block (leaves_all block is) is
  begin_item_alike own arrays known (Action block) is = ret_alike (first_sorts leaves_records) all_names base base' tt
  begin_item_alike own arrays known (PatternAction p block) is = ret_alike (first_sorts leaves_records) all_names base base' tt
  begin_item_alike own arrays known (PatternOnly p) is = ret_alike (first_sorts leaves_records) all_names base base' tt
  begin_item_alike own arrays known (End block) is = absurd (cc)
  begin_item_alike own arrays known (Function name parameters block) is = absurd (cc)

  pub begin_items_alike : (own arrays known : Names) (xs : List Item) → are_rules_for_themselves own arrays known xs ≡ true → Leaves (begin_items f xs) (begin_items g xs)
  unfolding begin_items
  begin_items_alike own arrays known [] is = ret_alike (first_sorts leaves_records) all_names base base' tt
  begin_items_alike own arrays known (x ∷ xs) is = then_alike _ _ (begin_item_alike own arrays known x (left_true (is_rule_for_itself own arrays known x) _ is)) (λ _. begin_items_alike own arrays known xs (right_true (is_rule_for_itself own arrays known x) _ is))
