-- Programs that sum up what their records give, and print it behind them: those that are to run on pieces of an input, and whose
-- sums are then added.
use Rattle.std.specs.Prelude.{◌≡◌, ℕ, Bool, true, false, not, ◌&&◌, ◌||◌, if◌then◌else◌, List, [], ◌∷◌, ◌++◌, Some, codes, bytes_eq}
use Rattle.awk_lex.specs.declared.token.AssignmentOperator.{AssignmentOperator}
use Rattle.awk_lex.specs.declared.token.AssignmentOperator.TheVariants as assignment
use Rattle.awk_lex.specs.declared.token.BuiltIn.{BuiltIn as BuiltInName}
use Rattle.awk_lex.specs.declared.token.BuiltIn.TheVariants as builtin
use Rattle.awk_lex.specs.declared.token.IncrementOperator.{IncrementOperator}
use Rattle.awk_lex.specs.declared.token.IncrementOperator.TheVariants as increment
use Rattle.awk_grammar.specs.declared.tree.BinaryOperator.{BinaryOperator}
use Rattle.awk_grammar.specs.Tree.{Expr, Number, String, Ere, Name, Element, Group, BuiltIn, PreIncrement, PostIncrement, Unary, Binary, Membership, ListMembership, Conditional, Assign, Exprs, Nil, Cons, OptionalExpr, NoExpr, AnExpr, PrintList, Bare, Parenthesized, Output, Standard, Redirected, SimpleStatement, Expression, Print, Delete, DeleteAll, Next, Break, Continue, Exit, OptionalSimple, NoSimple, ASimple, Statement, Empty, Simple, Block, If, IfElse, While, Do, ForIn, For, Statements, NoMore, Then, Item, Begin, End, Action, PatternAction}
use Rattle.awk_kinds.specs.OfValues.{is_of_values}
use Rattle.awk_semantics.specs.definitions.Operators.{takes_pattern}
use Rattle.awk_pieces.specs.definitions.Pieceable.{no_own, tells_apart, is_plain, keeps_to_record, all_keep_to_record, may_keep_to_record, all_only_set, pattern_keeps_to_record, names_set_in_rules, is_own, sets_own, name_set_first, also, behind}
use Rattle.awk_merging.specs.definitions.Sums.{Sum, ByKey, Alone, name_of_sum, merge_what, merge_key, is_taken}

-- Which sums a program has.

-- `+=`, and `++`
abbrev pub is_plus : AssignmentOperator → Bool
is_plus assignment.Add = true
is_plus operator = false

abbrev pub is_plus_one : IncrementOperator → Bool
is_plus_one increment.Increment = true
is_plus_one increment.Decrement = false

-- the variables of the record that a program has
abbrev pub own_in : List Item → List ℕ → Bool
own_in items = is_own (names_set_in_rules items)

module _ (own : List ℕ → Bool) where
  -- the sum of a place: an element or a variable that is neither awk's own nor of the record
  abbrev pub sum_of_place : (place : Expr) → List Sum
  sum_of_place (Element a es) = if is_taken a || own a then [] else ByKey a ∷ []
  sum_of_place (Name x) = if is_taken x || own x then [] else Alone x ∷ []
  sum_of_place e = []

  -- the sum that an expression adds to, where it does
  abbrev pub sum_added_to : Expr → List Sum
  sum_added_to (Assign operator place e) = if is_plus operator then sum_of_place place else []
  sum_added_to (PreIncrement operator place) = if is_plus_one operator then sum_of_place place else []
  sum_added_to (PostIncrement operator place) = if is_plus_one operator then sum_of_place place else []
  sum_added_to e = []

  abbrev pub sum_in_simple : SimpleStatement → List Sum
  sum_in_simple (Expression e) = sum_added_to e
  sum_in_simple simple = []

  abbrev pub sum_in_part : OptionalSimple → List Sum
  sum_in_part NoSimple = []
  sum_in_part (ASimple simple) = sum_in_simple simple

  abbrev mutual
    pub sums_in : Statement → List Sum
    sums_in (Simple simple) = sum_in_simple simple
    sums_in (Block all) = sums_in_all all
    sums_in (If c s) = sums_in s
    sums_in (IfElse c s other) = sums_in s ++ sums_in other
    sums_in (While c s) = sums_in s
    sums_in (Do s c) = sums_in s
    sums_in (For first c last s) = sum_in_part first ++ (sum_in_part last ++ sums_in s)
    sums_in s = []

    pub sums_in_all : Statements → List Sum
    sums_in_all NoMore = []
    sums_in_all (Then s all) = sums_in s ++ sums_in_all all

  abbrev pub sums_in_item : Item → List Sum
  sums_in_item (Action block) = sums_in_all block
  sums_in_item (PatternAction p block) = sums_in_all block
  sums_in_item x = []

  abbrev pub sums_in_items : List Item → List Sum
  sums_in_items [] = []
  sums_in_items (x ∷ xs) = sums_in_item x ++ sums_in_items xs

-- the sums of other names
abbrev pub without_name : List ℕ → List Sum → List Sum
without_name name [] = []
without_name name (x ∷ xs) = if bytes_eq name (name_of_sum x) then without_name name xs else x ∷ without_name name xs

-- each once, in the order of the text
abbrev pub each_once : List Sum → List Sum
each_once [] = []
each_once (x ∷ xs) = x ∷ without_name (name_of_sum x) (each_once xs)

abbrev pub sums_of_program : List Item → List Sum
sums_of_program items = each_once (sums_in_items (own_in items) items)

-- What its items may do, where these are the sums.

abbrev pub is_sum : List Sum → List ℕ → Bool
is_sum [] x = false
is_sum (y ∷ ys) x = bytes_eq (name_of_sum y) x || is_sum ys x

abbrev pub is_array_sum : List Sum → List ℕ → Bool
is_array_sum [] x = false
is_array_sum (ByKey a ∷ ys) x = bytes_eq a x || is_array_sum ys x
is_array_sum (Alone y ∷ ys) x = is_array_sum ys x

abbrev pub is_variable_sum : List Sum → List ℕ → Bool
is_variable_sum [] x = false
is_variable_sum (Alone y ∷ ys) x = bytes_eq y x || is_variable_sum ys x
is_variable_sum (ByKey a ∷ ys) x = is_variable_sum ys x

-- a variable of the derived programs
abbrev pub is_derived : List ℕ → Bool
is_derived x = bytes_eq x merge_what || bytes_eq x merge_key

-- END reads sums and what BEGIN set, and not the last record
abbrev pub is_shown : List ℕ → Bool
is_shown x = not (tells_apart x || (is_derived x || bytes_eq x (codes "NF")))

-- and no variable of the record: the last record set that. A loop over keys sets it anew
abbrev pub shows : (own : List ℕ → Bool) → List ℕ → Bool
shows own x = is_shown x && not (own x)

-- the built-in functions that make a value of values; without an argument `length` is that of the record
abbrev pub makes_value : BuiltInName → Exprs → Bool
makes_value builtin.Length Nil = false
makes_value builtin.Length (Cons e es) = true
makes_value f es = is_of_values f

abbrev pub is_standard : Output → Bool
is_standard Standard = true
is_standard (Redirected way target) = false

-- a variable that is neither a sum nor another one on each piece
abbrev pub is_other : List Sum → List ℕ → Bool
is_other sums x = not (tells_apart x || (is_derived x || is_sum sums x))

module _ (own : List ℕ → Bool) (sums : List Sum) where
  -- a rule reads these as it begins, and behind that the variables of the record that were set
  abbrev pub knows : List ℕ → Bool
  knows x = is_other sums x && not (own x)

  module _ (known : List ℕ → Bool) where
    -- an addition to a sum of what the record gives
    abbrev pub is_sum_place : (place : Expr) → Bool
    is_sum_place (Element a es) = is_array_sum sums a && all_keep_to_record own no_own known es
    is_sum_place (Name x) = is_variable_sum sums x
    is_sum_place e = false

    abbrev pub is_addition : Expr → Bool
    is_addition (Assign operator place e) = is_plus operator && (is_sum_place place && keeps_to_record own no_own known e)
    is_addition (PreIncrement operator place) = is_plus_one operator && is_sum_place place
    is_addition (PostIncrement operator place) = is_plus_one operator && is_sum_place place
    is_addition e = false

    abbrev pub is_simple_summing : SimpleStatement → Bool
    is_simple_summing (Expression e) = is_addition e || (sets_own own no_own known e || keeps_to_record own no_own known e)
    is_simple_summing Next = true
    is_simple_summing Break = true
    is_simple_summing Continue = true
    is_simple_summing simple = false

    abbrev pub is_part_summing : OptionalSimple → Bool
    is_part_summing NoSimple = true
    is_part_summing (ASimple simple) = is_simple_summing simple

  -- a statement of a rule: it adds to sums, changes the record and its variables, and prints nothing
  abbrev mutual
    pub only_sums : (known : List ℕ → Bool) → Statement → Bool
    only_sums known Empty = true
    only_sums known (Simple simple) = is_simple_summing known simple
    only_sums known (Block all) = all_only_sum known all
    only_sums known (If c s) = keeps_to_record own no_own known c && only_sums known s
    only_sums known (IfElse c s other) = keeps_to_record own no_own known c && (only_sums known s && only_sums known other)
    only_sums known (While c s) = keeps_to_record own no_own known c && only_sums known s
    only_sums known (Do s c) = keeps_to_record own no_own known c && only_sums known s
    only_sums known (For first c last s) =
        is_part_summing known first && (may_keep_to_record own no_own (also own (name_set_first first) known) c
        && (is_part_summing (also own (name_set_first first) known) last && only_sums (also own (name_set_first first) known) s))
    only_sums known s = false

    pub all_only_sum : (known : List ℕ → Bool) → Statements → Bool
    all_only_sum known NoMore = true
    all_only_sum known (Then s all) = only_sums known s && all_only_sum (behind own s known) all

-- BEGIN sets variables, and none of them is a sum
abbrev pub sets_no_sum : List Sum → Expr → Bool
sets_no_sum sums (Assign operator (Name x) e) = is_other sums x
sets_no_sum sums e = false

abbrev pub only_sets_others : List Sum → Statement → Bool
only_sets_others sums Empty = true
only_sets_others sums (Simple (Expression e)) = sets_no_sum sums e
only_sets_others sums s = false

abbrev pub all_only_set_others : List Sum → Statements → Bool
all_only_set_others sums NoMore = true
all_only_set_others sums (Then s all) = only_sets_others sums s && all_only_set_others sums all

-- What END may do. Both programs come to it with the same sums, and with the same values of the variables that it may read. What it
-- sets it sets to the same in both, and nothing comes behind it, so all that it prints is the same too.

-- a variable that is none of awk's own
abbrev pub is_free : (place : Expr) → Bool
is_free (Name x) = not (is_taken x)
is_free e = false

-- a place that END may change: an element, or such a variable
abbrev pub is_changeable : (place : Expr) → Bool
is_changeable (Name x) = not (is_taken x)
is_changeable (Element a es) = true
is_changeable e = false

-- an ERE right of `~` and `!~`: alone it would be whether the record has a match
abbrev pub is_pattern : BinaryOperator → Expr → Bool
is_pattern o (Ere text) = takes_pattern o
is_pattern o e = false

-- where it may read these variables
module _ (sums : List Sum) (shown : List ℕ → Bool) where
  abbrev mutual
    pub reads_sums : Expr → Bool
    reads_sums (Number n) = true
    reads_sums (String bytes) = true
    reads_sums (Name x) = shown x
    reads_sums (Element a es) = is_array_sum sums a && all_read_sums es
    reads_sums (Group e) = reads_sums e
    reads_sums (Unary o e) = reads_sums e
    reads_sums (Binary o a b) = reads_sums a && (is_pattern o b || reads_sums b)
    reads_sums (Conditional c a b) = reads_sums c && (reads_sums a && reads_sums b)
    reads_sums (BuiltIn f es) = makes_value f es && all_read_sums es
    reads_sums (Membership e a) = is_array_sum sums a && reads_sums e
    reads_sums (ListMembership es a) = is_array_sum sums a && all_read_sums es
    reads_sums (PreIncrement o place) = is_changeable place && reads_sums place
    reads_sums (PostIncrement o place) = is_changeable place && reads_sums place
    reads_sums (Assign o place e) = is_changeable place && (reads_sums place && reads_sums e)
    reads_sums e = false

    pub all_read_sums : Exprs → Bool
    all_read_sums Nil = true
    all_read_sums (Cons e es) = reads_sums e && all_read_sums es

  abbrev pub may_read_sums : OptionalExpr → Bool
  may_read_sums NoExpr = true
  may_read_sums (AnExpr e) = reads_sums e

  -- a print of a list: without one the record is printed
  abbrev pub are_printed : Exprs → Bool
  are_printed Nil = false
  are_printed (Cons e es) = reads_sums e && all_read_sums es

  abbrev pub is_printed : PrintList → Bool
  is_printed (Bare es) = are_printed es
  is_printed (Parenthesized es) = are_printed es

  -- a statement that sets a variable, which needn't be one that may be read
  abbrev pub sets_free : Expr → Bool
  sets_free (Assign operator place e) = is_plain operator && (is_free place && reads_sums e)
  sets_free e = false

  abbrev pub is_simple_of_end : SimpleStatement → Bool
  is_simple_of_end (Expression e) = sets_free e || reads_sums e
  is_simple_of_end (Print form list output) = is_printed list && is_standard output
  is_simple_of_end (Delete a es) = is_array_sum sums a && all_read_sums es
  is_simple_of_end (DeleteAll a) = is_array_sum sums a
  is_simple_of_end (Exit e) = may_read_sums e
  is_simple_of_end Break = true
  is_simple_of_end Continue = true
  is_simple_of_end simple = false

  abbrev pub is_part_of_end : OptionalSimple → Bool
  is_part_of_end NoSimple = true
  is_part_of_end (ASimple simple) = is_simple_of_end simple

module _ (own : List ℕ → Bool) (sums : List Sum) where
  -- a statement of END: it prints to standard output what it makes of sums. A variable that a statement sets may be read behind
  -- that, also where the last record left another value in it
  abbrev mutual
    pub only_prints : (shown : List ℕ → Bool) → Statement → Bool
    only_prints shown Empty = true
    only_prints shown (Simple simple) = is_simple_of_end sums shown simple
    only_prints shown (Block all) = all_only_print shown all
    only_prints shown (If c s) = reads_sums sums shown c && only_prints shown s
    only_prints shown (IfElse c s other) = reads_sums sums shown c && (only_prints shown s && only_prints shown other)
    only_prints shown (While c s) = reads_sums sums shown c && only_prints shown s
    only_prints shown (Do s c) = reads_sums sums shown c && only_prints shown s
    only_prints shown (For first c last s) =
        is_part_of_end sums shown first && (may_read_sums sums (also own (name_set_first first) shown) c
        && (is_part_of_end sums (also own (name_set_first first) shown) last && only_prints (also own (name_set_first first) shown) s))
    only_prints shown (ForIn x a s) = not (is_taken x || is_sum sums x) && (is_array_sum sums a && only_prints (also own (Some x) shown) s)

    pub all_only_print : (shown : List ℕ → Bool) → Statements → Bool
    all_only_print shown NoMore = true
    all_only_print shown (Then s all) = only_prints shown s && all_only_print (behind own s shown) all

  abbrev pub is_mergeable_item : Item → Bool
  is_mergeable_item (Begin block) = all_only_set block && all_only_set_others sums block
  is_mergeable_item (Action block) = all_only_sum own sums (knows own sums) block
  is_mergeable_item (PatternAction p block) = pattern_keeps_to_record own no_own (knows own sums) p && all_only_sum own sums (knows own sums) block
  is_mergeable_item (End block) = all_only_print (shows own) block
  is_mergeable_item x = false

  abbrev pub are_mergeable : List Item → Bool
  are_mergeable [] = true
  are_mergeable (x ∷ xs) = is_mergeable_item x && are_mergeable xs

-- a program whose sums can be gathered from pieces of its input
abbrev pub IsMergeable : List Item → Type 0
IsMergeable items = are_mergeable (own_in items) (sums_of_program items) items ≡ true
