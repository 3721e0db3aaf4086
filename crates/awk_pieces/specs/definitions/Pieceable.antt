-- Programs that may run on pieces of their input, side by side: each record is treated for itself.
use Rattle.std.specs.Prelude.{◌≡◌, ℕ, Bool, true, false, not, ◌&&◌, ◌||◌, if◌then◌else◌, List, [], ◌∷◌, ◌++◌, Option, Some, None, codes, bytes_eq}
use Rattle.awk_lex.specs.declared.token.BuiltIn.{BuiltIn as BuiltInName}
use Rattle.awk_lex.specs.declared.token.BuiltIn.TheVariants as builtin
use Rattle.awk_lex.specs.declared.token.AssignmentOperator.{AssignmentOperator}
use Rattle.awk_lex.specs.declared.token.AssignmentOperator.TheVariants as assignment
use Rattle.awk_grammar.specs.Tree.{Expr, Number, String, Ere, Name, Element, Field, Group, BuiltIn, Length, PreIncrement, PostIncrement, Unary, Binary, Membership, ListMembership, Conditional, Assign, Exprs, Nil, Cons, OptionalExpr, NoExpr, AnExpr, PrintList, Bare, Parenthesized, Output, Standard, Redirected, SimpleStatement, Expression, Print, Delete, DeleteAll, Next, Break, Continue, OptionalSimple, NoSimple, ASimple, Statement, Empty, Simple, Block, If, IfElse, While, Do, For, Statements, NoMore, Then, Pattern, Single, Range, Item, Begin, Action, PatternAction, PatternOnly}
use Rattle.awk_kinds.specs.Names.{has_name}
use Rattle.awk_kinds.specs.OfValues.{is_of_values}
use Rattle.awk_pieces.specs.declared.names.Sort.{Sort}
use Rattle.awk_pieces.specs.declared.names.Sort.TheVariants as sort

-- the variables that tell where in the input a record stands
abbrev pub is_counter : List ℕ → Bool
is_counter x = bytes_eq x (codes "NR") || (bytes_eq x (codes "FNR") || bytes_eq x (codes "FILENAME"))

-- the variables that tell what the run was started with
abbrev pub is_of_start : List ℕ → Bool
is_of_start x = bytes_eq x (codes "ARGC") || (bytes_eq x (codes "ARGV") || bytes_eq x (codes "ENVIRON"))

-- the variables that may be others on each piece of an input
abbrev pub tells_apart : List ℕ → Bool
tells_apart x = is_counter x || is_of_start x

-- an assignment before the records that changes neither how records are found nor their count
abbrev pub leaves_records : List ℕ → Bool
leaves_records x = not (tells_apart x || (bytes_eq x (codes "RS") || bytes_eq x (codes "NF")))

-- an assignment by `=` alone
abbrev pub is_plain : AssignmentOperator → Bool
is_plain assignment.Plain = true
is_plain operator = false

-- Variables of the record: rules set them by statements of their own, `x = e`, or as a loop begins, and read them behind these.
-- Arrays of the record: rules fill them so by `split(e, a)`, also as `x = split(e, a)`, or delete all that is in them by
-- `delete a`, and read and change them behind that.

-- awk's other variables
abbrev pub is_setting_of_awk : List ℕ → Bool
is_setting_of_awk x =
    bytes_eq x (codes "CONVFMT") || (bytes_eq x (codes "FS") || (bytes_eq x (codes "NF") || (bytes_eq x (codes "OFMT") || (bytes_eq x (codes "OFS")
    || (bytes_eq x (codes "ORS") || (bytes_eq x (codes "RLENGTH") || (bytes_eq x (codes "RS") || (bytes_eq x (codes "RSTART") || bytes_eq x (codes "SUBSEP")))))))))

-- the name that an expression is
abbrev pub name_of : Expr → Option (List ℕ)
name_of (Name x) = Some x
name_of e = None

-- the variable that an expression sets by `=`, that a statement or the first part of a `for` sets so, and that is set behind a statement
abbrev pub name_set : Expr → Option (List ℕ)
name_set (Assign operator place e) = if is_plain operator then name_of place else None
name_set e = None

abbrev pub name_set_by : SimpleStatement → Option (List ℕ)
name_set_by (Expression e) = name_set e
name_set_by simple = None

abbrev pub name_set_first : OptionalSimple → Option (List ℕ)
name_set_first NoSimple = None
name_set_first (ASimple simple) = name_set_by simple

abbrev pub name_behind : Statement → Option (List ℕ)
name_behind (Simple simple) = name_set_by simple
name_behind (For first c last s) = name_set_first first
name_behind s = None

abbrev pub listed : Option (List ℕ) → List (List ℕ)
listed None = []
listed (Some x) = x ∷ []

-- the array that an expression fills by `split`, that a statement or the first part of a `for` fills so or empties, and that is
-- filled behind a statement
abbrev pub array_split : Exprs → Option (List ℕ)
array_split (Cons text (Cons place es)) = name_of place
array_split es = None

abbrev pub array_filled_by_call : BuiltInName → Exprs → Option (List ℕ)
array_filled_by_call builtin.Split es = array_split es
array_filled_by_call f es = None

abbrev pub array_filled_alone : Expr → Option (List ℕ)
array_filled_alone (BuiltIn f es) = array_filled_by_call f es
array_filled_alone e = None

abbrev pub array_filled : Expr → Option (List ℕ)
array_filled (Assign operator place e) = array_filled_alone e
array_filled e = array_filled_alone e

abbrev pub array_filled_by : SimpleStatement → Option (List ℕ)
array_filled_by (Expression e) = array_filled e
array_filled_by (DeleteAll a) = Some a
array_filled_by simple = None

abbrev pub array_filled_first : OptionalSimple → Option (List ℕ)
array_filled_first NoSimple = None
array_filled_first (ASimple simple) = array_filled_by simple

abbrev pub array_behind : Statement → Option (List ℕ)
array_behind (Simple simple) = array_filled_by simple
array_behind (For first c last s) = array_filled_first first
array_behind s = None

-- the names of one sort that rules set or fill so
abbrev pub name_by : Sort → SimpleStatement → Option (List ℕ)
name_by sort.Variable simple = name_set_by simple
name_by sort.Array simple = array_filled_by simple

abbrev pub name_first : Sort → OptionalSimple → Option (List ℕ)
name_first by NoSimple = None
name_first by (ASimple simple) = name_by by simple

abbrev mutual
  pub names_in : Sort → Statement → List (List ℕ)
  names_in by (Simple simple) = listed (name_by by simple)
  names_in by (Block all) = all_names_in by all
  names_in by (If c s) = names_in by s
  names_in by (IfElse c s other) = names_in by s ++ names_in by other
  names_in by (While c s) = names_in by s
  names_in by (Do s c) = names_in by s
  names_in by (For first c last s) = listed (name_first by first) ++ names_in by s
  names_in by s = []

  pub all_names_in : Sort → Statements → List (List ℕ)
  all_names_in by NoMore = []
  all_names_in by (Then s all) = names_in by s ++ all_names_in by all

abbrev pub names_in_rules : Sort → List Item → List (List ℕ)
names_in_rules by [] = []
names_in_rules by (Action block ∷ xs) = all_names_in by block ++ names_in_rules by xs
names_in_rules by (PatternAction p block ∷ xs) = all_names_in by block ++ names_in_rules by xs
names_in_rules by (x ∷ xs) = names_in_rules by xs

abbrev pub names_set_in_rules : List Item → List (List ℕ)
names_set_in_rules items = names_in_rules sort.Variable items

abbrev pub arrays_filled_in_rules : List Item → List (List ℕ)
arrays_filled_in_rules items = names_in_rules sort.Array items

-- a variable of the record, where rules set these names
abbrev pub is_own : List (List ℕ) → List ℕ → Bool
is_own names x = has_name names x && not (tells_apart x || is_setting_of_awk x)

-- the same, where rules fill these arrays too, and an array of the record: no name is both
abbrev pub is_own_variable : (names arrays : List (List ℕ)) → List ℕ → Bool
is_own_variable names arrays x = not (has_name arrays x) && is_own names x

abbrev pub is_own_array : (names arrays : List (List ℕ)) → List ℕ → Bool
is_own_array names arrays x = has_name arrays x && not (has_name names x || (tells_apart x || is_setting_of_awk x))

-- where no name is one
abbrev pub no_own : List ℕ → Bool
no_own x = false

abbrev pub is_standard : Output → Bool
is_standard Standard = true
is_standard (Redirected way target) = false

-- What is read and done, where these are the variables and the arrays of the record.
module _ (own arrays : List ℕ → Bool) where
  -- a place in the record: a field, NF, a variable of it, or an element of an array of it
  abbrev pub is_of_record : (place : Expr) → Bool
  is_of_record (Field e) = true
  is_of_record (Name x) = bytes_eq x (codes "NF") || own x
  is_of_record (Element a es) = arrays a
  is_of_record e = false

  abbrev pub is_own_place : (place : Expr) → Bool
  is_own_place (Name x) = own x
  is_own_place e = false

  -- what `sub` and `gsub` exchange in, where it isn't left out
  abbrev pub third_is_of_record : Exprs → Bool
  third_is_of_record (Cons a (Cons b (Cons place es))) = is_of_record place
  third_is_of_record es = true

  abbrev pub is_array_of_record : (place : Expr) → Bool
  is_array_of_record (Name a) = arrays a
  is_array_of_record e = false

  -- what `split` fills
  abbrev pub second_is_array : Exprs → Bool
  second_is_array (Cons text (Cons place es)) = is_array_of_record place
  second_is_array es = false

  -- the built-in functions that do no more than make a value of values, exchange in the record, or fill an array of it
  abbrev pub may_be_called : BuiltInName → Exprs → Bool
  may_be_called builtin.Length es = true
  may_be_called builtin.Sub es = third_is_of_record es
  may_be_called builtin.Gsub es = third_is_of_record es
  may_be_called builtin.Split es = second_is_array es
  may_be_called f es = is_of_values f

-- `split` fills an array
abbrev pub fills_array : BuiltInName → Bool
fills_array builtin.Split = true
fills_array f = false

-- the same, where what has these names may be read
module _ (own arrays known : List ℕ → Bool) where
  -- an array of the record that was filled before
  abbrev pub is_filled : List ℕ → Bool
  is_filled a = arrays a && known a

  -- an expression that reads no more than the record and such variables and arrays, and changes no more than the record
  abbrev mutual
    pub keeps_to_record : Expr → Bool
    keeps_to_record (Number n) = true
    keeps_to_record (String bytes) = true
    keeps_to_record (Ere text) = true
    keeps_to_record Length = true
    keeps_to_record (Name x) = known x
    keeps_to_record (Element a es) = is_filled a && all_keep_to_record es
    keeps_to_record (Field e) = keeps_to_record e
    keeps_to_record (Group e) = keeps_to_record e
    keeps_to_record (Unary o e) = keeps_to_record e
    keeps_to_record (Binary o a b) = keeps_to_record a && keeps_to_record b
    keeps_to_record (Membership e a) = is_filled a && keeps_to_record e
    keeps_to_record (ListMembership es a) = is_filled a && all_keep_to_record es
    keeps_to_record (Conditional c a b) = keeps_to_record c && (keeps_to_record a && keeps_to_record b)
    keeps_to_record (BuiltIn f es) = may_be_called own arrays f es && arguments_keep_to_record (fills_array f) es
    keeps_to_record (PreIncrement o place) = is_of_record own arrays place && keeps_to_record place
    keeps_to_record (PostIncrement o place) = is_of_record own arrays place && keeps_to_record place
    keeps_to_record (Assign o place e) = is_of_record own arrays place && (keeps_to_record place && keeps_to_record e)
    keeps_to_record e = false

    pub all_keep_to_record : Exprs → Bool
    all_keep_to_record Nil = true
    all_keep_to_record (Cons e es) = keeps_to_record e && all_keep_to_record es

    -- an array of the record that is filled needn't be known
    pub arguments_keep_to_record : (fills : Bool) → Exprs → Bool
    arguments_keep_to_record fills Nil = true
    arguments_keep_to_record fills (Cons e es) = (keeps_to_record e || (fills && is_array_of_record own arrays e)) && arguments_keep_to_record fills es

  abbrev pub may_keep_to_record : OptionalExpr → Bool
  may_keep_to_record NoExpr = true
  may_keep_to_record (AnExpr e) = keeps_to_record e

  -- a statement of such expressions, which prints to standard output alone
  abbrev pub list_keeps_to_record : PrintList → Bool
  list_keeps_to_record (Bare es) = all_keep_to_record es
  list_keeps_to_record (Parenthesized es) = all_keep_to_record es

  -- a statement that sets a variable of the record, which needn't be known
  abbrev pub sets_own : Expr → Bool
  sets_own (Assign operator place e) = is_plain operator && (is_own_place own arrays place && keeps_to_record e)
  sets_own e = false

  abbrev pub is_simple_for_itself : SimpleStatement → Bool
  is_simple_for_itself (Expression e) = sets_own e || keeps_to_record e
  is_simple_for_itself (Print form list output) = list_keeps_to_record list && is_standard output
  is_simple_for_itself (Delete a es) = is_filled a && all_keep_to_record es
  is_simple_for_itself (DeleteAll a) = arrays a
  is_simple_for_itself Next = true
  is_simple_for_itself Break = true
  is_simple_for_itself Continue = true
  is_simple_for_itself simple = false

  abbrev pub is_part_for_itself : OptionalSimple → Bool
  is_part_for_itself NoSimple = true
  is_part_for_itself (ASimple simple) = is_simple_for_itself simple

-- A variable of the record that such a statement sets is known behind it: in what follows in the block, or in the loop.
module _ (own : List ℕ → Bool) where
  abbrev pub also : Option (List ℕ) → (known : List ℕ → Bool) → List ℕ → Bool
  also None known = known
  also (Some x) known = λ z. (own x && bytes_eq x z) || known z

  abbrev pub behind : Statement → (known : List ℕ → Bool) → List ℕ → Bool
  behind s known = also (name_behind s) known

-- And so is an array of the record that is filled.
module _ (own arrays : List ℕ → Bool) where
  -- what is of the record
  abbrev pub is_mine : List ℕ → Bool
  is_mine x = arrays x || own x

  abbrev pub known_behind : Statement → (known : List ℕ → Bool) → List ℕ → Bool
  known_behind s known = also is_mine (name_behind s) (also is_mine (array_behind s) known)

  abbrev pub known_within : (first : OptionalSimple) → (known : List ℕ → Bool) → List ℕ → Bool
  known_within first known = also is_mine (name_set_first first) (also is_mine (array_filled_first first) known)

  abbrev mutual
    pub is_for_itself : (known : List ℕ → Bool) → Statement → Bool
    is_for_itself known Empty = true
    is_for_itself known (Simple simple) = is_simple_for_itself own arrays known simple
    is_for_itself known (Block all) = are_for_themselves known all
    is_for_itself known (If c s) = keeps_to_record own arrays known c && is_for_itself known s
    is_for_itself known (IfElse c s other) = keeps_to_record own arrays known c && (is_for_itself known s && is_for_itself known other)
    is_for_itself known (While c s) = keeps_to_record own arrays known c && is_for_itself known s
    is_for_itself known (Do s c) = keeps_to_record own arrays known c && is_for_itself known s
    is_for_itself known (For first c last s) =
        is_part_for_itself own arrays known first && (may_keep_to_record own arrays (known_within first known) c
        && (is_part_for_itself own arrays (known_within first known) last && is_for_itself (known_within first known) s))
    is_for_itself known s = false

    pub are_for_themselves : (known : List ℕ → Bool) → Statements → Bool
    are_for_themselves known NoMore = true
    are_for_themselves known (Then s all) = is_for_itself known s && are_for_themselves (known_behind s known) all

-- a statement of BEGIN that sets a variable, and shows nothing
abbrev pub may_be_set : (place : Expr) → Bool
may_be_set (Name x) = leaves_records x
may_be_set e = false

abbrev pub is_setting : Expr → Bool
is_setting (Assign operator place e) = is_plain operator && (may_be_set place && keeps_to_record no_own no_own (λ x. true) e)
is_setting e = false

abbrev pub is_simple_setting : SimpleStatement → Bool
is_simple_setting (Expression e) = is_setting e
is_simple_setting simple = false

abbrev pub only_sets : Statement → Bool
only_sets Empty = true
only_sets (Simple simple) = is_simple_setting simple
only_sets s = false

abbrev pub all_only_set : Statements → Bool
all_only_set NoMore = true
all_only_set (Then s all) = only_sets s && all_only_set all

module _ (own arrays known : List ℕ → Bool) where
  -- a rule that treats each record for itself
  abbrev pub pattern_keeps_to_record : Pattern → Bool
  pattern_keeps_to_record (Single e) = keeps_to_record own arrays known e
  pattern_keeps_to_record (Range from to) = false

  abbrev pub is_rule_for_itself : Item → Bool
  is_rule_for_itself (Begin block) = all_only_set block
  is_rule_for_itself (Action block) = are_for_themselves own arrays known block
  is_rule_for_itself (PatternAction p block) = pattern_keeps_to_record p && are_for_themselves own arrays known block
  is_rule_for_itself (PatternOnly p) = pattern_keeps_to_record p
  is_rule_for_itself x = false

  abbrev pub are_rules_for_themselves : List Item → Bool
  are_rules_for_themselves [] = true
  are_rules_for_themselves (x ∷ xs) = is_rule_for_itself x && are_rules_for_themselves xs

-- a program that treats each record for itself: its rules read nothing that tells pieces apart, and of the variables and the
-- arrays of the record those that were set or filled before
abbrev pub knows : (own : List ℕ → Bool) → List ℕ → Bool
knows own x = not (tells_apart x || own x)

abbrev pub are_pieceable : (names arrays : List (List ℕ)) → List Item → Bool
are_pieceable names arrays items =
    are_rules_for_themselves (is_own_variable names arrays) (is_own_array names arrays) (knows (is_mine (is_own_variable names arrays) (is_own_array names arrays))) items

abbrev pub IsPieceable : List Item → Type 0
IsPieceable items = are_pieceable (names_set_in_rules items) (arrays_filled_in_rules items) items ≡ true
