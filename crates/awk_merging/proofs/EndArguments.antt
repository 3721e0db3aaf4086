-- The arguments of built-in functions that END calls.
use Rattle.std.proofs.Common.{◌≡◌, ℕ, Bool, true, false, List, [], ◌∷◌, ◌++◌, Option, Some, None}
use Rattle.awk_value.specs.declared.value.Value.{Value}
use Rattle.awk_lex.specs.declared.token.BuiltIn.{BuiltIn as BuiltInName}
use Rattle.awk_lex.specs.declared.token.BuiltIn.TheVariants as builtin
use Rattle.awk_grammar.specs.Tree.{Expr, Number, String, Ere, Name, Element, Field, Group, Call, BuiltIn, Length, PreIncrement, PostIncrement, Getline, PipedGetline, Unary, Binary, Membership, ListMembership, Conditional, Assign, Exprs, Nil, Cons}
use Rattle.awk_semantics.specs.definitions.BuiltIns.{Role, AsMeasured, roles_of, Argument, OfArray, bare_name}
use Rattle.awk_merging.specs.definitions.Sums.{Sum}
use Rattle.awk_merging.specs.definitions.Mergeable.{is_shown, makes_value, reads_sums}

-- an array that is measured is one that may be shown
abbrev pub IsShownName : Option (List ℕ) → Type 0
IsShownName None = Unit {0}
IsShownName (Some x) = is_shown x ≡ true

abbrev pub IsShownArgument : Argument → Type 0
IsShownArgument (OfArray x) = is_shown x ≡ true
IsShownArgument a = Unit {0}

-- arguments, of which the first may be shown
abbrev pub AreMeasured : List Argument → Type 0
AreMeasured [] = ⊥
AreMeasured (a ∷ xs) = IsShownArgument a

-- where the first one is measured
abbrev pub AreTaken : Bool → List Argument → Type 0
AreTaken true arguments = AreMeasured arguments
AreTaken false arguments = Unit {0}

abbrev pub is_length : BuiltInName → Bool
is_length builtin.Length = true
is_length c = false

abbrev pub Begun : Bool → List Argument → Exprs → Type 0
Begun false front es = Unit {0}
Begun true [] Nil = ⊥
Begun true [] (Cons e es) = Unit {0}
Begun true (a ∷ front) es = IsShownArgument a

pub all_taken : (first : Bool) (front : List Argument) → Begun first front Nil → AreTaken first front
all_taken false front begun = tt
all_taken true [] begun = absurd begun
all_taken true (a ∷ front) begun = begun

pub begun_on : (first : Bool) (front : List Argument) (a : Argument) (e : Expr) (es : Exprs) → IsShownArgument a → Begun first front (Cons e es) → Begun first (front ++ a ∷ []) es
begun_on false front a e es shown begun = tt
begun_on true [] a e es shown begun = shown
begun_on true (b ∷ front) a e es shown begun = begun

pub begun_first : (c : BuiltInName) (es : Exprs) → makes_value c es ≡ true → Begun (is_length c) [] es
begun_first builtin.Length Nil may = absurd (cc)
begun_first builtin.Length (Cons e es) may = tt
begun_first builtin.Substr es may = tt
begun_first builtin.Index es may = tt
begun_first builtin.Sprintf es may = tt
begun_first builtin.ToLower es may = tt
begun_first builtin.ToUpper es may = tt
begun_first builtin.Int es may = tt
begun_first builtin.Split es may = tt
begun_first builtin.Sub es may = tt
begun_first builtin.Gsub es may = tt
begun_first builtin.Match es may = tt
begun_first builtin.System es may = tt
begun_first builtin.Close es may = tt
begun_first builtin.Fflush es may = tt

-- arguments that are values, or measured
abbrev pub MayTake : List Role → Type 0
MayTake [] = Unit {0}
MayTake (AsMeasured ∷ roles) = MayTake roles
MayTake (role ∷ roles) = ⊥

pub may_take : (c : BuiltInName) (es : Exprs) → makes_value c es ≡ true → MayTake (roles_of c)
may_take builtin.Length es may = tt
may_take builtin.Substr es may = tt
may_take builtin.Index es may = tt
may_take builtin.Sprintf es may = tt
may_take builtin.ToLower es may = tt
may_take builtin.ToUpper es may = tt
may_take builtin.Int es may = tt
may_take builtin.Split es may = absurd (cc)
may_take builtin.Sub es may = absurd (cc)
may_take builtin.Gsub es may = absurd (cc)
may_take builtin.Match es may = absurd (cc)
may_take builtin.System es may = absurd (cc)
may_take builtin.Close es may = absurd (cc)
may_take builtin.Fflush es may = absurd (cc)

abbrev pub AreSome : List Value → Type 0
AreSome [] = ⊥
AreSome (v ∷ vs) = Unit {0}

pub bare_shown : (xs : List Sum) (shown : List ℕ → Bool) → ((x : List ℕ) → shown x ≡ true → is_shown x ≡ true) → (e : Expr) → reads_sums xs shown e ≡ true → IsShownName (bare_name e)
bare_shown xs shown within (Name x) is = within x is
bare_shown xs shown within (Number n) is = tt
bare_shown xs shown within (String bytes) is = tt
bare_shown xs shown within (Ere text) is = tt
bare_shown xs shown within (Element x es) is = tt
bare_shown xs shown within (Field a) is = tt
bare_shown xs shown within (Group a) is = tt
bare_shown xs shown within (Call c es) is = tt
bare_shown xs shown within (BuiltIn c es) is = tt
bare_shown xs shown within Length is = tt
bare_shown xs shown within (PreIncrement c p) is = tt
bare_shown xs shown within (PostIncrement c p) is = tt
bare_shown xs shown within (Getline p file) is = tt
bare_shown xs shown within (PipedGetline c p) is = tt
bare_shown xs shown within (Unary c a) is = tt
bare_shown xs shown within (Binary c a b) is = tt
bare_shown xs shown within (Membership a x) is = tt
bare_shown xs shown within (ListMembership es x) is = tt
bare_shown xs shown within (Conditional c a b) is = tt
bare_shown xs shown within (Assign c p a) is = tt
