-- The built-in functions that make a value of values, exchange in the record, or fill an array of it, do alike.
use Rattle.std.proofs.Common.{◌≡◌, ℕ, zero, suc, Bool, true, false, ◌&&◌, ◌||◌, refl, List, [], ◌∷◌, ◌++◌, Option, Some, None, Ok, pos, map, slice_get, codes}
use Rattle.awk_value.specs.Values.{str_of}
use Rattle.awk_value.specs.declared.value.Value.{Value}
use Rattle.awk_value.specs.declared.value.Value.TheVariants as value
use Rattle.awk_ere.specs.Means.{pattern_of}
use Rattle.awk_lex.specs.declared.token.BuiltIn.{BuiltIn as BuiltInName}
use Rattle.awk_lex.specs.declared.token.BuiltIn.TheVariants as built_in
use Rattle.awk_grammar.specs.Tree.{Expr, Number, String, Ere, Name, Element, Field, Group, Call, BuiltIn, Length, PreIncrement, PostIncrement, Getline, PipedGetline, Unary, Binary, Membership, ListMembership, Conditional, Assign, Exprs, Nil, Cons}
use Rattle.awk_text.specs.definitions.Separators.{separator_of, separator_by}
use Rattle.awk_text.specs.definitions.Fields.{pieces_of}
use Rattle.awk_semantics.specs.definitions.Texts.{separator_in, ere_separator}
use Rattle.awk_semantics.specs.definitions.Primitives.{field_separator}
use Rattle.awk_semantics.specs.definitions.State.{State, Run, ◌>>=◌, lift, ret}
use Rattle.awk_semantics.specs.definitions.Operators.{pattern_in}
use Rattle.awk_semantics.specs.definitions.Places.{Place, AField, read_place}
use Rattle.awk_semantics.specs.definitions.BuiltIns.{Role, AsValue, AsPattern, AsArray, AsPlace, AsMeasured, Argument, OfValue, OfEre, OfArray, OfPlace, value_of, text_at, roles_of, ere_or, array_or_value, array_named_or, target_of, assign_exchange, exchange, applied_all, count_elements, separator_for, split_into, apply_built_in}
use Rattle.awk_pieces.specs.definitions.Pieceable.{is_of_record, third_is_of_record, may_be_called, fills_array, keeps_to_record, all_keep_to_record, arguments_keep_to_record, is_mine, also}
use Rattle.awk_pieces.proofs.Alike.{Names, OwnsSeparators, Sorts, SetsApart, shown_none, Alike, AlikeWith, then_alike, then_where, then_with, with_any}
use Rattle.awk_pieces.proofs.ArraysAlike.{fill_alike}
use Rattle.awk_pieces.proofs.ReadsAlike.{Reads, left_true, right_true, unmoved, lift_alike, ret_alike, ret_with, text_alike, is_array_alike, array_length_alike, record_length_alike}
use Rattle.awk_pieces.proofs.PlacesAlike.{IsOfRecord, store_alike, read_place_alike}
use Rattle.awk_pieces.proofs.ValuesAndFaults.{pattern_faults, separator_faults, ere_separator_faults, applied_all_faults}

-- an argument that is in the record, where it is a place, and known, where it is an array
abbrev pub IsKept : Sorts → Names → Argument → Type 0
IsKept sorts known (OfPlace q old) = IsOfRecord sorts known q
IsKept sorts known (OfArray x) = known x ≡ true
IsKept sorts known a = Unit {0}

-- the name is known, where there is one
abbrev pub IsKnown : Names → Option (List ℕ) → Type 0
IsKnown known None = Unit {0}
IsKnown known (Some x) = known x ≡ true

abbrev pub AreKept : Sorts → Names → List Argument → Type 0
AreKept sorts known [] = Unit {0}
AreKept sorts known (a ∷ xs) = IsKept sorts known a × AreKept sorts known xs

pub kept_append : (sorts : Sorts) (known : Names) (xs ys : List Argument) → AreKept sorts known xs → AreKept sorts known ys → AreKept sorts known (xs ++ ys)
kept_append sorts known [] ys is are = are
kept_append sorts known (a ∷ xs) ys is are = (is.0, kept_append sorts known xs ys is.1 are)

abbrev IsTarget : Sorts → Names → Option Argument → Type 0
IsTarget sorts known None = Unit {0}
IsTarget sorts known (Some a) = IsKept sorts known a

kept_at : (sorts : Sorts) (known : Names) (xs : List Argument) (n : ℕ) → AreKept sorts known xs → IsTarget sorts known (slice_get xs n)
kept_at sorts known [] n are = tt
kept_at sorts known (a ∷ xs) zero are = are.0
kept_at sorts known (a ∷ xs) (suc n) are = kept_at sorts known xs n are.1

-- expressions that may be taken so: no array, and places in the record alone
abbrev pub MayBeTaken : (own arrays : Names) → List Role → Exprs → Type 0
MayBeTaken own arrays roles Nil = Unit {0}
MayBeTaken own arrays [] (Cons e es) = Unit {0}
MayBeTaken own arrays (AsValue ∷ roles) (Cons e es) = MayBeTaken own arrays roles es
MayBeTaken own arrays (AsPattern ∷ roles) (Cons e es) = MayBeTaken own arrays roles es
MayBeTaken own arrays (AsMeasured ∷ roles) (Cons e es) = MayBeTaken own arrays roles es
MayBeTaken own arrays (AsPlace ∷ roles) (Cons e es) = (is_of_record own arrays e ≡ true) × MayBeTaken own arrays roles es
MayBeTaken own arrays (AsArray ∷ roles) (Cons e es) = ⊥

pub values_taken : (own arrays : Names) (es : Exprs) → MayBeTaken own arrays [] es
values_taken own arrays Nil = tt
values_taken own arrays (Cons e es) = tt

measured_taken : (own arrays : Names) (es : Exprs) → MayBeTaken own arrays (AsMeasured ∷ []) es
measured_taken own arrays Nil = tt
measured_taken own arrays (Cons e es) = values_taken own arrays es

exchanged_taken : (own arrays : Names) (es : Exprs) → third_is_of_record own arrays es ≡ true → MayBeTaken own arrays (AsPattern ∷ AsValue ∷ AsPlace ∷ []) es
exchanged_taken own arrays Nil is = tt
exchanged_taken own arrays (Cons a Nil) is = tt
exchanged_taken own arrays (Cons a (Cons b Nil)) is = tt
exchanged_taken own arrays (Cons a (Cons b (Cons place es))) is = (is, values_taken own arrays es)

-- the functions that take no array but to measure it
abbrev pub IsPlain : BuiltInName → Type 0
IsPlain built_in.Length = Unit {0}
IsPlain built_in.Substr = Unit {0}
IsPlain built_in.Index = Unit {0}
IsPlain built_in.Sprintf = Unit {0}
IsPlain built_in.ToLower = Unit {0}
IsPlain built_in.ToUpper = Unit {0}
IsPlain built_in.Int = Unit {0}
IsPlain built_in.Sub = Unit {0}
IsPlain built_in.Gsub = Unit {0}
IsPlain f = ⊥

-- all but `split`, of those that may be called
abbrev pub IsNoSplit : BuiltInName → Type 0
IsNoSplit built_in.Split = ⊥
IsNoSplit f = Unit {0}

pub plain_called : (own arrays : Names) (f : BuiltInName) (es : Exprs) → IsNoSplit f → may_be_called own arrays f es ≡ true → IsPlain f
plain_called own arrays built_in.Split es other may = absurd other
plain_called own arrays built_in.Length es other may = tt
plain_called own arrays built_in.Substr es other may = tt
plain_called own arrays built_in.Index es other may = tt
plain_called own arrays built_in.Sprintf es other may = tt
plain_called own arrays built_in.ToLower es other may = tt
plain_called own arrays built_in.ToUpper es other may = tt
plain_called own arrays built_in.Int es other may = tt
plain_called own arrays built_in.Sub es other may = tt
plain_called own arrays built_in.Gsub es other may = tt
plain_called own arrays built_in.Match es other may = absurd (cc)
plain_called own arrays built_in.System es other may = absurd (cc)
plain_called own arrays built_in.Close es other may = absurd (cc)
plain_called own arrays built_in.Fflush es other may = absurd (cc)

pub may_be_taken : (own arrays : Names) (f : BuiltInName) (es : Exprs) → IsPlain f → may_be_called own arrays f es ≡ true → MayBeTaken own arrays (roles_of f) es
may_be_taken own arrays built_in.Length es plain is = measured_taken own arrays es
may_be_taken own arrays built_in.Substr es plain is = values_taken own arrays es
may_be_taken own arrays built_in.Index es plain is = values_taken own arrays es
may_be_taken own arrays built_in.Sprintf es plain is = values_taken own arrays es
may_be_taken own arrays built_in.ToLower es plain is = values_taken own arrays es
may_be_taken own arrays built_in.ToUpper es plain is = values_taken own arrays es
may_be_taken own arrays built_in.Int es plain is = values_taken own arrays es
may_be_taken own arrays built_in.Sub es plain is = exchanged_taken own arrays es is
may_be_taken own arrays built_in.Gsub es plain is = exchanged_taken own arrays es is
may_be_taken own arrays f es plain is = absurd plain

pub no_filled : (a : Bool) → (a || false) ≡ true → a ≡ true
no_filled true e = refl
no_filled false e = e

both_true : (a b : Bool) → a ≡ true → b ≡ true → (a && b) ≡ true
both_true true b e f = f
both_true false b e f = e

pub none_filled : (own arrays known : Names) (es : Exprs) → arguments_keep_to_record own arrays known false es ≡ true → all_keep_to_record own arrays known es ≡ true
none_filled own arrays known Nil is = refl
none_filled own arrays known (Cons e es) is =
    let first = keeps_to_record own arrays known e || false in
    both_true (keeps_to_record own arrays known e) _ (no_filled _ (left_true first _ is)) (none_filled own arrays known es (right_true first _ is))

pub plain_arguments : (own arrays known : Names) (f : BuiltInName) (es : Exprs) → IsPlain f → arguments_keep_to_record own arrays known (fills_array f) es ≡ true → all_keep_to_record own arrays known es ≡ true
plain_arguments own arrays known built_in.Split es plain is = absurd plain
plain_arguments own arrays known f es plain is = none_filled own arrays known es is

-- the arguments of a `split` into this array
abbrev pub IsSplit : List ℕ → List Argument → Type 0
IsSplit a (text ∷ OfArray b ∷ xs) = b ≡ a
IsSplit a xs = ⊥

pub split_append : (a : List ℕ) (xs ys : List Argument) → IsSplit a xs → IsSplit a (xs ++ ys)
split_append a (text ∷ OfArray b ∷ xs) ys is = is
split_append a xs ys is = absurd is

module _ (sorts : Sorts) (apart : SetsApart sorts) (known : Names) (base base' : State) (owns : OwnsSeparators known) where
  abbrev Does : {A : Type 0} → Run A → Run A → Type 0
  Does m n = Reads sorts known base base' m n

  abbrev DoesWith : {A : Type 0} → (A → Type 0) → Run A → Run A → Type 0
  DoesWith P m n = AlikeWith P sorts known known base base' m n

  -- arguments

  pub value_taken : {m n : Run Value} → Does m n → DoesWith (IsKept sorts known) (m >>= λ v. ret (OfValue v)) (n >>= λ v. ret (OfValue v))
  value_taken h = then_with _ _ (with_any h) (λ v _. ret_with sorts known base base' (OfValue v) tt)

  pub ere_taken : (e : Expr) {m n : Run Value} → Does m n → DoesWith (IsKept sorts known) (ere_or e m) (ere_or e n)
  ere_taken (Ere text) h = ret_with sorts known base base' (OfEre text) tt
  ere_taken (Number n) h = value_taken h
  ere_taken (String bytes) h = value_taken h
  ere_taken (Name x) h = value_taken h
  ere_taken (Element x es) h = value_taken h
  ere_taken (Field a) h = value_taken h
  ere_taken (Group a) h = value_taken h
  ere_taken (Call f es) h = value_taken h
  ere_taken (BuiltIn f es) h = value_taken h
  ere_taken Length h = value_taken h
  ere_taken (PreIncrement c p) h = value_taken h
  ere_taken (PostIncrement c p) h = value_taken h
  ere_taken (Getline p file) h = value_taken h
  ere_taken (PipedGetline c p) h = value_taken h
  ere_taken (Unary c a) h = value_taken h
  ere_taken (Binary c a b) h = value_taken h
  ere_taken (Membership a x) h = value_taken h
  ere_taken (ListMembership es x) h = value_taken h
  ere_taken (Conditional c a b) h = value_taken h
  ere_taken (Assign c p a) h = value_taken h

  array_or_value_taken : (b : Bool) (x : List ℕ) {m n : Run Value} → known x ≡ true → Does m n → DoesWith (IsKept sorts known) (array_or_value b x m) (array_or_value b x n)
  array_or_value_taken true x is h = ret_with sorts known base base' (OfArray x) is
  array_or_value_taken false x is h = value_taken h

  pub measured : (name : Option (List ℕ)) {m n : Run Value} → IsKnown known name → Does m n → DoesWith (IsKept sorts known) (array_named_or name m) (array_named_or name n)
  measured None is h = value_taken h
  measured (Some x) is h = then_with _ _ (with_any (is_array_alike sorts known base base' x is)) (λ b _. array_or_value_taken b x is h)

  pub place_taken : {m n : Run Place} → DoesWith (IsOfRecord sorts known) m n → DoesWith (IsKept sorts known) (m >>= λ q. read_place q >>= λ v. ret (OfPlace q v)) (n >>= λ q. read_place q >>= λ v. ret (OfPlace q v))
  place_taken h = then_with _ _ h (λ q is. then_with _ _ (with_any (read_place_alike sorts apart known base base' owns q is)) (λ v _. ret_with sorts known base base' (OfPlace q v) is))

  -- exchanges in the record

  abbrev InRecord : Place × Value → Type 0
  InRecord target = IsOfRecord sorts known target.0

  record_target : DoesWith InRecord (target_of None) (target_of None)
  record_target = then_with _ _ (with_any (text_alike sorts known base base')) (λ v _. ret_with sorts known base base' (AField (pos 0), v) tt)

  target_alike : (a : Option Argument) → IsTarget sorts known a → DoesWith InRecord (target_of a) (target_of a)
  target_alike None is = record_target
  target_alike (Some (OfValue v)) is = record_target
  target_alike (Some (OfEre text)) is = record_target
  target_alike (Some (OfArray x)) is = record_target
  target_alike (Some (OfPlace q old)) is = ret_with sorts known base base' (q, old) is

  assign_exchange_alike : (q : Place) (n : ℕ) (text : List ℕ) → IsOfRecord sorts known q → Does (assign_exchange q n text) (assign_exchange q n text)
  assign_exchange_alike q zero text is = ret_alike sorts known base base' _
  assign_exchange_alike q (suc n) text is = then_alike _ _ (store_alike sorts apart known base base' owns q (value.Text text) is) (λ _. ret_alike sorts known base base' _)

  exchange_alike : (all : Bool) (xs : List Argument) → AreKept sorts known xs → Does (exchange all xs) (exchange all xs)
  unfolding exchange
  exchange_alike all xs are = then_where _ _ (target_alike (slice_get xs 2) (kept_at sorts known xs 2 are)) (λ target is.
      then_alike _ _ (lift_alike sorts known base base' (pattern_in (text_at xs 0)) (pattern_faults (pattern_of (text_at xs 0)))) (λ t. assign_exchange_alike target.0 _ _ is))

  -- what a built-in function makes of its arguments

  elements_alike : (x : List ℕ) → known x ≡ true → Does (count_elements x) (count_elements x)
  unfolding count_elements
  elements_alike x is = then_alike _ _ (array_length_alike sorts known base base' x is) (λ n. ret_alike sorts known base base' _)

  applied_alike : (f : BuiltInName) (xs : List Argument) → Does (lift (applied_all f (map value_of xs))) (lift (applied_all f (map value_of xs)))
  applied_alike f xs = lift_alike sorts known base base' (applied_all f (map value_of xs)) (applied_all_faults f (map value_of xs))

  length_alike : (xs : List Argument) → AreKept sorts known xs → Does (apply_built_in built_in.Length xs) (apply_built_in built_in.Length xs)
  unfolding apply_built_in
  length_alike [] are = record_length_alike sorts known base base'
  length_alike (OfArray x ∷ xs) are = elements_alike x are.0
  length_alike (OfValue v ∷ xs) are = applied_alike built_in.Length (OfValue v ∷ xs)
  length_alike (OfEre text ∷ xs) are = applied_alike built_in.Length (OfEre text ∷ xs)
  length_alike (OfPlace q old ∷ xs) are = applied_alike built_in.Length (OfPlace q old ∷ xs)

  pub built_in_alike : (f : BuiltInName) (xs : List Argument) → IsPlain f → AreKept sorts known xs → Does (apply_built_in f xs) (apply_built_in f xs)
  unfolding apply_built_in
  built_in_alike built_in.Length xs plain are = length_alike xs are
  built_in_alike built_in.Substr xs plain are = applied_alike built_in.Substr xs
  built_in_alike built_in.Index xs plain are = applied_alike built_in.Index xs
  built_in_alike built_in.Sprintf xs plain are = applied_alike built_in.Sprintf xs
  built_in_alike built_in.ToLower xs plain are = applied_alike built_in.ToLower xs
  built_in_alike built_in.ToUpper xs plain are = applied_alike built_in.ToUpper xs
  built_in_alike built_in.Int xs plain are = applied_alike built_in.Int xs
  built_in_alike built_in.Sub xs plain are = exchange_alike false xs are
  built_in_alike built_in.Gsub xs plain are = exchange_alike true xs are
  built_in_alike f xs plain are = absurd plain

  -- splits

  field_separator_alike : Does field_separator field_separator
  unfolding field_separator
  field_separator_alike = record { covers = λ o p c arrays arrays' v w k d agrees. rw (agrees.values (codes "FS") owns.fs) (unmoved sorts known base base' o p c arrays arrays' v w k d [] (Ok (separator_by (record { text = str_of (v (codes "FS")); newline_too = false }))) tt (shown_none sorts.shows) agrees) }

  separator_alike : (a : Option Argument) → Does (separator_for a) (separator_for a)
  separator_alike None = field_separator_alike
  separator_alike (Some (OfEre text)) = lift_alike sorts known base base' (ere_separator (pattern_in text)) (ere_separator_faults (pattern_in text) (pattern_faults (pattern_of text)))
  separator_alike (Some (OfValue v)) = lift_alike sorts known base base' (separator_in (str_of v)) (separator_faults (separator_of (str_of v)))
  separator_alike (Some (OfArray x)) = lift_alike sorts known base base' (separator_in (str_of value.Nothing)) (separator_faults (separator_of (str_of value.Nothing)))
  separator_alike (Some (OfPlace q old)) = lift_alike sorts known base base' (separator_in (str_of old)) (separator_faults (separator_of (str_of old)))

  -- the array is known behind it
  pub split_fills : (a : List ℕ) (xs : List Argument) → sorts.arrays a ≡ true → IsSplit a xs → Alike sorts known (also (is_mine sorts.own sorts.arrays) (Some a) known) base base' (apply_built_in built_in.Split xs) (apply_built_in built_in.Split xs)
  unfolding apply_built_in split_into
  split_fills a (text ∷ OfArray b ∷ xs) array is = rw is (then_alike _ _ (separator_alike (slice_get (text ∷ OfArray a ∷ xs) 2)) (λ separator.
      then_alike _ _ (fill_alike sorts known base base' a array (pieces_of separator false (text_at (text ∷ OfArray a ∷ xs) 0))) (λ _. ret_alike sorts (also (is_mine sorts.own sorts.arrays) (Some a) known) base base' _)))
  split_fills a xs array is = absurd is
