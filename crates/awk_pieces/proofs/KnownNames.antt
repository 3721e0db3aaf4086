-- What is known behind statements that set or fill names.
use Rattle.std.proofs.Common.{◌≡◌, ℕ, Bool, true, false, ◌&&◌, ◌||◌, not, List, [], ◌∷◌, ◌++◌, Option, Some, None, Result, Ok, Err, refl, sym, ap, ap₂, ◌∙◌, bytes_eq, cond, inl, inr}
use Rattle.std.specs.Prelude.{IfOk, ◌↔◌}
use Rattle.std.specs.declared.alloc.AllocError.{AllocError}
use Rattle.std.proofs.lemmas.Bool.{cases_Bool}
use Rattle.std.proofs.lemmas.Slice.Eq.{bytes_eq-Decides}
use Rattle.awk_grammar.specs.Tree.{Item}
use Rattle.awk_kinds.specs.Names.{has_name}
use Rattle.awk_kinds.specs.Variables.{with_value}
use Rattle.awk_value.specs.declared.value.Value.{Value}
use Rattle.awk_pieces.specs.definitions.Pieceable.{tells_apart, is_own_variable, is_own_array, is_mine, listed, also, knows, are_rules_for_themselves, are_pieceable}
use Rattle.awk_pieces.specs.support.Known.{set_known, own_of, arrays_of, mine_of, set_of, known_of}
use Rattle.awk_pieces.specs.declared.readable.Known.{Known}
use Rattle.awk_pieces.proofs.Alike.{Names, Values, AgreeOn, IsWithin}

pub or_else : (a b : Bool) → (a || b) ≡ true → a ≡ false → b ≡ true
or_else true b e f = absurd (cc)
or_else false b e f = e

pub or_right : (a b : Bool) → b ≡ true → (a || b) ≡ true
or_right true b e = refl
or_right false b e = e

-- a name that was known before another one is
pub known_before : (a b c : Bool) → b ≡ false → ((a && b) || c) ≡ true → c ≡ true
known_before true true c other is = absurd (cc)
known_before true false c other is = is
known_before false b c other is = is

pub one_less : (a b c d : Bool) → b ≡ false → (((a && b) || c) || d) ≡ true → (c || d) ≡ true
one_less true true c d e is = absurd (cc)
one_less true false c d e is = is
one_less false b c d e is = is

pub within_also : (own known : Names) (name : Option (List ℕ)) → IsWithin known (also own name known)
within_also own known None z is = is
within_also own known (Some x) z is = or_right (own x && bytes_eq x z) (known z) is

or_more : (a b c : Bool) → (b ≡ true → c ≡ true) → (a || b) ≡ true → (a || c) ≡ true
or_more true b c f e = refl
or_more false b c f e = f e

-- a variable that is known behind a statement is, where an array is known too
pub set_behind : (own known : Names) (name array : Option (List ℕ)) → IsWithin (also own name known) (also own name (also own array known))
set_behind own known None array z is = within_also own known array z is
set_behind own known (Some x) array z is = or_more (own x && bytes_eq x z) (known z) (also own array known z) (within_also own known array z) is

pub set_agrees : (own known : Names) (x : List ℕ) (a : Value) (v w : Values) → AgreeOn known v w → AgreeOn (also own (Some x) known) (with_value v x a) (with_value w x a)
set_agrees own known x a v w agrees z is = elim (cases_Bool (bytes_eq x z)) [
  | inl same ↦ rw same refl
  | inr other ↦ ap (λ (b : Value). cond (bytes_eq x z) a b) (agrees z (known_before (own x) (bytes_eq x z) (known z) other is))
]

-- another name is set to the same value on both sides
pub unset_agrees : (names : Names) (x : List ℕ) (a : Value) (v w : Values) → AgreeOn names v w → AgreeOn names (with_value v x a) (with_value w x a)
unset_agrees names x a v w agrees z is = ap (λ (b : Value). cond (bytes_eq x z) a b) (agrees z is)

-- a name that is known behind an assignment was known, or is a variable's
pub known_or_own : (mine own known : Names) (x z : List ℕ) → own x ≡ true → (also mine (Some x) known z || own z) ≡ true → (known z || own z) ≡ true
known_or_own mine own known x z is more = elim (cases_Bool (bytes_eq x z)) [
  | inl same ↦ or_right (known z) (own z) (ap own (sym ((bytes_eq-Decides x z).0 same)) ∙ is)
  | inr other ↦ one_less (mine x) (bytes_eq x z) (known z) (own z) other more
]

-- one more name is known behind them
pub known_behind : (own : Names) (xs : List (List ℕ)) (name : Option (List ℕ)) (known : Names) → set_known own (xs ++ listed name) known ≡ also own name (set_known own xs known)
known_behind own [] None known = refl
known_behind own [] (Some x) known = refl
known_behind own (y ∷ ys) name known = known_behind own ys name (also own (Some y) known)

both_or_none : (a b : Bool) → (a ≡ true → b ≡ true) → (b ≡ true → a ≡ true) → a ≡ b
both_or_none true true f g = refl
both_or_none true false f g = sym (f refl)
both_or_none false true f g = g refl
both_or_none false false f g = refl

same_either_way : (x z : List ℕ) → bytes_eq z x ≡ bytes_eq x z
same_either_way x z = both_or_none (bytes_eq z x) (bytes_eq x z) (λ e. (bytes_eq-Decides x z).1 (sym ((bytes_eq-Decides z x).0 e))) (λ e. (bytes_eq-Decides z x).1 (sym ((bytes_eq-Decides x z).0 e)))

differ : true ≡ false → ⊥
differ e = cc

one_more : (o p b h k : Bool) → (b ≡ true → o ≡ p) → ((o && h) || ((p && b) || k)) ≡ ((o && (b || h)) || k)
one_more true true true true k same = refl
one_more true true true false k same = refl
one_more true true false h k same = refl
one_more true false true h k same = absurd (differ (same refl))
one_more true false false h k same = refl
one_more false true true h k same = absurd (differ (sym (same refl)))
one_more false true false h k same = refl
one_more false false true h k same = refl
one_more false false false h k same = refl

none_more : (o k : Bool) → k ≡ ((o && false) || k)
none_more true k = refl
none_more false k = refl

-- what is known there: a variable of the record that was set, or what was known before
pub known_is : (own : Names) (xs : List (List ℕ)) (known : Names) (z : List ℕ) → set_known own xs known z ≡ ((own z && has_name xs z) || known z)
known_is own [] known z = none_more (own z) (known z)
known_is own (x ∷ xs) known z =
    known_is own xs (also own (Some x) known) z
    ∙ (one_more (own z) (own x) (bytes_eq x z) (has_name xs z) (known z) (λ same. ap own (sym ((bytes_eq-Decides x z).0 same)))
    ∙ ap (λ (b : Bool). (own z && (b || has_name xs z)) || known z) (sym (same_either_way x z)))

own_set : (o h t : Bool) → o ≡ true → ((o && h) || not (t || o)) ≡ h
own_set true true t is = refl
own_set true false true is = refl
own_set true false false is = refl
own_set false h t is = absurd (cc)

other_set : (o h t : Bool) → o ≡ false → ((o && h) || not (t || o)) ≡ not t
other_set false h true is = refl
other_set false h false is = refl
other_set true h t is = absurd (cc)

-- a variable of the record is known where it was set
pub own_known : (own : Names) (xs : List (List ℕ)) (z : List ℕ) → own z ≡ true → has_name xs z ≡ set_known own xs (knows own) z
own_known own xs z is = sym (known_is own xs (knows own) z ∙ own_set (own z) (has_name xs z) (tells_apart z) is)

-- another one where it is the same on each piece
pub other_known : (own : Names) (xs : List (List ℕ)) (z : List ℕ) → own z ≡ false → not (tells_apart z) ≡ set_known own xs (knows own) z
other_known own xs z is = sym (known_is own xs (knows own) z ∙ other_set (own z) (has_name xs z) (tells_apart z) is)

-- a variable of the record is known as it is without arrays
pub own_has : (k : Known) (z : List ℕ) → own_of k z ≡ true → known_of k z ≡ set_known (own_of k) (set_of k) (knows (own_of k)) z
own_has k z is = sym (own_known (mine_of k) (set_of k) z (or_right (arrays_of k z) (own_of k z) is)) ∙ own_known (own_of k) (set_of k) z is

-- as the code keeps it, where so much was known before

pub added_on : (base : Names → Names) (k more : Known) (name : Option (List ℕ)) → own_of more ≡ own_of k → set_of more ≡ set_of k ++ listed name → set_known (own_of more) (set_of more) (base (own_of more)) ≡ also (own_of k) name (set_known (own_of k) (set_of k) (base (own_of k)))
added_on base k more name own set = ap₂ (λ (o : Names) (xs : List (List ℕ)). set_known o xs (base o)) own set ∙ known_behind (own_of k) (set_of k) name (base (own_of k))

pub unchanged_on : (base : Names → Names) (k same : Known) → own_of same ≡ own_of k → set_of same ≡ set_of k → set_known (own_of same) (set_of same) (base (own_of same)) ≡ set_known (own_of k) (set_of k) (base (own_of k))
unchanged_on base k same own set = ap₂ (λ (o : Names) (xs : List (List ℕ)). set_known o xs (base o)) own set

mine_same : (k more : Known) → own_of more ≡ own_of k → arrays_of more ≡ arrays_of k → mine_of more ≡ mine_of k
mine_same k more own arrays = ap₂ is_mine own arrays

pub added : (k more : Known) (name : Option (List ℕ)) → own_of more ≡ own_of k → arrays_of more ≡ arrays_of k → set_of more ≡ set_of k ++ listed name → known_of more ≡ also (mine_of k) name (known_of k)
added k more name own arrays set = ap₂ (λ (o : Names) (xs : List (List ℕ)). set_known o xs (knows o)) (mine_same k more own arrays) set ∙ known_behind (mine_of k) (set_of k) name (knows (mine_of k))

pub unchanged : (k same : Known) → own_of same ≡ own_of k → arrays_of same ≡ arrays_of k → set_of same ≡ set_of k → known_of same ≡ known_of k
unchanged k same own arrays set = ap₂ (λ (o : Names) (xs : List (List ℕ)). set_known o xs (knows o)) (mine_same k same own arrays) set

-- an array, and then a variable
pub added_both : (k one two : Known) (array name : Option (List ℕ)) → own_of one ≡ own_of k → arrays_of one ≡ arrays_of k → set_of one ≡ set_of k ++ listed array → own_of two ≡ own_of one → arrays_of two ≡ arrays_of one → set_of two ≡ set_of one ++ listed name →
    known_of two ≡ also (mine_of k) name (also (mine_of k) array (known_of k))
added_both k one two array name own arrays set own' arrays' set' = added one two name own' arrays' set' ∙ ap₂ (λ (m l : Names). also m name l) (mine_same k one own arrays) (added k one array own arrays set)

pub same_three : {A : Type 0} (f : Names → Names → Names → A) (o p a b k l : Names) → o ≡ p → a ≡ b → k ≡ l → f o a k ≡ f p b l
same_three f o p a b k l own arrays known = ap₂ (λ (z : Names × Names) (n : Names). f z.0 z.1 n) (ap₂ (λ (x y : Names). (x, y)) own arrays) known

-- where one of the parts of a loop is no such part, the loop is none

pub second_stops : (a b c : Bool) → b ≡ false → false ≡ (a && (b && c))
second_stops true true c e = absurd (differ e)
second_stops true false c e = refl
second_stops false b c e = refl

pub third_stops : (a b c d : Bool) → c ≡ false → false ≡ (a && (b && (c && d)))
third_stops true true c d e = sym (ap (λ (x : Bool). x && d) e)
third_stops true false c d e = refl
third_stops false b c d e = refl

pub fourth_stops : (a b c d : Bool) → d ≡ false → false ≡ (a && (b && (c && d)))
fourth_stops true true true d e = sym e
fourth_stops true true false d e = refl
fourth_stops true false c d e = refl
fourth_stops false b c d e = refl

pub all_hold : (a b c d : Bool) → a ≡ true → b ≡ true → c ≡ true → d ≡ true → true ≡ (a && (b && (c && d)))
all_hold true true true true e f g h = refl
all_hold true true true false e f g h = sym h
all_hold true true false d e f g h = sym g
all_hold true false c d e f g h = sym f
all_hold false b c d e f g h = sym e

-- a program's rules, where nothing was set or filled before them
pub rules_first : (k : Known) (names arrays : List (List ℕ)) (items : List Item) → own_of k ≡ is_own_variable names arrays → arrays_of k ≡ is_own_array names arrays → set_of k ≡ [] →
    are_rules_for_themselves (own_of k) (arrays_of k) (known_of k) items ≡ are_pieceable names arrays items
rules_first k names arrays items own filled none =
    same_three (λ (o a l : Names). are_rules_for_themselves o a l items) _ _ _ _ _ _ own filled (ap₂ (λ (m : Names) (xs : List (List ℕ)). set_known m xs (knows m)) (ap₂ is_mine own filled) none)

pub told_pieceable : (k : Known) (names arrays : List (List ℕ)) (items : List Item) → own_of k ≡ is_own_variable names arrays → arrays_of k ≡ is_own_array names arrays → set_of k ≡ [] → (r : Result Bool AllocError) →
    IfOk r (λ is. is ≡ are_rules_for_themselves (own_of k) (arrays_of k) (known_of k) items) → IfOk r (λ is. (is ≡ true) ↔ (are_pieceable names arrays items ≡ true))
told_pieceable k names arrays items own filled none (Ok is) told = let same = told ∙ rules_first k names arrays items own filled none in (λ holds. sym same ∙ holds, λ pieceable. same ∙ pieceable)
told_pieceable k names arrays items own filled none (Err e) told = tt
