-- The order of two texts, and whether they are equal.
use Rattle.std.proofs.Common.{◌≡◌, ℕ, Bool, List, Option, Some, None, Ok, not, refl, sym, ap, ◌∙◌}
use Rattle.std.specs.Prelude.{bytes_eq, IfSome}
use Rattle.std.specs.declared.cmp.Ordering.{Ordering}
use Rattle.std.specs.declared.cmp.Ordering.TheVariants.{Less, Equal, Greater}
use Rattle.std.specs.Ordering.{nat_cmp, is_eq}
use Rattle.std.specs.Cmp.Lexicographic.{slice_cmp}
use Rattle.std.proofs.lemmas.Map.Text.{is_eq-slice_cmp}
use Rattle.awk_value.specs.declared.value.Value.{Value}
use Rattle.awk_value.specs.Values.{str_of, order_of}
use Rattle.awk_lex.specs.declared.token.Operator.{Operator}
use Rattle.awk_lex.specs.declared.token.Operator.TheVariants as operator
use Rattle.awk_semantics.specs.Operators.{applied, relates, truth_value}

equal_by : (o : Ordering) → is_eq o ≡ relates operator.Equal o
equal_by Less = refl
equal_by Equal = refl
equal_by Greater = refl

other_by : (o : Ordering) → not (is_eq o) ≡ relates operator.NotEqual o
other_by Less = refl
other_by Equal = refl
other_by Greater = refl

pub bytes_equal : (xs ys : List ℕ) → bytes_eq xs ys ≡ relates operator.Equal (slice_cmp nat_cmp xs ys)
bytes_equal xs ys = sym (is_eq-slice_cmp xs ys) ∙ equal_by (slice_cmp nat_cmp xs ys)

pub bytes_differ : (xs ys : List ℕ) → not (bytes_eq xs ys) ≡ relates operator.NotEqual (slice_cmp nat_cmp xs ys)
bytes_differ xs ys = ap not (sym (is_eq-slice_cmp xs ys)) ∙ other_by (slice_cmp nat_cmp xs ys)

-- values in the same order are so related
pub related_as : (x y u v : Value) (o : Operator) (r : Option Bool) → order_of x y ≡ order_of u v → IfSome r (λ holds. applied o u v ≡ Ok (truth_value holds)) → IfSome r (λ holds. (a b : Value) → applied o a b ≡ Ok (truth_value (relates o (order_of a b)))) → IfSome r (λ holds. applied o x y ≡ Ok (truth_value holds))
related_as x y u v o None same holds relation = tt
related_as x y u v o (Some h) same holds relation = relation x y ∙ ap (λ (order : Ordering). Ok (truth_value (relates o order))) same ∙ sym (relation u v) ∙ holds

-- and by their texts
pub related_by : (x y : Value) (o : Operator) (r : Option Bool) → order_of x y ≡ slice_cmp nat_cmp (str_of x) (str_of y) → IfSome r (λ holds. holds ≡ relates o (slice_cmp nat_cmp (str_of x) (str_of y))) → IfSome r (λ holds. (a b : Value) → applied o a b ≡ Ok (truth_value (relates o (order_of a b)))) → IfSome r (λ holds. applied o x y ≡ Ok (truth_value holds))
related_by x y o None same holds relation = tt
related_by x y o (Some h) same holds relation = relation x y ∙ ap (λ (order : Ordering). Ok (truth_value (relates o order))) same ∙ ap (λ (b : Bool). Ok (truth_value b)) (sym holds)
