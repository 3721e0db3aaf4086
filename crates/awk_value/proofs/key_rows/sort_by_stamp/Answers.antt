use Rattle.std.proofs.Common.{nat_lt, subst, rules}
use Rattle.std.specs.List.Sorted.{IsNonDecreasingBy}
use Rattle.std.proofs.lemmas.List.Sorted.{answers_always, IsNonDecreasingBy-from_sort}
use Rattle.awk_value.proofs.Rows.{rises_by, on_ok_map}
use Rattle.awk_value.proofs.key_rows.sort_by_stamp.Goals as goal

pub returns-then-rise-clause-ordered : goal.returns-then-rise-clause-ordered
returns-then-rise-clause-ordered c =
    let h =
    c.is_sorted_by-rise.ensures.cases (λ x y. nat_lt x.stamp y.stamp) (answers_always _ _ _ (λ f a r g k. search rules)) in
    subst (λ l. IsNonDecreasingBy (λ r. r.stamp) l) c.deref.ensures.value (rises_by (λ r. r.stamp) c.deref.result.now c.is_sorted_by-rise.result c.if-rise.true h)

pub returns-clause-ordered : goal.returns-clause-ordered
returns-clause-ordered c =
    on_ok_map c.sort_by_key.result _ _ c.sort_by_key.ensures.sorted
    (λ h. IsNonDecreasingBy-from_sort (λ r. r.stamp) c.sort_by_key.new.self.items (h (λ r. r.stamp) (answers_always _ _ _ (λ f a r g k. search rules))))
