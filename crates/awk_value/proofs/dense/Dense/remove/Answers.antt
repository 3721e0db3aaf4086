use Rattle.std.proofs.Common.{◌∙◌, ap, sym, refl, length, set, subst, is_some, arith, to_z, of_z, w64}
use Rattle.std.specs.Map.{lookup, remove_entry}
use Rattle.std.specs.Ordering.{int_eq}
use Rattle.awk_value.specs.declared.entry.Entry.{Entry}
use Rattle.awk_value.specs.support.DenseKeys.{gap, numbered, IsPlaceOf}
use Rattle.awk_value.proofs.BothNumbers.{removed-missed}
use Rattle.awk_value.proofs.Int64.{passed}
use Rattle.awk_value.proofs.Places.{within-at, hit-at, left-at, fewer-at}
use Rattle.awk_value.proofs.dense.Dense.remove.Goals as goal

pub returns-in_default-clause-rest : goal.returns-in_default-clause-rest
returns-in_default-clause-rest c =
    let es = c.args.self.now in
    let none = ap (λ z. lookup (int_eq z) (numbered 0 es)) (sym (passed c.args.key c.ranges.key)) ∙ c.in_default.ensures.absent in
    sym (removed-missed (int_eq c.args.key) (numbered 0 es) none)

pub index_mut-requires : goal.index_mut-requires
index_mut-requires c =
    let es = c.self.inside.entries.items in
    let at : IsPlaceOf es c.in-Some.place (to_z w64 (of_z w64 c.args.key)) = subst (λ l. IsPlaceOf l c.in-Some.place (to_z w64 (of_z w64 c.args.key))) (sym c.self.view_is) c.in-Some.ensures.found in
    let within = within-at es c.in-Some.place _ at in
    omega (arith, within, c.self.inside.entries.ok)

pub overflow_sub-self : goal.overflow_sub-self
overflow_sub-self c =
    let es = c.self.inside.entries.items in
    let at : IsPlaceOf es c.in-Some.place (to_z w64 (of_z w64 c.args.key)) = subst (λ l. IsPlaceOf l c.in-Some.place (to_z w64 (of_z w64 c.args.key))) (sym c.self.view_is) c.in-Some.ensures.found in
    let fewer = fewer-at es c.in-Some.place _ at gap refl in
    omega (arith, c.self.invariant, fewer)

pub invariant_of-self : goal.invariant_of-self
invariant_of-self c =
    let es = c.self.inside.entries.items in
    let at : IsPlaceOf es c.in-Some.place (to_z w64 (of_z w64 c.args.key)) = subst (λ l. IsPlaceOf l c.in-Some.place (to_z w64 (of_z w64 c.args.key))) (sym c.self.view_is) c.in-Some.ensures.found in
    let fewer = fewer-at es c.in-Some.place _ at gap refl in
    let put = ap (λ (e : Entry). length (numbered 0 (set es c.in-Some.place e))) (c.replace.ensures.after ∙ c.gap.ensures) in
    omega (arith, c.self.invariant, fewer, ap length c.trim.ensures, put)

pub returns-clause-rest : goal.returns-clause-rest
returns-clause-rest c =
    let es = c.self.inside.entries.items in
    let at : IsPlaceOf es c.in-Some.place (to_z w64 (of_z w64 c.args.key)) = subst (λ l. IsPlaceOf l c.in-Some.place (to_z w64 (of_z w64 c.args.key))) (sym c.self.view_is) c.in-Some.ensures.found in
    let key = passed c.args.key c.ranges.key in
    c.trim.ensures ∙ ap (λ (e : Entry). numbered 0 (set es c.in-Some.place e)) (c.replace.ensures.after ∙ c.gap.ensures)
    ∙ left-at es c.in-Some.place _ at gap refl ∙ (λ i. remove_entry (int_eq (key i)) (numbered 0 (c.self.view_is i)))

pub returns-clause-told : goal.returns-clause-told
returns-clause-told c =
    let es = c.args.self.now in
    sym (ap is_some (ap (λ z. lookup (int_eq z) (numbered 0 es)) (sym (passed c.args.key c.ranges.key)) ∙ hit-at es c.in-Some.place _ c.in-Some.ensures.found))
