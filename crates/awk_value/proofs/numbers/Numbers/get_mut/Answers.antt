use Rattle.std.proofs.Common.{◌≡◌, ◌∙◌, ◌++◌, ap, sym, subst, to_z, of_z, w64, inr}
use Rattle.std.specs.Map.{lookup}
use Rattle.std.specs.Option.{option_map}
use Rattle.std.specs.Prelude.{OnSome}
use Rattle.std.specs.Ordering.{int_eq}
use Rattle.awk_value.specs.declared.value.Value.{Value}
use Rattle.awk_value.specs.declared.entry.Entry.{Entry}
use Rattle.awk_value.specs.support.DenseKeys.{numbered, revalued, with_value}
use Rattle.awk_value.proofs.BothNumbers.{first-looked, first-revalued, none-looked, second-lookup, second-revalued, seen-none}
use Rattle.awk_value.proofs.Lent.{lent_as}
use Rattle.awk_value.proofs.Int64.{passed}
use Rattle.awk_value.proofs.numbers.Numbers.get_mut.Goals as goal

pub returns-in-Some : goal.returns-in-Some
returns-in-Some c =
    let b = c.self.inside in
    let ds = numbered 0 b.dense in
    let z = to_z w64 (of_z w64 c.args.key) in
    let key = passed c.args.key c.ranges.key in
    let there = c.if-has.ensures in
    let left = λ (w : Value).
    first-revalued z ds b.sparse.entries w (numbered 0 (c.get_mut.follows.lender w)) there (subst (λ o. OnSome o (numbered 0 (c.get_mut.follows.lender w) ≡ with_value (lookup (int_eq z) ds) z w ds)) c.in-Some.is (c.get_mut.follows.holds w))
    ∙ (λ i. with_value (lookup (int_eq (key i)) (c.self.view_is i)) (key i) w (c.self.view_is i)) in (
      lent_as _ _ _ left,
      record {
        writes_back = tt;
        value =
            c.in-Some.ensures.value ∙ ap (option_map (λ (e : Entry). e.value)) (sym (first-looked z ds b.sparse.entries there))
            ∙ (λ i. option_map (λ (e : Entry). e.value) (lookup (int_eq (key i)) (c.self.view_is i)));
      },
    )

pub returns-in-None : goal.returns-in-None
returns-in-None c =
    let b = c.self.inside in (
      (λ i. inr (numbered 0 (c.get_mut.follows.holds-at-none i) ++ b.sparse.entries)) ∙ ap inr c.self.view_is,
      record { writes_back = tt; value = absurd (seen-none _ c.if-has.ensures c.in-None.ensures.value) },
    )

pub returns-in-Some-get_mut : goal.returns-in-Some-get_mut
returns-in-Some-get_mut c =
    let b = c.self.inside in
    let ds = numbered 0 b.dense in
    let z = to_z w64 (of_z w64 c.args.key) in
    let key = passed c.args.key c.ranges.key in
    let none = none-looked z ds b.sparse.entries c.if-has.ensures in
    let x = c.in-Some-get_mut.entry.now in
    let left = λ (w : Value).
    second-revalued z ds b.sparse.entries x w (c.get_mut-2.follows.lender (revalued x w)).entries none (sym c.in-Some-get_mut.ensures.value) (c.get_mut-2.follows.holds (revalued x w)).0
    ∙ (λ i. with_value (lookup (int_eq (key i)) (c.self.view_is i)) (key i) w (c.self.view_is i)) in (
      lent_as _ _ _ left,
      record {
        writes_back = tt;
        value =
            ap (option_map (λ (e : Entry). e.value)) (c.in-Some-get_mut.ensures.value ∙ sym (second-lookup (int_eq z) ds b.sparse.entries none) ∙ (λ i. lookup (int_eq (key i)) (c.self.view_is i)));
      },
    )

pub returns-in-None-get_mut : goal.returns-in-None-get_mut
returns-in-None-get_mut c =
    let b = c.self.inside in
    let ds = numbered 0 b.dense in
    let z = to_z w64 (of_z w64 c.args.key) in
    let key = passed c.args.key c.ranges.key in
    let none = none-looked z ds b.sparse.entries c.if-has.ensures in (
      (λ i. inr (ds ++ (c.get_mut-2.follows.holds-at-none i).entries)) ∙ ap inr c.self.view_is,
      record {
        writes_back = tt;
        value =
            ap (option_map (λ (e : Entry). e.value)) (c.in-None-get_mut.ensures.value ∙ sym (second-lookup (int_eq z) ds b.sparse.entries none) ∙ (λ i. lookup (int_eq (key i)) (c.self.view_is i)));
      },
    )
