use Rattle.std.proofs.Common.{◌∙◌, Some, ap, sym, refl, length}
use Rattle.std.specs.Map.{lookup}
use Rattle.std.specs.Ordering.{int_eq}
use Rattle.std.specs.Option.{option_map}
use Rattle.std.specs.Prelude.{slice_set}
use Rattle.awk_value.specs.declared.value.Value.{Value}
use Rattle.awk_value.specs.declared.entry.Entry.{Entry}
use Rattle.awk_value.specs.support.DenseKeys.{numbered, revalued, with_value}
use Rattle.awk_value.proofs.Int64.{passed}
use Rattle.awk_value.proofs.Places.{entry-at, hit-at, many-at, revalued-at}
use Rattle.awk_value.proofs.dense.Dense.get_mut.Goals as goal

pub invariant_of-self-lent : goal.invariant_of-self-lent
invariant_of-self-lent c w =
    let es = c.self.inside.entries.items in
    let place = c.in-Some.place in
    let p = c.in-Some.ensures.found in
    let x = c.index_mut-entry.result.now in
    let same = entry-at es place _ p x c.index_mut-entry.ensures.value in
    c.self.invariant ∙ sym (ap (λ (e : Entry). length (numbered 0 (slice_set es place (revalued e w)))) same ∙ many-at es place _ p w)

pub returns-in-Some : goal.returns-in-Some
returns-in-Some c =
    let es = c.self.inside.entries.items in
    let place = c.in-Some.place in
    let p = c.in-Some.ensures.found in
    let x = c.index_mut-entry.result.now in
    let same = entry-at es place _ p x c.index_mut-entry.ensures.value in
    let key = passed c.args.key c.ranges.key in
    let left = λ (w : Value).
    ap (λ (e : Entry). numbered 0 (slice_set es place (revalued e w))) same ∙ revalued-at es place _ p w
    ∙ (λ i. with_value (lookup (int_eq (key i)) (numbered 0 (c.self.view_is i))) (key i) w (numbered 0 (c.self.view_is i))) in (
      (refl, left, refl),
      record {
        writes_back = tt;
        value =
            ap (λ (e : Entry). Some e.value) same
            ∙ ap (option_map (λ (e : Entry). e.value)) (sym (hit-at es place _ p) ∙ (λ i. lookup (int_eq (key i)) (numbered 0 (c.self.view_is i))));
      },
    )

pub returns-in-None : goal.returns-in-None
returns-in-None c =
    let key = passed c.args.key c.ranges.key in (
      (refl, (λ w. tt), c.self.view_is),
      record {
        writes_back = tt;
        value = ap (option_map (λ (e : Entry). e.value)) (sym c.in-None.ensures.absent ∙ (λ i. lookup (int_eq (key i)) (numbered 0 (c.self.view_is i))));
      },
    )
