use Rattle.std.proofs.Common.{◌++◌, ◌∷◌, [], ◌∙◌, ap, subst, refl, arith}
use Rattle.std.specs.List.Sorted.{IsPermutation}
use Rattle.std.specs.Map.{lookup}
use Rattle.std.specs.Ordering.{int_eq}
use Rattle.awk_value.specs.declared.entry.Entry.{Entry}
use Rattle.awk_value.proofs.Calls.{keeps, number-absent, number-add}
use Rattle.awk_value.proofs.Int64.{passed}
use Rattle.awk_value.proofs.Places.{stamp_kept}
use Rattle.awk_value.proofs.table.Table.add_number.Goals as goal

pub add-requires-clause-new : goal.add-requires-clause-new
add-requires-clause-new c =
    let b = c.self.inside in
    let now = keeps b.next b.numbers b.shorts.entries b.longs.entries _ c.self.invariant c.self.view_is in
    ap (λ z. lookup (int_eq z) b.numbers) (passed c.args.key c.ranges.key) ∙ number-absent now c.args.key c.ranges.key c.requires

pub add-requires-clause-kept : goal.add-requires-clause-kept
add-requires-clause-kept c =
    let b = c.self.inside in
    let up = c.in-Some.ensures in
    let x : Entry = record { stamp = b.next; value = c.args.value } in
    stamp_kept x (λ e. omega (arith, up.0, up.1))

pub invariant_of-self-2 : goal.invariant_of-self-2
invariant_of-self-2 c =
    let b = c.self.inside in
    let now = keeps b.next b.numbers b.shorts.entries b.longs.entries _ c.self.invariant c.self.view_is in
    let x : Entry = record { stamp = b.next; value = c.args.value } in
    let moves = subst (λ z. IsPermutation (b.numbers ++ (z, x) ∷ []) c.add.new.self) (passed c.args.key c.ranges.key) c.in_ok-add.ensures.added in
    (number-add now c.args.key c.ranges.key c.requires x refl c.in-Some.next c.in-Some.ensures.1 c.add.new.self moves).consistent

pub returns-clause-added : goal.returns-clause-added
returns-clause-added c =
    let b = c.self.inside in
    let now = keeps b.next b.numbers b.shorts.entries b.longs.entries _ c.self.invariant c.self.view_is in
    let x : Entry = record { stamp = b.next; value = c.args.value } in
    let moves = subst (λ z. IsPermutation (b.numbers ++ (z, x) ∷ []) c.add.new.self) (passed c.args.key c.ranges.key) c.in_ok-add.ensures.added in
    (number-add now c.args.key c.ranges.key c.requires x refl c.in-Some.next c.in-Some.ensures.1 c.add.new.self moves).view
