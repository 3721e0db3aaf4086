use Rattle.std.proofs.Common.{◌≡◌, ◌∙◌, ◌++◌, ap, sym, refl, true, false, is_some, to_z, of_z, w64}
use Rattle.std.specs.Map.{lookup}
use Rattle.std.specs.Ordering.{int_eq}
use Rattle.awk_value.specs.support.DenseKeys.{numbered}
use Rattle.awk_value.proofs.BothNumbers.{first-removed, second-removed, removed-missed, none-looked, leaves-as}
use Rattle.awk_value.proofs.Int64.{passed}
use Rattle.awk_value.proofs.numbers.Numbers.remove.Goals as goal

pub returns-then-not-remove : goal.returns-then-not-remove
returns-then-not-remove c =
    let b = c.self.inside in
    let ds = numbered 0 b.dense in
    let z = to_z w64 (of_z w64 c.args.key) in
    let missed : false ≡ is_some (lookup (int_eq z) ds) = sym c.if-not-remove.true ∙ c.remove.ensures.told in
    let same = c.remove.ensures.rest ∙ removed-missed (int_eq z) ds (none-looked z ds b.sparse.entries missed) in
    leaves-as z c.args.key _ _ _ _ (passed c.args.key c.ranges.key) c.self.view_is (ap (λ l. l ++ c.take_entry.new.entries.entries) (sym same))
    (second-removed z ds b.sparse.entries c.take_entry.new.entries.entries missed c.take_entry.ensures)

pub returns-else-not-remove : goal.returns-else-not-remove
returns-else-not-remove c =
    let b = c.self.inside in
    let ds = numbered 0 b.dense in
    let z = to_z w64 (of_z w64 c.args.key) in
    let hit : true ≡ is_some (lookup (int_eq z) ds) = sym c.if-not-remove.false ∙ c.remove.ensures.told in
    leaves-as z c.args.key _ _ _ _ (passed c.args.key c.ranges.key) c.self.view_is refl
    (first-removed z ds b.sparse.entries (numbered 0 c.remove.new.self) hit c.remove.ensures.rest)
