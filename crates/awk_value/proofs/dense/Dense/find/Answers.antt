use Rattle.std.proofs.Common.{◌≤◌, ◌<◌, ap, sym, ◌∙◌, length, nat_abs, to_z, of_z, w64, arith, refl}
use Rattle.std.specs.Map.{lookup}
use Rattle.std.specs.Ordering.{int_eq}
use Rattle.std.specs.Prelude.{slice_get}
use Rattle.std.proofs.lemmas.Option.{slice_get_read}
use Rattle.awk_value.specs.support.DenseKeys.{numbered}
use Rattle.awk_value.proofs.Int64.{place_is, no_place}
use Rattle.awk_value.proofs.Places.{none-negative, none-past, none-gone, stamp_gone, stamp_kept}
use Rattle.awk_value.proofs.dense.Dense.find.Goals as goal

pub returns-then-key-lt0-clause-absent : goal.returns-then-key-lt0-clause-absent
returns-then-key-lt0-clause-absent c = none-negative c.args.self.now c.args.key (no_place c.args.key c.ranges.key c.if-key-lt0.true)

pub returns-then-place-len-clause-absent : goal.returns-then-place-len-clause-absent
returns-then-place-len-clause-absent c =
    let es = c.self.inside.entries.items in
    let place = nat_abs (to_z w64 (of_z w64 c.args.key)) in
    let past : length es ≤ place = omega (arith, c.len.ensures, c.if-place-len.true) in
    ap (λ l. lookup (int_eq c.args.key) (numbered 0 l)) (sym c.self.view_is)
    ∙ ap (λ z. lookup (int_eq z) (numbered 0 es)) (place_is c.args.key c.ranges.key c.if-key-lt0.false) ∙ none-past es place past

pub returns-then-index-clause-absent : goal.returns-then-index-clause-absent
returns-then-index-clause-absent c =
    let es = c.self.inside.entries.items in
    let place = nat_abs (to_z w64 (of_z w64 c.args.key)) in
    let within : place < length es = omega (arith, c.len.ensures, c.if-place-len.false) in
    let there = slice_get_read es (length es) place c.index.result.now refl within c.index.ensures in
    ap (λ l. lookup (int_eq c.args.key) (numbered 0 l)) (sym c.self.view_is)
    ∙ ap (λ z. lookup (int_eq z) (numbered 0 es)) (place_is c.args.key c.ranges.key c.if-key-lt0.false)
    ∙ none-gone es place c.index.result.now there (stamp_gone c.index.result.now c.if-index.true)

pub returns-clause-found : goal.returns-clause-found
returns-clause-found c =
    let es = c.self.inside.entries.items in
    let place = nat_abs (to_z w64 (of_z w64 c.args.key)) in
    let within : place < length es = omega (arith, c.len.ensures, c.if-place-len.false) in
    record {
      entry = c.index.result.now;
      number = place_is c.args.key c.ranges.key c.if-key-lt0.false;
      there = ap (λ l. slice_get l place) (sym c.self.view_is) ∙ slice_get_read es (length es) place c.index.result.now refl within c.index.ensures;
      kept = stamp_kept c.index.result.now c.if-index.false;
    }
