use Rattle.std.proofs.Common.{◌<◌, ◌^◌, ◌++◌, ◌∷◌, [], ap, sym, ◌∙◌, arith, pos, w64, length-append}
use Rattle.std.specs.Fmt.{signed_decimal}
use Rattle.std.proofs.Math.Facts.{to_z_pos}
use Rattle.awk_value.specs.declared.value.Value.TheVariants.{Input}
use Rattle.awk_value.specs.Arrays.{Array, value_at}
use Rattle.awk_storage.proofs.Filling.{absent, longer}
use Rattle.awk_storage.proofs.key.fill.Goals as goal

pub add_number-requires : goal.add_number-requires
add_number-requires c =
    let small : c.loop-text.key < 2 ^ 63 = omega (arith, c.in-Some-checked_add.ensures.0) in
    ap (λ k. value_at c.loop-text.table (signed_decimal k)) (to_z_pos w64 small)
    ∙ (ap (λ (a : Array). value_at a (signed_decimal (pos c.loop-text.key))) c.loop-text.invariant.filled
    ∙ absent c.args.first c.loop-text.key c.loop-text.yielded (omega (arith, c.loop-text.invariant.next)) small)

pub loop-text-preserved : goal.loop-text-preserved
loop-text-preserved c =
    let small : c.loop-text.key < 2 ^ 63 = omega (arith, c.in-Some-checked_add.ensures.0) in
    record {
      filled = c.in_ok-add_number.ensures.added
          ∙ (ap (λ k. c.loop-text.table ++ (signed_decimal k, Input c.in-Some.text) ∷ []) (to_z_pos w64 small)
          ∙ (ap (λ (a : Array). a ++ (signed_decimal (pos c.loop-text.key), Input c.in-Some.text) ∷ []) c.loop-text.invariant.filled
          ∙ sym (longer c.args.first c.loop-text.key c.loop-text.yielded c.in-Some.text c.loop-text.invariant.next)));
      next = omega (arith, c.in-Some-checked_add.ensures.1, c.loop-text.invariant.next, length-append c.loop-text.yielded (c.in-Some.text ∷ []));
    }
