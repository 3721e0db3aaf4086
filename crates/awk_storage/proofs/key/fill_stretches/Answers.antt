use Rattle.std.proofs.Common.{◌<◌, ◌^◌, ◌++◌, ◌∷◌, [], ap, ◌∙◌, arith, pos, w64}
use Rattle.std.specs.Fmt.{signed_decimal}
use Rattle.std.proofs.Math.Facts.{to_z_pos}
use Rattle.std.proofs.lemmas.List.Elements.{All-get_or}
use Rattle.awk_value.specs.declared.value.Value.TheVariants.{Input}
use Rattle.awk_value.specs.Arrays.{Array, value_at}
use Rattle.awk_text.specs.Pieces.{IsSpanOf}
use Rattle.awk_storage.proofs.Filling.{next_absent, next_added}
use Rattle.awk_storage.proofs.key.fill_stretches.Goals as goal

pub add_number-requires : goal.add_number-requires
add_number-requires c =
    let small : c.loop-span.key < 2 ^ 63 = omega (arith, c.in-Some.ensures.0) in
    ap (λ k. value_at c.loop-span.table (signed_decimal k)) (to_z_pos w64 small)
    ∙ (ap (λ (a : Array). value_at a (signed_decimal (pos c.loop-span.key))) c.loop-span.invariant.filled
    ∙ next_absent c.args.text.now c.args.spans.now c.loop-span.span-index c.loop-span.key (omega (arith, c.loop-span-test.true)) c.loop-span.invariant.next small)

pub loop-span-preserved : goal.loop-span-preserved
loop-span-preserved c =
    let text = c.args.text.now in
    let spans = c.args.spans.now in
    let i = c.loop-span.span-index in
    let small : c.loop-span.key < 2 ^ 63 = omega (arith, c.in-Some.ensures.0) in
    record {
      filled = c.in_ok-add_number.ensures.added
          ∙ (ap (λ k. c.loop-span.table ++ (signed_decimal k, Input c.in_ok-stretch.stretch) ∷ []) (to_z_pos w64 small)
          ∙ (ap (λ (a : Array). a ++ (signed_decimal (pos c.loop-span.key), Input c.in_ok-stretch.stretch) ∷ []) c.loop-span.invariant.filled
          ∙ next_added text spans i c.loop-span.key c.in_ok-stretch.stretch _ c.loop-span-test.true (All-get_or (IsSpanOf text) spans i _ c.loop-span-test.true c.requires.within) c.loop-span.invariant.next c.in_ok-stretch.ensures));
      next = omega (arith, c.in-Some.ensures.1, c.loop-span.invariant.next);
    }
