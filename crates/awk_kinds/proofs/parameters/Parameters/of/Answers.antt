use Rattle.std.proofs.Common.{◌≡◌, ◌+◌, ◌∷◌, [], ◌++◌, false, map, take, drop, sym, ap, ◌∙◌}
use Rattle.std.proofs.lemmas.List.{take_more, take_all, map-append}
use Rattle.awk_kinds.specs.definitions.Names.{has_name, with_name}
use Rattle.awk_kinds.specs.declared.variable.Variable.TheVariants.{Parameter}
use Rattle.awk_kinds.specs.definitions.Fits.{has_repeat}
use Rattle.awk_kinds.specs.support.Arrays.{is_marked}
use Rattle.awk_kinds.specs.support.Tables.{formals}
use Rattle.awk_kinds.specs.support.Marked.{is_marked_in}
use Rattle.awk_kinds.proofs.Tabled.{around, not_before, put_last, formals_map}
use Rattle.awk_kinds.proofs.parameters.Parameters.of.Goals as goal

pub loop-x-preserved : goal.loop-x-preserved
loop-x-preserved c =
    let i = c.loop-x.x-index in
    let all = c.args.parameters.now in
    let x = c.x-item.result in
    let f = c.args.function.now in
    let arrays = c.args.arrays.now in
    let more : take (i + 1) all ≡ take i all ++ x ∷ [] = take_more all i x c.loop-x-test.true ∙ ap (λ y. take i all ++ y ∷ []) (sym c.x-item.is) in
    let absent : has_name (take i all) x ≡ false = not_before (take i all) (drop (i + 1) all) x (ap has_repeat (sym (around all i x c.loop-x-test.true c.x-item.is)) ∙ c.requires) in
    let marked : c.has.result ≡ is_marked_in arrays f x = c.has.ensures ∙ ap (λ g. is_marked arrays (Parameter g c.in_ok-clone-2.field-0)) c.in_ok-clone.ensures.cases ∙ ap (λ y. is_marked arrays (Parameter f y)) c.in_ok-clone-2.ensures.cases in
    record {
      names = c.in_ok-add.ensures.names ∙ ap (λ names. with_name names c.as_slice.result.now) c.loop-x.invariant.names ∙ ap (with_name (take i all)) c.as_slice.ensures ∙ put_last (take i all) x absent ∙ sym more;
      kinds = c.in_ok-push.ensures.items ∙ ap (λ bs. bs ++ c.has.result ∷ []) c.loop-x.invariant.kinds ∙ ap (λ b. map (is_marked_in arrays f) (take i all) ++ b ∷ []) marked
          ∙ sym (map-append (is_marked_in arrays f) (take i all) (x ∷ [])) ∙ ap (map (is_marked_in arrays f)) (sym more);
    }

pub returns : goal.returns
returns c =
    let all = c.args.parameters.now in
    let g = is_marked_in c.args.arrays.now c.args.function.now in
    let whole : take c.loop-x.x-index all ≡ all = take_all c.loop-x.x-index all c.loop-x-test.false in
    ap (λ xs. formals xs c.loop-x.kinds.items) (c.loop-x.invariant.names ∙ whole) ∙ ap (formals all) (c.loop-x.invariant.kinds ∙ ap (map g) whole) ∙ formals_map g all
