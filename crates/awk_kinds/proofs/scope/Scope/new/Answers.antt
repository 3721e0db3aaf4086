use Rattle.std.proofs.Common.{◌≡◌, ◌+◌, ◌∷◌, [], ◌++◌, take, sym, ap, ◌∙◌}
use Rattle.std.proofs.lemmas.List.{take_more}
use Rattle.awk_kinds.proofs.Known.{is_key, one_more}
use Rattle.awk_kinds.specs.definitions.Names.{has_name}
use Rattle.awk_kinds.proofs.scope.Scope.new.Goals as goal

pub loop-parameter-preserved : goal.loop-parameter-preserved
loop-parameter-preserved c =
    let i = c.loop-parameter.parameter-index in
    let all = c.args.parameters.now in
    let p = c.parameter-item.result in
    let more : take (i + 1) all ≡ take i all ++ p ∷ [] = take_more all i p c.loop-parameter-test.true ∙ ap (λ x. take i all ++ x ∷ []) (sym c.parameter-item.is) in
    record {
      names = c.in_ok-push.ensures.items ∙ ap (λ xs. xs ++ c.in_ok-clone.field-0 ∷ []) c.loop-parameter.invariant.names ∙ ap (λ x. take i all ++ x ∷ []) c.in_ok-clone.ensures.cases ∙ sym more;
      known = λ x.
          ap (λ ks. is_key ks x) c.in_ok-insert.ensures.keys
          ∙ one_more c.loop-parameter.known.keys c.in_ok-from_slice.field-0 (take i all) p (c.in_ok-from_slice.ensures.items ∙ c.as_slice.ensures) c.loop-parameter.invariant.known x
          ∙ ap (λ ps. has_name ps x) (sym more);
    }
