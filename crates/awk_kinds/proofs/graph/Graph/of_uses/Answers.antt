use Rattle.std.proofs.Common.{◌≡◌, ◌+◌, ◌∷◌, [], ◌++◌, take, sym, ap, subst, ◌∙◌, append_assoc}
use Rattle.std.proofs.lemmas.List.{take_more}
use Rattle.awk_kinds.specs.support.Graph.{FollowsUses, special_uses}
use Rattle.awk_kinds.proofs.Graphs.{follows_one}
use Rattle.awk_kinds.proofs.graph.Graph.of_uses.Goals as goal

pub loop-array-preserved : goal.loop-array-preserved
loop-array-preserved c =
    let i = c.loop-array.array-index in
    let all = c.args.uses.now in
    let u = c.array-item.result in
    let more : special_uses ++ take (i + 1) all ≡ (special_uses ++ take i all) ++ u ∷ [] =
    ap (λ xs. special_uses ++ xs) (take_more all i u c.loop-array-test.true ∙ ap (λ y. take i all ++ y ∷ []) (sym c.array-item.is)) ∙ sym (append_assoc special_uses (take i all) (u ∷ [])) in
    subst (λ us. FollowsUses c.args.functions.now us c.add.new.self) (sym more) (follows_one c.args.functions.now (special_uses ++ take i all) u c.loop-array.invariant c.in_ok-add.ensures)
