use Rattle.std.proofs.Common.{◌≡◌, ◌<◌, ◌++◌, ℕ, [], ◌∷◌, get_or, length, sym, subst, ap, ◌∙◌, arith}
use Rattle.std.proofs.Math.ListN.{set}
use Rattle.std.proofs.lemmas.List.{take_more}
use Rattle.std.proofs.lemmas.List.Elements.{Contains-get_or}
use Rattle.awk_kinds.specs.support.Search.{Groups, rows_of}
use Rattle.awk_kinds.proofs.Grouping.{no_groups, one_more, edge_added, rows_push, rows_set, rows_long, row_at}
use Rattle.awk_kinds.proofs.reach.grouped.Goals as goal

pub loop-init : goal.loop-init
loop-init c = rw c.new-groups.ensures.items no_groups

pub loop-preserved : goal.loop-preserved
loop-preserved c =
    let is : rows_of c.push.new.self.items ≡ rows_of c.loop.groups.items ++ [] ∷ [] = ap rows_of c.in_ok-push.ensures.items ∙ rows_push c.loop.groups.items c.new.result ∙ ap (λ r. rows_of c.loop.groups.items ++ r ∷ []) c.new.ensures.items in
    rw is (one_more c.loop.counter (rows_of c.loop.groups.items) c.loop.invariant)

pub loop-front-init : goal.loop-front-init
loop-front-init c =
    let all : c.loop.counter ≡ c.args.count = omega arith in
    subst (λ n. Groups n [] (rows_of c.loop.groups.items)) all c.loop.invariant

pub index_mut-requires : goal.index_mut-requires
index_mut-requires c =
    let edge = Contains-get_or c.args.edges.now c.loop-front.front-index (0, 0) c.loop-front-test.true in
    let low = (c.requires.within (get_or c.args.edges.now c.loop-front.front-index (0, 0)).0 (get_or c.args.edges.now c.loop-front.front-index (0, 0)).1 edge).1 in
    omega (arith, low, c.loop-front.invariant.long, rows_long c.loop-front.groups.items)

pub loop-front-preserved : goal.loop-front-preserved
loop-front-preserved c =
    let e : ℕ × ℕ = get_or c.args.edges.now c.loop-front.front-index (0, 0) in
    let edge = Contains-get_or c.args.edges.now c.loop-front.front-index (0, 0) c.loop-front-test.true in
    let low : e.1 < c.args.count = (c.requires.within e.0 e.1 edge).1 in
    let inside : e.1 < length c.loop-front.groups.items = omega (arith, low, c.loop-front.invariant.long, rows_long c.loop-front.groups.items) in
    let row : get_or (rows_of c.loop-front.groups.items) e.1 [] ≡ c.index_mut.result.now.items = row_at c.loop-front.groups.items e.1 c.index_mut.result.now inside c.index_mut.ensures.value in
    let is : rows_of (set c.loop-front.groups.items e.1 c.push-in-loop-front.new.self) ≡ set (rows_of c.loop-front.groups.items) e.1 (get_or (rows_of c.loop-front.groups.items) e.1 [] ++ e.0 ∷ []) =
    rows_set c.loop-front.groups.items e.1 c.push-in-loop-front.new.self ∙ ap (λ r. set (rows_of c.loop-front.groups.items) e.1 r) (c.in_ok-push-2.ensures.items ∙ ap (λ r. r ++ e.0 ∷ []) (sym row)) in
    rw (take_more c.args.edges.now c.loop-front.front-index (0, 0) c.loop-front-test.true, is) (edge_added c.args.count _ (rows_of c.loop-front.groups.items) e.0 e.1 low c.loop-front.invariant)
