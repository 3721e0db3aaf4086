use Rattle.std.proofs.Common.{◌≡◌, ◌<◌, [], false, get_or, length, sym, subst, ap, ◌∙◌, arith, rules}
use Rattle.std.proofs.Math.ListN.{replicate}
use Rattle.std.proofs.lemmas.List.{get_or_default, length-replicate}
use Rattle.std.specs.List.{Contains}
use Rattle.awk_kinds.specs.support.Search.{rows_of}
use Rattle.awk_kinds.proofs.Searching.{begins, goes_on, ends, none_marked, end_low}
use Rattle.awk_kinds.proofs.Grouping.{row_at, rows_long}
use Rattle.awk_kinds.proofs.reach.reached.Goals as goal

pub mark_all-requires : goal.mark_all-requires
mark_all-requires c = λ v h.
    let off : c.in_ok-vec.field-0.items ≡ replicate c.args.count false = search rules in
    rw (off, length-replicate c.args.count false) (c.requires.first v h)

pub loop-done-init : goal.loop-done-init
loop-done-init c =
    let off : c.in_ok-vec.field-0.items ≡ replicate c.args.count false = search rules in
    begins c.args.count c.args.first.now c.args.edges.now _ c.mark_all.new.self (ap length off ∙ length-replicate c.args.count false) (λ v h. none_marked c.in_ok-vec.field-0.items c.args.count v off h) c.new.ensures.items c.in_ok-mark_all.ensures

pub index-requires : goal.index-requires
index-requires c =
    let low : c.loop-done.done < length c.loop-done.search.found.items = omega arith in
    let e = end_low _ _ _ c.loop-done.search c.loop-done.done c.index-end.result.now c.loop-done.invariant low c.index-end.ensures in
    omega (arith, e, c.in_ok-groups.ensures.long, rows_long c.in_ok-groups.groups.items)

pub mark_all-requires-in-loop-done : goal.mark_all-requires-in-loop-done
mark_all-requires-in-loop-done c = λ v h.
    let low : c.loop-done.done < length c.loop-done.search.found.items = omega arith in
    let e = end_low _ _ _ c.loop-done.search c.loop-done.done c.index-end.result.now c.loop-done.invariant low c.index-end.ensures in
    let inside : c.index-end.result.now < length c.in_ok-groups.groups.items = omega (arith, e, c.in_ok-groups.ensures.long, rows_long c.in_ok-groups.groups.items) in
    let row : get_or (rows_of c.in_ok-groups.groups.items) c.index-end.result.now [] ≡ c.deref.result.now = row_at c.in_ok-groups.groups.items c.index-end.result.now c.index.result.now inside c.index.ensures ∙ sym c.deref.ensures.value in
    let edge = c.in_ok-groups.ensures.sound v c.index-end.result.now (subst (λ r. Contains r v) (sym row) h) in
    rw c.loop-done.invariant.long (c.requires.edges.within v c.index-end.result.now edge).0

pub loop-done-preserved : goal.loop-done-preserved
loop-done-preserved c =
    let low : c.loop-done.done < length c.loop-done.search.found.items = omega arith in
    let e = end_low _ _ _ c.loop-done.search c.loop-done.done c.index-end.result.now c.loop-done.invariant low c.index-end.ensures in
    let inside : c.index-end.result.now < length c.in_ok-groups.groups.items = omega (arith, e, c.in_ok-groups.ensures.long, rows_long c.in_ok-groups.groups.items) in
    let row : get_or (rows_of c.in_ok-groups.groups.items) c.index-end.result.now [] ≡ c.deref.result.now = row_at c.in_ok-groups.groups.items c.index-end.result.now c.index.result.now inside c.index.ensures ∙ sym c.deref.ensures.value in
    let is : c.index-end.result.now ≡ get_or c.loop-done.search.found.items c.loop-done.done 0 = c.index-end.ensures ∙ get_or_default c.loop-done.search.found.items c.loop-done.done c.index-end.result.now 0 low in
    goes_on c.args.count c.args.first.now c.args.edges.now c.loop-done.search c.mark_all-in-loop-done.new.self c.loop-done.done c.deref.result.now c.loop-done.invariant low
    (λ v h. subst (λ w. Contains c.args.edges.now (v, w)) is (c.in_ok-groups.ensures.sound v c.index-end.result.now (subst (λ r. Contains r v) (sym row) h)))
    (λ v h. subst (λ r. Contains r v) row (c.in_ok-groups.ensures.complete v c.index-end.result.now (subst (λ w. Contains c.args.edges.now (v, w)) (sym is) h)))
    c.in_ok-mark_all-2.ensures

pub returns : goal.returns
returns c = ends c.args.count c.args.first.now c.args.edges.now c.loop-done.search c.loop-done.done c.loop-done.invariant (omega arith)
