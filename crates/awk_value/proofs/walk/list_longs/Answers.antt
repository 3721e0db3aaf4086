use Rattle.std.proofs.Common.{◌≡◌, ◌++◌, ◌∷◌, [], map, rules, ap, ◌∙◌}
use Rattle.std.proofs.lemmas.Map.Iter.{iter_end}
use Rattle.awk_value.proofs.Rows.{one_more, of_all}
use Rattle.awk_value.proofs.walk.list_longs.Goals as goal

pub loop-key-preserved : goal.loop-key-preserved
loop-key-preserved c =
    let text = c.as_slice.ensures.value in
    one_more (λ k. (k.1.now.stamp, k.0.now.items)) c.add.new.self c.loop-key.rows c.args.rows.now c.loop-key.yielded (c.in-Some.key, c.in-Some.entry)
    c.loop-key.invariant
    (c.in_ok-add.ensures ∙ ap (λ t. c.loop-key.rows ++ (c.in-Some.entry.now.stamp, t) ∷ []) text)

pub returns : goal.returns
returns c =
    let es = c.args.entries.now.entries in
    let e : map (λ k. (k.0.now, k.1.now)) c.loop-key.yielded ≡ es = search (rules, iter_end) in
    of_all (λ e. (e.1.stamp, e.0.items)) (λ k. (k.0.now, k.1.now)) c.loop-key.rows c.args.rows.now c.loop-key.yielded es c.loop-key.invariant e
