use Rattle.std.proofs.Common.{◌≡◌, ◌++◌, ◌∷◌, [], map, rules, ap, ◌∙◌}
use Rattle.std.specs.Fmt.{signed_decimal}
use Rattle.std.proofs.lemmas.Map.Iter.{iter_end}
use Rattle.awk_value.proofs.Rows.{one_more, of_all}
use Rattle.awk_value.proofs.walk.list_sparse.Goals as goal

pub loop-key-preserved : goal.loop-key-preserved
loop-key-preserved c =
    let text : c.as_bytes.result.now ≡ signed_decimal c.in-Some.key.now = search rules in
    one_more (λ k. (k.1.now.stamp, signed_decimal k.0.now)) c.add.new.self c.loop-key.rows c.args.rows.now c.loop-key.yielded (c.in-Some.key, c.in-Some.entry)
    c.loop-key.invariant
    (c.in_ok-add.ensures ∙ ap (λ t. c.loop-key.rows ++ (c.in-Some.entry.now.stamp, t) ∷ []) text)

pub returns : goal.returns
returns c =
    let es = c.args.entries.now.entries in
    let e : map (λ k. (k.0.now, k.1.now)) c.loop-key.yielded ≡ es = search (rules, iter_end) in
    of_all (λ e. (e.1.stamp, signed_decimal e.0)) (λ k. (k.0.now, k.1.now)) c.loop-key.rows c.args.rows.now c.loop-key.yielded es c.loop-key.invariant e
