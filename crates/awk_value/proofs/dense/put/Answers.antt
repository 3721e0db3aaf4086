use Rattle.std.proofs.Common.{◌≤◌, ◌<◌, ◌∷◌, [], ◌++◌, sym, pos, length, subst, arith}
use Rattle.std.specs.Prelude.{slice_set, IsPermutation}
use Rattle.awk_value.specs.declared.entry.Entry.{Entry}
use Rattle.awk_value.specs.support.DenseKeys.{numbered}
use Rattle.awk_value.proofs.Places.{put-over, put-behind}
use Rattle.awk_value.proofs.dense.put.Goals as goal

pub returns-then-place-len-clause-added : goal.returns-then-place-len-clause-added
returns-then-place-len-clause-added c =
    let es = c.args.entries.now.items in
    let place = c.args.place in
    let within : place < length es = omega (arith, c.len.ensures, c.if-place-len.true) in
    subst (λ (e : Entry). IsPermutation (numbered 0 es ++ (pos place, c.args.entry) ∷ []) (numbered 0 (slice_set es place e))) (sym c.replace.ensures.after)
    (put-over es place c.index_mut.result.now c.args.entry c.requires.new within c.index_mut.ensures.value c.requires.kept)

pub returns-in_ok-push-clause-added : goal.returns-in_ok-push-clause-added
returns-in_ok-push-clause-added c =
    let es = c.args.entries.now.items in
    let place = c.args.place in
    let high : length es ≤ place = omega (arith, c.len.ensures, c.if-place-len.false) in
    let near : place ≤ length es = omega (arith, c.requires.near, c.args.entries.now.ok) in
    rw c.in_ok-push.ensures.items (put-behind es place c.args.entry near high c.requires.kept)
