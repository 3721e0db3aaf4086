use Rattle.std.proofs.Common.{◌≡◌, ◌++◌, List, ℕ, Err, ap, ◌∙◌, subst}
use Rattle.std.proofs.lemmas.Result.{err_from_is_err_and}
use Rattle.awk_streams.specs.definitions.Outputs.{WritesAll}
use Rattle.awk_streams.proofs.BufferedLemmas.{holds_all, writes_held, writes_both}
use Rattle.awk_streams.proofs.output.OutputBuffer.print.Goals as goal

pub returns-then-hold-clause-told : goal.returns-then-hold-clause-told
returns-then-hold-clause-told g c = λ t.
    holds_all c.args.id c.args.self.now c.args.bytes.now _ (g.W.World.state c.args.world.now) _ (c.if-hold.ensures ∙ ap (λ (held : List ℕ). held ++ c.args.bytes.now) c.self.view_is)

pub returns-in_err-write_held-clause-told : goal.returns-in_err-write_held-clause-told
returns-in_err-write_held-clause-told g c = λ t.
    let before = g.W.World.state c.args.world.now in
    let mid = g.W.World.state c.write_held.new.world in
    let p = err_from_is_err_and c.from_residual.result c.from_residual.ensures.1 in
    let same : c.hold.new.held.items ≡ c.args.self.now = c.if-hold.ensures ∙ c.self.view_is in
    let told = subst (λ (held : List ℕ). WritesAll c.args.id held before (Err c.in_err-write_held.field-0.0) mid) same (c.in_err-write_held.ensures.told t) in
    rw (p.1, p.2) (writes_held c.args.id c.args.self.now c.args.bytes.now _ before mid (Err c.in_err-write_held.field-0.0) tt c.in_err-write_held.ensures.empty told)

pub returns-clause-told : goal.returns-clause-told
returns-clause-told g c = λ t.
    let before = g.W.World.state c.args.world.now in
    let mid = g.W.World.state c.write_held.new.world in
    let same : c.hold.new.held.items ≡ c.args.self.now = c.if-hold.ensures ∙ c.self.view_is in
    let first = subst (λ (held : List ℕ). WritesAll c.args.id held before _ mid) same (c.in_ok-write_held.ensures.told t) in
    writes_both c.args.id c.args.self.now c.args.bytes.now _ before mid (g.W.World.state c.write_all.new.world) _ c.write_all.result (c.if-hold-2.ensures ∙ c.write_held.ensures.empty) first (c.write_all.ensures.told t)
