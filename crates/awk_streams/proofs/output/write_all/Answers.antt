use Rattle.std.proofs.Common.{◌≡◌, ◌<◌, ℕ, ◌-◌, List, ◌∷◌, length, take, drop, Some, ap, refl, subst, ◌∙◌, arith, []}
use Rattle.std.proofs.lemmas.List.{take_rest, length-drop}
use Rattle.awk_world.specs.definitions.Log.{Wrote, Noted, DidNot, logged, failures_after, taken_or_none}
use Rattle.awk_world.specs.declared.world.WorldFault.TheVariants.{Failed}
use Rattle.awk_streams.specs.declared.fault.StreamFault.TheVariants.{WriteFailed}
use Rattle.awk_world.specs.definitions.WorldState.{Logs}
use Rattle.awk_streams.proofs.WritingLemmas.{writes_done, writes_failed}
use Rattle.awk_world.specs.definitions.Writes.{GoesOn, Writes}
use Rattle.awk_streams.proofs.WritesLemmas.{taken-some, taken-none, GoesOn-write, take_on}
use Rattle.awk_streams.proofs.GrowsLemmas.{Grows-then, logs_grow, Grows-self}
use Rattle.awk_streams.proofs.output.write_all.Goals as goal

pub loop-done-preserved : goal.loop-done-preserved
loop-done-preserved g c =
    let bytes = c.args.bytes.now in
    let done = c.loop-done.done in
    let n = c.in-Ok.n in
    let left = take (length bytes - done) (drop done bytes) in
    let some : 0 < n = omega (arith, c.in-Ok.n-test) in
    let room : length left ≡ length bytes - done = ap length (take_rest bytes done) ∙ length-drop done bytes in
    let took = taken-some c.args.id n left some (omega (arith, room, c.loop-done-test.true)) in
    let old = (g.W.World.state c.args.world.now).log in
    let mid = (g.W.World.state c.loop-done.world).log in
    let new = (g.W.World.state c.write.new.self).log in
    record {
      within = omega (arith, room, c.in-Ok.ensures.count);
      same_open = λ j. c.in-Ok.ensures.open j ∙ c.loop-done.invariant.same_open j;
      log = λ t.
          let is : new ≡ Wrote c.args.id (take n left) ∷ mid = (c.in-Ok.ensures.logs t).0 ∙ ap (λ e. logged e mid) took in
          subst (λ (b : List ℕ). GoesOn (Writes c.args.id b) old new) (take_on bytes done n) (GoesOn-write c.args.id (take done bytes) (take n left) old mid new (c.loop-done.invariant.log t) is);
      no_failure = λ t. (c.in-Ok.ensures.logs t).1 ∙ (ap (λ e. failures_after e mid (g.W.World.state c.loop-done.world).failures) took ∙ c.loop-done.invariant.no_failure t);
      grows = λ t. Grows-then (c.loop-done.invariant.grows t) (logs_grow _ (g.W.World.state c.loop-done.world) (g.W.World.state c.write.new.self) (c.in-Ok.ensures.logs t));
    }

pub returns-clause-told : goal.returns-clause-told
returns-clause-told g c = λ t.
    let all : c.loop-done.done ≡ length c.args.bytes.now = omega (arith, c.loop-done-test.false, c.loop-done.invariant.within) in
    writes_done c.args.id c.args.bytes.now c.loop-done.done (g.W.World.state c.args.world.now) (g.W.World.state c.loop-done.world) tt all (c.loop-done.invariant.log t) (c.loop-done.invariant.no_failure t) (c.loop-done.invariant.grows t)

-- what takes no byte of some is a failure
pub returns-in-Ok-eq0-clause-told : goal.returns-in-Ok-eq0-clause-told
returns-in-Ok-eq0-clause-told g c = λ t.
    let bytes = c.args.bytes.now in
    let left = take (length bytes - c.loop-done.done) (drop c.loop-done.done bytes) in
    let room : length left ≡ length bytes - c.loop-done.done = ap length (take_rest bytes c.loop-done.done) ∙ length-drop c.loop-done.done bytes in
    let none : taken_or_none c.args.id c.in-Ok-eq0.field-0 left ≡ DidNot (Some c.args.id) Failed = taken-none c.args.id c.in-Ok-eq0.field-0 left (omega (arith, c.in-Ok-eq0.field-0-test)) (omega (arith, room, c.loop-done-test.true)) in
    let mid = g.W.World.state c.loop-done.world in
    let after = g.W.World.state c.write.new.self in
    writes_failed c.args.id bytes c.loop-done.done (g.W.World.state c.args.world.now) mid after WriteFailed Failed refl c.loop-done.invariant.within (c.loop-done.invariant.log t) (c.loop-done.invariant.no_failure t) (c.loop-done.invariant.grows t)
    (subst (λ (e : Noted). Logs e mid after) none (c.in-Ok-eq0.ensures.logs t))

pub returns-in-Err-clause-told : goal.returns-in-Err-clause-told
returns-in-Err-clause-told g c = λ t.
    writes_failed c.args.id c.args.bytes.now c.loop-done.done (g.W.World.state c.args.world.now) (g.W.World.state c.loop-done.world) (g.W.World.state c.write.new.self) _ c.in-Err.fault c.output_fault.ensures c.loop-done.invariant.within (c.loop-done.invariant.log t) (c.loop-done.invariant.no_failure t) (c.loop-done.invariant.grows t)
    (c.in-Err.ensures.logs t)

pub loop-done-init : goal.loop-done-init
loop-done-init g c = record {
  within = omega arith;
  same_open = λ j. refl;
  log = λ t. record { events = []; log = refl; each = refl };
  no_failure = λ t. refl;
  grows = λ t. Grows-self (g.W.World.state c.args.world.now);
}
