use Rattle.std.proofs.Common.{◌≡◌, ◌+◌, ◌<◌, ◌++◌, List, [], ◌∷◌, ap, arith, length, length-append}
use Rattle.awk_text.specs.declared.part.Part.{Part}
use Rattle.awk_text.proofs.ReadingLemmas.{one_more, all_read, has_bytes}
use Rattle.awk_text.proofs.prepared.Format.read.Goals as goal

one_longer : (done more : List Part) (part : Part) → more ≡ done ++ part ∷ [] → length more ≡ length done + 1
one_longer done more part added = omega (arith, ap length added, length-append done (part ∷ []))

pub loop-rest-preserved : goal.loop-rest-preserved
loop-rest-preserved c =
    let full : 0 < length c.loop-rest.rest.now = has_bytes _ c.loop-rest-test.ensures in
    let longer = one_longer c.loop-rest.parts.items c.push.new.self.items c.in_ok-part.part c.in_ok-push.ensures.items in
    let short : length c.in_ok-part.behind.now < length c.loop-rest.rest.now = c.in_ok-part.ensures.short in
    record {
      fits = omega (arith, longer, short, c.loop-rest.invariant.fits);
      parts = one_more _ c.loop-rest.parts.items c.push.new.self.items _ c.in_ok-part.part c.loop-rest.rest.now c.in_ok-part.behind.now c.loop-rest.invariant.fits full c.in_ok-part.ensures.part c.in_ok-push.ensures.items c.loop-rest.invariant.parts;
    }

pub returns-clause-parts : goal.returns-clause-parts
returns-clause-parts c = all_read _ _ _ c.loop-rest.rest.now c.loop-rest-test.ensures c.loop-rest.invariant.parts
