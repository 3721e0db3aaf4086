use Rattle.std.proofs.Common.{◌++◌, sym, ◌∙◌}
use Rattle.awk_text.specs.definitions.Replacement.{replacement_for}
use Rattle.awk_text.proofs.ReplacementInSteps.{escape_more, byte_more}
use Rattle.awk_text.proofs.replacement.add_replacement.Goals as goal

pub loop-i-preserved-then-is_escaped : goal.loop-i-preserved-then-is_escaped
loop-i-preserved-then-is_escaped c =
    let r = c.args.replacement.now in
    let m = c.args.matched.now in
    let holds = sym c.is_escaped.ensures.value ∙ c.if-is_escaped.true in
    escape_more r m c.loop-i.out.items c.push.new.self.items (c.args.out.now.items ++ replacement_for r m) c.loop-i.i (c.is_escaped.ensures.within c.if-is_escaped.true) holds c.in_ok-push.ensures.items c.loop-i.invariant

pub loop-i-preserved : goal.loop-i-preserved
loop-i-preserved c =
    let r = c.args.replacement.now in
    let m = c.args.matched.now in
    let fails = sym c.is_escaped.ensures.value ∙ c.if-is_escaped.false in
    byte_more r m c.loop-i.out.items c.add_byte.new.out.items (c.args.out.now.items ++ replacement_for r m) c.loop-i.i c.loop-i-test.true fails c.in_ok-add_byte.ensures.added c.loop-i.invariant
