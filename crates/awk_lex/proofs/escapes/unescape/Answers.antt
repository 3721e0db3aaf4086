use Rattle.awk_lex.proofs.EscapesLemmas.{symbol_within, unescaped_more}
use Rattle.awk_lex.proofs.escapes.unescape.Goals as goal

pub loop-place-preserved : goal.loop-place-preserved
loop-place-preserved c =
    let text = c.args.text.now in
    let place = c.loop-place.place in
    let symbol = c.in-Some.symbol in
    record {
      within = symbol_within text place symbol.behind c.loop-place-test.true c.in-Some.ensures.within;
      whole = unescaped_more text c.loop-place.into.items c.push.new.self.items _ place symbol c.loop-place-test.true c.in-Some.ensures.is c.in_ok-push.ensures.items c.loop-place.invariant.whole;
    }
