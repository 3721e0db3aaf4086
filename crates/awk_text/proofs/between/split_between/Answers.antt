use Rattle.std.proofs.Common.{◌++◌, false, sym, ap, subst, ◌∙◌, arith}
use Rattle.std.proofs.lemmas.List.Elements.{All-nil}
use Rattle.awk_text.specs.definitions.Fields.{ere_pieces_from}
use Rattle.awk_text.specs.definitions.Pieces.{stretches_at, IsSpanOf, AreSpansOf}
use Rattle.awk_text.specs.definitions.Separators.{ere}
use Rattle.awk_text.proofs.NextField.{pieces_from-front}
use Rattle.awk_text.proofs.PiecesFound.{pieces_more, spans_more}
use Rattle.awk_text.proofs.between.split_between.Goals as goal

pub loop-found-init : goal.loop-found-init
loop-found-init c =
    let text = c.args.text.now in
    let none = c.clear.ensures.items in
    record {
      bounded = omega arith;
      within = subst (AreSpansOf text) (sym none) (All-nil (IsSpanOf text));
      same = c.requires;
      failures = c.for_pattern-failures.ensures text;
      pieces = λ t means. ap (λ spans. stretches_at text spans ++ ere_pieces_from t text 0) none ∙ pieces_from-front (ere t) false text;
    }

pub loop-found-preserved : goal.loop-found-preserved
loop-found-preserved c =
    let text = c.args.text.now in
    let found = c.in-Some.found in
    let further = c.in-Some.ensures.further in
    let pushed = c.in_ok-push.ensures.items in
    let before = c.loop-found.invariant in
    record {
      bounded = further.2;
      within = spans_more text c.loop-found.spans.items c.push.new.self.items found.span pushed further.0 before.within;
      same = c.next_between.ensures.same;
      failures = c.next_between.ensures.failures;
      pieces = λ t means. pieces_more text c.loop-found.spans.items c.push.new.self.items found.span (ere_pieces_from t text c.loop-found.from) (ere_pieces_from t text found.rest) _ pushed (c.in-Some.ensures.piece t means) (before.pieces t means);
    }
