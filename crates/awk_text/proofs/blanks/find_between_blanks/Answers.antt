use Rattle.std.proofs.Common.{◌≡◌, ◌<◌, ◌≤◌, ◌+◌, refl, subst, ◌∙◌, length, drop, arith}
use Rattle.std.specs.Prelude.{min}
use Rattle.awk_text.specs.definitions.Pieces.{blank_pieces}
use Rattle.awk_text.specs.declared.span.Span.{Span}
use Rattle.awk_text.specs.support.MarksLeft.{AreTurnsLeft, IsNextPlace, is_turn}
use Rattle.awk_text.proofs.TurnMarks.{behind_first}
use Rattle.awk_text.proofs.BlankFields.{no_field_behind, field_between, behind_field, left_on}
use Rattle.awk_text.proofs.NextPiece.{blank_pieces-past}
use Rattle.awk_text.proofs.PiecesFound.{pieces_more, pieces_ended, spans_more}
use Rattle.awk_text.proofs.blanks.find_between_blanks.Goals as goal

pub loop-turns-init : goal.loop-turns-init
loop-turns-init c =
    let text = c.args.text.now in
    let rest = c.args.rest.now in
    let here : rest ≡ min rest (length text) = omega arith in
    record {
      within = λ all. all;
      pieces = refl;
      further = omega arith;
      behind = λ lt. behind_first text rest;
      turns = subst (λ k. AreTurnsLeft text rest k c.behind-turns.result) here (c.behind-turns.ensures text (omega arith));
    }

pub returns-then-start-text-clause-pieces : goal.returns-then-start-text-clause-pieces
returns-then-start-text-clause-pieces c = λ n.
    let text = c.args.text.now in
    let first = c.args.rest.now in
    let rest = c.loop-turns.rest in
    let before = c.loop-turns.invariant in
    let ends : c.next-start.result ≡ length text = c.if-start-text.true in
    let starts = subst (λ k. IsNextPlace (is_turn text first) (length text) (min rest (length text)) k) ends (c.next-start.ensures.next first (min rest (length text)) before.turns) in
    pieces_ended text c.loop-turns.spans.items (blank_pieces (drop rest text)) _ _
    (no_field_behind text first rest before.behind before.further starts ∙ blank_pieces-past text (length text) (omega arith))
    (blank_pieces-past text (length text + 1) (omega arith)) before.pieces

pub loop-turns-preserved : goal.loop-turns-preserved
loop-turns-preserved c =
    let text = c.args.text.now in
    let first = c.args.rest.now in
    let rest = c.loop-turns.rest in
    let start = c.next-start.result in
    let end = c.next-end.result in
    let here = min rest (length text) in
    let old = c.loop-turns.spans.items in
    let new = c.push.new.self.items in
    let span : Span = record { start = start; end = end } in
    let added = c.in_ok-push.ensures.items in
    let before = c.loop-turns.invariant in
    let starts : IsNextPlace (is_turn text first) (length text) here start = c.next-start.ensures.next first here before.turns in
    let inside : start < length text = omega (arith, starts.within, c.if-start-text.false) in
    let left : AreTurnsLeft text first (start + 1) c.next-start.new.self = c.next-start.ensures.left first here before.turns inside in
    let ends : IsNextPlace (is_turn text first) (length text) (start + 1) end = c.next-end.ensures.next first (start + 1) left in
    let order : start + 1 ≤ end = ends.high in
    let within : end ≤ length text = ends.within in
    let low : here ≤ start = starts.high in
    let further : first ≤ rest = before.further in
    record {
      within = λ all. spans_more text old new span added (omega arith, within) (before.within all);
      pieces = pieces_more text old new span (blank_pieces (drop rest text)) (blank_pieces (drop (end + 1) text)) _ added (field_between text first rest start end further inside before.behind starts ends) before.pieces;
      further = omega arith;
      behind = behind_field text first rest start end further inside before.behind starts ends;
      turns = left_on text first end c.next-end.new.self within (c.next-end.ensures.left first (start + 1) left) (c.next-end.ensures.end first (start + 1) left);
    }
