use Rattle.std.proofs.Common.{◌≡◌, ◌≤◌, ◌+◌, false, sym, ap, ◌∙◌, subst, refl, inr, arith, rules, length}
use mir.Val.{bool_byte}
use Rattle.std.specs.Prelude.{All}
use Rattle.std.proofs.lemmas.List.{map_push}
use Rattle.std.proofs.lemmas.List.Elements.{All-push}
use Rattle.awk_lex.specs.definitions.Told.{kinds_of, StandsAt, InTurn}
use Rattle.awk_lex.specs.declared.token.Token.{Token}
use Rattle.awk_lex.proofs.Progress.{IsRead, lexeme_there, gap_takes, token_takes, none_read, after_gap, after_token, all_read}
use Rattle.awk_lex.proofs.Lines.{gap_line, token_line}
use Rattle.awk_lex.proofs.Places.{stands_at, none_between, further, one_more, fault_stands}
use Rattle.awk_lex.proofs.lexer.read_tokens.Goals as goal

pub loop-at-init : goal.loop-at-init
loop-at-init c =
    let empty = sym c.new-tokens.ensures.items in
    record {
      within = omega arith;
      few = omega arith;
      line = refl;
      read = subst (λ items. IsRead (kinds_of items) false c.args.text.now 0) empty (none_read c.args.text.now);
      placed = subst (All (StandsAt c.args.text.now)) empty (search rules);
      in_turn = subst (λ items. InTurn c.args.text.now 0 items 0) empty (none_between c.args.text.now 0);
      stretches = search rules;
    }

pub loop-at-preserved-in-Gap : goal.loop-at-preserved-in-Gap
loop-at-preserved-in-Gap c =
    let there = lexeme_there c.in_ok-shared.shared c.args.text.now c.loop-at.at c.loop-at.divides c.in_ok-len.field-0 _ c.in_ok-shared.ensures c.in_ok-len.ensures c.in-Gap.is in
    let t = gap_takes c.loop-at.divides c.args.text.now c.loop-at.at c.in-Gap.len c.loop-at-test.true there in
    record {
      within = t.1;
      few = search rules;
      line = gap_line c.loop-at.divides c.args.text.now c.loop-at.at c.in-Gap.len c.loop-at.line c.from-hidden.result there c.loop-at.invariant.line c.from-hidden.ensures;
      read = after_gap (kinds_of c.loop-at.tokens.items) c.loop-at.divides c.args.text.now c.loop-at.at c.in-Gap.len c.loop-at.invariant.read there;
      placed = c.loop-at.invariant.placed;
      in_turn = further c.loop-at.divides c.args.text.now 0 c.loop-at.tokens.items c.loop-at.at c.in-Gap.len c.loop-at.invariant.in_turn there;
      stretches = c.loop-at.invariant.stretches;
    }

pub overflow_add-at : goal.overflow_add-at
overflow_add-at c =
    let there = lexeme_there c.in_ok-shared.shared c.args.text.now c.loop-at.at c.loop-at.divides c.in_ok-len.field-0 _ c.in_ok-shared.ensures c.in_ok-len.ensures c.in-Gap.is in
    let t = gap_takes c.loop-at.divides c.args.text.now c.loop-at.at c.in-Gap.len c.loop-at-test.true there in
    omega arith

pub loop-at-smaller-in-Gap : goal.loop-at-smaller-in-Gap
loop-at-smaller-in-Gap c =
    let there = lexeme_there c.in_ok-shared.shared c.args.text.now c.loop-at.at c.loop-at.divides c.in_ok-len.field-0 _ c.in_ok-shared.ensures c.in_ok-len.ensures c.in-Gap.is in
    let t = gap_takes c.loop-at.divides c.args.text.now c.loop-at.at c.in-Gap.len c.loop-at-test.true there in
    omega arith

pub overflow_add-end : goal.overflow_add-end
overflow_add-end c =
    let there = lexeme_there c.in_ok-shared.shared c.args.text.now c.loop-at.at c.loop-at.divides c.in_ok-len.field-0 _ c.in_ok-shared.ensures c.in_ok-len.ensures c.in-Token.is in
    let t = token_takes c.loop-at.divides c.args.text.now c.loop-at.at c.in-Token.kind c.in-Token.len c.loop-at-test.true there in
    omega arith

pub loop-at-smaller : goal.loop-at-smaller
loop-at-smaller c =
    let there = lexeme_there c.in_ok-shared.shared c.args.text.now c.loop-at.at c.loop-at.divides c.in_ok-len.field-0 _ c.in_ok-shared.ensures c.in_ok-len.ensures c.in-Token.is in
    let t = token_takes c.loop-at.divides c.args.text.now c.loop-at.at c.in-Token.kind c.in-Token.len c.loop-at-test.true there in
    omega arith

pub loop-at-preserved : goal.loop-at-preserved
loop-at-preserved c =
    let there = lexeme_there c.in_ok-shared.shared c.args.text.now c.loop-at.at c.loop-at.divides c.in_ok-len.field-0 _ c.in_ok-shared.ensures c.in_ok-len.ensures c.in-Token.is in
    let t = token_takes c.loop-at.divides c.args.text.now c.loop-at.at c.in-Token.kind c.in-Token.len c.loop-at-test.true there in
    let pushed = c.in_ok-push-in-Token.ensures.items in
    let kinds = ap kinds_of pushed ∙ map_push (λ token. token.kind) c.loop-at.tokens.items _ in
    let end = c.loop-at.at + c.in-Token.len in
    let token : Token = record { kind = c.in-Token.kind; line = c.loop-at.line; start = c.loop-at.at; end = end } in
    let Inside : Token → Type 0 = λ token. (token.start ≤ token.end) × (token.end ≤ length c.args.text.now) in
    record {
      within = t.1;
      few = search rules;
      line =
          token_line c.loop-at.divides c.args.text.now c.loop-at.at c.in-Token.len c.loop-at.line c.from-newlines.result c.in-Token.kind there
          c.loop-at.invariant.line (c.from-newlines.ensures ∙ ap bool_byte c.is_newline.ensures);
      read =
          subst (λ kinds. IsRead kinds c.divides_after-divides.result c.args.text.now end) (sym kinds)
          (after_token (kinds_of c.loop-at.tokens.items) c.loop-at.divides c.divides_after-divides.result c.args.text.now c.loop-at.at c.in-Token.len c.in-Token.kind
          c.loop-at.invariant.read there c.divides_after-divides.ensures);
      placed =
          subst (All (StandsAt c.args.text.now)) (sym pushed) (All-push (StandsAt c.args.text.now) c.loop-at.tokens.items token c.loop-at.invariant.placed
          (stands_at c.loop-at.divides c.args.text.now c.loop-at.at c.in-Token.len c.loop-at.line c.in-Token.kind c.loop-at.invariant.line there));
      in_turn =
          subst (λ items. InTurn c.args.text.now 0 items end) (sym pushed)
          (one_more c.args.text.now 0 c.loop-at.tokens.items token c.loop-at.invariant.in_turn (omega arith));
      stretches =
          subst (All Inside) (sym pushed) (All-push Inside c.loop-at.tokens.items token c.loop-at.invariant.stretches (omega arith, t.1));
    }

pub returns-in-Fault-clause-fault : goal.returns-in-Fault-clause-fault
returns-in-Fault-clause-fault c =
    let there = lexeme_there c.in_ok-shared.shared c.args.text.now c.loop-at.at c.loop-at.divides c.in_ok-len.field-0 _ c.in_ok-shared.ensures c.in_ok-len.ensures c.in-Fault.is in
    inr (fault_stands (kinds_of c.loop-at.tokens.items) c.loop-at.divides c.args.text.now c.loop-at.at _ c.in-Fault.code c.loop-at-test.true c.loop-at.invariant.read there refl
    c.loop-at.invariant.line)

pub returns-clause-whole : goal.returns-clause-whole
returns-clause-whole c =
    let end : c.loop-at.at ≡ length c.args.text.now = omega arith in
    record {
      lexes = all_read (kinds_of c.loop-at.tokens.items) c.loop-at.divides c.args.text.now c.loop-at.at c.loop-at-test.false c.loop-at.invariant.read;
      in_turn = subst (InTurn c.args.text.now 0 c.loop-at.tokens.items) end c.loop-at.invariant.in_turn;
      within = c.loop-at.invariant.stretches;
      placed = c.loop-at.invariant.placed;
    }
