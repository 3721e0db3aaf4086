use Rattle.std.proofs.Common.{inl, inr, refl, sym, ap, ◌∙◌}
use Rattle.awk_grammar.specs.definitions.Height.{max_height}
use Rattle.awk_lex.specs.Told.{kinds_of}
use Rattle.awk_grammar.specs.support.Parser.{BetweenItems, answer}
use Rattle.awk_frames.specs.support.FrameView.{state_of}
use Rattle.awk_syntax.proofs.TokensInTurn.{read_on, read_all, refused_at}
use Rattle.awk_syntax.proofs.WhereStopped.{reached_on, stops_at, stops_behind}
use Rattle.awk_syntax.proofs.read.read.Goals as goal

pub returns-in_default-clause-answered : goal.returns-in_default-clause-answered
returns-in_default-clause-answered c =
    refused_at max_height (state_of c.loop-token.state c.loop-token.stack.items) _ c.args.tokens.now c.loop-token.token-index c.token-item.result
    c.loop-token-test.true c.token-item.is c.loop-token.invariant.read (rw c.in_default.is at (c.in_ok-then.ensures {u = tt}))

pub returns-in_default-clause-stopped : goal.returns-in_default-clause-stopped
returns-in_default-clause-stopped c =
    inl (stops_at c.loop-token.state c.loop-token.stack.items _ c.args.tokens.now c.loop-token.token-index c.token-item.result
    c.loop-token-test.true c.token-item.is c.loop-token.invariant.stands (rw c.in_default.is at (c.in_ok-then.ensures {u = tt})) refl)

pub loop-token-preserved : goal.loop-token-preserved
loop-token-preserved c =
    let is = rw c.in-Some.is at (c.in_ok-then.ensures {u = tt}) in
    record {
      read =
          read_on max_height (state_of c.loop-token.state c.loop-token.stack.items) (state_of c.in-Some.then c.step.new.stack.items) _ c.args.tokens.now c.loop-token.token-index c.token-item.result
          c.loop-token-test.true c.token-item.is c.loop-token.invariant.read is;
      stands =
          reached_on (state_of c.loop-token.state c.loop-token.stack.items) (state_of c.in-Some.then c.step.new.stack.items) c.args.tokens.now c.loop-token.token-index c.token-item.result
          c.loop-token-test.true c.token-item.is c.loop-token.invariant.stands is;
    }

pub loop-token-init : goal.loop-token-init
loop-token-init c =
    let stack = rw (c.new.ensures, c.new-stack.ensures.items) at (c.in_ok-push.ensures {u = tt}) in
    record {
      read = ap (λ k. answer max_height (BetweenItems k) (kinds_of c.args.tokens.now)) stack;
      stands = ap (λ k. BetweenItems k) (sym stack);
    }

pub returns-in-Some-Some-clause-answered : goal.returns-in-Some-Some-clause-answered
returns-in-Some-Some-clause-answered c =
    read_all max_height (state_of c.loop-token.state c.loop-token.stack.items) _ c.args.tokens.now c.loop-token.token-index
    c.loop-token-test.false c.loop-token.invariant.read
    ∙ sym (rw (c.in-Some-Some.is, c.in-Some-Some.field-0-is) at (c.in_ok-checked.ensures {u = tt}))

pub returns-in-Some-None-clause-answered : goal.returns-in-Some-None-clause-answered
returns-in-Some-None-clause-answered c =
    read_all max_height (state_of c.loop-token.state c.loop-token.stack.items) _ c.args.tokens.now c.loop-token.token-index
    c.loop-token-test.false c.loop-token.invariant.read
    ∙ sym (rw (c.in-Some-None.is, c.in-Some-None.field-0-is) at (c.in_ok-checked.ensures {u = tt}))

pub returns-clause-answered : goal.returns-clause-answered
returns-clause-answered c =
    read_all max_height (state_of c.loop-token.state c.loop-token.stack.items) _ c.args.tokens.now c.loop-token.token-index
    c.loop-token-test.false c.loop-token.invariant.read
    ∙ sym (rw c.in-None.is at (c.in_ok-checked.ensures {u = tt}))

pub returns-clause-stopped : goal.returns-clause-stopped
returns-clause-stopped c =
    inr (stops_behind c.loop-token.state c.loop-token.stack.items _ c.args.tokens.now c.loop-token.token-index c.loop-token-test.false c.loop-token.invariant.stands c.last_line.ensures)
