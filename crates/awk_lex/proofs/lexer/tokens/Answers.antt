use Rattle.std.proofs.Common.{inr}
use Rattle.awk_lex.proofs.Answered.{too_long_only, answer}
use Rattle.awk_lex.proofs.lexer.tokens.Goals as goal

pub returns-then-text-gt-LIMIT-clause-broken : goal.returns-then-text-gt-LIMIT-clause-broken
returns-then-text-gt-LIMIT-clause-broken c = λ code refused. inr (too_long_only code c.args.text.now c.if-text-gt-LIMIT.true refused)

pub returns : goal.returns
returns c =
    let a = answer c.args.text.now c.read_tokens.result c.if-text-gt-LIMIT.false c.read_tokens.ensures.whole c.read_tokens.ensures.fault in
    record {
      found = a.found;
      short = a.short;
      in_turn = a.in_turn;
      within = a.within;
      placed = a.placed;
      only = a.only;
      refused = a.refused;
      broken = a.broken;
      fault_line = a.fault_line;
      first_line = a.first_line;
    }
