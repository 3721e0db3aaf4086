use Rattle.std.proofs.lemmas.Grind.{common_steps}
use Rattle.std.proofs.Common.{rules, ◌≡◌, get_or, sym, ◌∙◌, arith}
use Rattle.awk_ere.proofs.BracketValue.{token_bracket}
use Rattle.awk_ere.proofs.reading.lexer.token_at.Goals as goal

pub returns-in-91-clause-set : goal.returns-in-91-clause-set
returns-in-91-clause-set c =
    let front : get_or c.args.bytes.now 0 0 ≡ 91 = search rules in
    λ k rest e. c.bracket_at.ensures.set k rest (sym (token_bracket c.args.bytes.now c.in-91.len_at_least front) ∙ e)

pub returns-in-92-clause-found : goal.returns-in-92-clause-found
returns-in-92-clause-found c = grind (arith, common_steps)
