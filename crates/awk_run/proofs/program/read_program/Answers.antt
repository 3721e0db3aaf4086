use Rattle.std.proofs.lemmas.Result.{err_from_is_err_and}
use Rattle.awk_lex.specs.Told.{kinds_of}
use Rattle.awk_grammar.specs.View.{tree_of}
use Rattle.awk_run.proofs.Accepted.{spelled, none_fits, none_read, resolving_refused, lexing_refused, parsing_refused}
use Rattle.awk_run.proofs.program.read_program.Goals as goal

pub returns-in_err-tokens-clause-cause : goal.returns-in_err-tokens-clause-cause
returns-in_err-tokens-clause-cause c =
    let p = err_from_is_err_and c.from_residual.result c.from_residual.ensures.1 in
    rw (p.1, p.2) (lexing_refused c.in_err-tokens.field-0.0 c.args.text.now c.in_err-tokens.ensures.refused)

pub returns-in_err-tokens-clause-refused : goal.returns-in_err-tokens-clause-refused
returns-in_err-tokens-clause-refused c =
    let p = err_from_is_err_and c.from_residual.result c.from_residual.ensures.1 in
    rw (p.1, p.2) (λ other items a. other (c.in_err-tokens.ensures.only a.tokens a.spelled.has.lexes a.spelled.has.short))

pub returns-in_err-tree-clause-cause : goal.returns-in_err-tree-clause-cause
returns-in_err-tree-clause-cause c =
    let p = err_from_is_err_and c.from_residual-in_err-tree.result c.from_residual-in_err-tree.ensures.1 in
    rw (p.1, p.2) (parsing_refused c.in_err-tree.field-0.0 c.args.text.now c.deref.result.now c.in_ok-tokens.ensures.short (rw (← c.deref.ensures.value) at (c.in_ok-tokens.ensures.found)) c.in_err-tree.ensures.refused)

pub returns-in_err-tree-clause-refused : goal.returns-in_err-tree-clause-refused
returns-in_err-tree-clause-refused c =
    let p = err_from_is_err_and c.from_residual-in_err-tree.result c.from_residual-in_err-tree.ensures.1 in
    rw (p.1, p.2) (λ other items a. other (none_read c.in_err-tree.field-0.0 c.args.text.now (kinds_of c.deref.result.now) (rw (← c.deref.ensures.value) at (c.in_ok-tokens.ensures.only)) c.in_err-tree.ensures.only items a))

pub returns-in_err-plan-clause-cause : goal.returns-in_err-plan-clause-cause
returns-in_err-plan-clause-cause c =
    let p = err_from_is_err_and c.from_residual-in_err-plan.result c.from_residual-in_err-plan.ensures.1 in
    let lexes = rw (← c.deref.ensures.value) at (c.in_ok-tokens.ensures.found) in
    let s = spelled c.args.text.now (kinds_of c.deref.result.now) (tree_of c.in_ok-tree.tree) c.in_ok-tokens.ensures.short lexes c.in_ok-tree.ensures.found c.in_ok-tree.ensures.readable in
    rw (p.1, p.2) (resolving_refused c.in_err-plan.field-0.0 c.args.text.now _ _ s c.in_err-plan.ensures)

pub returns-in_err-plan-clause-refused : goal.returns-in_err-plan-clause-refused
returns-in_err-plan-clause-refused c =
    let p = err_from_is_err_and c.from_residual-in_err-plan.result c.from_residual-in_err-plan.ensures.1 in
    rw (p.1, p.2) (λ other items a. other (none_fits c.law_of_refusals.ensures c.in_err-plan.field-0.0 c.args.text.now (kinds_of c.deref.result.now) c.in_ok-tree.tree (rw (← c.deref.ensures.value) at (c.in_ok-tokens.ensures.only)) c.in_ok-tree.ensures.only c.in_err-plan.ensures items a))

pub returns-clause-program : goal.returns-clause-program
returns-clause-program c =
    let lexes = rw (← c.deref.ensures.value) at (c.in_ok-tokens.ensures.found) in
    let s = spelled c.args.text.now (kinds_of c.deref.result.now) (tree_of c.in_ok-tree.tree) c.in_ok-tokens.ensures.short lexes c.in_ok-tree.ensures.found c.in_ok-tree.ensures.readable in
    let fits = (c.law_of_refusals.ensures (tree_of c.in_ok-tree.tree)).fits c.in_ok-plan.ensures.0 in (
      tree_of c.in_ok-tree.tree,
      record { tokens = kinds_of c.deref.result.now; spelled = s; fits = fits },
      record { is = record { is = c.in_ok-plan.ensures.1; fits = fits; named = c.in_ok-plan.ensures.2 } },
    )
