use Rattle.std.proofs.lemmas.Result.{err_from_is_err_and}
use Rattle.std.proofs.Common.{Ok, Err, ◌≤◌, arith}
use Rattle.awk_lex.specs.Told.{kinds_of}
use Rattle.awk_grammar.specs.Height.{max_height}
use Rattle.awk_grammar.specs.View.{tree_of}
use Rattle.awk_syntax.proofs.AnswersJustified.{found, only, refused, pattern_only, pattern_refused}
use Rattle.awk_syntax.proofs.WhereRefused.{tells_line, pattern_line}
use Rattle.awk_syntax.proofs.parsing.parse.Goals as goal

-- the limit is one that the law takes
enough : 3 ≤ max_height
enough = omega arith

pub returns-clause-found : goal.returns-clause-found
returns-clause-found c =
    let ts = kinds_of c.args.tokens.now in
    found ts c.in_ok-tree.tree _ c.in_ok-tree.ensures.answered (c.parser_law.ensures.says max_height ts enough)

pub returns-clause-only : goal.returns-clause-only
returns-clause-only c = λ xs low readable.
    let ts = kinds_of c.args.tokens.now in
    only ts (Ok c.in_ok-tree.tree) _ c.in_ok-tree.ensures.answered (λ ys. c.parser_law.ensures.reads max_height ts ys enough) xs low

pub returns-in_err-tree-clause-only : goal.returns-in_err-tree-clause-only
returns-in_err-tree-clause-only c =
    let p = err_from_is_err_and c.from_residual.result c.from_residual.ensures.1 in
    let ts = kinds_of c.args.tokens.now in
    rw (p.1, p.2) (λ xs low readable. only ts (Err c.in_err-tree.field-0.0) _ c.in_err-tree.ensures.answered (λ ys. c.parser_law.ensures.reads max_height ts ys enough) xs low)

pub returns-in_err-tree-clause-refused : goal.returns-in_err-tree-clause-refused
returns-in_err-tree-clause-refused c =
    let p = err_from_is_err_and c.from_residual.result c.from_residual.ensures.1 in
    let r = c.in_err-tree.field-0.0 in
    rw (p.1, p.2) (refused r.code r.line c.args.tokens.now _ c.in_err-tree.ensures.answered (c.parser_law.ensures.says max_height (kinds_of c.args.tokens.now) enough))

pub returns-in_err-check_patterns-clause-only : goal.returns-in_err-check_patterns-clause-only
returns-in_err-check_patterns-clause-only c =
    let p = err_from_is_err_and c.from_residual-in_err-check_patterns.result c.from_residual-in_err-check_patterns.ensures.1 in
    rw (p.1, p.2) (λ xs low readable. pattern_only c.in_err-check_patterns.field-0.0 c.args.tokens.now c.in_err-check_patterns.ensures.refused readable)

pub returns-in_err-check_patterns-clause-refused : goal.returns-in_err-check_patterns-clause-refused
returns-in_err-check_patterns-clause-refused c =
    let p = err_from_is_err_and c.from_residual-in_err-check_patterns.result c.from_residual-in_err-check_patterns.ensures.1 in
    let ts = kinds_of c.args.tokens.now in
    rw (p.1, p.2) (pattern_refused c.in_err-check_patterns.field-0.0 c.args.tokens.now (tree_of c.in_ok-tree.tree) (found ts c.in_ok-tree.tree _ c.in_ok-tree.ensures.answered (c.parser_law.ensures.says max_height ts enough)) c.in_err-check_patterns.ensures.refused)

pub returns-in_err-tree-clause-line : goal.returns-in_err-tree-clause-line
returns-in_err-tree-clause-line c =
    let p = err_from_is_err_and c.from_residual.result c.from_residual.ensures.1 in
    let r = c.in_err-tree.field-0.0 in
    rw (p.1, p.2) (tells_line r.code r.line c.args.tokens.now c.in_err-tree.ensures.stopped (λ ts. c.parser_law.ensures.says max_height ts enough))

pub returns-in_err-check_patterns-clause-line : goal.returns-in_err-check_patterns-clause-line
returns-in_err-check_patterns-clause-line c =
    let p = err_from_is_err_and c.from_residual-in_err-check_patterns.result c.from_residual-in_err-check_patterns.ensures.1 in
    rw (p.1, p.2) (pattern_line c.in_err-check_patterns.field-0.0 c.args.tokens.now c.in_err-check_patterns.ensures.refused)
