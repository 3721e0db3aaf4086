use Rattle.std.proofs.Common.{ap, sym, ◌∙◌, arith}
use Rattle.awk_grammar.specs.definitions.Height.{height_of_statement}
use Rattle.awk_grammar.specs.definitions.View.{statement_of}
use Rattle.awk_syntax.proofs.StatementLists.{statements_counted, statements_checked}
use Rattle.awk_syntax.proofs.statement_nodes.one_more_statement.Goals as goal

pub invariant_of-result : goal.invariant_of-result
invariant_of-result c =
    let h = c.in-Some-statement.statement.counted ∙ ap (λ z. height_of_statement (statement_of z)) (sym c.into_inner.ensures) in
    let e = statements_counted c.in-Some.checked.statements.items c.push.new.self.items c.into_inner.result c.in-Some.checked.height c.in-Some-statement.statement.height c.in_ok-push.ensures.items c.in-Some.checked.counted h in
    record { counted = omega arith; low = omega arith }

pub returns : goal.returns
returns c =
    let h = c.in-Some-statement.statement.counted ∙ ap (λ z. height_of_statement (statement_of z)) (sym c.into_inner.ensures) in
    rw (c.in-Some.is, c.in-Some-statement.is, sym c.into_inner.ensures) (statements_checked c.in-Some.checked.statements.items c.push.new.self.items c.into_inner.result c.in_ok-push.ensures.items (omega arith) (omega arith))
