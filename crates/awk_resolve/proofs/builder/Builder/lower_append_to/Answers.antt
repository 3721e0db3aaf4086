use Rattle.awk_grammar.specs.View.{expr_of}
use Rattle.awk_resolve.proofs.Building.{same}
use Rattle.awk_resolve.proofs.AppendStatements.{append_to_built}
use Rattle.awk_resolve.proofs.builder.Builder.lower_append_to.Goals as goal

pub returns-then-not-parts_read : goal.returns-then-not-parts_read
returns-then-not-parts_read c = same

pub returns : goal.returns
returns c =
    append_to_built (expr_of c.args.e.now) c.requires.stand.next (rw c.as_slice.ensures at c.in_ok-variable.ensures) c.requires.append (c.parts_read.ensures c.if-not-parts_read.false) c.in_ok-count.ensures c.in_ok-append.ensures c.in_ok-parts.ensures c.in_ok-step.ensures
