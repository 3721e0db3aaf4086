use Rattle.std.proofs.Common.{rules}
use Rattle.awk_grammar.specs.declared.tree.Statement.TheViews.{the_lemmas}
use Rattle.awk_syntax.proofs.StatementLists.{statements_of_row-items}
use Rattle.awk_syntax.proofs.statement_nodes.block.Goals as goal

pub of-requires : goal.of-requires
of-requires c = search (rules, the_lemmas, statements_of_row-items)

pub returns : goal.returns
returns c = search (rules, the_lemmas, statements_of_row-items)
